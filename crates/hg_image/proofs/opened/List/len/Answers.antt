use Rattle.std.proofs.Common.{◌≡◌, ◌+◌, ◌-◌, ◌*◌, arith}
use Rattle.hg_image.specs.Rows.{list_rows}
use Rattle.hg_image.proofs.RowsOf.{rows_end, rows_whole}
use Rattle.hg_image.proofs.opened.List.len.Goals as goal

pub returns-clause-whole : goal.returns-clause-whole
returns-clause-whole c =
    let list = c.args.self in
    let first : list.start + 44 * 0 ≡ list.start = omega arith in
    let all : list.count - 0 ≡ list.count = omega arith in
    rw (first, all) (rows_whole list.depth list.bytes.now _ list.start list.count list.is_sound)

pub returns-clause-end : goal.returns-clause-end
returns-clause-end c =
    let list = c.args.self in
    rows_end (list_rows (list.depth - 1) list.bytes.now) list.bytes.now (list.start + 44 * list.count) (list.count - list.count) (omega arith)
