use Rattle.std.proofs.Common.{◌≡◌, ◌+◌, ◌-◌, ◌*◌, ◌∷◌, ◌++◌, ap, ◌∙◌, sym, subst, arith}
use Rattle.hg_image.specs.Node.{path_of}
use Rattle.hg_image.specs.Rows.{row_of, nodes_rows, list_rows, AreParted}
use Rattle.hg_image.specs.View.{rows_from}
use Rattle.hg_image.proofs.Parted.{list_parted}
use Rattle.hg_image.proofs.RowsOf.{rows_step}
use Rattle.hg_image.proofs.Sound.{list_at, held_at}
use Rattle.hg_image.proofs.opened.List.get.Goals as goal

pub overflow_mul-i : goal.overflow_mul-i
overflow_mul-i c =
    let list = c.args.self in
    let member = list_at list.depth list.bytes.now _ list.start list.count c.args.i c.requires list.is_sound in
    omega (arith, member.room, list.is_used)

pub overflow_add-self : goal.overflow_add-self
overflow_add-self c =
    let list = c.args.self in
    let member = list_at list.depth list.bytes.now _ list.start list.count c.args.i c.requires list.is_sound in
    omega (arith, member.room, list.is_used)

pub read_record-requires : goal.read_record-requires
read_record-requires c =
    let list = c.args.self in
    let member = list_at list.depth list.bytes.now _ list.start list.count c.args.i c.requires list.is_sound in
    omega (arith, member.room, list.is_used)

pub overflow_sub-result : goal.overflow_sub-result
overflow_sub-result c =
    let list = c.args.self in
    let member = list_at list.depth list.bytes.now _ list.start list.count c.args.i c.requires list.is_sound in
    omega (arith, member.deep)

pub invariant_of-result : goal.invariant_of-result
invariant_of-result c =
    let list = c.args.self in
    let member = list_at list.depth list.bytes.now _ list.start list.count c.args.i c.requires list.is_sound in
    let held = held_at list.depth list.bytes.now _ _ _ c.read_record.result c.read_record.ensures member in
    record {
      is_used = list.is_used;
      is_text = held.node.text;
      is_path = held.node.path;
      is_sourced = held.node.source;
      is_timely = held.node.time;
      is_sound = held.under;
    }

pub returns-clause-rows : goal.returns-clause-rows
returns-clause-rows c =
    let list = c.args.self in
    let kids = list_rows (list.depth - 1) list.bytes.now in
    let at = list.start + 44 * c.args.i in
    let next : at + 44 ≡ list.start + 44 * (c.args.i + 1) = omega arith in
    let less : list.count - c.args.i - 1 ≡ list.count - (c.args.i + 1) = omega arith in
    rows_step kids list.bytes.now at (list.count - c.args.i) (omega (arith, c.requires))
    ∙ ap (λ r. row_of list.bytes.now r ∷ (kids r.kids_start r.kids_count ++ nodes_rows kids list.bytes.now (at + 44) (list.count - c.args.i - 1))) (sym c.read_record.ensures)
    ∙ ap (λ m. row_of list.bytes.now c.read_record.result ∷ (kids c.read_record.result.kids_start c.read_record.result.kids_count ++ nodes_rows kids list.bytes.now m (list.count - c.args.i - 1))) next
    ∙ ap (λ m. row_of list.bytes.now c.read_record.result ∷ (kids c.read_record.result.kids_start c.read_record.result.kids_count ++ nodes_rows kids list.bytes.now (list.start + 44 * (c.args.i + 1)) m)) less

pub returns-clause-dir : goal.returns-clause-dir
returns-clause-dir c =
    let list = c.args.self in
    let member = list_at list.depth list.bytes.now _ list.start list.count c.args.i c.requires list.is_sound in
    (held_at list.depth list.bytes.now _ _ _ c.read_record.result c.read_record.ensures member).node.parent

pub returns-clause-levels : goal.returns-clause-levels
returns-clause-levels c =
    let list = c.args.self in
    let member = list_at list.depth list.bytes.now _ list.start list.count c.args.i c.requires list.is_sound in
    omega (arith, member.deep)

pub returns-clause-parted : goal.returns-clause-parted
returns-clause-parted c =
    let list = c.args.self in
    let rest = rows_from list (c.args.i + 1) in
    subst (λ r. AreParted (path_of list.bytes.now r) (list_rows (list.depth - 1) list.bytes.now r.kids_start r.kids_count) rest) (sym c.read_record.ensures)
    (list_parted list.depth list.bytes.now _ list.start list.count c.args.i c.requires list.is_sound)
