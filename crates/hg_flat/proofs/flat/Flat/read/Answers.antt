use Rattle.std.proofs.Common.{◌≡◌, ◌∙◌, ℕ, List, ap, option_map}
use Rattle.std.proofs.lemmas.Result.{IfOk-weaker}
use Rattle.hg_docket.specs.Docket.{view}
use Rattle.hg_image.specs.Reading.{table_in}
use Rattle.hg_image.specs.View.{rows, rows_in}
use Rattle.hg_flat.specs.Kept.{row_at, shown_row}
use Rattle.hg_flat.specs.Recorded.{Records}
use Rattle.hg_flat.specs.Shown.{rows_of}
use Rattle.hg_flat.proofs.Recording.{all_added, own_paths, read_flat, records}
use Rattle.hg_flat.proofs.flat.Flat.read.Goals as goal

pub of-requires : goal.of-requires
of-requires c =
    own_paths (rows c.args.image.now) c.add_list.new.found.items c.root.ensures.distinct
    (all_added (rows_in c.root.result) (rows c.args.image.now) c.in_ok-found.found.items c.add_list.new.found.items c.root.ensures.rows c.in_ok-found.ensures.items c.in_ok-add_list.ensures)

pub returns-clause-records : goal.returns-clause-records
returns-clause-records c =
    let records_all = records (view c.args.image.now.docket) (rows c.args.image.now) c.add_list.new.found.items c.root.ensures.distinct
    (all_added (rows_in c.root.result) (rows c.args.image.now) c.in_ok-found.found.items c.add_list.new.found.items c.root.ensures.rows c.in_ok-found.ensures.items c.in_ok-add_list.ensures) in
    IfOk-weaker c.of.result (λ flat. (path : List ℕ) → rows_of flat path ≡ row_at c.add_list.new.found.items path) (λ flat. Records (table_in c.args.image.now) (rows_of flat))
    (λ flat same path. ap (option_map shown_row) (same path) ∙ records_all path) c.of.ensures.kept

pub returns-clause-flat : goal.returns-clause-flat
returns-clause-flat c =
    read_flat c.args.image.now c.add_list.new.found.items c.docket-docket.result c.of.result c.root.ensures.distinct
    (all_added (rows_in c.root.result) (rows c.args.image.now) c.in_ok-found.found.items c.add_list.new.found.items c.root.ensures.rows c.in_ok-found.ensures.items c.in_ok-add_list.ensures)
    c.docket-docket.ensures c.of.ensures.kept c.of.ensures.first c.of.ensures.second
