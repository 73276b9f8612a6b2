use Rattle.std.proofs.Common.{◌≡◌, ◌∙◌, List, [], None, ap, refl}
use Rattle.std.specs.Option.{option_map}
use Rattle.hg_docket.specs.Docket as docket
use Rattle.hg_image.specs.Rows.{Row}
use Rattle.hg_image.specs.View.{dir_of}
use Rattle.hg_mixed.specs.Held.{has_list}
use Rattle.hg_mixed.specs.Parted.{image_rows}
use Rattle.hg_mixed.proofs.ImageFormed.{every, opened_parted, opened_placed, opened_same, opened_source, opened_text, used_rows}
use Rattle.hg_mixed.proofs.ImageLists.{all_lent, opened_whole}
use Rattle.hg_mixed.proofs.mixed.Mixed.open.Goals as goal

pub invariant_of-result : goal.invariant_of-result
invariant_of-result c = (
  opened_parted c.args.image c.root.result (ap (option_map (λ d. d.text.now)) c.root.ensures.dir) c.root.ensures.rows [] c.of_root.result (λ at. refl) c.of_root.ensures
      c.new.result c.new.ensures.nodes,
  opened_placed c.args.image c.root.result (ap (option_map (λ d. d.text.now)) c.root.ensures.dir) c.root.ensures.rows [] c.of_root.result (λ at. refl) c.of_root.ensures
      c.new.result,
  opened_whole (docket.view c.args.image.docket) (image_rows c.args.image) c.of_root.result c.new.result
      (every c.args.image c.root.result (ap (option_map (λ d. d.text.now)) c.root.ensures.dir) c.root.ensures.rows [] c.of_root.result (λ at. refl) c.of_root.ensures),
)

pub returns-clause-table : goal.returns-clause-table
returns-clause-table c =
    opened_same c.args.image c.root.result (ap (option_map (λ d. d.text.now)) c.root.ensures.dir) c.root.ensures.rows [] c.of_root.result (λ at. refl) c.of_root.ensures
    c.new.result c.new.ensures.nodes (c.new.ensures.p1 ∙ ap (λ d. d.p1.0) c.docket.ensures) (c.new.ensures.p2 ∙ ap (λ d. d.p2.0) c.docket.ensures) (c.new.ensures.hash ∙ ap (λ d. d.hash) c.docket.ensures)

pub returns-clause-places : goal.returns-clause-places
returns-clause-places c =
    let is : dir_of c.root.result ≡ None = ap (option_map (λ d. d.text.now)) c.root.ensures.dir in
    record {
      texts = λ at. opened_text c.args.image c.root.result is c.root.ensures.rows [] c.of_root.result (λ at. refl) c.of_root.ensures c.new.result at;
      sources = λ at. opened_source c.args.image c.root.result is c.root.ensures.rows [] c.of_root.result (λ at. refl) c.of_root.ensures c.new.result at;
    }

pub returns-clause-lent : goal.returns-clause-lent
returns-clause-lent c = record {
  lists = λ dir.
      all_lent (docket.view c.args.image.docket) (image_rows c.args.image) c.of_root.result c.new.result
      (every c.args.image c.root.result (ap (option_map (λ d. d.text.now)) c.root.ensures.dir) c.root.ensures.rows [] c.of_root.result (λ at. refl) c.of_root.ensures) dir
      ∙ ap (λ (r : List Row). has_list r dir) (used_rows c.args.image);
  bare = c.new.ensures.nodes;
}
