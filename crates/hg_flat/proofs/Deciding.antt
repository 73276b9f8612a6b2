-- What a comparison with a row decides, where the row's contents are a store's wherever they are there.
use Rattle.std.proofs.Common.{◌≡◌, ℕ, Bool, cond, List, Option, Some, Ok, sym, ap, subst}
use Rattle.std.specs.Prelude.{IsTrue, IfSome, is_some}
use Rattle.hg_base.specs.declared.stat.Stat.{Stat}
use Rattle.hg_shelf.specs.History as shelves
use Rattle.hg_shelf.specs.Polite.{StaysIn}
use Rattle.hg_tree.specs.History as trees
use Rattle.hg_tree.specs.Moment.{stat_at}
use Rattle.hg_manifest.specs.declared.row.FileRow.{FileRow}
use Rattle.hg_compare.specs.Alike.{contents_name, is_alike}
use Rattle.hg_compare.specs.Same.{Compares, Decides, StaysShown, parent_row}
use Rattle.hg_compare.specs.Seen.{Compared}
use Rattle.hg_compare.specs.Tracked.{is_unchanged}
use Rattle.hg_compare.specs.declared.letter.Letter.TheVariants as a_letter
use Rattle.hg_compare.specs.declared.looked.Looked.{Looked}
use Rattle.hg_compare.specs.declared.looked.Looked.TheVariants as a_look
use Rattle.hg_compare.proofs.Deciding.{decides_in, there_in}
use Rattle.hg_flat.specs.Course.{IsJudged, compared_letter, letter_of}

module _ (store : shelves.Files) (path : List ℕ) (copy later : trees.History) (old new : shelves.History) (row : FileRow) (before : Stat) where
  abbrev call : Compared
  call = record { path = path; name = contents_name row.id.0; tree_old = copy; tree_new = later; shelf_old = old; shelf_new = new }

  decided_letter : (looked : Looked) → Decides (is_unchanged (Some (parent_row row (store (contents_name row.id.0)))) ((trees.now copy).things path)) (store (contents_name row.id.0)) (Ok looked)
      → letter_of looked ≡ compared_letter (Some (parent_row row (store (contents_name row.id.0)))) ((trees.now copy).things path)
  decided_letter (a_look.Same settled) is = sym (ap (λ (b : Bool). cond b a_letter.C a_letter.M) is.0)
  decided_letter a_look.Differs is = sym (ap (λ (b : Bool). cond b a_letter.C a_letter.M) is)
  decided_letter a_look.Gone is = absurd is

  -- the letter by the row is that by the store, which has the row's contents where they were asked for
  pub judged_in : (looked : Looked) → trees.Passes copy later → Compares call row before (Ok looked) → IsTrue copy.told → IsTrue old.told → StaysShown copy later path → StaysIn store new old.last (contents_name row.id.0)
      → stat_at (trees.now copy) path ≡ Some before → IsJudged store (Some row) (trees.now copy) path (letter_of looked)
  judged_in looked passes seen told held shown stays stat = record {
    letter_is = decided_letter looked (decides_in store call held stays row before looked passes seen told shown stat);
    contents =
        subst (λ (o : Option Stat). IfSome o (λ stat. IsTrue (is_alike row stat) → IsTrue (is_some (store (contents_name row.id.0))))) (sym stat)
        (λ alike. there_in store call held stays row before looked passes seen told shown stat alike);
  }
