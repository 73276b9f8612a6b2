-- The full listing of paths that are alike at two moments is the same at both.
use Rattle.std.proofs.Common.{ℕ, ◌≡◌, Bool, false, not, ◌&&◌, ◌||◌, cond, List, Option, Some, None, refl, sym, ◌∙◌}
use Rattle.hg_base.specs.declared.stat.Kind.{Kind}
use Rattle.hg_base.specs.declared.stat.Kind.TheVariants as a_kind
use Rattle.hg_base.specs.declared.time.Time.{Time}
use Rattle.hg_entry.specs.Table.{Flat, Marks}
use Rattle.hg_tree.specs.Honest.{face_of, face_with}
use Rattle.hg_tree.specs.Moment.{Moment}
use Rattle.hg_tree.specs.Still.{AreAlike, hg_in, is_exec, is_exec_thing}
use Rattle.hg_tree.specs.declared.thing.Placed.{Placed}
use Rattle.hg_tree.specs.declared.thing.Thing.{Thing}
use Rattle.hg_tree.specs.declared.thing.Thing.TheVariants as a_thing
use Rattle.hg_tree.proofs.Stillness.{same_kind}
use Rattle.hg_compare.specs.Tracked.{ParentRow, equal_bools, equal_bytes, equals_row, is_file_or_link, is_unchanged, tracked_letter}
use Rattle.hg_compare.specs.declared.letter.Letter.{Letter}
use Rattle.hg_compare.specs.declared.letter.Letter.TheVariants as a_letter
use Rattle.hg_listing.specs.Full.{HasLetterBy, IsFullFor, IsTold, IsVisible}
use Rattle.hg_listing.specs.declared.row.Row.{Row}
use Rattle.hg_listing.specs.declared.row.Wanted.{Wanted}
use Rattle.hg_flat.proofs.Alike.{alike_back, dir_alike, file_alike}

-- ---- a comparison with a row of the parent looks at the face and the executable bit

unchanged_by : Option ParentRow → Option Kind → List ℕ → Bool → Bool
unchanged_by None kind bytes exec = false
unchanged_by (Some row) None bytes exec = false
unchanged_by (Some row) (Some a_kind.File) bytes exec = not row.link && equal_bools row.exec exec && equal_bytes row.bytes bytes
unchanged_by (Some row) (Some a_kind.Link) bytes exec = row.link && equal_bytes row.bytes bytes
unchanged_by (Some row) (Some a_kind.Dir) bytes exec = false
unchanged_by (Some row) (Some a_kind.Other) bytes exec = false

unchanged_thing : (row : ParentRow) (thing : Thing) (mtime : Time) (names : List ℕ → Bool)
    → unchanged_by (Some row) (face_of thing mtime names).kind (face_of thing mtime names).bytes (is_exec_thing thing) ≡ equals_row row thing
unfolding unchanged_by
unchanged_thing row (a_thing.File exec bytes) mtime names = refl
unchanged_thing row (a_thing.Link target) mtime names = refl
unchanged_thing row a_thing.Dir mtime names = refl
unchanged_thing row a_thing.Other mtime names = refl

unchanged_is : (row : Option ParentRow) (o : Option Placed) (names : List ℕ → Bool) → unchanged_by row (face_with names o).kind (face_with names o).bytes (is_exec o) ≡ is_unchanged row o
unfolding unchanged_by
unchanged_is None o names = refl
unchanged_is (Some row) None names = refl
unchanged_is (Some row) (Some placed) names = unchanged_thing row placed.thing placed.mtime names

unchanged_alike : (m n : Moment) (path : List ℕ) (row : Option ParentRow) → AreAlike m n path → is_unchanged row (m.things path) ≡ is_unchanged row (n.things path)
unchanged_alike m n path row alike =
    sym (unchanged_is row (m.things path) _)
    ∙ (λ i. unchanged_by row (alike.seen i).kind (alike.seen i).bytes (alike.exec i))
    ∙ unchanged_is row (n.things path) _

-- ---- the letter

chain : Marks → Bool → Bool → Bool → Option Letter
chain marks copied there same =
    cond marks.w
    (Some (cond (not there) a_letter.Gone (cond marks.p2 a_letter.M (cond (not marks.p1) a_letter.A (cond copied a_letter.M (cond same a_letter.C a_letter.M))))))
    (cond (marks.p1 || marks.p2) (Some a_letter.R) None)

chain_is : (row : Option ParentRow) (marks : Marks) (copied : Bool) (o : Option Placed) → chain marks copied (is_file_or_link o) (is_unchanged row o) ≡ tracked_letter row marks copied o
unfolding chain
chain_is row marks copied o = refl

pub letter_moved : (m n : Moment) (path : List ℕ) (row : Option ParentRow) (marks : Marks) (copied : Bool) → AreAlike m n path → tracked_letter row marks copied (m.things path) ≡ tracked_letter row marks copied (n.things path)
letter_moved m n path row marks copied alike =
    sym (chain_is row marks copied (m.things path))
    ∙ (λ i. chain marks copied (file_alike m n path (same_kind m n path alike.seen) i) (unchanged_alike m n path row alike i))
    ∙ chain_is row marks copied (n.things path)

visible_moved : (m n : Moment) (path : List ℕ) → AreAlike m n path → IsVisible m path → IsVisible n path
visible_moved m n path alike visible dir below = sym (dir_alike m n (hg_in dir) (alike.hg dir below)) ∙ visible dir below

has_moved : (marks : Option Marks) (flat : Flat) (m n : Moment) (parents : List ℕ → Option ParentRow) (Ignored : List ℕ → Type 0) (path : List ℕ) (letter : Letter) → AreAlike m n path
    → HasLetterBy marks flat m parents Ignored path letter → HasLetterBy marks flat n parents Ignored path letter
has_moved None flat m n parents Ignored path letter alike has =
    (sym (file_alike m n path (same_kind m n path alike.seen)) ∙ has.0, visible_moved m n path alike has.1, has.2)
has_moved (Some marks) flat m n parents Ignored path letter alike has = sym (letter_moved m n path (parents path) marks _ alike) ∙ has

pub told_moved : (flat : Flat) (m n : Moment) (parents : List ℕ → Option ParentRow) (Ignored : List ℕ → Type 0) (wanted : Wanted) (row : Row) → AreAlike m n row.path
    → IsTold flat m parents Ignored wanted row → IsTold flat n parents Ignored wanted row
told_moved flat m n parents Ignored wanted row alike told =
    (told.0, has_moved (flat.marks row.path) flat m n parents Ignored row.path row.letter alike told.1, told.2)

pub full_moved : (S T : List ℕ → Type 0) (flat : Flat) (m n : Moment) (parents : List ℕ → Option ParentRow) (Ignored : List ℕ → Type 0) (wanted : Wanted) (listing : List Row)
    → ((path : List ℕ) → T path → S path) → ((path : List ℕ) → T path → AreAlike m n path) → IsFullFor S flat m parents Ignored wanted listing → IsFullFor T flat n parents Ignored wanted listing
full_moved S T flat m n parents Ignored wanted listing meets alike is = record {
  sound = λ row has t. told_moved flat m n parents Ignored wanted row (alike row.path t) (is.sound row has (meets row.path t));
  all = λ row t tells. is.all row (meets row.path t) (told_moved flat n m parents Ignored wanted row (alike_back m n row.path (alike row.path t)) tells);
  once = is.once;
  ascending = is.ascending;
}
