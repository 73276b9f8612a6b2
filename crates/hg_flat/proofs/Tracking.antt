-- The rows of paths with an entry: one entry behind another, and over longer spans.
use Rattle.std.proofs.Common.{ℕ, ◌≡◌, Bool, true, false, List, [], ◌∷◌, ◌++◌, Option, Some, None, refl, sym, ap, ◌∙◌, subst, inl, inr, arith}
use Rattle.std.specs.Prelude.{IsTrue, IfSome, is_some}
use Rattle.std.specs.List.{Contains}
use Rattle.std.proofs.lemmas.List.{append-nil, append_assoc}
use Rattle.std.proofs.lemmas.List.Elements.{Contains-append_cases, Contains-append_left, Contains-append_right, Contains-push, Contains-push_cases}
use Rattle.hg_base.specs.declared.id.Id20.{Id20}
use Rattle.hg_base.specs.declared.stat.Stat.{Stat}
use Rattle.hg_entry.specs.Entry.{view}
use Rattle.hg_entry.specs.Table.{marks_of}
use Rattle.hg_tree.specs.History as trees
use Rattle.hg_tree.specs.Moment.{Moment}
use Rattle.hg_tree.specs.Still.{AreAlike}
use Rattle.hg_tree.proofs.Stillness.{alike_at, same_kind, untouched_second}
use Rattle.hg_shelf.specs.History as shelves
use Rattle.hg_shelf.specs.Polite.{StaysIn}
use Rattle.hg_manifest.specs.Plain.{plain_name}
use Rattle.hg_manifest.specs.declared.row.FileRow.{FileRow}
use Rattle.hg_compare.specs.Alike.{contents_name, is_alike}
use Rattle.hg_compare.specs.declared.letter.Letter.{Letter}
use Rattle.hg_listing.specs.Full.{wants}
use Rattle.hg_flat.specs.Listing.{AddsTracked, ArePutFor, IsLeftRow, IsLetterFor, row_under, rows_if, rows_under}
use Rattle.hg_flat.specs.Parent.{HasContents, IsServed, KeepsRow, manifest_at, parent_rows, row_among, row_of}
use Rattle.hg_flat.specs.declared.kept.FlatRow.{FlatRow}
use Rattle.hg_listing.specs.declared.row.Row.{Row}
use Rattle.hg_listing.specs.declared.row.Wanted.{Wanted}
use Rattle.hg_flat.proofs.Alike.{file_alike}
use Rattle.hg_flat.proofs.Faces.{stat_alike}
use Rattle.hg_flat.proofs.Moved.{letter_moved}

-- ---- one entry behind another

pub put_append : (Put : FlatRow → List Row → Type 0) (xs ys : List FlatRow) (a b : List Row) → ArePutFor Put xs a → ArePutFor Put ys b → ArePutFor Put (xs ++ ys) (a ++ b)
put_append Put [] ys a b first second = subst (λ (l : List Row). ArePutFor Put ys (l ++ b)) (sym first) second
put_append Put (x ∷ xs) ys a b (own, rest, is, put, more) second =
    (own, rest ++ b, ap (λ (l : List Row). l ++ b) is ∙ append_assoc own rest b, put, put_append Put xs ys rest b more second)

pub put_weaker : (P Q : FlatRow → List Row → Type 0) (all : List FlatRow) (rows : List Row) → ((kept : FlatRow) (own : List Row) → P kept own → Q kept own) → ArePutFor P all rows → ArePutFor Q all rows
put_weaker P Q [] rows weaker is = is
put_weaker P Q (x ∷ all) rows weaker (own, rest, is, put, more) = (own, rest, is, weaker x own put, put_weaker P Q all rest weaker more)

none_there : {A : Type 0} (x : A) → Contains [] x → ⊥
none_there x (n, below, is) = absurd (omega (arith, below))

-- a row is of one of the entries
pub from_put : (Put : FlatRow → List Row → Type 0) (all : List FlatRow) (rows : List Row) → ArePutFor Put all rows → (row : Row) → Contains rows row
    → (k : FlatRow) × (own : List Row) × Contains all k × Put k own × Contains own row
from_put Put [] rows is row has = absurd (none_there row (subst (λ (l : List Row). Contains l row) is has))
from_put Put (x ∷ all) rows (own, rest, is, put, more) row has =
    elim (Contains-append_cases own rest row (subst (λ (l : List Row). Contains l row) is has)) [
      | inl here ↦ (x, own, Contains-append_left (x ∷ []) all x (Contains-push [] x), put, here)
      | inr later ↦ let from = from_put Put all rest more row later in (from.0, from.1, Contains-append_right (x ∷ []) all from.0 from.2, from.3, from.4)
    ]

-- each entry has its rows among them
pub in_put : (Put : FlatRow → List Row → Type 0) (all : List FlatRow) (rows : List Row) → ArePutFor Put all rows → (k : FlatRow) → Contains all k
    → (own : List Row) × Put k own × ((row : Row) → Contains own row → Contains rows row)
in_put Put [] rows is k has = absurd (none_there k has)
in_put Put (x ∷ all) rows (own, rest, is, put, more) k has =
    elim (Contains-append_cases (x ∷ []) all k has) [
      | inl one ↦
          elim (Contains-push_cases [] x k one) [
            | inl none ↦ absurd (none_there k none)
            | inr same ↦
                (own, subst (λ (q : FlatRow). Put q own) same put, λ row there. subst (λ (l : List Row). Contains l row) (sym is) (Contains-append_left own rest row there))
          ]
      | inr later ↦
          let from = in_put Put all rest more k later in
          (from.0, from.1, λ row there. subst (λ (l : List Row). Contains l row) (sym is) (Contains-append_right own rest row (from.2 row there)))
    ]

-- ---- the rows of one entry

if_one : (b : Bool) (row other : Row) → Contains (rows_if b row) other → (b ≡ true) × (row ≡ other)
if_one true row other has = elim (Contains-push_cases [] row other has) [ inl none ↦ absurd (none_there other none) | inr same ↦ (refl, same) ]
if_one false row other has = absurd (none_there other has)

-- a row that is put is that of the entry, under a letter that is wanted
pub under_one : (wanted : Wanted) (kept : FlatRow) (letter : Option Letter) (row : Row) → Contains (rows_under wanted kept letter) row → (letter ≡ Some row.letter) × (wants wanted row.letter ≡ true) × (row ≡ row_under kept row.letter)
under_one wanted kept None row has = absurd (none_there row has)
under_one wanted kept (Some letter) row has =
    let one = if_one (wants wanted letter) (row_under kept letter) row has in
    let same : letter ≡ row.letter = ap (λ (r : Row). r.letter) one.1 in
    (ap Some same, ap (wants wanted) (sym same) ∙ one.0, sym one.1 ∙ ap (row_under kept) same)

-- the row under a letter that is wanted is put
pub under_has : (wanted : Wanted) (kept : FlatRow) (letter : Letter) → wants wanted letter ≡ true → Contains (rows_under wanted kept (Some letter)) (row_under kept letter)
under_has wanted kept letter is = subst (λ (b : Bool). Contains (rows_if b (row_under kept letter)) (row_under kept letter)) (sym is) (Contains-push [] (row_under kept letter))

-- ---- what is left over a span is left over its parts

pub stays_earlier : (store : shelves.Files) (mid new : shelves.History) (from : ℕ) (name : List ℕ) → shelves.Extends mid new → StaysIn store new from name → StaysIn store mid from name
stays_earlier store mid new from name past stays k above upto bytes is =
    stays k above (omega (arith, upto, past.later)) bytes (ap (λ (f : shelves.Files). f name) (past.stay k upto).shown ∙ is)

some_weaker : {A : Type 0} (o : Option A) (P Q : A → Type 0) → ((a : A) → P a → Q a) → IfSome o P → IfSome o Q
some_weaker None P Q goes is = tt
some_weaker (Some a) P Q goes is = goes a is

pub row_earlier : (store : shelves.Files) (mid new : shelves.History) (from : ℕ) (id : Id20) (path : List ℕ) → shelves.Extends mid new → KeepsRow store new from id path → KeepsRow store mid from id path
row_earlier store mid new from id path past keeps = record {
  told = sym past.told ∙ keeps.told;
  manifest = λ some. stays_earlier store mid new from (plain_name id.0) past (keeps.manifest some);
  contents =
      some_weaker (row_among (manifest_at store id) path) (λ (row : FileRow). StaysIn store new from (contents_name row.id.0)) (λ (row : FileRow). StaysIn store mid from (contents_name row.id.0))
      (λ row kept. stays_earlier store mid new from (contents_name row.id.0) past kept) keeps.contents;
}

pub left_second : (store : shelves.Files) (wanted : Wanted) (id : Id20) (old mid new : trees.History) → trees.Extends old mid → trees.Extends mid new → (later : shelves.History) (since : ℕ) (k : FlatRow) → IsLeftRow store wanted id new old.last later since k → IsLeftRow store wanted id new mid.last later since k
left_second store wanted id old mid new first second later since k is = record {
  own = untouched_second new old.last mid.last k.path first.later second.later is.own;
  row = λ asked.
      let alike = alike_at new old.last mid.last k.path first.later second.later is.own in
      is.row (record {
        compared = asked.compared;
        there = sym (file_alike (new.at mid.last) (new.at old.last) k.path (same_kind (new.at mid.last) (new.at old.last) k.path alike.seen)) ∙ asked.there;
      });
}

-- ---- what is found at one moment is so at another at which the path is alike

contents_moved : (files : shelves.Files) (m n : Moment) (path : List ℕ) (row : Option FileRow) → AreAlike m n path → HasContents files m path row → HasContents files n path row
contents_moved files m n path None alike has = tt
contents_moved files m n path (Some row) alike has =
    subst (λ (o : Option Stat). IfSome o (λ stat. IsTrue (is_alike row stat) → IsTrue (is_some (files (contents_name row.id.0))))) (stat_alike m n path alike) has

pub served_moved : (files : shelves.Files) (id : Id20) (m n : Moment) (path : List ℕ) → AreAlike m n path → IsServed files id m path → IsServed files id n path
served_moved files id m n path alike is =
    record { rows = is.rows; formed = is.formed; contents = contents_moved files m n path (row_of is.rows path) alike is.contents }

pub found_moved : (S T : FlatRow → Type 0) (files : shelves.Files) (id : Id20) (m n : Moment) (wanted : Wanted) (kept : FlatRow) (letter : Option Letter) → (T kept → S kept) → (T kept → AreAlike m n kept.path)
    → IsLetterFor S files id m wanted kept letter → IsLetterFor T files id n wanted kept letter
found_moved S T files id m n wanted kept letter meets alike is = record {
  right = λ t.
      is.right (meets t)
      ∙ ap (rows_under wanted kept) (letter_moved m n kept.path (parent_rows files id kept.path) (marks_of (view kept.entry)) (is_some kept.source) (alike t));
  served = λ t asked.
      served_moved files id m n kept.path (alike t)
      (is.served (meets t) (record { compared = asked.compared; there = file_alike m n kept.path (same_kind m n kept.path (alike t).seen) ∙ asked.there }));
}

-- the rows of one entry that are put
pub tracked_one : (S : FlatRow → Type 0) (files : shelves.Files) (id : Id20) (m : Moment) (wanted : Wanted) (kept : FlatRow) (letter : Option Letter) (a b : List Row) → IsLetterFor S files id m wanted kept letter
    → b ≡ a ++ rows_under wanted kept letter → AddsTracked S files id m wanted (kept ∷ []) a b
tracked_one S files id m wanted kept letter a b found put =
    (rows_under wanted kept letter, put, (rows_under wanted kept letter, [], sym (append-nil (rows_under wanted kept letter)), record { letter = letter; one = refl; found = found }, refl))

pub alike_same : (m : Moment) (p : List ℕ) → AreAlike m m p
alike_same m p = record { seen = refl; exec = refl; above = λ dir below. refl; hg = λ dir below. refl }
