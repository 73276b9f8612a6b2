-- Which letter a state of ignore patterns gives a path, and which directories are ignored.
use Rattle.std.proofs.Common.{ℕ, ◌≡◌, Bool, true, false, not, ◌&&◌, ◌||◌, ◌↔◌, List, [], ◌∷◌, ◌++◌, Option, Some, IsTrue, refl, sym, ap, ◌∙◌, subst, inl, inr, ◌⊎◌}
use Rattle.std.proofs.lemmas.List.{append-nil}
use Rattle.hg_base.specs.PathText.{child_of, has_slash, is_path, joined, parent_of}
use Rattle.hg_base.specs.Within.{is_within}
use Rattle.hg_base.proofs.Children.{child_parent}
use Rattle.hg_base.proofs.Components.{parent_joined}
use Rattle.hg_base.proofs.Within.{within_below, within_trans}
use Rattle.hg_ignore.specs.Kept.{DirIgnored}
use Rattle.hg_ignore.specs.State.{Ignored, Matches, Piece}
use Rattle.hg_ignore.proofs.Asking.{law_of_ignored}
use Rattle.hg_compare.specs.declared.letter.Letter.{Letter}
use Rattle.hg_compare.specs.declared.letter.Letter.TheVariants as a_letter
use Rattle.hg_listing.specs.Full.{wants}
use Rattle.hg_flat.specs.Kept.{Kept}
use Rattle.hg_flat.specs.Listing.{Gives, GivesLetter, IsEntered, ListsUnknown, PutsUntracked, is_from, rows_if, untracked_row}
use Rattle.hg_flat.specs.Patterns.{needs_patterns}
use Rattle.hg_listing.specs.declared.row.Row.{Row}
use Rattle.hg_listing.specs.declared.row.Wanted.{Wanted}
use Rattle.hg_flat.proofs.Unknowns.{from_cases, lists_none}

-- ---- letters

-- a path has one letter
pub one_letter : (state : List Piece) (path : List ℕ) (a b : Letter) → GivesLetter state path a → GivesLetter state path b → a ≡ b
one_letter state path a b (inl (is, ignored)) (inl (also, too)) = is ∙ sym also
one_letter state path a b (inl (is, ignored)) (inr (also, never)) = absurd (never ignored)
one_letter state path a b (inr (is, never)) (inl (also, ignored)) = absurd (never ignored)
one_letter state path a b (inr (is, never)) (inr (also, too)) = is ∙ sym also

needs_by : (u i : Bool) → (u ≡ true) ⊎ (i ≡ true) → (u || i) ≡ true
needs_by true i is = refl
needs_by false true is = refl
needs_by false false (inl is) = is
needs_by false false (inr is) = is

-- a letter of a path without an entry is asked for only where patterns are needed
pub letter_needs : (wanted : Wanted) (letter : Letter) → wants wanted letter ≡ true → (letter ≡ a_letter.I) ⊎ (letter ≡ a_letter.Unknown) → needs_patterns wanted ≡ true
letter_needs wanted letter wants_it (inl is) = needs_by wanted.u wanted.i (inr (sym (ap (wants wanted) is) ∙ wants_it))
letter_needs wanted letter wants_it (inr is) = needs_by wanted.u wanted.i (inl (sym (ap (wants wanted) is) ∙ wants_it))

pub gives_needs : (wanted : Wanted) (state : List Piece) (path : List ℕ) (letter : Letter) → Gives wanted state path letter → needs_patterns wanted ≡ true
gives_needs wanted state path letter (asks, inl (is, ignored)) = letter_needs wanted letter asks (inl is)
gives_needs wanted state path letter (asks, inr (is, never)) = letter_needs wanted letter asks (inr is)

-- ---- directories

-- what is from a directory that is ignored is ignored
ignored_from : (state : List Piece) (dir path : List ℕ) → is_from (Some dir) path ≡ true → Ignored state dir → Ignored state path
ignored_from state dir path from (at, within, m) =
    elim (from_cases dir path from) [
      | inl same ↦ (at, subst (λ (q : List ℕ). is_within at q ≡ true) same within, m)
      | inr below ↦ (at, within_trans at dir path within (within_below dir path below), m)
    ]

-- no letter of it is wanted where I isn't
pub none_left : (wanted : Wanted) (state : List Piece) (dir path : List ℕ) (letter : Letter) → wanted.i ≡ false → Ignored state dir → is_from (Some dir) path ≡ true → Gives wanted state path letter → ⊥
none_left wanted state dir path letter unwanted ignored from (asks, inl (is, too)) = absurd (cc (unwanted, sym (ap (wants wanted) is) ∙ asks))
none_left wanted state dir path letter unwanted ignored from (asks, inr (is, never)) = absurd (never (ignored_from state dir path from ignored))

-- the names of a directory are ignored with it
pub above_name : (state asked : List Piece) (above : Bool) (dir : Option (List ℕ)) (name path : List ℕ) → asked ≡ state → has_slash name ≡ false → path ≡ joined dir name → IsTrue above ↔ DirIgnored state dir
    → IsTrue above ↔ DirIgnored asked (parent_of path)
above_name state asked above dir name path same plain is ignored =
    subst (λ (s : List Piece). IsTrue above ↔ DirIgnored s (parent_of path)) (sym same)
    (subst (λ (d : Option (List ℕ)). IsTrue above ↔ DirIgnored state d) (sym (ap parent_of is ∙ parent_joined dir name plain)) ignored)

-- and so is what stands right in it
pub above_child : (state asked : List Piece) (above : Bool) (dir path name : List ℕ) → asked ≡ state → child_of (Some dir) path ≡ Some name → IsTrue above ↔ DirIgnored state (Some dir) → IsTrue above ↔ DirIgnored asked (parent_of path)
above_child state asked above dir path name same child is =
    subst (λ (s : List Piece). IsTrue above ↔ DirIgnored s (parent_of path)) (sym same)
    (subst (λ (d : Option (List ℕ)). IsTrue above ↔ DirIgnored state d) (sym (child_parent (Some dir) path name child).0) is)

-- a path in an ignored directory is ignored
pub ignored_above : (state : List Piece) (above : Bool) (path : List ℕ) → is_path path ≡ true → IsTrue above ↔ DirIgnored state (parent_of path) → above ≡ true → IsTrue true ↔ Ignored state path
ignored_above state above path good dir is = (λ _. (law_of_ignored state path good).1 (inl (dir.0 is)), λ _. refl)

-- outside of one a line has to match it
pub ignored_itself : (state : List Piece) (above result : Bool) (path text : List ℕ) → is_path path ≡ true → text ≡ path → IsTrue above ↔ DirIgnored state (parent_of path) → above ≡ false → IsTrue result ↔ Matches state text
    → IsTrue result ↔ Ignored state path
ignored_itself state above result path text good same dir never asked = (
  λ is. (law_of_ignored state path good).1 (inr (subst (Matches state) same (asked.0 is))),
  λ ignored. elim ((law_of_ignored state path good).0 ignored) [
    | inl d ↦ absurd (cc (never, dir.1 d))
    | inr m ↦ asked.1 (subst (Matches state) (sym same) m)
  ],
)

-- ---- what is gone into

-- a directory that isn't left out is gone into rightly
pub entered : (wanted : Wanted) (state : List Piece) (ignored out : Bool) (dir : List ℕ) → IsTrue ignored ↔ Ignored state dir → out ≡ (ignored && not wanted.i) → out ≡ false → IsEntered wanted state dir
entered wanted state ignored out dir answer is kept unwanted inside =
    let both : (ignored && not wanted.i) ≡ true = ap (λ (b : Bool). b && not wanted.i) (answer.1 inside) ∙ ap not unwanted in absurd (cc (is, kept, both))

left_by : (a b : Bool) → (a && not b) ≡ true → (a ≡ true) × (b ≡ false)
left_by true true is = absurd (cc (is))
left_by true false is = (refl, refl)
left_by false b is = absurd (cc (is))

-- one that is left out is ignored, and I isn't wanted
pub left_out : (wanted : Wanted) (state : List Piece) (ignored out : Bool) (dir : List ℕ) → IsTrue ignored ↔ Ignored state dir → out ≡ (ignored && not wanted.i) → out ≡ true → (wanted.i ≡ false) × Ignored state dir
left_out wanted state ignored out dir answer is kept =
    let both = left_by ignored wanted.i (sym is ∙ kept) in (both.1, answer.0 both.0)

-- ---- the row of a path

-- a letter that isn't wanted has no row
pub puts_nothing : (wanted : Wanted) (state : List Piece) (has : Bool) (path text : List ℕ) (letter : Letter) (rows : List Row) → has ≡ false → text ≡ path → GivesLetter state text letter → wants wanted letter ≡ false
    → PutsUntracked has wanted state path rows rows
puts_nothing wanted state has path text letter rows none same given unwanted =
    subst (λ (b : Bool). PutsUntracked b wanted state path rows rows) (sym none)
    (record {
      letter = letter;
      given = subst (λ (p : List ℕ). GivesLetter state p letter) same given;
      put = sym (ap (λ (b : Bool). rows ++ rows_if b (untracked_row letter path)) unwanted ∙ append-nil rows);
    })

-- one that is wanted has its own
pub puts_row : (wanted : Wanted) (state : List Piece) (has : Bool) (path text : List ℕ) (letter : Letter) (old new : List Row) → has ≡ false → text ≡ path → GivesLetter state text letter → wants wanted letter ≡ true
    → new ≡ old ++ untracked_row letter path ∷ [] → PutsUntracked has wanted state path old new
puts_row wanted state has path text letter old new none same given asks is =
    subst (λ (b : Bool). PutsUntracked b wanted state path old new) (sym none)
    (record {
      letter = letter;
      given = subst (λ (p : List ℕ). GivesLetter state p letter) same given;
      put = is ∙ sym (ap (λ (b : Bool). old ++ rows_if b (untracked_row letter path)) asks);
    })

-- ---- a listing that isn't wanted

-- where no patterns are needed no letter is given
pub lists_unneeded : (kept : Kept) (wanted : Wanted) (state : List Piece) (S P : List ℕ → Type 0) (rows : List Row) → false ≡ needs_patterns wanted → ListsUnknown kept (Gives wanted state) S P rows rows
lists_unneeded kept wanted state S P rows none = lists_none kept (Gives wanted state) S P rows (λ p l meets here gives. absurd (cc (none, gives_needs wanted state p l gives)))
