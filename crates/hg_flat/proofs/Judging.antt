-- The rows of tracked paths by any test of which paths are compared: one entry behind another, and over longer spans.
use Rattle.std.proofs.Common.{ℕ, ◌≡◌, ◌&&◌, Bool, List, [], ◌∷◌, ◌++◌, Option, refl, sym, ap, ◌∙◌, subst}
use Rattle.std.specs.Prelude.{is_some}
use Rattle.std.proofs.lemmas.List.{append-nil, append_assoc}
use Rattle.hg_base.specs.declared.id.Id20.{Id20}
use Rattle.hg_compare.specs.declared.letter.Letter.{Letter}
use Rattle.hg_entry.specs.Entry.{view}
use Rattle.hg_entry.specs.Table.{Flat, marks_of}
use Rattle.hg_flat.specs.Judged.{AddsBy, IsLeftAsked, IsLetterBy, IsPutBy}
use Rattle.hg_flat.specs.Listing.{IsAskedRow, IsLetterFor, rows_under}
use Rattle.hg_flat.specs.Parent.{Asking, IsAsked, asked_by, is_compared, parent_rows}
use Rattle.hg_flat.specs.declared.kept.FlatRow.{FlatRow}
use Rattle.hg_flat.proofs.Alike.{file_alike}
use Rattle.hg_flat.proofs.Moved.{letter_moved}
use Rattle.hg_flat.proofs.Tracking.{alike_same, put_append, put_weaker, row_earlier, served_moved}
use Rattle.hg_listing.specs.declared.row.Row.{Row}
use Rattle.hg_listing.specs.declared.row.Wanted.{Wanted}
use Rattle.hg_shelf.specs.History as shelves
use Rattle.hg_tree.specs.History as trees
use Rattle.hg_tree.specs.Moment.{Moment}
use Rattle.hg_tree.specs.Still.{AreAlike}
use Rattle.hg_tree.proofs.Stillness.{alike_at, alike_between, same_kind, untouched_first, untouched_second}

-- ---- which paths are compared

-- a test says the same of a path that is alike at two moments
abbrev pub AsksAlike : Asking → Type 0
AsksAlike asks = (m n : Moment) (path : List ℕ) → AreAlike m n path → asks m path ≡ asks n path

pub marks_alike : (wanted : Wanted) (flat : Flat) → AsksAlike (asked_by wanted flat)
marks_alike wanted flat m n path alike = ap (λ (b : Bool). is_compared wanted flat path && b) (file_alike m n path (same_kind m n path alike.seen))

-- ---- what is left over a span is left over its parts

pub left_begun : (store : shelves.Files) (asks : Asking) (id : Id20) (old mid new : trees.History) → trees.Extends old mid → trees.Extends mid new → (files later : shelves.History) (since : ℕ) → shelves.Extends files later → (path : List ℕ)
    → IsLeftAsked store asks id new old.last later since path → IsLeftAsked store asks id mid old.last files since path
left_begun store asks id old mid new first second files later since past path is = record {
  own = untouched_first mid new old.last path second first.later is.own;
  row = λ asked. row_earlier store files later since id path past (is.row (subst (λ (m : Moment). IsAsked asks m path) (sym (second.stay old.last first.later)) asked));
}

pub left_ended : (store : shelves.Files) (asks : Asking) → AsksAlike asks → (id : Id20) (old mid new : trees.History) → trees.Extends old mid → trees.Extends mid new → (later : shelves.History) (since : ℕ) (path : List ℕ)
    → IsLeftAsked store asks id new old.last later since path → IsLeftAsked store asks id new mid.last later since path
left_ended store asks same id old mid new first second later since path is = record {
  own = untouched_second new old.last mid.last path first.later second.later is.own;
  row = λ asked. is.row (sym (same (new.at mid.last) (new.at old.last) path (alike_at new old.last mid.last path first.later second.later is.own)) ∙ asked);
}

-- ---- what is found at one moment is so at another at which the path is alike

pub letter_by_moved : (asks : Asking) → AsksAlike asks → (Q R : Type 0) → (R → Q) → (S T : List ℕ → Type 0) (files : shelves.Files) (id : Id20) (m n : Moment) (wanted : Wanted) (kept : FlatRow) (letter : Option Letter)
    → (T kept.path → S kept.path) → (T kept.path → AreAlike m n kept.path) → IsLetterBy asks Q S files id m wanted kept letter → IsLetterBy asks R T files id n wanted kept letter
letter_by_moved asks same Q R premise S T files id m n wanted kept letter meets alike is = record {
  right = λ r t.
      is.right (premise r) (meets t)
      ∙ ap (rows_under wanted kept) (letter_moved m n kept.path (parent_rows files id kept.path) (marks_of (view kept.entry)) (is_some kept.source) (alike t));
  served = λ t asked. served_moved files id m n kept.path (alike t) (is.served (meets t) (same m n kept.path (alike t) ∙ asked));
}

pub adds_moved : (asks : Asking) → AsksAlike asks → (Q R : Type 0) → (R → Q) → (S T : List ℕ → Type 0) (files : shelves.Files) (id : Id20) (m n : Moment) (wanted : Wanted) (all : List FlatRow) (a b : List Row)
    → ((path : List ℕ) → T path → S path) → ((path : List ℕ) → T path → AreAlike m n path) → AddsBy asks Q S files id m wanted all a b → AddsBy asks R T files id n wanted all a b
adds_moved asks same Q R premise S T files id m n wanted all a b meets alike (more, is, put) = (
  more,
  is,
  put_weaker (IsPutBy asks Q S files id m wanted) (IsPutBy asks R T files id n wanted) all more
      (λ kept own one. record {
        letter = one.letter;
        one = one.one;
        found = letter_by_moved asks same Q R premise S T files id m n wanted kept one.letter (meets kept.path) (alike kept.path) one.found;
      })
      put,
)

-- ---- the steps

pub adds_none : (asks : Asking) (Q : Type 0) (S : List ℕ → Type 0) (files : shelves.Files) (id : Id20) (m : Moment) (wanted : Wanted) (rows : List Row) → AddsBy asks Q S files id m wanted [] rows rows
adds_none asks Q S files id m wanted rows = ([], sym (append-nil rows), refl)

-- the rows of one entry
pub adds_one : (asks : Asking) (Q : Type 0) (S : List ℕ → Type 0) (files : shelves.Files) (id : Id20) (m : Moment) (wanted : Wanted) (kept : FlatRow) (letter : Option Letter) (a b : List Row)
    → IsLetterBy asks Q S files id m wanted kept letter → b ≡ a ++ rows_under wanted kept letter → AddsBy asks Q S files id m wanted (kept ∷ []) a b
adds_one asks Q S files id m wanted kept letter a b found put =
    (rows_under wanted kept letter, put, (rows_under wanted kept letter, [], sym (append-nil (rows_under wanted kept letter)), record { letter = letter; one = refl; found = found }, refl))

pub adds_trans : (asks : Asking) (Q : Type 0) (S : List ℕ → Type 0) (files : shelves.Files) (id : Id20) (m : Moment) (wanted : Wanted) (xs ys : List FlatRow) (a b c : List Row)
    → AddsBy asks Q S files id m wanted xs a b → AddsBy asks Q S files id m wanted ys b c → AddsBy asks Q S files id m wanted (xs ++ ys) a c
adds_trans asks Q S files id m wanted xs ys a b c (more, is, put) (again, also, puts) = (
  more ++ again,
  also ∙ ap (λ (l : List Row). l ++ again) is ∙ append_assoc a more again,
  put_append (IsPutBy asks Q S files id m wanted) xs ys more again put puts,
)

-- rows that were put in the first part of a span, and others in the second, were put in the span
pub adds_more : (asks : Asking) → AsksAlike asks → (P Q R : Type 0) → (R → P) → (R → Q) → (wanted : Wanted) (id : Id20) (old mid new : trees.History) → trees.Extends old mid → trees.Extends mid new → (files later : shelves.History) (since : ℕ)
    → shelves.Extends files later → (store : shelves.Files) (xs ys : List FlatRow) (a b c : List Row)
    → AddsBy asks P (IsLeftAsked store asks id mid old.last files since) store id (trees.now old) wanted xs a b
    → AddsBy asks Q (IsLeftAsked store asks id new mid.last later since) store id (trees.now mid) wanted ys b c
    → AddsBy asks R (IsLeftAsked store asks id new old.last later since) store id (trees.now old) wanted (xs ++ ys) a c
adds_more asks same P Q R one_premise two_premise wanted id old mid new first second files later since past store xs ys a b c before one =
    adds_trans asks R (IsLeftAsked store asks id new old.last later since) store id (trees.now old) wanted xs ys a b c
    (adds_moved asks same P R one_premise (IsLeftAsked store asks id mid old.last files since) (IsLeftAsked store asks id new old.last later since) store id (trees.now old) (trees.now old) wanted xs a b
    (left_begun store asks id old mid new first second files later since past) (λ path t. alike_same (trees.now old) path) before)
    (adds_moved asks same Q R two_premise (IsLeftAsked store asks id new mid.last later since) (IsLeftAsked store asks id new old.last later since) store id (trees.now mid) (trees.now old) wanted ys b c
    (left_ended store asks same id old mid new first second later since) (λ path t. alike_between old mid new path first second t.own) one)

-- ---- a letter by marks

-- where the test asks only for entries that are compared by their marks, what is found by these is found by it
pub letter_by : (asks : Asking) (Q : Type 0) (S : List ℕ → Type 0) (files : shelves.Files) (id : Id20) (m : Moment) (wanted : Wanted) (kept : FlatRow) (letter : Option Letter)
    → (IsAsked asks m kept.path → IsAskedRow wanted m kept) → IsLetterFor (λ k. S k.path) files id m wanted kept letter → IsLetterBy asks Q S files id m wanted kept letter
letter_by asks Q S files id m wanted kept letter only is = record { right = λ premise. is.right; served = λ meets asked. is.served meets (only asked) }
