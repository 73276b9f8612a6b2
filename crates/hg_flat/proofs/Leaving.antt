-- Entries and their paths: which are compared, and which nobody touches.
use Rattle.std.proofs.Common.{ℕ, ◌≡◌, ◌+◌, ◌<◌, ◌&&◌, ◌||◌, Bool, List, [], ◌∷◌, ◌++◌, length, take, get_or, Option, Some, None, option_map, refl, sym, ap, ◌∙◌, subst}
use Rattle.std.specs.Prelude.{IfSome, is_some}
use Rattle.std.specs.List.{Contains}
use Rattle.std.proofs.lemmas.Bool.{and_parts}
use Rattle.std.proofs.lemmas.List.{take_more}
use Rattle.hg_base.specs.declared.id.Id20.{Id20}
use Rattle.hg_entry.specs.Entry.{view}
use Rattle.hg_entry.specs.Table.{marks_of}
use Rattle.hg_entry.specs.Table as plain
use Rattle.hg_manifest.specs.Plain.{plain_name}
use Rattle.hg_manifest.specs.declared.row.FileRow.{FileRow}
use Rattle.hg_shelf.specs.History as shelves
use Rattle.hg_shelf.specs.Polite.{StaysIn, StaysPlain}
use Rattle.hg_tree.specs.History as trees
use Rattle.hg_tree.specs.Moment.{Moment}
use Rattle.hg_tree.proofs.Stillness.{ours_untouched}
use Rattle.hg_compare.specs.Alike.{contents_name}
use Rattle.hg_compare.specs.Tracked.{is_file_or_link}
use Rattle.hg_compare.specs.declared.letter.Letter.{Letter}
use Rattle.hg_flat.specs.Kept.{source_of}
use Rattle.hg_flat.specs.Judged.{AddsBy, IsLeftAsked, IsLetterBy}
use Rattle.hg_flat.specs.Listing.{AddsTracked, AsksRow, IsAskedRow, IsLeftRow, IsLetterFor, is_compared_row}
use Rattle.hg_ignore.specs.State.{ignore_file}
use Rattle.hg_flat.specs.Parent.{Asking, IsAsked, IsLeft, KeepsRow, asked_by, is_compared, is_plain_entry, manifest_at, row_among}
use Rattle.hg_flat.specs.Shown.{flat_in}
use Rattle.hg_flat.specs.declared.flat.Flat.{Flat}
use Rattle.hg_flat.specs.declared.kept.FlatRow.{FlatRow}
use Rattle.hg_listing.specs.declared.row.Row.{Row}
use Rattle.hg_listing.specs.declared.row.Wanted.{Wanted}
use Rattle.hg_flat.proofs.Asking.{asks_row}
use Rattle.hg_flat.proofs.Holding.{found_at}
use Rattle.hg_flat.proofs.Judging.{AsksAlike, adds_more}

-- the path of an entry is compared where the entry is
pub compared_same : (flat : Flat) (wanted : Wanted) (k : FlatRow) → Contains flat.rows.items k → is_compared wanted (flat_in flat) k.path ≡ is_compared_row wanted k
compared_same flat wanted k has =
    ap (λ (o : Option FlatRow). (wanted.m || wanted.c) && is_plain_entry (option_map (λ (r : FlatRow). marks_of (view r.entry)) o) (is_some (source_of o)))
    (found_at flat.rows.items flat.own k has)

-- the test by marks says of it what its marks say
pub asks_same : (flat : Flat) (wanted : Wanted) (k : FlatRow) → Contains flat.rows.items k → AsksRow wanted k (asked_by wanted (flat_in flat))
asks_same flat wanted k has moment = ap (λ (b : Bool). b && is_file_or_link (moment.things k.path)) (compared_same flat wanted k has)

-- what was put for an entry by its marks was put by the test of its path
pub added_by : (flat : Flat) (wanted : Wanted) (id : Id20) (copy : trees.History) (from : ℕ) (files : shelves.History) (since : ℕ) (store : shelves.Files) (m : Moment) (k : FlatRow) → Contains flat.rows.items k → (a b : List Row)
    → AddsTracked (IsLeftRow store wanted id copy from files since) store id m wanted (k ∷ []) a b
    → AddsBy (asked_by wanted (flat_in flat)) (Unit {0}) (IsLeftAsked store (asked_by wanted (flat_in flat)) id copy from files since) store id m wanted (k ∷ []) a b
added_by flat wanted id copy from files since store m k has a b (more, is, (own, rest, parts, put, none)) =
    (more, is, (own, rest, parts, record { letter = put.letter; one = put.one; found = found put.letter put.found }, none))
  where
    asks : Asking
    asks = asked_by wanted (flat_in flat)

    left : IsLeftAsked store asks id copy from files since k.path → IsLeftRow store wanted id copy from files since k
    left is_left = record { own = is_left.own; row = λ asked. is_left.row (asks_row wanted k asks (asks_same flat wanted k has) (copy.at from) asked) }

    by_marks : IsAsked asks m k.path → IsAskedRow wanted m k
    by_marks asked =
        let both = and_parts (is_compared_row wanted k) (is_file_or_link (m.things k.path)) (sym (asks_same flat wanted k has m) ∙ asked) in
        record { compared = both.0; there = both.1 }

    found : (letter : Option Letter) → IsLetterFor (IsLeftRow store wanted id copy from files since) store id m wanted k letter → IsLetterBy asks (Unit {0}) (IsLeftAsked store asks id copy from files since) store id m wanted k letter
    found letter of = record { right = λ premise meets. of.right (left meets); served = λ meets asked. of.served (left meets) (by_marks asked) }

-- entries so far, and the next
pub adds_next : (asks : Asking) → AsksAlike asks → (wanted : Wanted) (id : Id20) (old mid new : trees.History) → trees.Extends old mid → trees.Extends mid new → (files later : shelves.History) (since : ℕ) → shelves.Extends files later
    → (store : shelves.Files) (all : List FlatRow) (i : ℕ) (k : FlatRow) (a b c : List Row) → i < length all → get_or all i k ≡ k
    → AddsBy asks (Unit {0}) (IsLeftAsked store asks id mid old.last files since) store id (trees.now old) wanted (take i all) a b
    → AddsBy asks (Unit {0}) (IsLeftAsked store asks id new mid.last later since) store id (trees.now mid) wanted (k ∷ []) b c
    → AddsBy asks (Unit {0}) (IsLeftAsked store asks id new old.last later since) store id (trees.now old) wanted (take (i + 1) all) a c
adds_next asks same wanted id old mid new first second files later since past store all i k a b c below is before one =
    subst (λ (l : List FlatRow). AddsBy asks (Unit {0}) (IsLeftAsked store asks id new old.last later since) store id (trees.now old) wanted l a c) (sym (take_more all i k below ∙ ap (λ (r : FlatRow). take i all ++ r ∷ []) is))
    (adds_more asks same (Unit {0}) (Unit {0}) (Unit {0}) (λ premise. premise) (λ premise. premise) wanted id old mid new first second files later since past store (take i all) (k ∷ []) a b c before one)

some_all : {A : Type 0} (o : Option A) (P : A → Type 0) → ((a : A) → P a) → IfSome o P
some_all None P each = tt
some_all (Some a) P each = each a

-- where the plain store is a store's, so is what the first parent has of a path
pub keeps_row : (store : shelves.Files) (files : shelves.History) (since : ℕ) (id : Id20) → StaysPlain store files since → (path : List ℕ) → KeepsRow store files since id path
keeps_row store files since id keeps path = record {
  told = keeps.told;
  manifest = λ some. keeps.each (plain_name id.0) refl;
  contents = some_all (row_among (manifest_at store id) path) (λ (row : FileRow). StaysIn store files since (contents_name row.id.0)) (λ row. keeps.each (contents_name row.id.0) refl);
}

-- where nobody else steps and the plain store is a store's, each path is left
pub left_all : (store : shelves.Files) (flat : plain.Flat) (wanted : Wanted) (asks : Asking) (id : Id20) (old new : trees.History) → trees.Passes old new → trees.IsOurs old new → (files : shelves.History) (since : ℕ) → StaysPlain store files since
    → (path : List ℕ) → IsLeft store wanted flat asks id new old.last files since path
left_all store flat wanted asks id old new passes ours files since keeps path = record {
  own = ours_untouched old new passes ours path;
  row = λ asked. keeps_row store files since id keeps path;
  patterns = λ needed none. let own = ours_untouched old new passes ours ignore_file in record { told = own.told; file = own.own };
}
