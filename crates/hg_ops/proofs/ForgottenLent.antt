-- What is lent still once a word is forgotten.
use Rattle.std.proofs.Common.{◌≡◌, ℕ, Bool, true, false, not, ◌&&◌, List, Option, Some, None, Result, Ok, Err, refl, sym, ap, ◌∙◌, cond}
use Rattle.std.specs.Prelude.{OnOk}
use Rattle.std.specs.Str.{bytes_eq}
use Rattle.hg_base.proofs.Within.{same_bytes}
use Rattle.hg_base.specs.Within.{is_above}
use Rattle.hg_entry.specs.Entry.{EntryData}
use Rattle.hg_entry.specs.Table.{Table}
use Rattle.hg_nodes.specs.Drop.{IsPruned, after_clear}
use Rattle.hg_mixed.specs.Edits.{ArePlacedAsBefore, EndsAbove, Lends, PlacesCopy}
use Rattle.hg_nodes.specs.Edits.{IsSame, after_copy, after_set}
use Rattle.hg_mixed.specs.Held.{Held, is_lent, table}
use Rattle.hg_ops.proofs.Forgotten.{apart, there}
use Rattle.hg_ops.specs.declared.refusal.OpFault.{OpFault}

none_at : (b : Bool) (o : Option (List ℕ)) → (b ≡ true → o ≡ None) → cond b None o ≡ o
none_at true o h = sym (h refl)
none_at false o h = refl

-- a source that isn't there is written as none
copied_same : (path : List ℕ) (old mid : Table) → old.sources path ≡ None → IsSame mid (after_copy path None old) → IsSame mid old
copied_same path old mid none copied = record {
  p1 = copied.p1;
  p2 = copied.p2;
  hash = copied.hash;
  entries = copied.entries;
  sources = λ at. copied.sources at ∙ none_at (bytes_eq path at) (old.sources at) (λ here. ap old.sources (sym (same_bytes path at here)) ∙ none);
  nodes = copied.nodes;
  caches = copied.caches;
}

copied_other : (path : List ℕ) (old mid : Table) → (old.sources path ≡ None → ⊥) → IsSame mid (after_copy path None old) → IsSame mid old → ⊥
copied_other path old mid some copied same = some (sym (same.sources path) ∙ copied.sources path ∙ there path None (old.sources path))

twice_off : (l a : Bool) → ((l && not a) && not a) ≡ (l && not a)
twice_off true true = refl
twice_off true false = refl
twice_off false a = refl

-- the source, then the entry: two edits at one path
ends_both : (path : List ℕ) (source : Option (List ℕ)) (old mid new : Held) → (table old).sources path ≡ source → IsSame (table mid) (after_copy path None (table old))
    → Lends path (IsSame (table mid) (table old)) old mid → EndsAbove path mid new → EndsAbove path old new
ends_both path None old mid new is copied first second dir =
    second dir ∙ ap (λ (b : Bool). b && not (is_above dir path)) (first.kept (copied_same path (table old) (table mid) is copied) dir)
ends_both path (Some source) old mid new is copied first second dir =
    second dir
    ∙ ap (λ (b : Bool). b && not (is_above dir path)) (first.ended (copied_other path (table old) (table mid) (λ none. none_some (sym none ∙ is)) copied) dir)
    ∙ twice_off (is_lent old dir) (is_above dir path)
  where
    none_some : None ≡ Some source → ⊥
    none_some h = absurd (cc h)

pub leave_lends : (path : List ℕ) (was left : EntryData) (old mid new : Held) → (table old).entries path ≡ Some was → was.w ≡ true → left.w ≡ false
    → IsSame (table mid) (after_copy path None (table old)) → Lends path (IsSame (table mid) (table old)) old mid → (result : Result (Unit {0}) OpFault)
    → OnOk result (IsSame (table new) (after_set path left (table mid))) → OnOk result (Lends path (IsSame (table new) (table mid)) mid new)
    → OnOk result (Lends path (IsSame (table new) (table old)) old new)
leave_lends path was left old mid new has tracked untracked copied first (Ok done) set second =
    let now_left : (table new).entries path ≡ Some left = set.entries path ∙ there path (Some left) ((table mid).entries path) in
    let other : IsSame (table new) (table old) → ⊥ = λ same. apart was left tracked untracked (sym now_left ∙ same.entries path ∙ has) in
    let other_mid : IsSame (table new) (table mid) → ⊥ = λ same. apart was left tracked untracked (sym now_left ∙ same.entries path ∙ copied.entries path ∙ has) in
    record {
      kept = λ same. absurd (other same);
      ended = λ differs. ends_both path ((table old).sources path) old mid new refl copied first (second.ended other_mid);
    }
leave_lends path was left old mid new has tracked untracked copied first (Err fault) set second = second

pub leave_places : (path : List ℕ) (old mid new : Held) → IsSame (table mid) (after_copy path None (table old)) → PlacesCopy path (IsSame (table mid) (table old)) old mid
    → (result : Result (Unit {0}) OpFault) → OnOk result (ArePlacedAsBefore mid new) → OnOk result (PlacesCopy path ((table old).sources path ≡ None) old new)
leave_places path old mid new copied first (Ok done) second = record {
  texts = λ at. second.texts at ∙ first.texts at;
  kept = λ none at. second.sources at ∙ first.kept (copied_same path (table old) (table mid) none copied) at;
  changed = λ some at. second.sources at ∙ first.changed (copied_other path (table old) (table mid) some copied) at;
}
leave_places path old mid new copied first (Err fault) second = second

pub drop_lends : (path : List ℕ) (was : EntryData) (old new : Held) → (table old).entries path ≡ Some was → IsPruned path (after_clear path (table old)) (table new)
    → EndsAbove path old new → Lends path (IsSame (table new) (table old)) old new
drop_lends path was old new has pruned ends =
    let gone : (table new).entries path ≡ None = pruned.entries path ∙ there path None ((table old).entries path) in
    record { kept = λ same. absurd (none_some (sym gone ∙ same.entries path ∙ has)); ended = λ differs. ends }
  where
    none_some : None ≡ Some was → ⊥
    none_some h = absurd (cc h)
