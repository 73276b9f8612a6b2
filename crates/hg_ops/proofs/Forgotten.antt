-- A word is forgotten.
use Rattle.std.proofs.Common.{◌≡◌, ℕ, Bool, true, false, cond, ◌||◌, List, Option, Some, None, Result, Ok, Err, inr, refl, sym, ap, ◌∙◌, subst, true≢false}
use Rattle.std.specs.Prelude.{OnErr, OnOk}
use Rattle.std.specs.Str.{bytes_eq}
use Rattle.hg_base.proofs.Within.{equal_bytes}
use Rattle.hg_base.specs.PathText.{is_path}
use Rattle.hg_base.specs.Within.{is_within}
use Rattle.hg_entry.specs.Entry.{EntryData}
use Rattle.hg_entry.specs.Table.{Table}
use Rattle.hg_nodes.specs.Drop.{IsPruned, after_clear}
use Rattle.hg_mixed.specs.Edits.{IsUnchanged}
use Rattle.hg_nodes.specs.Edits.{IsSame, Marks, after_copy, after_set}
use Rattle.hg_mixed.specs.Held.{Held, table}
use Rattle.hg_ops.specs.Cause.{LeavesAll}
use Rattle.hg_ops.specs.Step.{IsForget, forget_refusal, is_tracked}
use Rattle.hg_ops.specs.declared.refusal.OpFault.{OpFault}
use Rattle.hg_ops.specs.declared.refusal.Refusal.TheVariants as a_refusal
use Rattle.hg_ops.proofs.Added.{same_table}

pub no_path : (word : List ℕ) (t : Table) → is_path word ≡ false → IsForget word t (Some a_refusal.BadPath) t
no_path word t bad = record { refusal = refuses; table = same_table t }
  where
    refuses : Some a_refusal.BadPath ≡ forget_refusal word t
    refuses = subst
        (λ (b : Bool). Some a_refusal.BadPath ≡ cond b (cond (is_tracked t word) None (Some a_refusal.NotTracked)) (Some a_refusal.BadPath))
        (sym bad) refl

-- an entry is set in a table and in one that says the same
pub set_same : (path : List ℕ) (entry : EntryData) (a b new : Table) → IsSame a b → IsSame new (after_set path entry a) → IsSame new (after_set path entry b)
set_same path entry a b new same h = record {
  p1 = h.p1 ∙ same.p1;
  p2 = h.p2 ∙ same.p2;
  hash = h.hash ∙ same.hash;
  entries = λ at. h.entries at ∙ ap (cond (bytes_eq path at) (Some entry)) (same.entries at);
  sources = λ at. h.sources at ∙ same.sources at;
  nodes = λ at. h.nodes at ∙ ap (λ (b : Bool). b || is_within at path) (same.nodes at);
  caches = λ at. h.caches at ∙ ap (cond (bytes_eq path at) None) (same.caches at);
}

pub set_both : (path : List ℕ) (entry : EntryData) (a b new : Table) → IsSame a b → (result : Result (Unit {0}) OpFault)
    → OnOk result (IsSame new (after_set path entry a)) → OnOk result (IsSame new (after_set path entry b))
set_both path entry a b new same (Ok done) h = set_same path entry a b new same h
set_both path entry a b new same (Err fault) h = h

-- where the entry isn't set, the copy source alone may be gone
pub source_gone : (path : List ℕ) (old mid new : Held) → IsSame (table mid) (after_copy path None (table old)) → (result : Result (Unit {0}) OpFault)
    → OnErr result (IsUnchanged mid new) → OnErr result (LeavesAll path (table old) (table new))
source_gone path old mid new copied (Ok done) h = h
source_gone path old mid new copied (Err fault) h = inr (record {
  p1 = h.table.p1 ∙ copied.p1;
  p2 = h.table.p2 ∙ copied.p2;
  hash = h.table.hash ∙ copied.hash;
  entries = λ at. h.table.entries at ∙ copied.entries at;
  sources = λ at. h.table.sources at ∙ copied.sources at;
  nodes = λ at. h.table.nodes at ∙ copied.nodes at;
  caches = λ at. h.table.caches at ∙ copied.caches at;
})

pub there : {X : Type 0} (path : List ℕ) (value other : X) → cond (bytes_eq path path) value other ≡ value
there path value other = subst (λ (b : Bool). cond b value other ≡ value) (sym (equal_bytes path)) refl

pub apart : (was left : EntryData) → was.w ≡ true → left.w ≡ false → Some left ≡ Some was → ⊥
apart was left tracked untracked same = absurd (true≢false (sym tracked ∙ sym (ap w_of same) ∙ untracked))
  where
    w_of : Option EntryData → Bool
    w_of None = false
    w_of (Some entry) = entry.w

-- a tracked entry isn't what was when it is tracked no more
pub leave_marks : (path : List ℕ) (was left : EntryData) (old mid new : Table) (before between after : Bool)
    → old.entries path ≡ Some was → was.w ≡ true → left.w ≡ false → IsSame mid (after_copy path None old) → IsSame new (after_set path left mid)
    → Marks (IsSame new mid) between after → Marks (IsSame new old) before after
leave_marks path was left old mid new before between after has tracked untracked copied set marks =
    let now_left : new.entries path ≡ Some left = set.entries path ∙ there path (Some left) (mid.entries path) in
    let other : IsSame new old → ⊥ = λ same. apart was left tracked untracked (sym now_left ∙ same.entries path ∙ has) in
    let other_mid : IsSame new mid → ⊥ = λ same. apart was left tracked untracked (sym now_left ∙ same.entries path ∙ copied.entries path ∙ has) in
    record { kept = λ same. absurd (other same); marked = λ differs. marks.marked other_mid }

pub leave_both : (path : List ℕ) (was left : EntryData) (old mid new : Table) (before between after : Bool)
    → old.entries path ≡ Some was → was.w ≡ true → left.w ≡ false → IsSame mid (after_copy path None old) → (result : Result (Unit {0}) OpFault)
    → OnOk result (IsSame new (after_set path left mid)) → OnOk result (Marks (IsSame new mid) between after) → OnOk result (Marks (IsSame new old) before after)
leave_both path was left old mid new before between after has tracked untracked copied (Ok done) set marks =
    leave_marks path was left old mid new before between after has tracked untracked copied set marks
leave_both path was left old mid new before between after has tracked untracked copied (Err fault) set marks = marks

-- nor is it once it is gone
pub drop_marks : (path : List ℕ) (was : EntryData) (old new : Table) (before after : Bool) → old.entries path ≡ Some was
    → IsPruned path (after_clear path old) new → after ≡ true → Marks (IsSame new old) before after
drop_marks path was old new before after has pruned is =
    let gone : new.entries path ≡ None = pruned.entries path ∙ there path None (old.entries path) in
    let other : IsSame new old → ⊥ = λ same. none_some (sym gone ∙ same.entries path ∙ has) in
    record { kept = λ same. absurd (other same); marked = λ differs. is }
  where
    none_some : None ≡ Some was → ⊥
    none_some h = absurd (cc h)
