-- A step leaves no choice: its refusal and its table are fixed.
use Rattle.std.proofs.Common.{◌≡◌, ℕ, Bool, true, false, MatchBool, ◌||◌, List, Option, Some, None, refl, sym, ap, ◌∙◌, subst, true≢false}
use Rattle.std.specs.Ordering.{is_gt, nat_cmp, ordering_reverse}
use Rattle.std.specs.declared.cmp.Ordering.{Ordering}
use Rattle.std.specs.declared.cmp.Ordering.TheVariants.{Less, Equal, Greater}
use Rattle.std.proofs.lemmas.Cmp.{nat_list_cmp_total}
use Rattle.hg_image.proofs.Names.{same_equal}
use Rattle.std.specs.Cmp.Lexicographic.{slice_cmp}
use Rattle.hg_base.specs.PathText.{is_path}
use Rattle.hg_base.specs.declared.stat.Stat.{Stat}
use Rattle.hg_entry.specs.Entry.{EntryData}
use Rattle.hg_entry.specs.Table.{Table}
use Rattle.hg_nodes.proofs.Dropped.{pruned_one}
use Rattle.hg_nodes.specs.Drop.{IsPruned, after_clear}
use Rattle.hg_nodes.specs.Edits.{IsSame}
use Rattle.hg_ops.specs.Step.{IsAdd, IsForget, IsForgotten, IsUntracked, RefusesBeside, RefusesThing, added, after_untracked, is_tracked, thing_refusal}
use Rattle.hg_ops.specs.declared.refusal.Refusal.{Refusal}
use Rattle.hg_ops.specs.declared.refusal.Refusal.TheVariants as a_refusal

both_same : (a b c : Table) → IsSame a c → IsSame b c → IsSame a b
both_same a b c p q = record {
  p1 = p.p1 ∙ sym q.p1;
  p2 = p.p2 ∙ sym q.p2;
  hash = p.hash ∙ sym q.hash;
  entries = λ at. p.entries at ∙ sym (q.entries at);
  sources = λ at. p.sources at ∙ sym (q.sources at);
  nodes = λ at. p.nodes at ∙ sym (q.nodes at);
  caches = λ at. p.caches at ∙ sym (q.caches at);
}

-- of two texts neither is greater
upto_both : (a b : List ℕ) → is_gt (slice_cmp nat_cmp a b) ≡ false → is_gt (slice_cmp nat_cmp b a) ≡ false → a ≡ b
upto_both a b p q = by_order (slice_cmp nat_cmp a b) refl p (sym (ap is_gt (nat_list_cmp_total.antisymm b a)) ∙ q)
  where
    by_order : (o : Ordering) → slice_cmp nat_cmp a b ≡ o → is_gt o ≡ false → is_gt (ordering_reverse o) ≡ false → a ≡ b
    by_order Less is p q = absurd (true≢false q)
    by_order Equal is p q = same_equal a b is
    by_order Greater is p q = absurd (true≢false p)

beside_one : (path : List ℕ) (t : Table) (r s : Option Refusal) → RefusesBeside path t r → RefusesBeside path t s → r ≡ s
beside_one path t None None p q = refl
beside_one path t None (Some (a_refusal.Clash other)) p q = absurd (true≢false (sym q.0 ∙ p other))
beside_one path t (Some (a_refusal.Clash other)) None p q = absurd (true≢false (sym p.0 ∙ q other))
beside_one path t (Some (a_refusal.Clash a)) (Some (a_refusal.Clash b)) p q =
    ap (λ (x : List ℕ). Some (a_refusal.Clash x)) (upto_both a b (p.1 b q.0) (q.1 a p.0))
beside_one path t None (Some refusal) p q = absurd q
beside_one path t (Some (a_refusal.Clash other)) (Some refusal) p q = absurd q
beside_one path t (Some refusal) s p q = absurd p

thing_one : (path : List ℕ) (thing : Option Refusal) (t : Table) (r s : Option Refusal) → RefusesThing path thing t r → RefusesThing path thing t s → r ≡ s
thing_one path (Some refusal) t r s p q = p ∙ sym q
thing_one path None t r s p q = beside_one path t r s p q

refusal_one : (good is : Bool) (word : List ℕ) (thing : Option Refusal) (t : Table) (r s : Option Refusal)
    → MatchBool good (MatchBool is (r ≡ None) (RefusesThing word thing t r)) (r ≡ Some a_refusal.BadPath)
    → MatchBool good (MatchBool is (s ≡ None) (RefusesThing word thing t s)) (s ≡ Some a_refusal.BadPath) → r ≡ s
refusal_one true true word thing t r s p q = p ∙ sym q
refusal_one true false word thing t r s p q = thing_one word thing t r s p q
refusal_one false is word thing t r s p q = p ∙ sym q

pub add_one : (word : List ℕ) (shown : Option Stat) (was a b : Table) (r s : Option Refusal) → IsAdd word shown was r a → IsAdd word shown was s b → (r ≡ s) × IsSame a b
add_one word shown was a b r s p q =
    let same : r ≡ s = refusal_one (is_path word) (is_tracked was word) word (thing_refusal shown) was r s p.refusal q.refusal in
    (same, both_same a b (added word s was) (subst (λ (o : Option Refusal). IsSame a (added word o was)) same p.table) q.table)

untracked_one : (path : List ℕ) (entry : Option EntryData) (was a b : Table) → IsUntracked path entry was a → IsUntracked path entry was b → IsSame a b
untracked_one path None was a b p q = both_same a b was p q
untracked_one path (Some entry) was a b p q = by_parents (entry.p1 || entry.p2) p q
  where
    by_parents : (kept : Bool) → MatchBool kept (IsSame a (after_untracked path entry was)) (IsPruned path (after_clear path was) a)
        → MatchBool kept (IsSame b (after_untracked path entry was)) (IsPruned path (after_clear path was) b) → IsSame a b
    by_parents true p q = both_same a b (after_untracked path entry was) p q
    by_parents false p q = pruned_one path (after_clear path was) a b p q

pub forgotten_one : (word : List ℕ) (refused : Option Refusal) (was a b : Table) → IsForgotten word refused was a → IsForgotten word refused was b → IsSame a b
forgotten_one word (Some refusal) was a b p q = both_same a b was p q
forgotten_one word None was a b p q = untracked_one word (was.entries word) was a b p q

pub forget_one : (word : List ℕ) (was a b : Table) (r s : Option Refusal) → IsForget word was r a → IsForget word was s b → (r ≡ s) × IsSame a b
forget_one word was a b r s p q =
    let same : r ≡ s = p.refusal ∙ sym q.refusal in
    (same, forgotten_one word s was a b (subst (λ (o : Option Refusal). IsForgotten word o was a) same p.table) q.table)
