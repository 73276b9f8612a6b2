-- New parents leave no choice of the table.
use Rattle.std.proofs.Common.{◌≡◌, ℕ, Bool, true, false, not, cond, ◌||◌, ◌⊎◌, inl, inr, List, None, refl, sym, ap, ◌∙◌, true≢false}
use Rattle.std.specs.Prelude.{is_some}
use Rattle.std.proofs.lemmas.Bool.{cases_Bool}
use Rattle.hg_entry.specs.Table.{Table}
use Rattle.hg_manifest.specs.Rows.{Rows}
use Rattle.hg_nodes.specs.Edits.{IsSame}
use Rattle.hg_ops.specs.Parents.{HasParents, LostWithin}

test_same : (a b : Bool) → (a ≡ true → b ≡ true) → (b ≡ true → a ≡ true) → a ≡ b
test_same true b there back = sym (there refl)
test_same false true there back = back refl
test_same false false there back = refl

module _ (p1 p2 : List ℕ) (m1 m2 : Rows) (was a b : Table) (p : HasParents p1 p2 m1 m2 was a) (q : HasParents p1 p2 m1 m2 was b) where
  entries : (at : List ℕ) → a.entries at ≡ b.entries at
  entries at = p.entries at ∙ sym (q.entries at)

  lost_there : (at : List ℕ) → LostWithin was a at → LostWithin was b at
  lost_there at l = (l.0, l.1, sym (entries l.0) ∙ l.2, l.3)

  lost_back : (at : List ℕ) → LostWithin was b at → LostWithin was a at
  lost_back at l = (l.0, l.1, entries l.0 ∙ l.2, l.3)

  gone : (at : List ℕ) → p.gone at ≡ q.gone at
  gone at = test_same (p.gone at) (q.gone at)
      (λ h. let g = p.goes at h in q.all_go at (record {
        lost = lost_there at g.lost;
        alone = λ other within node. lost_there other (g.alone other within node);
        empty = λ other within. sym (entries other) ∙ g.empty other within;
      }))
      (λ h. let g = q.goes at h in p.all_go at (record {
        lost = lost_back at g.lost;
        alone = λ other within node. lost_back other (g.alone other within node);
        empty = λ other within. entries other ∙ g.empty other within;
      }))

  stale : (at : List ℕ) → p.stale at ≡ q.stale at
  stale dir = test_same (p.stale dir) (q.stale dir)
      (λ h. let f = p.is_stale dir h in q.all_stale dir f.0 (sym (gone f.0) ∙ f.1) f.2)
      (λ h. let f = q.is_stale dir h in p.all_stale dir f.0 (gone f.0 ∙ f.1) f.2)

  nodes_by : (at : List ℕ) → (was.nodes at ≡ true) ⊎ (was.nodes at ≡ false) → a.nodes at ≡ b.nodes at
  nodes_by at (inl had) = p.nodes_left at had ∙ ap not (gone at) ∙ sym (q.nodes_left at had)
  nodes_by at (inr none) = test_same (a.nodes at) (b.nodes at)
      (λ h. elim (p.nodes_made at h) [
        | inl first ↦ absurd (true≢false (sym first ∙ none))
        | inr more ↦ q.nodes_held at more.0 (sym (ap is_some (entries more.0)) ∙ more.1) more.2
      ])
      (λ h. elim (q.nodes_made at h) [
        | inl first ↦ absurd (true≢false (sym first ∙ none))
        | inr more ↦ p.nodes_held at more.0 (ap is_some (entries more.0) ∙ more.1) more.2
      ])

  pub parents_one : IsSame a b
  parents_one = record {
    p1 = p.p1_is ∙ sym q.p1_is;
    p2 = p.p2_is ∙ sym q.p2_is;
    hash = p.hash ∙ sym q.hash;
    entries = entries;
    sources = λ at. p.sources at ∙ sym (q.sources at);
    nodes = λ at. nodes_by at (cases_Bool (was.nodes at));
    caches = λ at.
        p.caches at
        ∙ ap (λ (x : Bool). cond (x || p.stale at || is_some (a.entries at)) None (was.caches at)) (gone at)
        ∙ ap (λ (x : Bool). cond (q.gone at || x || is_some (a.entries at)) None (was.caches at)) (stale at)
        ∙ ap (λ (x : Bool). cond (q.gone at || q.stale at || x) None (was.caches at)) (ap is_some (entries at))
        ∙ sym (q.caches at);
  }
