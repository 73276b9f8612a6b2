-- A call changes the path that it names, and directories above it.
use Rattle.std.proofs.Common.{ℕ, suc, ◌≡◌, Bool, true, false, ◌||◌, List, [], ◌∷◌, Option, Some, None, inl, inr, refl, sym, ◌∙◌, ap, subst, arith, zero}
use Rattle.std.specs.Prelude.{is_some}
use Rattle.std.specs.Str.{bytes_eq}
use Rattle.std.proofs.lemmas.Bool.{cases_Bool, cases_lt, both_ways, or_parts, cond-true, cond-false, false_from_ne_true}
use Rattle.hg_base.specs.PathText.{is_below, is_same_dir, parent_of}
use Rattle.hg_base.specs.declared.stat.Kind.{Kind}
use Rattle.hg_base.specs.declared.time.Time.{Time}
use Rattle.hg_base.proofs.Children.{below_parent, same_dir}
use Rattle.hg_tree.specs.declared.thing.Placed.{Placed}
use Rattle.hg_tree.specs.declared.thing.Thing.{Thing}
use Rattle.hg_tree.specs.Change.{dir_of}
use Rattle.hg_tree.specs.History.{History, AreFormed, Extends, Passes}
use Rattle.hg_tree.specs.Moment.{Moment, IsFormed, is_among, is_dir}
use Rattle.hg_tree.specs.Own.{Acts, IsClear, IsPut, IsPutInPart, IsUnlink, MayPut, MayUnlink, Puts, Unlinks, after_made, put_thing, toward}
use Rattle.hg_tree.specs.Touched.{ChangesOnly, TouchesOnly}
use Rattle.hg_tree.proofs.Owned.{contents_loose}
use Rattle.hg_tree.proofs.Planting.{same_bytes, equal_bytes}
use Rattle.hg_tree.proofs.Spans.{who_apart}

turned : (a b : List ℕ) → bytes_eq a b ≡ false → bytes_eq b a ≡ false
turned a b apart = false_from_ne_true (bytes_eq b a) (λ h. both_ways (bytes_eq a b) apart (ap (bytes_eq a) (same_bytes b a h) ∙ equal_bytes a))

-- what isn't among one path
alone : (path at : List ℕ) → is_among at (path ∷ []) ≡ false → bytes_eq path at ≡ false
alone path at h = turned at path (or_parts (bytes_eq at path) false h).0

not_above : (at path : List ℕ) → (is_below at path || false) ≡ false → is_below at path ≡ false
not_above at path h = (or_parts (is_below at path) false h).0

is_above : (t : Bool) → (t || false) ≡ true → t ≡ true
is_above true h = refl
is_above false h = h

-- what is only there as a directory
some_is_dir : (o : Option Placed) → (is_some o ≡ true → is_dir o ≡ true) → is_some o ≡ is_dir o
some_is_dir None h = refl
some_is_dir (Some placed) h = sym (h refl)

module _ (path : List ℕ) (before after : Moment) where
  pub unlink_touches : IsFormed before → IsUnlink path before after → TouchesOnly (path ∷ []) before.things after.things
  unlink_touches formed step = record {
    above = λ at apart above. elim (cases_Bool (is_same_dir (Some at) (parent_of path))) [
      | inl home ↦
          let up = below_parent at path (sym (same_dir (Some at) (parent_of path) home)) in
          let there = formed.rooted at path up (contents_loose (before.things path) step.there).0 in
          inr (
            some_is_dir (before.things at) (λ _. there),
            ap is_dir (step.things at ∙ cond-false (bytes_eq path at) None _ (alone path at apart) ∙ cond-true (is_same_dir (Some at) (parent_of path)) (Some (dir_of after.clock)) (before.things at) home),
          )
      | inr far ↦ inl (step.things at ∙ cond-false (bytes_eq path at) None _ (alone path at apart) ∙ cond-false (is_same_dir (Some at) (parent_of path)) (Some (dir_of after.clock)) (before.things at) far)
    ];
    apart = λ at apart far.
        step.things at
        ∙ cond-false (bytes_eq path at) None _ (alone path at apart)
        ∙ cond-false (is_same_dir (Some at) (parent_of path)) (Some (dir_of after.clock)) (before.things at)
        (false_from_ne_true (is_same_dir (Some at) (parent_of path)) (λ home. both_ways (is_below at path) (not_above at path far) (below_parent at path (sym (same_dir (Some at) (parent_of path) home)))));
  }

  made_touches : (thing : Thing) (time : Time) → IsClear path before.things → ((at : List ℕ) → after.things at ≡ after_made path thing time before.things at)
      → TouchesOnly (path ∷ []) before.things after.things
  made_touches thing time clear made = record {
    above = λ at apart above.
        let up = is_above (is_below at path) above in
        let is = made at ∙ cond-false (bytes_eq path at) _ _ (alone path at apart) ∙ cond-true (is_below at path) _ (before.things at) up in
        elim (cases_Bool (is_some (before.things (toward at path)))) [
          | inl there ↦ inl (is ∙ cond-true (is_some (before.things (toward at path))) (before.things at) (Some (dir_of time)) there)
          | inr none ↦
              inr (
                some_is_dir (before.things at) (clear at up),
                ap is_dir (is ∙ cond-false (is_some (before.things (toward at path))) (before.things at) (Some (dir_of time)) none),
              )
        ];
    apart = λ at apart far. made at ∙ cond-false (bytes_eq path at) _ _ (alone path at apart) ∙ cond-false (is_below at path) _ (before.things at) (not_above at path far);
  }

  pub put_touches : (kind : Kind) (exec : Bool) (place : ℕ) (bytes : List ℕ) → IsPut kind exec place bytes path before after → TouchesOnly (path ∷ []) before.things after.things
  put_touches kind exec zero bytes step = made_touches (put_thing kind exec bytes) after.clock step.can.above step.things
  put_touches kind exec (suc place) bytes step = record {
    above = λ at apart above. inl (step.things at ∙ cond-false (bytes_eq path at) _ (before.things at) (alone path at apart));
    apart = λ at apart far. step.things at ∙ cond-false (bytes_eq path at) _ (before.things at) (alone path at apart);
  }

  pub part_touches : (kind : Kind) (exec : Bool) (place : ℕ) (bytes : List ℕ) → IsPutInPart kind exec place bytes path before after → TouchesOnly (path ∷ []) before.things after.things
  part_touches kind exec place bytes step = record {
    above = λ at apart above. step.above at (is_above (is_below at path) above);
    apart = λ at apart far. step.apart at (alone path at apart) (not_above at path far);
  }

module _ (paths : List (List ℕ)) where
  pub changes_passes : (old new : History) → Passes old new → ChangesOnly paths old new
  changes_passes old new passes k from upto ours = absurd (who_apart (sym ours ∙ passes.by_others k from upto))

  pub changes_acts : (step : Moment → Moment → Type 0) (old new : History) → ((before after : Moment) → IsFormed before → step before after → TouchesOnly paths before.things after.things)
      → AreFormed new → Acts step old new → ChangesOnly paths old new
  changes_acts step old new touches formed acts k from upto ours =
      let last = acts.last in
      elim (cases_lt k acts.before) [
        | inl less ↦ absurd (who_apart (sym ours ∙ acts.by_others k from less))
        | inr most ↦
            let here : acts.before ≡ k = omega (arith, most, upto, last) in
            subst (λ (n : ℕ). TouchesOnly paths (new.at n).things (new.at (suc n)).things) here
            (touches (new.at acts.before) (new.at (suc acts.before)) (formed.each acts.before (omega (arith, last))) acts.made)
      ]

  pub changes_trans : (a b c : History) → Extends b c → ChangesOnly paths a b → ChangesOnly paths b c → ChangesOnly paths a c
  changes_trans a b c later p q k from upto ours = elim (cases_lt k b.last) [
    | inl less ↦
        subst (λ (m : Moment). TouchesOnly paths m.things (c.at (suc k)).things) (sym (later.stay k (omega (arith, less))))
        (subst (λ (m : Moment). TouchesOnly paths (b.at k).things m.things) (sym (later.stay (suc k) (omega (arith, less))))
        (p k from less (sym (later.who k less) ∙ ours)))
    | inr most ↦ q k most upto ours
  ]

module _ (path : List ℕ) (old new : History) (formed : AreFormed new) where
  pub unlinks_only : (done : Bool) → Unlinks path done old new → ChangesOnly (path ∷ []) old new
  unlinks_only true acts = changes_acts (path ∷ []) (IsUnlink path) old new (unlink_touches path) formed acts
  unlinks_only false none = changes_passes (path ∷ []) old new none.0

  pub may_unlink_only : MayUnlink path old new → ChangesOnly (path ∷ []) old new
  may_unlink_only (inl none) = changes_passes (path ∷ []) old new none
  may_unlink_only (inr acts) = changes_acts (path ∷ []) (IsUnlink path) old new (unlink_touches path) formed acts

  module _ (kind : Kind) (exec : Bool) (place : ℕ) (bytes : List ℕ) where
    pub puts_only : (done : Bool) → Puts kind exec place bytes path done old new → ChangesOnly (path ∷ []) old new
    puts_only true acts =
        changes_acts (path ∷ []) (IsPut kind exec place bytes path) old new (λ before after _ step. put_touches path before after kind exec place bytes step) formed acts
    puts_only false none = changes_passes (path ∷ []) old new none.0

    pub may_put_only : MayPut kind exec place bytes path old new → ChangesOnly (path ∷ []) old new
    may_put_only (inl none) = changes_passes (path ∷ []) old new none
    may_put_only (inr acts) =
        changes_acts (path ∷ []) (IsPutInPart kind exec place bytes path) old new (λ before after _ step. part_touches path before after kind exec place bytes step) formed acts
