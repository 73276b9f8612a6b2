-- The law of faces: a time that is shown again is of the same thing, where times are honest.
use Rattle.std.proofs.Common.{ℕ, zero, suc, ◌≡◌, ◌+◌, ◌-◌, ◌<◌, ◌≤◌, inl, inr, List, Option, Some, None, option_map, refl, sym, ap, ◌∙◌, subst, arith}
use Rattle.std.specs.Prelude.{◌≢◌, ◌<ℤ◌, ℤ}
use Rattle.std.specs.Cmp.{int_chain}
use Rattle.std.specs.Int.Signed.{<ℤ_irrefl}
use Rattle.hg_base.specs.declared.time.Time.{Time}
use Rattle.hg_base.specs.declared.stat.Stat.{Stat}
use Rattle.hg_base.specs.declared.stat.Kind.TheVariants as a_kind
use Rattle.hg_tree.specs.declared.thing.Thing.{Thing}
use Rattle.hg_tree.specs.declared.thing.Thing.TheVariants as a_thing
use Rattle.hg_tree.specs.declared.thing.Placed.{Placed}
use Rattle.hg_tree.specs.Moment.{Moment, stat_at, stat_of}
use Rattle.hg_tree.specs.History.{History}
use Rattle.hg_base.specs.Times.{IsBefore, IsAtMost}
use Rattle.hg_tree.specs.Honest.{Face, face, face_of, face_with, has_name, Shows, IsHonest, LawOfFaces, HonestPast, StaysPast}
use Rattle.hg_tree.proofs.Stable.{stable_face}

-- a time before another, and that one not after a third
pub before_most : (a b c : Time) → IsBefore a b → IsAtMost b c → IsBefore a c
before_most a b c (inl p) (inl q) = inl (int_chain a.seconds b.seconds c.seconds p q)
before_most a b c (inl p) (inr q) = inl (subst (λ (s : ℤ). a.seconds <ℤ s) q.0 p)
before_most a b c (inr p) (inl q) = inl (subst (λ (s : ℤ). s <ℤ c.seconds) (sym p.0) q)
before_most a b c (inr p) (inr q) = inr (p.0 ∙ q.0, omega (arith, p.1, q.1))

-- no time is before one that is not after it
pub before_not_most : (a b : Time) → IsBefore a b → IsAtMost b a → ⊥
before_not_most a b (inl p) (inl q) = <ℤ_irrefl (int_chain a.seconds b.seconds a.seconds p q)
before_not_most a b (inl p) (inr q) = <ℤ_irrefl (subst (λ (s : ℤ). a.seconds <ℤ s) q.0 p)
before_not_most a b (inr p) (inl q) = <ℤ_irrefl (subst (λ (s : ℤ). s <ℤ a.seconds) (sym p.0) q)
before_not_most a b (inr p) (inr q) = omega (arith, p.1, q.1)

-- a time below the clock is below it any number of moments later
pub still_past : (h : History) → IsHonest h → (time : Time) (j d i : ℕ) → i ≡ j + d → i ≤ h.last → IsBefore time (h.at j).clock → IsBefore time (h.at i).clock
still_past h honest time j zero i at within past = subst (λ (n : ℕ). IsBefore time (h.at n).clock) (omega (arith, at)) past
still_past h honest time j (suc d) i at within past =
    let earlier : IsBefore time (h.at (j + d)).clock = still_past h honest time j d (j + d) refl (omega (arith, at, within)) past in
    subst (λ (n : ℕ). IsBefore time (h.at n).clock) (omega (arith, at))
    (before_most time (h.at (j + d)).clock (h.at ((j + d) + 1)).clock earlier (honest.clocks (j + d) (omega (arith, at, within))))

pub stays_past : StaysPast
stays_past h honest time j k order within past = still_past h honest time j (k - j) k (omega (arith, order)) within past

module _ (h : History) (honest : IsHonest h) (path : List ℕ) (time : Time) (j : ℕ) (shown : Shows (h.at j) path time) (past : IsBefore time (h.at j).clock) where
  -- a moment that shows it has the face of the moment before
  back : (i : ℕ) → j ≤ i → i < h.last → Shows (h.at (i + 1)) path time → face (h.at i) path ≡ face (h.at (i + 1)) path
  back i from within shows =
      stable_face (face (h.at i) path) (face (h.at (i + 1)) path)
      (λ differs. elim (honest.faces i path time within differs shows) [
        | inl late ↦ before_not_most time (h.at i).clock (stays_past h honest time j i from (omega (arith, within)) past) late
        | inr never ↦ never j from shown
      ])

  all : (d i k : ℕ) → k ≡ i + d → j ≤ i → k ≤ h.last → Shows (h.at k) path time → face (h.at i) path ≡ face (h.at k) path
  all zero i k at from within shows = ap (λ (n : ℕ). face (h.at n) path) (omega (arith, at))
  all (suc d) i k at from within shows =
      let next : k ≡ (i + d) + 1 = omega (arith, at) in
      let step : face (h.at (i + d)) path ≡ face (h.at ((i + d) + 1)) path =
      back (i + d) (omega (arith, from)) (omega (arith, next, within)) (subst (λ (n : ℕ). Shows (h.at n) path time) next shows) in
      let same : face (h.at (i + d)) path ≡ face (h.at k) path = step ∙ ap (λ (n : ℕ). face (h.at n) path) (sym next) in
      all d i (i + d) refl from (omega (arith, next, within)) (ap (λ (f : Face). f.time) same ∙ shows) ∙ same

pub law : LawOfFaces
law h honest path time j k order within shown past shows i from upto = all h honest path time j shown past (k - i) i k (omega (arith, upto)) from within shows

pub past_honest : HonestPast
past_honest old new extends honest = record {
  clocks = λ k below.
      subst (λ (m : Moment). IsAtMost m.clock (old.at (k + 1)).clock) (extends.stay k (omega (arith, below)))
      (subst (λ (m : Moment). IsAtMost (new.at k).clock m.clock) (extends.stay (k + 1) (omega (arith, below))) (honest.clocks k (omega (arith, below, extends.later))));
  faces = λ k path time below differs shows.
      let here = extends.stay k (omega (arith, below)) in
      let there = extends.stay (k + 1) (omega (arith, below)) in
      elim (honest.faces k path time (omega (arith, below, extends.later))
      (λ same. differs (sym (ap (λ (m : Moment). face m path) here) ∙ same ∙ ap (λ (m : Moment). face m path) there))
      (ap (λ (m : Moment). (face m path).time) there ∙ shows)) [
        | inl late ↦ inl (subst (λ (m : Moment). IsAtMost m.clock time) here late)
        | inr never ↦ inr (λ i upto shown. never i upto (ap (λ (m : Moment). (face m path).time) (extends.stay i (omega (arith, upto, below))) ∙ shown))
      ];
}

-- what a stat shows of a file, a link or a directory shows its time
pub shown_by_stat : (moment : Moment) (path : List ℕ) (stat : Stat) → stat_at moment path ≡ Some stat → stat.kind ≢ a_kind.Other → Shows moment path stat.mtime
shown_by_stat moment path stat h other = by (moment.things path) h
  where
    by : (placed : Option Placed) → option_map (λ p. stat_of p.thing p.mtime) placed ≡ Some stat → (face_with (has_name moment path) placed).time ≡ Some stat.mtime
    by None e = absurd (cc)
    by (Some placed) e = of placed.thing placed.mtime e
      where
        of : (thing : Thing) (mtime : Time) → Some (stat_of thing mtime) ≡ Some stat → (face_of thing mtime (has_name moment path)).time ≡ Some stat.mtime
        of (a_thing.File exec bytes) mtime e = ap (option_map (λ (s : Stat). s.mtime)) e
        of (a_thing.Link target) mtime e = ap (option_map (λ (s : Stat). s.mtime)) e
        of a_thing.Dir mtime e = ap (option_map (λ (s : Stat). s.mtime)) e
        of a_thing.Other mtime e = absurd (other (cc))
