-- What was so at a moment of a span, and over longer spans.
use Rattle.std.proofs.Common.{ℕ, ◌≡◌, ◌≤◌, Bool, true, false, List, Option, Some, None, refl, sym, ap, ◌∙◌, subst, true≢false, inl, inr, arith}
use Rattle.std.specs.Prelude.{IsTrue, is_some, option_map}
use Rattle.hg_base.specs.PathText.{is_path, parent_of}
use Rattle.hg_base.specs.declared.stat.Stat.{Stat}
use Rattle.hg_base.specs.declared.time.Time.{Time}
use Rattle.hg_base.proofs.Below.{below_trans}
use Rattle.hg_base.proofs.Children.{below_by_parent, below_parent}
use Rattle.hg_base.proofs.Within.{above_none}
use Rattle.hg_ops.specs.Putting.{SeesAbove, SeesPath, is_dir_kind}
use Rattle.hg_ops.specs.Seen.{IsDirOrNone, IsTaken, Was}
use Rattle.hg_tree.specs.History.{History, Extends, IsOurs, Passes, now}
use Rattle.hg_tree.specs.Moment.{Moment, is_dir, is_dir_thing, stat_at, stat_of}
use Rattle.hg_tree.specs.Own.{IsBarred}
use Rattle.hg_tree.specs.declared.thing.Placed.{Placed}
use Rattle.hg_tree.specs.declared.thing.Thing.{Thing}
use Rattle.hg_tree.specs.declared.thing.Thing.TheVariants as a_thing
use Rattle.hg_tree.proofs.Spans.{ours_unstepped}

pub was_wider : (a b c d : History) (so : Moment → Type 0) → a.last ≤ b.last → Extends c d → Was b c so → Was a d so
was_wider a b c d so first more was = record {
  moment = was.moment;
  later = omega (arith, first, was.later);
  upto = omega (arith, was.upto, more.later);
  is = subst so (sym (more.stay was.moment was.upto)) was.is;
}

pub was_last : (a b : History) (so : Moment → Type 0) → a.last ≤ b.last → so (now b) → Was a b so
was_last a b so later is = record { moment = b.last; later = later; upto = omega arith; is = is }

-- where nobody steps at all there is one moment
pub was_first : (a b : History) (so : Moment → Type 0) → Passes a b → IsOurs a b → Was a b so → so (now a)
was_first a b so passes ours was =
    let last = ours_unstepped a b passes ours in
    let here : was.moment ≡ a.last = omega (arith, last, was.later, was.upto) in
    subst so (ap b.at here ∙ passes.past.stay a.last (omega arith)) was.is

-- ---- what a look shows

thing_kind : (thing : Thing) (time : Time) → is_dir_kind (stat_of thing time).kind ≡ is_dir_thing thing
thing_kind (a_thing.File exec bytes) time = refl
thing_kind (a_thing.Link target) time = refl
thing_kind a_thing.Dir time = refl
thing_kind a_thing.Other time = refl

abbrev dir_shown : Option Stat → Bool
dir_shown None = false
dir_shown (Some stat) = is_dir_kind stat.kind

abbrev shown_of : Option Placed → Option Stat
shown_of there = option_map (λ placed. stat_of placed.thing placed.mtime) there

shown_some : (there : Option Placed) → is_some (shown_of there) ≡ is_some there
shown_some None = refl
shown_some (Some placed) = refl

shown_dir : (there : Option Placed) → dir_shown (shown_of there) ≡ is_dir there
shown_dir None = refl
shown_dir (Some placed) = thing_kind placed.thing placed.mtime

there_some : (moment : Moment) (path : List ℕ) (shown : Option Stat) → shown ≡ stat_at moment path → is_some (moment.things path) ≡ is_some shown
there_some moment path shown is = sym (shown_some (moment.things path)) ∙ ap is_some (sym is)

there_dir : (moment : Moment) (path : List ℕ) (shown : Option Stat) → shown ≡ stat_at moment path → is_dir (moment.things path) ≡ dir_shown shown
there_dir moment path shown is = sym (shown_dir (moment.things path)) ∙ ap dir_shown (sym is)

pub none_there : (there : Option Placed) → is_some there ≡ false → there ≡ None
none_there None h = refl
none_there (Some placed) h = absurd (true≢false h)

-- ---- the looks above a path

pub above_root : (path : List ℕ) (h : History) → is_path path ≡ true → parent_of path ≡ None → SeesAbove path h h true
above_root path h good parent at below = absurd (true≢false (sym below ∙ above_none path good parent at))

module _ (path dir : List ℕ) (parent : parent_of path ≡ Some dir) (a b : History) where
  pub sees_barred : SeesAbove dir a b false → SeesAbove path a b false
  sees_barred sees told =
      let was = sees told in
      record {
        moment = was.moment;
        later = was.later;
        upto = was.upto;
        is = record { at = was.is.at; above = below_trans was.is.at dir path was.is.above (below_parent dir path parent); there = was.is.there; other = was.is.other };
      }

module _ (path dir : List ℕ) (good : is_path path ≡ true) (parent : parent_of path ≡ Some dir) (a b c : History) (first : Passes a b) (second : Passes b c) where
  by_kind : (there is : Bool) → (IsTrue b.told → is_some ((now c).things dir) ≡ there) → (IsTrue b.told → is_dir ((now c).things dir) ≡ is) → (is ≡ false → there ≡ true)
      → SeesAbove dir a b true → SeesAbove path a c is
  by_kind there true some kind only sees = λ at below told. elim (below_by_parent at dir path good parent below) [
    | inl here ↦ was_last a c (IsDirOrNone at) (omega (arith, first.past.later, second.past.later)) (λ stands. ap (λ (p : List ℕ). is_dir ((now c).things p)) here ∙ kind (first.past.told ∙ told))
    | inr more ↦ was_wider a a b c (IsDirOrNone at) (omega arith) second.past (sees at more told)
  ]
  by_kind there false some kind only sees = λ told.
      was_last a c (λ moment. IsBarred path moment.things) (omega (arith, first.past.later, second.past.later))
      (record { at = dir; above = below_parent dir path parent; there = some (first.past.told ∙ told) ∙ only refl; other = kind (first.past.told ∙ told) })

  -- nothing stands in the directory's place, or a directory
  by_none : SeesAbove dir a b true → (IsTrue b.told → is_some ((now c).things dir) ≡ false) → SeesAbove path a c true
  by_none sees none at below told = elim (below_by_parent at dir path good parent below) [
    | inl here ↦ was_last a c (IsDirOrNone at) (omega (arith, first.past.later, second.past.later))
        (λ stands. absurd (true≢false (sym stands ∙ ap (λ (p : List ℕ). is_some ((now c).things p)) here ∙ none (first.past.told ∙ told))))
    | inr more ↦ was_wider a a b c (IsDirOrNone at) (omega arith) second.past (sees at more told)
  ]

  pub sees_none : (IsTrue b.told → None ≡ stat_at (now c) dir) → SeesAbove dir a b true → SeesAbove path a c true
  sees_none found sees = by_none sees (λ told. there_some (now c) dir None (found told))

  pub sees_some : (stat : Stat) → (IsTrue b.told → Some stat ≡ stat_at (now c) dir) → SeesAbove dir a b true → SeesAbove path a c (is_dir_kind stat.kind)
  sees_some stat found = by_kind true (is_dir_kind stat.kind) (λ told. there_some (now c) dir (Some stat) (found told)) (λ told. there_dir (now c) dir (Some stat) (found told)) (λ _. refl)

-- ---- the look at the path

module _ (path : List ℕ) (a b c : History) (first : Passes a b) (second : Passes b c) where
  pub path_barred : SeesAbove path a b false → SeesPath path a b false
  path_barred sees told = let was = sees told in record { moment = was.moment; later = was.later; upto = was.upto; is = inr was.is }

  pub path_none : (IsTrue b.told → None ≡ stat_at (now c) path) → SeesAbove path a b true → SeesPath path a c true
  path_none found sees = record {
    here = λ told. was_last a c (λ moment. moment.things path ≡ None) (omega (arith, first.past.later, second.past.later)) (none_there ((now c).things path) (there_some (now c) path None (found (first.past.told ∙ told))));
    above = λ dir below told. was_wider a a b c (IsDirOrNone dir) (omega arith) second.past (sees dir below told);
  }

  pub path_some : (stat : Stat) → (IsTrue b.told → Some stat ≡ stat_at (now c) path) → SeesPath path a c false
  path_some stat found told =
      was_last a c (IsTaken path) (omega (arith, first.past.later, second.past.later)) (inl (there_some (now c) path (Some stat) (found (first.past.told ∙ told))))
