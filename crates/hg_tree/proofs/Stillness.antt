-- What stays as it was: over parts of a span, and between two moments of one.
use Rattle.std.proofs.Common.{ℕ, ◌≡◌, ◌≤◌, Bool, List, Option, Some, None, option_map, refl, sym, ap, ◌∙◌, subst, arith, []}
use Rattle.hg_tree.specs.declared.thing.Thing.TheVariants as a_thing
use Rattle.hg_tree.specs.declared.thing.Thing.{Thing}
use Rattle.hg_tree.specs.declared.thing.Placed.{Placed}
use Rattle.hg_tree.specs.Moment.{Moment, kind_of}
use Rattle.hg_tree.specs.History.{History, Extends, Passes, IsOurs, now}
use Rattle.hg_tree.proofs.Spans.{ours_unstepped}
use Rattle.hg_tree.specs.Honest.{Face, face, face_with}
use Rattle.hg_tree.specs.Still.{AreAlike, Keeps, KeepsFace, Still, Untouched, hg_in, is_exec, kind_at}

-- ---- the kind is part of the face

kind_placed : (names : List ℕ → Bool) (placed : Placed) → (face_with names (Some placed)).kind ≡ Some (kind_of placed.thing)
kind_placed names placed = kind_thing placed.thing placed
  where
    kind_thing : (thing : Thing) (placed : Placed) → (face_with names (Some (record placed { thing = thing }))).kind ≡ Some (kind_of thing)
    kind_thing (a_thing.File exec bytes) placed = refl
    kind_thing (a_thing.Link target) placed = refl
    kind_thing a_thing.Dir placed = refl
    kind_thing a_thing.Other placed = refl

kind_with : (names : List ℕ → Bool) (o : Option Placed) → (face_with names o).kind ≡ option_map (λ placed. kind_of placed.thing) o
kind_with names None = refl
kind_with names (Some placed) = kind_placed names placed

pub face_kind : (moment : Moment) (path : List ℕ) → (face moment path).kind ≡ kind_at moment path
face_kind moment path = kind_with _ (moment.things path)

pub same_kind : (m n : Moment) (path : List ℕ) → face m path ≡ face n path → kind_at m path ≡ kind_at n path
same_kind m n path same = sym (face_kind m path) ∙ ap (λ (f : Face). f.kind) same ∙ face_kind n path

-- ---- parts of a span

keeps_first : {A : Type 0} (shown : Moment → A) (a b : History) (from : ℕ) → Extends a b → from ≤ a.last → Keeps shown b from → Keeps shown a from
keeps_first shown a b from p within keeps k above upto =
    ap shown (sym (p.stay k upto)) ∙ keeps k above (omega (arith, upto, p.later)) ∙ ap shown (p.stay from within)

keeps_second : {A : Type 0} (shown : Moment → A) (h : History) (from later : ℕ) → from ≤ later → later ≤ h.last → Keeps shown h from → Keeps shown h later
keeps_second shown h from later order within keeps k above upto = keeps k (omega (arith, order, above)) upto ∙ sym (keeps later order within)

face_first : (a b : History) (from : ℕ) (path : List ℕ) → Extends a b → from ≤ a.last → KeepsFace b from path → KeepsFace a from path
face_first a b from path p within keeps = record {
  seen = keeps_first (λ moment. face moment path) a b from p within keeps.seen;
  exec = keeps_first (λ moment. is_exec (moment.things path)) a b from p within keeps.exec;
}

face_second : (h : History) (from later : ℕ) (path : List ℕ) → from ≤ later → later ≤ h.last → KeepsFace h from path → KeepsFace h later path
face_second h from later path order within keeps = record {
  seen = keeps_second (λ moment. face moment path) h from later order within keeps.seen;
  exec = keeps_second (λ moment. is_exec (moment.things path)) h from later order within keeps.exec;
}

-- who touches nothing over a span touches nothing over its first part, nor over its second
pub untouched_first : (a b : History) (from : ℕ) (path : List ℕ) → Extends a b → from ≤ a.last → Untouched b from path → Untouched a from path
untouched_first a b from path p within is = record {
  told = sym p.told ∙ is.told;
  own = face_first a b from path p within is.own;
  above = λ dir below. keeps_first (λ moment. kind_at moment dir) a b from p within (is.above dir below);
  hg = λ dir below. keeps_first (λ moment. kind_at moment (hg_in dir)) a b from p within (is.hg dir below);
}

pub untouched_second : (h : History) (from later : ℕ) (path : List ℕ) → from ≤ later → later ≤ h.last → Untouched h from path → Untouched h later path
untouched_second h from later path order within is = record {
  told = is.told;
  own = face_second h from later path order within is.own;
  above = λ dir below. keeps_second (λ moment. kind_at moment dir) h from later order within (is.above dir below);
  hg = λ dir below. keeps_second (λ moment. kind_at moment (hg_in dir)) h from later order within (is.hg dir below);
}

keeps_kind : (h : History) (from : ℕ) (path : List ℕ) → KeepsFace h from path → Keeps (λ moment. kind_at moment path) h from
keeps_kind h from path keeps k above upto = same_kind (h.at k) (h.at from) path (keeps.seen k above upto)

-- what is still is untouched
pub still_untouched : (h : History) (from : ℕ) (besides : List (List ℕ)) (path : List ℕ) → Still h from besides path → Untouched h from path
still_untouched h from besides path is = record {
  told = is.told;
  own = is.own;
  above = λ dir below. keeps_kind h from dir (is.above dir below);
  hg = is.hg;
}

-- ---- between two moments

-- an untouched path is alike at the first moment and at any later one
pub alike_at : (h : History) (from k : ℕ) (path : List ℕ) → from ≤ k → k ≤ h.last → Untouched h from path → AreAlike (h.at k) (h.at from) path
alike_at h from k path above upto is = record {
  seen = is.own.seen k above upto;
  exec = is.own.exec k above upto;
  above = λ dir below. is.above dir below k above upto;
  hg = λ dir below. is.hg dir below k above upto;
}

-- over a span with a state in between
pub alike_between : (old mid new : History) (path : List ℕ) → Extends old mid → Extends mid new → Untouched new old.last path → AreAlike (now mid) (now old) path
alike_between old mid new path p q is =
    subst (λ (m : Moment). AreAlike (now mid) m path) (p.stay old.last (omega arith))
    (subst (λ (m : Moment). AreAlike m (mid.at old.last) path) refl
    (alike_at mid old.last mid.last path p.later (omega arith) (untouched_first mid new old.last path q p.later is)))

-- ---- nobody else steps

keeps_last : {A : Type 0} (shown : Moment → A) (old new : History) → new.last ≡ old.last → Keeps shown new old.last
keeps_last shown old new none k above upto = ap (λ (n : ℕ). shown (new.at n)) (omega (arith, above, upto, none))

face_last : (old new : History) → new.last ≡ old.last → (path : List ℕ) → KeepsFace new old.last path
face_last old new none path = record {
  seen = keeps_last (λ moment. face moment path) old new none;
  exec = keeps_last (λ moment. is_exec (moment.things path)) old new none;
}

-- over calls that only ask each path is still
pub ours_still : (old new : History) → Passes old new → IsOurs old new → (besides : List (List ℕ)) (path : List ℕ) → Still new old.last besides path
ours_still old new passes ours besides path =
    let none = ours_unstepped old new passes ours in record {
      told = passes.past.told ∙ ours.told;
      own = face_last old new none path;
      above = λ dir below. face_last old new none dir;
      hg = λ dir below. keeps_last (λ moment. kind_at moment (hg_in dir)) old new none;
      others = λ other among. face_last old new none other;
    }

pub ours_untouched : (old new : History) → Passes old new → IsOurs old new → (path : List ℕ) → Untouched new old.last path
ours_untouched old new passes ours path = still_untouched new old.last [] path (ours_still old new passes ours [] path)
