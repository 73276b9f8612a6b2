-- A time that was seen, and is shown again: the path has the face that was seen then.
use Rattle.std.proofs.Common.{ℕ, ◌≡◌, ◌≤◌, List, Option, Some, None, option_map, refl, sym, ap, ◌∙◌, subst, arith}
use Rattle.std.specs.Prelude.{◌≢◌}
use Rattle.hg_base.specs.Times.{IsBefore}
use Rattle.hg_base.specs.declared.stat.Kind.{Kind}
use Rattle.hg_base.specs.declared.stat.Kind.TheVariants as a_kind
use Rattle.hg_base.specs.declared.stat.Stat.{Stat}
use Rattle.hg_base.specs.declared.time.Time.{Time}
use Rattle.hg_entry.specs.Entry.{StampData}
use Rattle.hg_mtime.specs.Stamps.{HasTime}
use Rattle.hg_tree.specs.History.{Extends, History}
use Rattle.hg_tree.specs.Honest.{Face, IsHonest, Shows, face}
use Rattle.hg_tree.specs.Moment.{Moment, kind_of, stat_at, stat_of}
use Rattle.hg_tree.specs.declared.thing.Placed.{Placed}
use Rattle.hg_tree.specs.declared.thing.Thing.{Thing}
use Rattle.hg_tree.specs.declared.thing.Thing.TheVariants as a_thing
use Rattle.hg_tree.proofs.Faces.{law, shown_by_stat, stays_past}
use Rattle.hg_tree.proofs.Stable.{time_same}
use Rattle.hg_tree.proofs.Stillness.{face_kind}
use Rattle.hg_walk.specs.Seeing.{WasSeen}

-- two times that one record has are one
pub time_one : (stamp : StampData) (a b : Time) → HasTime stamp a → HasTime stamp b → a ≡ b
time_one stamp a b p q = time_same a b (p.seconds ∙ sym q.seconds) (p.nanos ∙ sym q.nanos)

-- ---- what a stat shows of a kind

kind_thing : (thing : Thing) (mtime : Time) → (stat_of thing mtime).kind ≡ kind_of thing
kind_thing (a_thing.File exec bytes) mtime = refl
kind_thing (a_thing.Link target) mtime = refl
kind_thing a_thing.Dir mtime = refl
kind_thing a_thing.Other mtime = refl

pub kind_placed : (placed : Option Placed) (stat : Stat) → option_map (λ (p : Placed). stat_of p.thing p.mtime) placed ≡ Some stat → option_map (λ (p : Placed). kind_of p.thing) placed ≡ Some stat.kind
kind_placed None stat is = absurd (cc is)
kind_placed (Some placed) stat is = ap Some (sym (kind_thing placed.thing placed.mtime)) ∙ ap (option_map (λ (s : Stat). s.kind)) is

pub face_of_kind : (m : Moment) (path : List ℕ) (stat : Stat) → stat_at m path ≡ Some stat → (face m path).kind ≡ Some stat.kind
face_of_kind m path stat is = face_kind m path ∙ kind_placed (m.things path) stat is

pub dir_not_other : (kind : Kind) → kind ≡ a_kind.Dir → kind ≢ a_kind.Other
dir_not_other kind is = λ e. absurd (cc (sym is ∙ e))

-- ---- what was seen

pub seen_as : (A B : Face → Type 0) (h : History) (path : List ℕ) (stamp : StampData) → ((f : Face) → A f → B f) → WasSeen A h path stamp → WasSeen B h path stamp
seen_as A B h path stamp to seen = record {
  at = seen.at;
  within = seen.within;
  time = seen.time;
  shown = seen.shown;
  stamped = seen.stamped;
  past = seen.past;
  so = to (face (h.at seen.at) path) seen.so;
}

-- what was seen was seen, however the history goes on
pub seen_on : (IsSo : Face → Type 0) (old new : History) → Extends old new → (path : List ℕ) (stamp : StampData) → WasSeen IsSo old path stamp → WasSeen IsSo new path stamp
seen_on IsSo old new p path stamp seen =
    let same = sym (p.stay seen.at seen.within) in record {
      at = seen.at;
      within = omega (arith, seen.within, p.later);
      time = seen.time;
      shown = subst (λ (m : Moment). Shows m path seen.time) same seen.shown;
      stamped = seen.stamped;
      past = subst (λ (m : Moment). IsBefore seen.time m.clock) same seen.past;
      so = subst (λ (m : Moment). IsSo (face m path)) same seen.so;
    }

-- a later look that shows the recorded time shows what was seen then
pub again : (IsSo : Face → Type 0) (old new : History) → Extends old new → IsHonest new → (path : List ℕ) (stamp : StampData) → WasSeen IsSo old path stamp
    → (k : ℕ) (stat : Stat) → old.last ≤ k → k ≤ new.last → stat_at (new.at k) path ≡ Some stat → stat.kind ≢ a_kind.Other → HasTime stamp stat.mtime → IsSo (face (new.at k) path)
unfolding seen_on
again IsSo old new p honest path stamp before k stat from upto shows kind has =
    let seen = seen_on IsSo old new p path stamp before in
    let order : before.at ≤ k = omega (arith, before.within, from) in
    let time : stat.mtime ≡ seen.time = time_one stamp stat.mtime seen.time has seen.stamped in
    let now : Shows (new.at k) path seen.time = subst (λ (t : Time). Shows (new.at k) path t) time (shown_by_stat (new.at k) path stat shows kind) in
    let one : face (new.at seen.at) path ≡ face (new.at k) path = law new honest path seen.time seen.at k order upto seen.shown seen.past now seen.at (omega arith) order in
    subst IsSo one seen.so

-- between two equal looks, the first of which came behind a boundary, the path had one face
pub record IsBetween (h : History) (path : List ℕ) (before : Stat) (i l j : ℕ) : Type 0 where
  pub one : face (h.at l) path ≡ face (h.at j) path
  pub shown : Shows (h.at i) path before.mtime
  pub past : IsBefore before.mtime (h.at i).clock

pub between : (h : History) → IsHonest h → (boundary : Time) (path : List ℕ) (before : Stat) (b i l j : ℕ) → b ≤ i → i ≤ l → l ≤ j → j ≤ h.last → boundary ≡ (h.at b).clock
    → stat_at (h.at i) path ≡ Some before → stat_at (h.at j) path ≡ Some before → before.kind ≢ a_kind.Other → IsBefore before.mtime boundary → IsBetween h path before i l j
between h honest boundary path before b i l j first second third within clock look again kind past =
    let shown : Shows (h.at i) path before.mtime = shown_by_stat (h.at i) path before look kind in
    let behind : IsBefore before.mtime (h.at i).clock =
    stays_past h honest before.mtime b i first (omega (arith, second, third, within)) (subst (λ (t : Time). IsBefore before.mtime t) clock past) in record {
      one = law h honest path before.mtime i j (omega (arith, second, third)) within shown behind (shown_by_stat (h.at j) path before again kind) l second third;
      shown = shown;
      past = behind;
    }
