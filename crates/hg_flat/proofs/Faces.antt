-- What a stat and a read show of a path is the same at two moments at which the path is alike.
use Rattle.std.proofs.Common.{ℕ, ◌≡◌, Bool, false, List, length, Option, Some, None, option_map, refl, sym, ◌∙◌}
use Rattle.std.specs.Option.{option_and_then}
use Rattle.hg_base.specs.declared.stat.Kind.{Kind}
use Rattle.hg_base.specs.declared.stat.Kind.TheVariants as a_kind
use Rattle.hg_base.specs.declared.stat.Stat.{Stat}
use Rattle.hg_base.specs.declared.time.Time.{Time}
use Rattle.hg_tree.specs.History.{History}
use Rattle.hg_tree.specs.Honest.{face, face_of, face_with}
use Rattle.hg_tree.specs.Moment.{Moment, bytes_at, bytes_of, stat_at, stat_of, zero_time}
use Rattle.hg_tree.specs.Still.{AreAlike, Untouched, is_exec, is_exec_thing}
use Rattle.hg_tree.specs.declared.thing.Placed.{Placed}
use Rattle.hg_tree.specs.declared.thing.Thing.{Thing}
use Rattle.hg_tree.specs.declared.thing.Thing.TheVariants as a_thing
use Rattle.hg_tree.proofs.Stillness.{alike_at}
use Rattle.hg_compare.specs.Same.{StaysShown}

stat_by : Option Kind → List ℕ → Option Time → Bool → Option Stat
stat_by None bytes time exec = None
stat_by (Some a_kind.Other) bytes time exec = Some (record { kind = a_kind.Other; exec = false; size = 0; mtime = zero_time })
stat_by (Some a_kind.File) bytes None exec = None
stat_by (Some a_kind.File) bytes (Some time) exec = Some (record { kind = a_kind.File; exec = exec; size = length bytes; mtime = time })
stat_by (Some a_kind.Link) bytes None exec = None
stat_by (Some a_kind.Link) bytes (Some time) exec = Some (record { kind = a_kind.Link; exec = false; size = length bytes; mtime = time })
stat_by (Some a_kind.Dir) bytes None exec = None
stat_by (Some a_kind.Dir) bytes (Some time) exec = Some (record { kind = a_kind.Dir; exec = false; size = 0; mtime = time })

stat_thing : (thing : Thing) (mtime : Time) (names : List ℕ → Bool)
    → stat_by (face_of thing mtime names).kind (face_of thing mtime names).bytes (face_of thing mtime names).time (is_exec_thing thing) ≡ Some (stat_of thing mtime)
unfolding stat_by
stat_thing (a_thing.File exec bytes) mtime names = refl
stat_thing (a_thing.Link target) mtime names = refl
stat_thing a_thing.Dir mtime names = refl
stat_thing a_thing.Other mtime names = refl

stat_is : (o : Option Placed) (names : List ℕ → Bool)
    → stat_by (face_with names o).kind (face_with names o).bytes (face_with names o).time (is_exec o) ≡ option_map (λ (placed : Placed). stat_of placed.thing placed.mtime) o
unfolding stat_by
stat_is None names = refl
stat_is (Some placed) names = stat_thing placed.thing placed.mtime names

pub stat_alike : (m n : Moment) (path : List ℕ) → AreAlike m n path → stat_at m path ≡ stat_at n path
stat_alike m n path alike =
    sym (stat_is (m.things path) _)
    ∙ (λ i. stat_by (alike.seen i).kind (alike.seen i).bytes (alike.seen i).time (alike.exec i))
    ∙ stat_is (n.things path) _

bytes_by : Option Kind → List ℕ → Option (List ℕ)
bytes_by None bytes = None
bytes_by (Some a_kind.File) bytes = Some bytes
bytes_by (Some a_kind.Link) bytes = Some bytes
bytes_by (Some a_kind.Dir) bytes = None
bytes_by (Some a_kind.Other) bytes = None

bytes_thing : (thing : Thing) (mtime : Time) (names : List ℕ → Bool) → bytes_by (face_of thing mtime names).kind (face_of thing mtime names).bytes ≡ bytes_of thing
unfolding bytes_by
bytes_thing (a_thing.File exec bytes) mtime names = refl
bytes_thing (a_thing.Link target) mtime names = refl
bytes_thing a_thing.Dir mtime names = refl
bytes_thing a_thing.Other mtime names = refl

bytes_is : (o : Option Placed) (names : List ℕ → Bool) → bytes_by (face_with names o).kind (face_with names o).bytes ≡ option_and_then (λ (placed : Placed). bytes_of placed.thing) o
unfolding bytes_by
bytes_is None names = refl
bytes_is (Some placed) names = bytes_thing placed.thing placed.mtime names

-- the bytes are those of the face
pub bytes_seen : (m n : Moment) (path : List ℕ) → face m path ≡ face n path → bytes_at m path ≡ bytes_at n path
bytes_seen m n path seen =
    sym (bytes_is (m.things path) _) ∙ (λ i. bytes_by (seen i).kind (seen i).bytes) ∙ bytes_is (n.things path) _

pub bytes_alike : (m n : Moment) (path : List ℕ) → AreAlike m n path → bytes_at m path ≡ bytes_at n path
bytes_alike m n path alike = bytes_seen m n path alike.seen

-- who touches nothing leaves what is shown
pub stays_shown : (old new : History) (path : List ℕ) → Untouched new old.last path → StaysShown old new path
stays_shown old new path is = record {
  stat = λ k above upto. stat_alike (new.at k) (new.at old.last) path (alike_at new old.last k path above upto is);
  bytes = λ k above upto. bytes_alike (new.at k) (new.at old.last) path (alike_at new old.last k path above upto is);
}
