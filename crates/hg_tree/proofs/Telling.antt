-- A face in the words of a stat, of what can be read and of the names in a directory.
use Rattle.std.proofs.Common.{ℕ, ◌≡◌, Bool, true, false, ◌&&◌, List, [], length, Option, Some, None, option_map, refl, sym, ap, ◌∙◌}
use Rattle.std.specs.Prelude.{is_some}
use Rattle.std.specs.Option.{option_and_then}
use Rattle.std.proofs.lemmas.Bool.{and_parts}
use Rattle.hg_base.specs.PathText.{is_component, joined}
use Rattle.hg_base.specs.declared.stat.Kind.{Kind}
use Rattle.hg_base.specs.declared.stat.Kind.TheVariants as a_kind
use Rattle.hg_base.specs.declared.stat.Stat.{Stat}
use Rattle.hg_base.specs.declared.time.Time.{Time}
use Rattle.hg_tree.specs.declared.thing.Placed.{Placed}
use Rattle.hg_tree.specs.declared.thing.Thing.{Thing}
use Rattle.hg_tree.specs.declared.thing.Thing.TheVariants as a_thing
use Rattle.hg_tree.specs.Honest.{Face, face, face_of, face_with, has_name}
use Rattle.hg_tree.specs.Moment.{Moment, bytes_at, bytes_of, is_among, is_dir, is_dir_thing, kind_of, stat_of, zero_time}
use Rattle.hg_tree.specs.Still.{is_exec, is_exec_thing}
use Rattle.hg_tree.proofs.Stillness.{face_kind}
use Rattle.hg_tree.specs.Telling.{FaceIsListed, FaceIsTold, FaceTells, FaceWithExec, without_exec}

-- ---- what a face shows

-- the stat of a face, with an executable bit
stat_by : Option Kind → List ℕ → Option Time → Bool → Option Stat
stat_by None bytes time exec = None
stat_by (Some a_kind.Other) bytes time exec = Some (record { kind = a_kind.Other; exec = false; size = 0; mtime = zero_time })
stat_by (Some a_kind.File) bytes None exec = None
stat_by (Some a_kind.File) bytes (Some time) exec = Some (record { kind = a_kind.File; exec = exec; size = length bytes; mtime = time })
stat_by (Some a_kind.Link) bytes None exec = None
stat_by (Some a_kind.Link) bytes (Some time) exec = Some (record { kind = a_kind.Link; exec = false; size = length bytes; mtime = time })
stat_by (Some a_kind.Dir) bytes None exec = None
stat_by (Some a_kind.Dir) bytes (Some time) exec = Some (record { kind = a_kind.Dir; exec = false; size = 0; mtime = time })

stat_of_face : Face → Bool → Option Stat
stat_of_face seen exec = stat_by seen.kind seen.bytes seen.time exec

stat_thing : (thing : Thing) (mtime : Time) (names : List ℕ → Bool) → stat_of_face (face_of thing mtime names) (is_exec_thing thing) ≡ Some (stat_of thing mtime)
unfolding stat_of_face stat_by
stat_thing (a_thing.File exec bytes) mtime names = refl
stat_thing (a_thing.Link target) mtime names = refl
stat_thing a_thing.Dir mtime names = refl
stat_thing a_thing.Other mtime names = refl

stat_is : (o : Option Placed) (names : List ℕ → Bool) → stat_of_face (face_with names o) (is_exec o) ≡ option_map (λ (placed : Placed). stat_of placed.thing placed.mtime) o
unfolding stat_of_face stat_by
stat_is None names = refl
stat_is (Some placed) names = stat_thing placed.thing placed.mtime names

plain_thing : (thing : Thing) (mtime : Time) (names : List ℕ → Bool) → stat_of_face (face_of thing mtime names) false ≡ Some (without_exec (stat_of thing mtime))
unfolding stat_of_face stat_by
plain_thing (a_thing.File exec bytes) mtime names = refl
plain_thing (a_thing.Link target) mtime names = refl
plain_thing a_thing.Dir mtime names = refl
plain_thing a_thing.Other mtime names = refl

plain_is : (o : Option Placed) (names : List ℕ → Bool)
    → stat_of_face (face_with names o) false ≡ option_map without_exec (option_map (λ (placed : Placed). stat_of placed.thing placed.mtime) o)
unfolding stat_of_face stat_by
plain_is None names = refl
plain_is (Some placed) names = plain_thing placed.thing placed.mtime names

bytes_by : Option Kind → List ℕ → Option (List ℕ)
bytes_by None bytes = None
bytes_by (Some a_kind.File) bytes = Some bytes
bytes_by (Some a_kind.Link) bytes = Some bytes
bytes_by (Some a_kind.Dir) bytes = None
bytes_by (Some a_kind.Other) bytes = None

bytes_thing : (thing : Thing) (mtime : Time) (names : List ℕ → Bool) → bytes_by (face_of thing mtime names).kind (face_of thing mtime names).bytes ≡ bytes_of thing
unfolding bytes_by
bytes_thing (a_thing.File exec bytes) mtime names = refl
bytes_thing (a_thing.Link target) mtime names = refl
bytes_thing a_thing.Dir mtime names = refl
bytes_thing a_thing.Other mtime names = refl

bytes_is : (o : Option Placed) (names : List ℕ → Bool) → bytes_by (face_with names o).kind (face_with names o).bytes ≡ option_and_then (λ (placed : Placed). bytes_of placed.thing) o
unfolding bytes_by
bytes_is None names = refl
bytes_is (Some placed) names = bytes_thing placed.thing placed.mtime names

names_thing : (thing : Thing) (mtime : Time) (names : List ℕ → Bool) (name : List ℕ) → (face_of thing mtime names).names name ≡ names name
names_thing (a_thing.File exec bytes) mtime names name = refl
names_thing (a_thing.Link target) mtime names name = refl
names_thing a_thing.Dir mtime names name = refl
names_thing a_thing.Other mtime names name = refl

names_is : (o : Option Placed) (names : List ℕ → Bool) (name : List ℕ) → (face_with names o).names name ≡ names name
names_is None names name = refl
names_is (Some placed) names name = names_thing placed.thing placed.mtime names name

pub face_names : (m : Moment) (path name : List ℕ) → (face m path).names name ≡ has_name m path name
face_names m path name = names_is (m.things path) (has_name m path) name

dir_thing : (thing : Thing) → Some (kind_of thing) ≡ Some a_kind.Dir → is_dir_thing thing ≡ true
dir_thing (a_thing.File exec bytes) is = absurd (cc is)
dir_thing (a_thing.Link target) is = absurd (cc is)
dir_thing a_thing.Dir is = refl
dir_thing a_thing.Other is = absurd (cc is)

dir_is : (o : Option Placed) → option_map (λ (placed : Placed). kind_of placed.thing) o ≡ Some a_kind.Dir → is_dir o ≡ true
dir_is None is = absurd (cc is)
dir_is (Some placed) is = dir_thing placed.thing is

-- where a face is a directory's, a directory stands
pub face_dir : (m : Moment) (path : List ℕ) → (face m path).kind ≡ Some a_kind.Dir → is_dir (m.things path) ≡ true
face_dir m path is = dir_is (m.things path) (sym (face_kind m path) ∙ is)

-- one face, one text
pub same_bytes_of_face : (m n : Moment) (path : List ℕ) → face m path ≡ face n path → bytes_at m path ≡ bytes_at n path
same_bytes_of_face m n path seen = sym (bytes_is (m.things path) _) ∙ ap (λ (f : Face). bytes_by f.kind f.bytes) seen ∙ bytes_is (n.things path) _

pub face_tells : FaceTells
face_tells m n path seen = record {
  stat = sym (plain_is (m.things path) _) ∙ ap (λ (f : Face). stat_of_face f false) seen ∙ plain_is (n.things path) _;
  bytes = same_bytes_of_face m n path seen;
  names = λ name. sym (face_names m path name) ∙ ap (λ (f : Face). f.names name) seen ∙ face_names n path name;
}

pub face_with_exec : FaceWithExec
face_with_exec m n path seen exec =
    sym (stat_is (m.things path) _) ∙ ap (λ (f : Face). stat_of_face f (is_exec (m.things path))) seen
    ∙ ap (λ (b : Bool). stat_of_face (face n path) b) exec ∙ stat_is (n.things path) _

-- ---- a face by what is shown

or_empty : Option (List ℕ) → List ℕ
or_empty None = []
or_empty (Some bytes) = bytes

told_as : Kind → List ℕ → Time → (List ℕ → Bool) → Face
told_as a_kind.File bytes mtime names = record { kind = Some a_kind.File; bytes = bytes; time = Some mtime; names = names }
told_as a_kind.Link bytes mtime names = record { kind = Some a_kind.Link; bytes = bytes; time = Some mtime; names = names }
told_as a_kind.Dir bytes mtime names = record { kind = Some a_kind.Dir; bytes = []; time = Some mtime; names = names }
told_as a_kind.Other bytes mtime names = record { kind = Some a_kind.Other; bytes = []; time = None; names = names }

face_by : Option Stat → Option (List ℕ) → (List ℕ → Bool) → Face
face_by None bytes names = record { kind = None; bytes = []; time = None; names = names }
face_by (Some stat) bytes names = told_as stat.kind (or_empty bytes) stat.mtime names

told_thing : (thing : Thing) (mtime : Time) (names : List ℕ → Bool) → face_of thing mtime names ≡ face_by (Some (without_exec (stat_of thing mtime))) (bytes_of thing) names
unfolding face_by told_as or_empty
told_thing (a_thing.File exec bytes) mtime names = refl
told_thing (a_thing.Link target) mtime names = refl
told_thing a_thing.Dir mtime names = refl
told_thing a_thing.Other mtime names = refl

told_is : (o : Option Placed) (names : List ℕ → Bool)
    → face_with names o
    ≡ face_by (option_map without_exec (option_map (λ (placed : Placed). stat_of placed.thing placed.mtime) o)) (option_and_then (λ (placed : Placed). bytes_of placed.thing) o) names
unfolding face_by
told_is None names = refl
told_is (Some placed) names = told_thing placed.thing placed.mtime names

pub face_is_told : FaceIsTold
face_is_told m n path same =
    told_is (m.things path) _ ∙ (λ i. face_by (same.stat i) (same.bytes i) (λ name. same.names name i)) ∙ sym (told_is (n.things path) _)

-- ---- the names

same_tests : (a b : Bool) → (a ≡ true → b ≡ true) → (b ≡ true → a ≡ true) → a ≡ b
same_tests true b there back = sym (there refl)
same_tests false true there back = back refl
same_tests false false there back = refl

pub face_is_listed : FaceIsListed
face_is_listed m dir names lists name = face_names m dir name ∙ same
  where
    same : has_name m dir name ≡ is_among name names
    same =
        same_tests (has_name m dir name) (is_among name names)
        (λ has.
        let parts = and_parts (is_dir (m.things dir) && is_component name) (is_some (m.things (joined (Some dir) name))) has in
        lists.1.all name (and_parts (is_dir (m.things dir)) (is_component name) parts.0).1 parts.1)
        (λ among.
        let parts = and_parts (is_component name) (is_some (m.things (joined (Some dir) name))) (lists.1.stand name among) in
        cc (lists.0, parts.0, parts.1))
