-- What the caller itself does to a working copy: it takes a file or link away, puts one anew, or puts more bytes behind a file.
use Rattle.std.specs.Prelude.{ℕ, zero, suc, ◌≡◌, ◌≤◌, ◌⊎◌, ◌==◌, Bool, true, false, ◌&&◌, if◌then◌else◌, List, [], ◌∷◌, ◌++◌, length, take, Option, Some, None, is_some}
use Rattle.std.specs.Str.{bytes_eq}
use Rattle.hg_base.specs.PathText.{is_below, is_same_dir, parent_of}
use Rattle.hg_base.specs.Times.{IsAtMost}
use Rattle.hg_base.specs.declared.time.Time.{Time}
use Rattle.hg_base.specs.declared.stat.Kind.{Kind}
use Rattle.hg_base.specs.declared.stat.Kind.TheVariants as a_kind
use Rattle.hg_tree.specs.declared.thing.Thing.{Thing}
use Rattle.hg_tree.specs.declared.thing.Thing.TheVariants as a_thing
use Rattle.hg_tree.specs.declared.thing.Placed.{Placed}
use Rattle.hg_tree.specs.Change.{dir_of}
use Rattle.hg_tree.specs.History.{History, Extends, By, Passes, us, others, now}
use Rattle.hg_tree.specs.Moment.{Moment, Things, bytes_at, is_dir, is_short_thing}

-- a text up to its first slash
abbrev pub first_part : List ℕ → List ℕ
first_part [] = []
first_part (b ∷ text) = if b == 47 then [] else b ∷ first_part text

-- what stands right in a directory on the way to a path below it: the path up to the end of the name that is behind the directory
abbrev pub toward : List ℕ → List ℕ → List ℕ
toward [] [] = []
toward [] (b ∷ path) = b ∷ first_part path
toward (a ∷ dir) [] = []
toward (a ∷ dir) (b ∷ path) = b ∷ toward dir path

-- a thing is made anew at a path. A directory above gains a name where nothing stood in it on the way to the path: it has the time of
-- the thing then, and is made where it is missing
abbrev pub after_made : List ℕ → Thing → Time → Things → Things
after_made path thing time things at =
    if bytes_eq path at
    then Some (record { thing = thing; mtime = time })
    else (if is_below at path then (if is_some (things (toward at path)) then things at else Some (dir_of time)) else things at)

abbrev pub extended_thing : List ℕ → Thing → Thing
extended_thing more (a_thing.File exec bytes) = a_thing.File exec (bytes ++ more)
extended_thing more (a_thing.Link target) = a_thing.Link target
extended_thing more a_thing.Dir = a_thing.Dir
extended_thing more a_thing.Other = a_thing.Other

-- what stands at a path once more bytes are put behind it at that time
abbrev pub extended : List ℕ → Time → Option Placed → Option Placed
extended more time None = None
extended more time (Some placed) = Some (record { thing = extended_thing more placed.thing; mtime = time })

-- a file has more bytes, and no directory another name
abbrev pub after_extended : List ℕ → List ℕ → Time → Things → Things
after_extended path more time things at = if bytes_eq path at then extended more time (things path) else things at

-- what is put as that kind with these bytes
abbrev pub put_thing : Kind → Bool → List ℕ → Thing
put_thing a_kind.File exec bytes = a_thing.File exec bytes
put_thing a_kind.Link exec bytes = a_thing.Link bytes
put_thing a_kind.Dir exec bytes = a_thing.Dir
put_thing a_kind.Other exec bytes = a_thing.Other

-- a `put` at place 0 makes the thing anew, also where an empty file stands there; at another place it puts more bytes behind a file, which
-- keeps its executable bit
abbrev pub after_put : Kind → Bool → ℕ → List ℕ → List ℕ → Time → Things → Things
after_put kind exec zero bytes path time things = after_made path (put_thing kind exec bytes) time things
after_put kind exec (suc place) bytes path time things = after_extended path bytes time things

-- a thing is taken away, and the directory that it stood in has that time
abbrev pub after_unlink : List ℕ → Time → Things → Things
after_unlink path time things at =
    if bytes_eq path at then None else (if is_same_dir (Some at) (parent_of path) then Some (dir_of time) else things at)

-- what a `put` may ask for: a file or a link
abbrev pub IsPuttable : Kind → Type 0
IsPuttable a_kind.File = Unit {0}
IsPuttable a_kind.Link = Unit {0}
IsPuttable a_kind.Dir = ⊥
IsPuttable a_kind.Other = ⊥

abbrev pub has_length_thing : ℕ → Thing → Bool
has_length_thing n (a_thing.File exec bytes) = length bytes == n
has_length_thing n (a_thing.Link target) = false
has_length_thing n a_thing.Dir = false
has_length_thing n a_thing.Other = false

-- a file of that length stands there
abbrev pub has_length : ℕ → Option Placed → Bool
has_length n None = false
has_length n (Some placed) = has_length_thing n placed.thing

abbrev pub is_loose_thing : Thing → Bool
is_loose_thing (a_thing.File exec bytes) = true
is_loose_thing (a_thing.Link target) = true
is_loose_thing a_thing.Dir = false
is_loose_thing a_thing.Other = false

-- nothing stands there, or a file or link, which another may take the place of
abbrev pub is_loose : Option Placed → Bool
is_loose None = true
is_loose (Some placed) = is_loose_thing placed.thing

-- what is there of the directories above a path is a directory
abbrev pub IsClear : List ℕ → Things → Type 0
IsClear path things = (dir : List ℕ) → is_below dir path ≡ true → is_some (things dir) ≡ true → is_dir (things dir) ≡ true

-- a directory above a path is something else
pub record IsBarred (path : List ℕ) (things : Things) : Type 0 where
  pub at : List ℕ
  pub above : is_below at path ≡ true
  pub there : is_some (things at) ≡ true
  pub other : is_dir (things at) ≡ false

-- a thing of that kind with these bytes is one that a working copy can hold, where it is made anew
abbrev pub is_puttable_at : Kind → Bool → ℕ → List ℕ → Option Placed → Bool
is_puttable_at kind exec zero bytes there = is_loose there && is_short_thing (put_thing kind exec bytes)
is_puttable_at kind exec (suc place) bytes there = has_length (suc place) there

-- when a `put` is done: by what stands at the path, and by what stands above it
pub record CanPut (kind : Kind) (exec : Bool) (place : ℕ) (bytes path : List ℕ) (things : Things) : Type 0 where
  pub here : is_puttable_at kind exec place bytes (things path) ≡ true
  pub above : IsClear path things

-- and when it answers that it can't be: exactly where it can't
abbrev pub CannotPut : Kind → Bool → ℕ → List ℕ → List ℕ → Things → Type 0
CannotPut kind exec place bytes path things = (is_puttable_at kind exec place bytes (things path) ≡ false) ⊎ IsBarred path things

-- the step of an `unlink`, and that of a `put`: what it makes has the clock of the moment that it makes
pub record IsUnlink (path : List ℕ) (before after : Moment) : Type 0 where
  pub there : is_some (bytes_at before path) ≡ true
  pub clock : IsAtMost before.clock after.clock
  pub things : (at : List ℕ) → after.things at ≡ after_unlink path after.clock before.things at

pub record IsPut (kind : Kind) (exec : Bool) (place : ℕ) (bytes path : List ℕ) (before after : Moment) : Type 0 where
  pub can : CanPut kind exec place bytes path before.things
  pub clock : IsAtMost before.clock after.clock
  pub things : (at : List ℕ) → after.things at ≡ after_put kind exec place bytes path after.clock before.things at

-- what stands at a path is as it was, or has come by a `put` of a front of some bytes
abbrev pub IsFrontPut : Kind → Bool → ℕ → List ℕ → List ℕ → Time → Things → Option Placed → Type 0
IsFrontPut kind exec place bytes path time things there =
    (there ≡ things path) ⊎ ((some : ℕ) × (there ≡ after_put kind exec place (take some bytes) path time things path))

-- a directory is as it was, or is a directory by now where it was one or nothing was there
abbrev pub StaysDir : Option Placed → Option Placed → Type 0
StaysDir before after = (after ≡ before) ⊎ ((is_some before ≡ is_dir before) × (is_dir after ≡ true))

-- what a `put` that failed may have left
pub record IsPutInPart (kind : Kind) (exec : Bool) (place : ℕ) (bytes path : List ℕ) (before after : Moment) : Type 0 where
  pub can : CanPut kind exec place bytes path before.things
  pub clock : IsAtMost before.clock after.clock
  pub here : IsFrontPut kind exec place bytes path after.clock before.things (after.things path)
  pub above : (at : List ℕ) → is_below at path ≡ true → StaysDir (before.things at) (after.things at)
  pub apart : (at : List ℕ) → bytes_eq path at ≡ false → is_below at path ≡ false → after.things at ≡ before.things at

-- the last step is the caller's own, the only one of its call, and is such a step; others may have made some just before it
pub record Acts (step : Moment → Moment → Type 0) (old new : History) : Type 0 where
  pub past : Extends old new
  pub before : ℕ
  pub last : new.last ≡ suc before
  pub later : old.last ≤ before
  pub by_others : By others new old.last before
  pub by_us : new.who before ≡ us
  pub made : step (new.at before) (new.at (suc before))

-- what an `unlink` came to, by its answer, and one that failed
abbrev pub Unlinks : List ℕ → Bool → History → History → Type 0
Unlinks path true old new = Acts (IsUnlink path) old new
Unlinks path false old new = Passes old new × (bytes_at (now new) path ≡ None)

abbrev pub MayUnlink : List ℕ → History → History → Type 0
MayUnlink path old new = Passes old new ⊎ Acts (IsUnlink path) old new

-- what a `put` came to, by its answer, and one that failed
abbrev pub Puts : Kind → Bool → ℕ → List ℕ → List ℕ → Bool → History → History → Type 0
Puts kind exec place bytes path true old new = Acts (IsPut kind exec place bytes path) old new
Puts kind exec place bytes path false old new = Passes old new × CannotPut kind exec place bytes path (now new).things

abbrev pub MayPut : Kind → Bool → ℕ → List ℕ → List ℕ → History → History → Type 0
MayPut kind exec place bytes path old new = Passes old new ⊎ Acts (IsPutInPart kind exec place bytes path) old new
