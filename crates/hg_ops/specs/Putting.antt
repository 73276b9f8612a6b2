-- The course of a copy in the working copy: the looks at the target, and piece by piece what is put there.
use Rattle.std.specs.Prelude.{ℕ, ◌≡◌, ◌≤◌, ◌<◌, ◌+◌, ◌⊎◌, Bool, true, false, IsTrue, List, [], ◌∷◌, take, drop, Option, Some, None, Result, Ok, Err, IfOk}
use Rattle.std.specs.Str.{bytes_eq}
use Rattle.hg_base.specs.PathText.{is_below}
use Rattle.hg_base.specs.declared.stat.Kind.{Kind}
use Rattle.hg_base.specs.declared.stat.Kind.TheVariants as a_kind
use Rattle.hg_base.specs.declared.stat.Stat.{Stat}
use Rattle.hg_base.specs.declared.time.Time.{Time}
use Rattle.hg_compare.specs.Same.{Reads}
use Rattle.hg_ops.specs.Parts.{GoesUpTo, HasCopy, HasPart, IsPart, PutsAll, PutsInPart, PutsPart, PutsPieces, PutsSome}
use Rattle.hg_ops.specs.Seen.{During, IsDirOrNone, IsTaken, IsVacant, Was}
use Rattle.hg_ops.specs.declared.copy_refusal.CopyRefusal.{CopyRefusal}
use Rattle.hg_ops.specs.declared.copy_refusal.CopyRefusal.TheVariants as a_word
use Rattle.hg_ops.specs.declared.putting.Piece.{Piece}
use Rattle.hg_ops.specs.declared.putting.Piece.TheVariants as a_piece
use Rattle.hg_ops.specs.declared.refusal.OpFault.{OpFault}
use Rattle.hg_ops.specs.declared.refusal.OpFault.TheVariants as a_fault
use Rattle.hg_ops.specs.declared.refusal.Refusal.TheVariants as a_refusal
use Rattle.hg_tree.specs.History.{History, Extends, IsOurs, Passes, now}
use Rattle.hg_tree.specs.Moment.{Moment, bytes_at, is_short_thing, stat_at}
use Rattle.hg_tree.specs.Own.{CannotPut, IsBarred, IsClear, IsPut, put_thing}
use Rattle.hg_tree.specs.Touched.{ChangesOnly, TouchesOnly}

-- ---- the looks at the target

abbrev pub is_dir_kind : Kind → Bool
is_dir_kind a_kind.File = false
is_dir_kind a_kind.Link = false
is_dir_kind a_kind.Dir = true
is_dir_kind a_kind.Other = false

abbrev pub is_link_kind : Kind → Bool
is_link_kind a_kind.File = false
is_link_kind a_kind.Link = true
is_link_kind a_kind.Dir = false
is_link_kind a_kind.Other = false

-- what looks above a path showed
abbrev pub SeesAbove : List ℕ → History → History → Bool → Type 0
SeesAbove path old new true = (dir : List ℕ) → is_below dir path ≡ true → During old new (IsDirOrNone dir)
SeesAbove path old new false = During old new (λ moment. IsBarred path moment.things)

-- what looks above it and at it showed
abbrev pub SeesPath : List ℕ → History → History → Bool → Type 0
SeesPath path old new true = IsVacant path (During old new)
SeesPath path old new false = During old new (IsTaken path)

-- ---- the bytes

-- a copy can be made at a moment: of this look at the source and of these bytes, to where nothing stands, beside the source
pub record CanCopy (from to : List ℕ) (stat : Stat) (bytes : List ℕ) (moment : Moment) : Type 0 where
  pub shown : stat_at moment from ≡ Some stat
  pub read : bytes_at moment from ≡ Some bytes
  pub short : is_short_thing (put_thing stat.kind stat.exec bytes) ≡ true
  pub here : moment.things to ≡ None
  pub above : IsClear to moment.things
  pub apart : bytes_eq from to ≡ false
  pub beside : is_below from to ≡ false

-- the piece of some bytes
abbrev pub piece_of : List ℕ → ℕ → ℕ → List ℕ
piece_of bytes place width = take width (drop place bytes)

-- what a read of a piece found, as far as there was room; fewer bytes where the source ended
abbrev pub ReadsPiece : List ℕ → ℕ → ℕ → List ℕ → History → Option ℕ → Type 0
ReadsPiece from place width room h None = IsTrue h.told → bytes_at (now h) from ≡ None
ReadsPiece from place width room h (Some n) = (n ≤ width) × (IsTrue h.told → (n ≡ 0) ⊎ HasPart place (take n room) (bytes_at (now h) from))

-- where it found fewer bytes than there was room for, the source ended behind them
abbrev pub ReadsEnd : List ℕ → ℕ → ℕ → History → Option ℕ → Type 0
ReadsEnd from place width h None = Unit {0}
ReadsEnd from place width h (Some n) = IsTrue h.told → n < width → GoesUpTo (place + n) (bytes_at (now h) from)

-- what it finds of a source that has so many bytes
abbrev pub ReadsWhole : List ℕ → ℕ → ℕ → List ℕ → Option ℕ → Type 0
ReadsWhole bytes place width room None = ⊥
ReadsWhole bytes place width room (Some n) = (n ≡ width) × (take n room ≡ piece_of bytes place width)

-- the source ended in a piece: what there was of it was put, unless it ended right behind the pieces in front
pub record EndsPutting (from to : List ℕ) (stat : Stat) (place : ℕ) (old new : History) : Type 0 where
  pub size : ℕ
  pub put : PutsPart from to stat place size old new ⊎ ((0 < place) × (size ≡ place) × Passes old new)
  pub end : Was old new (λ moment. GoesUpTo size (bytes_at moment from))

-- the source was gone
pub record IsLost (from : List ℕ) (old new : History) : Type 0 where
  pub passes : Passes old new
  pub gone : bytes_at (now new) from ≡ None

-- the piece couldn't be put
pub record IsKeptOut (from to : List ℕ) (stat : Stat) (place : ℕ) (old new : History) : Type 0 where
  pub passes : Passes old new
  pub part : List ℕ
  pub source : IsPart from old new stat.size place part
  pub cannot : CannotPut stat.kind stat.exec place part to (now new).things

-- what came of one piece
abbrev pub Puts : List ℕ → List ℕ → Stat → ℕ → ℕ → History → History → Piece → Type 0
Puts from to stat place width old new a_piece.More = IsTrue old.told → PutsPart from to stat place (place + width) old new
Puts from to stat place width old new a_piece.End = IsTrue old.told → EndsPutting from to stat place old new
Puts from to stat place width old new (a_piece.Over (a_word.Source a_refusal.NotThere)) = IsTrue old.told → IsLost from old new
Puts from to stat place width old new (a_piece.Over (a_word.Target a_refusal.Exists)) = IsTrue old.told → IsKeptOut from to stat place old new
Puts from to stat place width old new (a_piece.Over refusal) = ⊥

-- a piece that the tree failed at
abbrev pub FailsPiece : List ℕ → List ℕ → Stat → ℕ → History → History → Type 0
FailsPiece from to stat place old new = Passes old new ⊎ PutsInPart from to stat place old new

-- what came of all pieces; where the tree failed a `put` may have
abbrev pub PutsBy : List ℕ → List ℕ → Stat → History → History → Result (Option CopyRefusal) OpFault → Type 0
PutsBy from to stat old new (Ok refused) = PutsAll from to stat old new refused
PutsBy from to stat old new (Err fault) = IsTrue old.told → PutsSome from to stat (fault ≡ a_fault.TreeFailed) old new

-- what came of all pieces, of which the first was put
abbrev pub PutsOn : List ℕ → List ℕ → Stat → ℕ → History → History → Result (Option CopyRefusal) OpFault → Type 0
PutsOn from to stat first old new result =
    (start : History) → (IsTrue start.told → PutsPieces from to stat 1 first start old) → PutsBy from to stat start new result

-- a link is no longer than one piece
abbrev pub IsOnePiece : Stat → Type 0
IsOnePiece stat = stat.kind ≡ a_kind.Link → stat.size ≤ 65536

-- where nobody else steps, what is there and can be put is put
pub record PutsWhole (to : List ℕ) (stat : Stat) (place : ℕ) (part : List ℕ) (old new : Moment) (piece : Piece) : Type 0 where
  pub more : piece ≡ a_piece.More
  pub made : IsPut stat.kind stat.exec place part to old new

-- a front of the source stands at the target, and nothing else has changed since the start
pub record IsGrown (to : List ℕ) (stat : Stat) (bytes : List ℕ) (start : Moment) (place : ℕ) (moment : Moment) : Type 0 where
  pub time : Time
  pub there : moment.things to ≡ Some (record { thing = put_thing stat.kind stat.exec (take place bytes); mtime = time })
  pub others : TouchesOnly (to ∷ []) start.things moment.things

-- nothing was refused, and the copy stands there
pub record IsWhole (from to : List ℕ) (start end : Moment) (refused : Option CopyRefusal) : Type 0 where
  pub none : refused ≡ None
  pub copy : HasCopy from to start end

-- where nobody else steps, what was begun is brought to its end
abbrev pub Completes : List ℕ → List ℕ → Stat → ℕ → History → History → Result (Option CopyRefusal) OpFault → Type 0
Completes from to stat place old new result =
    (bytes : List ℕ) (start : Moment) → CanCopy from to stat bytes start → stat.kind ≡ a_kind.File → IsGrown to stat bytes start place (now old)
    → IfOk result (IsWhole from to start (now new))

-- what putting the bytes comes to, whatever it answers
pub record IsPutting (from to : List ℕ) (stat : Stat) (old new : History) (result : Result (Option CopyRefusal) OpFault) : Type 0 where
  pub past : Extends old new
  pub reads : IsTrue old.told → Reads stat.size from old new
  pub only : IsTrue old.told → ChangesOnly (to ∷ []) old new
  pub puts : (IsTrue old.told → IsOnePiece stat) → PutsBy from to stat old new result
  pub whole : IsOurs old new → (bytes : List ℕ) → CanCopy from to stat bytes (now old) → IfOk result (IsWhole from to (now old) (now new))
