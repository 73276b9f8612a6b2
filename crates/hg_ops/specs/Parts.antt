-- What a copy puts at its target: parts of its source, one behind another.
use Rattle.std.specs.Prelude.{ℕ, zero, suc, ◌≡◌, ◌≤◌, ◌<◌, ◌+◌, ◌*◌, ◌⊎◌, List, [], ◌∷◌, length, take, drop, Option, Some, None, option_map, IsTrue}
use Rattle.hg_base.specs.declared.stat.Stat.{Stat}
use Rattle.hg_ops.specs.Seen.{Was}
use Rattle.hg_ops.specs.declared.copy_refusal.CopyRefusal.{CopyRefusal}
use Rattle.hg_ops.specs.declared.copy_refusal.CopyRefusal.TheVariants as a_word
use Rattle.hg_ops.specs.declared.refusal.Refusal.TheVariants as a_refusal
use Rattle.hg_tree.specs.History.{History, Passes, now}
use Rattle.hg_tree.specs.Moment.{Moment, bytes_at}
use Rattle.hg_tree.specs.Own.{Acts, CannotPut, IsPut, IsPutInPart}
use Rattle.hg_tree.specs.Touched.{TouchesOnly}

-- bytes stand at a place of a path
abbrev pub HasPart : ℕ → List ℕ → Option (List ℕ) → Type 0
HasPart place part None = ⊥
HasPart place part (Some bytes) = part ≡ take (length part) (drop place bytes)

-- what stands at a path goes no further than to a place
abbrev pub GoesUpTo : ℕ → Option (List ℕ) → Type 0
GoesUpTo place None = ⊥
GoesUpTo place (Some bytes) = length bytes ≤ place

-- a part of what stood at the source at a moment of a span, at its place in it, of 65,536 bytes at most, and within so many bytes; only the part at place 0
-- may have no bytes, and of no bytes this says nothing else
pub record IsPart (from : List ℕ) (old new : History) (size place : ℕ) (part : List ℕ) : Type 0 where
  pub within : place + length part ≤ size
  pub few : length part ≤ 65536
  pub some : (place ≡ 0) ⊎ (0 < length part)
  pub read : (part ≡ []) ⊎ Was old new (λ moment. HasPart place part (bytes_at moment from))

-- the one own step of a span, its last step, put a part of the source at the target, at its place in the source, with the source's kind and executable
-- bit and within its size as a look showed them; so much is put behind it
pub record PutsPart (from to : List ℕ) (stat : Stat) (place size : ℕ) (old new : History) : Type 0 where
  pub part : List ℕ
  pub upto : size ≡ place + length part
  pub source : IsPart from old new stat.size place part
  pub made : Acts (IsPut stat.kind stat.exec place part to) old new

-- the `put` of such a step failed: a front of the part may be there
pub record PutsInPart (from to : List ℕ) (stat : Stat) (place : ℕ) (old new : History) : Type 0 where
  pub part : List ℕ
  pub source : IsPart from old new stat.size place part
  pub made : Acts (IsPutInPart stat.kind stat.exec place part to) old new

-- so many pieces were put, one behind another, which come to so many bytes: each but the last has 65,536. No other own step was made
abbrev pub PutsPieces : List ℕ → List ℕ → Stat → ℕ → ℕ → History → History → Type 0
PutsPieces from to stat zero size old new = (size ≡ 0) × (new ≡ old)
PutsPieces from to stat (suc k) size old new = (mid : History) × PutsPieces from to stat k (65536 * k) old mid × PutsPart from to stat (65536 * k) size mid new

-- pieces were put, and behind them no own step was made
pub record PutsUpto (from to : List ℕ) (stat : Stat) (pieces size : ℕ) (old new : History) : Type 0 where
  pub mid : History
  pub put : PutsPieces from to stat pieces size old mid
  pub passes : Passes mid new

-- all of the source was put, in one piece at least: as many bytes as a look showed, or up to its end as a read showed it
pub record PutsSource (from to : List ℕ) (stat : Stat) (old new : History) : Type 0 where
  pub more : ℕ
  pub size : ℕ
  pub put : PutsUpto from to stat (suc more) size old new
  pub all : (size ≡ stat.size) ⊎ Was old new (λ moment. GoesUpTo size (bytes_at moment from))

-- neither file nor link was at the source any more, behind whole pieces that were put
pub record IsSourceGone (from to : List ℕ) (stat : Stat) (old new : History) : Type 0 where
  pub pieces : ℕ
  pub put : PutsUpto from to stat pieces (65536 * pieces) old new
  pub gone : bytes_at (now new) from ≡ None

-- the next part of the source couldn't be put at the target, behind whole pieces that were put
pub record MeetsOther (from to : List ℕ) (stat : Stat) (old new : History) : Type 0 where
  pub pieces : ℕ
  pub put : PutsUpto from to stat pieces (65536 * pieces) old new
  pub part : List ℕ
  pub source : IsPart from put.mid new stat.size (65536 * pieces) part
  pub cannot : CannotPut stat.kind stat.exec (65536 * pieces) part to (now new).things

-- how a copy ended that the looks didn't refuse: done, or cut short
abbrev pub PutsAll : List ℕ → List ℕ → Stat → History → History → Option CopyRefusal → Type 0
PutsAll from to stat old new None = IsTrue old.told → PutsSource from to stat old new
PutsAll from to stat old new (Some (a_word.Source a_refusal.NotThere)) = IsTrue old.told → IsSourceGone from to stat old new
PutsAll from to stat old new (Some (a_word.Target a_refusal.Exists)) = IsTrue old.told → MeetsOther from to stat old new
PutsAll from to stat old new (Some refusal) = ⊥

-- pieces were put, and then no step was made, or a `put` failed, where one may have
pub record PutsSome (from to : List ℕ) (stat : Stat) (Failed : Type 0) (old new : History) : Type 0 where
  pub pieces : ℕ
  pub size : ℕ
  pub mid : History
  pub put : PutsPieces from to stat pieces size old mid
  pub rest : Passes mid new ⊎ (Failed × PutsInPart from to stat size mid new)

-- the target has the source's kind, executable bit and bytes, and all else is as it was, but for directories above the target
pub record HasCopy (from to : List ℕ) (before after : Moment) : Type 0 where
  pub here : option_map (λ placed. placed.thing) (after.things to) ≡ option_map (λ placed. placed.thing) (before.things from)
  pub others : TouchesOnly (to ∷ []) before.things after.things
