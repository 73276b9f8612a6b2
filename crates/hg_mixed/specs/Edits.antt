-- What an edit leaves of what is lent.
use Rattle.std.specs.Prelude.{ℕ, ◌≡◌, true, false, not, ◌&&◌, List, Option, None, Result, Ok, is_some}
use Rattle.std.specs.Map.{update}
use Rattle.std.specs.Str.{bytes_eq}
use Rattle.hg_base.specs.Within.{is_above}
use Rattle.hg_nodes.specs.Edits.{IsSame}
use Rattle.hg_mixed.specs.Held.{Held, is_lent, source_at, table, text_at}

-- no list of a directory above a path is lent any more, and the others are as before
abbrev pub EndsAbove : List ℕ → Held → Held → Type 0
EndsAbove path old new = (dir : Option (List ℕ)) → is_lent new dir ≡ (is_lent old dir && not (is_above dir path))

abbrev pub AreLentAsBefore : Held → Held → Type 0
AreLentAsBefore old new = (dir : Option (List ℕ)) → is_lent new dir ≡ is_lent old dir

-- which lists are lent still after an edit at a path: where something differs, no list of a directory above it, and else all
pub record Lends (path : List ℕ) (same : Type 0) (old new : Held) : Type 0 where
  pub kept : same → AreLentAsBefore old new
  pub ended : (same → ⊥) → EndsAbove path old new

-- the same where all caches go: no list of a directory above a cached one
pub record LendsUncached (old new : Held) : Type 0 where
  pub kept : (dir : Option (List ℕ)) → ((at : List ℕ) → is_some ((table old).caches at) ≡ true → is_above dir at ≡ false) → is_lent new dir ≡ is_lent old dir
  pub ended : (dir : Option (List ℕ)) (at : List ℕ) → is_some ((table old).caches at) ≡ true → is_above dir at ≡ true → is_lent new dir ≡ false

-- the texts that are lent are where they were
pub record ArePlacedAsBefore (old new : Held) : Type 0 where
  pub texts : (at : List ℕ) → text_at new at ≡ text_at old at
  pub sources : (at : List ℕ) → source_at new at ≡ source_at old at

-- the text of one path's source is lent no more where the source differs
pub record PlacesCopy (path : List ℕ) (same : Type 0) (old new : Held) : Type 0 where
  pub texts : (at : List ℕ) → text_at new at ≡ text_at old at
  pub kept : same → (at : List ℕ) → source_at new at ≡ source_at old at
  pub changed : (same → ⊥) → (at : List ℕ) → source_at new at ≡ update bytes_eq (source_at old) path None at

-- it is the table of the same image
pub record IsOfSameImage (old new : Held) : Type 0 where
  pub docket : new.docket ≡ old.docket
  pub bytes : new.bytes ≡ old.bytes

-- all is as before
pub record IsUnchanged (old new : Held) : Type 0 where
  pub table : IsSame (table new) (table old)
  pub changed : new.changed ≡ old.changed
  pub lent : AreLentAsBefore old new
  pub places : ArePlacedAsBefore old new
  pub image : IsOfSameImage old new

-- an edit that changes nothing is done, and leaves all as it was, in memory too
abbrev pub IsQuiet : {E : Type 0} → Result (Unit {0}) E → Held → Held → Type 0
IsQuiet result old new = (result ≡ Ok tt) × (new ≡ old)
