-- Which texts are lent still once an entry is dropped.
use Rattle.std.specs.Prelude.{ℕ, ◌≡◌, if◌then◌else◌, List, None}
use Rattle.std.specs.Map.{update}
use Rattle.std.specs.Str.{bytes_eq}
use Rattle.hg_mixed.specs.Held.{Held, source_at, table, text_at}

-- the texts of the nodes that went are lent no more, nor is that of the dropped source
pub record PlacesDrop (path : List ℕ) (old new : Held) : Type 0 where
  pub texts : (at : List ℕ) → text_at new at ≡ (if (table new).nodes at then text_at old at else None)
  pub sources : (at : List ℕ) → source_at new at ≡ update bytes_eq (source_at old) path None at
