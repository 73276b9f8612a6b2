-- Two directories have the same cache where they have the same time.
use Rattle.std.proofs.Common.{◌∙◌, ap, refl, sym}
use Rattle.std.specs.Prelude.{◌≡◌, Bool, true, false, Option, Some, None, MatchBool, option_map}
use Rattle.hg_base.specs.declared.time.Stamp.{Stamp}
use Rattle.hg_entry.specs.Entry.{CacheData, StampData, cache_view, stamp_view}
use Rattle.hg_entry.specs.Written.{stamp_in}

abbrev with_time : StampData → CacheData
with_time time = record { stamp = time; full = false }

cached : (time : Option Stamp) → option_map with_time (option_map stamp_view time) ≡ option_map cache_view time
cached None = refl
cached (Some time) = refl

timed : (time : Option Stamp) → stamp_in (option_map cache_view time) ≡ option_map stamp_view time
timed None = refl
timed (Some time) = refl

pub caches_match : (a b : Option Stamp) (same : Bool)
    → MatchBool same (option_map stamp_view a ≡ option_map stamp_view b) (option_map stamp_view a ≡ option_map stamp_view b → ⊥)
    → MatchBool same (option_map cache_view a ≡ option_map cache_view b) (option_map cache_view a ≡ option_map cache_view b → ⊥)
caches_match a b true times = sym (cached a) ∙ ap (option_map with_time) times ∙ cached b
caches_match a b false differ = λ same. differ (sym (timed a) ∙ ap stamp_in same ∙ timed b)
