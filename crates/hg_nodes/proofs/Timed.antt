-- The times of cached directories, as a map from texts has them.
use Rattle.std.proofs.Common.{ℕ, ◌≡◌, Bool, true, false, cond, List, [], ◌∷◌, length, eqb, eqb-true, Option, Some, String, refl, sym, ap, ◌∙◌, subst, true≢false, arith}
use Rattle.std.specs.Prelude.{is_some}
use Rattle.std.specs.Option.{option_map}
use Rattle.std.specs.Map.{lookup, update}
use Rattle.std.specs.BTreeMap.{BTreeMap, get_by_text, is_at}
use Rattle.std.specs.Str.{bytes_eq}
use Rattle.std.specs.String.{string_bytes}
use Rattle.std.proofs.lemmas.Bool.{cond-true}
use Rattle.std.proofs.lemmas.Map.Text.{text_cmp, is_eq-slice_cmp}
use Rattle.hg_base.specs.declared.time.Stamp.{Stamp}
use Rattle.hg_base.proofs.Within.{equal_bytes}
use Rattle.hg_entry.specs.Entry.{CacheData, cache_view}
use Rattle.hg_nodes.specs.Times.{AreNone, IsTimed, time_at, times_of}

in_step : (b : Bool) (time : Stamp) (found : Option Stamp) → cond b (Some (cache_view time)) (option_map cache_view found) ≡ option_map cache_view (cond b (Some time) found)
in_step true time found = refl
in_step false time found = refl

option_cond : (b : Bool) (here was : Option Stamp) → option_map cache_view (cond b here was) ≡ cond b (option_map cache_view here) (option_map cache_view was)
option_cond true here was = refl
option_cond false here was = refl

module _ {Y : Type 0} where
  time_in : (times : List (String Y × Stamp)) (at : List ℕ) → time_at (times_of times) at ≡ option_map cache_view (lookup (is_at (text_cmp at)) times)
  time_in [] at = refl
  time_in (e ∷ times) at =
      ap (λ (b : Bool). cond b (Some (cache_view e.1)) (time_at (times_of times) at)) (sym (is_eq-slice_cmp at (string_bytes e.0)))
      ∙ ap (cond (is_at (text_cmp at) e.0) (Some (cache_view e.1))) (time_in times at)
      ∙ in_step (is_at (text_cmp at) e.0) e.1 (lookup (is_at (text_cmp at)) times)

  pub time_of : (times : BTreeMap (String Y) Stamp) (value : List (List ℕ × CacheData)) → times_of times.entries ≡ value → (at : List ℕ) → option_map cache_view (get_by_text times at) ≡ time_at value at
  time_of times value are at = sym (time_in times.entries at) ∙ ap (λ (t : List (List ℕ × CacheData)). time_at t at) are

  pub times_changed : (dir : List ℕ) (here : Option Stamp) (old new : BTreeMap (String Y) Stamp) (value : List (List ℕ × CacheData)) → times_of old.entries ≡ value
      → ((at : List ℕ) → get_by_text new at ≡ update bytes_eq (get_by_text old) dir here at) → IsTimed dir (option_map cache_view here) value (times_of new.entries)
  times_changed dir here old new value are updates at =
      time_in new.entries at
      ∙ ap (option_map cache_view) (updates at)
      ∙ option_cond (bytes_eq dir at) here (get_by_text old at)
      ∙ ap (cond (bytes_eq dir at) (option_map cache_view here)) (time_of old value are at)

  pub times_same : (old new : BTreeMap (String Y) Stamp) (value : List (List ℕ × CacheData)) → times_of old.entries ≡ value → new.entries ≡ old.entries → (at : List ℕ) → time_at (times_of new.entries) at ≡ time_at value at
  times_same old new value are same at = ap (λ es. time_at (times_of es) at) same ∙ ap (λ (t : List (List ℕ × CacheData)). time_at t at) are

  none_where_empty : (times : List (String Y × Stamp)) (t : Bool) → eqb (length times) 0 ≡ t → AreNone t (times_of times)
  none_where_empty [] true is = λ at. refl
  none_where_empty [] false is = absurd (true≢false is)
  none_where_empty (e ∷ times) true is = let none : length (e ∷ times) ≡ 0 = eqb-true (length (e ∷ times)) 0 is in absurd (omega arith)
  none_where_empty (e ∷ times) false is =
      (string_bytes e.0, ap is_some (cond-true (bytes_eq (string_bytes e.0) (string_bytes e.0)) (Some (cache_view e.1)) (time_at (times_of times) (string_bytes e.0)) (equal_bytes (string_bytes e.0))))

  pub none_in : (times : List (String Y × Stamp)) (n : ℕ) (value : List (List ℕ × CacheData)) → times_of times ≡ value → n ≡ length times → AreNone (eqb n 0) value
  none_in times n value are len =
      subst (AreNone (eqb n 0)) are (none_where_empty times (eqb n 0) (ap (λ (m : ℕ). eqb m 0) (sym len)))
