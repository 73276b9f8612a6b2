-- An edit that changes nothing.
use Rattle.std.proofs.Common.{ℕ, ◌≡◌, Bool, true, false, not, ◌&&◌, List, Option, Some, None, refl, sym, ap, ◌∙◌, subst, true≢false}
use Rattle.std.specs.Prelude.{MatchBool, is_some}
use Rattle.std.specs.Option.{option_map}
use Rattle.hg_base.specs.PathText.{is_path}
use Rattle.hg_base.specs.declared.time.Stamp.{Stamp}
use Rattle.hg_entry.specs.Entry.{CacheData, EntryData, cache_view}
use Rattle.hg_mixed.specs.Cached.{IsAnyCached, IsNoneCached}
use Rattle.hg_mixed.specs.Edits.{Lends, LendsUncached}
use Rattle.hg_mixed.specs.Held.{Held, table}
use Rattle.hg_nodes.specs.Clash.{IsClash, IsLeast, clashes, is_tracked_entry}
use Rattle.hg_nodes.specs.Edits.{IsFormed, IsSame, Marks, after_cache, after_copy, after_no_caches, after_set}
use Rattle.hg_nodes.proofs.Edited.{cache_stays, copy_stays, set_stays}
use Rattle.hg_mixed.proofs.Lifted.{same_back, same_itself}

-- what a test that was answered says
pub by_true : (b : Bool) (P Q : Type 0) → MatchBool b P Q → b ≡ true → P
by_true true P Q m is = m
by_true false P Q m is = absurd (true≢false (sym is))

pub by_false : (b : Bool) (P Q : Type 0) → MatchBool b P Q → b ≡ false → Q
by_false true P Q m is = absurd (true≢false is)
by_false false P Q m is = m

abbrev no_path : Option (List ℕ)
no_path = None

none_more : (w : Bool) (P : Type 0) → MatchBool (w && not w) P (no_path ≡ None)
none_more true P = refl
none_more false P = refl

-- a cache is there where its time is
pub none_cached : (time : Option Stamp) (none : Bool) → is_some time ≡ not none → none ≡ true → option_map cache_view time ≡ None
none_cached None none there is = refl
none_cached (Some time) true there is = absurd (true≢false there)
none_cached (Some time) false there is = absurd (true≢false (sym is))

pub some_cached : (time : Option Stamp) (none : Bool) → is_some time ≡ not none → none ≡ false → option_map cache_view time ≡ None → ⊥
some_cached None true there is none = true≢false is
some_cached None false there is none = true≢false (sym there)
some_cached (Some time) none there is nothing = cc nothing

module _ (h : Held) where
  pub quiet_marks : Marks (IsSame (table h) (table h)) h.changed h.changed
  quiet_marks = record { kept = λ _. refl; marked = λ other. absurd (other (same_itself (table h))) }

  pub quiet_lends : (path : List ℕ) → Lends path (IsSame (table h) (table h)) h h
  quiet_lends path = record { kept = λ _ dir. refl; ended = λ other. absurd (other (same_itself (table h))) }

  pub quiet_set : (path : List ℕ) (entry : EntryData) → is_path path ≡ true → IsFormed (table h) → (table h).entries path ≡ Some entry → IsSame (table h) (after_set path entry (table h))
  quiet_set path entry good formed is = same_back _ _ (set_stays path entry (table h) (after_set path entry (table h)) good formed (same_itself (after_set path entry (table h))) is)

  pub quiet_clash : (path : List ℕ) (entry : EntryData) → (table h).entries path ≡ Some entry → IsClash path entry (table h) None
  quiet_clash path entry is =
      subst (λ (o : Option EntryData). MatchBool (entry.w && not (is_tracked_entry o)) (IsLeast (clashes path (table h).entries) None) (no_path ≡ None)) (sym is)
      (none_more entry.w (IsLeast (clashes path (table h).entries) None))

  pub quiet_cache : (dir : List ℕ) (time : Option CacheData) → (table h).caches dir ≡ time → IsSame (table h) (after_cache dir time (table h))
  quiet_cache dir time is = same_back _ _ (cache_stays dir time (table h) (after_cache dir time (table h)) (same_itself (after_cache dir time (table h))) is)

  pub quiet_copy : (path : List ℕ) (source : Option (List ℕ)) → (table h).sources path ≡ source → IsSame (table h) (after_copy path source (table h))
  quiet_copy path source is = same_back _ _ (copy_stays path source (table h) (after_copy path source (table h)) (same_itself (after_copy path source (table h))) is)

  -- where some directory is cached, it isn't so that none is
  pub never_bare : IsAnyCached (table h) → IsNoneCached (table h) → ⊥
  never_bare any none = true≢false (sym any.1 ∙ ap is_some (none any.0))

  pub quiet_uncached : IsNoneCached (table h) → IsSame (table h) (after_no_caches (table h))
  quiet_uncached none = record { p1 = refl; p2 = refl; hash = refl; entries = λ at. refl; sources = λ at. refl; nodes = λ at. refl; caches = none }

  pub quiet_lends_uncached : IsNoneCached (table h) → LendsUncached h h
  quiet_lends_uncached none = record { kept = λ dir bare. refl; ended = λ dir at cached. absurd (never_bare (at, cached) none) }
