-- The patterns that are read behind a call that asks nothing of the files are read over the span of both.
use Rattle.std.proofs.Common.{ℕ, ◌≡◌, List, ◌++◌, Option, Some, None, ap, ◌∙◌, inl, inr, arith}
use Rattle.hg_ignore.specs.Patterns.{ReadSo, Saw}
use Rattle.hg_ignore.specs.Source.{FileDuring, ReadDuring}
use Rattle.hg_ignore.specs.State.{Ignore, Piece}
use Rattle.hg_tree.specs.History.{History, IsOurs, Passes, now}
use Rattle.hg_tree.specs.Moment.{Moment}
use Rattle.hg_tree.specs.declared.asked.Asked.{Asked}
use Rattle.hg_tree.proofs.Spans.{now_same, ours_first, ours_second}
use Rattle.hg_flat.specs.Asked.{AsksNothing, IsPatternsRead, pattern_reads}
use Rattle.hg_flat.specs.Course.{AsksPatterns, IsKeptState, IsState, LacksPatterns}
use Rattle.hg_listing.specs.declared.fault.StatusFault.{StatusFault}
use Rattle.hg_listing.specs.declared.fault.StatusFault.TheVariants as a_fault
use Rattle.hg_listing.specs.declared.row.Wanted.{Wanted}

module _ (old mid new : History) (first : Passes old mid) (second : Passes mid new) where
  during : FileDuring mid new → FileDuring old new
  during (k, from, to, has) = (k, omega (arith, from, first.past.later), to, has)

  -- ---- what is kept

  given : (state : List Piece) → ReadDuring mid new state → ReadDuring old new state
  given state (inl is) = inl is
  given state (inr (seen, is)) = inr (during seen, is)

  state_behind : (state : List Piece) → IsState mid new state → IsState old new state
  state_behind state is = record {
    given = λ told. given state (is.given (first.past.told ∙ told));
    still = λ ours. is.still (ours_second old mid new first.past ours) ∙ ap Ignore (now_same old mid first (ours_first old mid new second.past ours));
    fine = is.fine;
  }

  pub kept_behind : (wanted : Wanted) (ignore : Option (List Piece)) → IsKeptState wanted mid new ignore → IsKeptState wanted old new ignore
  kept_behind wanted None none = none
  kept_behind wanted (Some state) is = (is.0, state_behind state is.1)

  -- ---- why they couldn't be read

  saw : (P : Moment → Type 0) → Saw mid new P → Saw old new P
  saw P s = record {
    at = s.at;
    from = λ told. omega (arith, first.past.later, s.from (first.past.told ∙ told));
    to = λ told. s.to (first.past.told ∙ told);
    so = λ told. s.so (first.past.told ∙ told);
  }

  read_so : (Seen : Moment → Type 0) (P : List ℕ → Type 0) → ReadSo mid new Seen P → ReadSo old new Seen P
  unfolding saw
  read_so Seen P r = record { seen = saw _ r.seen; read = saw _ r.read; order = λ told. r.order (first.past.told ∙ told) }

  pub lacks_behind : (fault : StatusFault) → LacksPatterns mid new fault → LacksPatterns old new fault
  lacks_behind a_fault.OutOfMemory lacks = tt
  lacks_behind a_fault.TreeFailed lacks = tt
  lacks_behind a_fault.ShelfFailed lacks = absurd lacks
  lacks_behind (a_fault.NoManifest gone) lacks = absurd lacks
  lacks_behind (a_fault.ManifestTooLarge size) lacks = absurd lacks
  lacks_behind (a_fault.ManifestLine line) lacks = absurd lacks
  lacks_behind (a_fault.ManifestOrder line) lacks = absurd lacks
  lacks_behind (a_fault.NoContents gone) lacks = absurd lacks
  lacks_behind (a_fault.IgnoreTooLarge size) (large, inl s) = (large, inl (saw _ s))
  lacks_behind (a_fault.IgnoreTooLarge size) (large, inr (is, r)) = (large, inr (is, read_so _ _ r))
  lacks_behind (a_fault.IgnoreText at) lacks = read_so _ _ lacks
  lacks_behind (a_fault.BadGlob line) lacks = read_so _ _ lacks
  lacks_behind (a_fault.BadRegexp line) lacks = read_so _ _ lacks
  lacks_behind (a_fault.RegexpTooBig line) lacks = read_so _ _ lacks
  lacks_behind (a_fault.BadInclude line) lacks = read_so _ _ lacks

  -- ---- what is asked

  reads : (wanted : Wanted) (asks : List Asked) → IsPatternsRead wanted mid new asks → IsPatternsRead wanted old new asks
  reads wanted asks (inl none) = inl none
  reads wanted asks (inr (needed, (seen, is))) = inr (needed, (during seen, is))

  pub asks_behind : (wanted : Wanted) → AsksNothing old mid → AsksPatterns wanted mid new → AsksPatterns wanted old new
  asks_behind wanted none (asks, are, is) = (asks, reads wanted asks are, is ∙ ap (λ (l : List Asked). l ++ asks) none)

  pub own_behind : (wanted : Wanted) → AsksNothing old mid → IsOurs old new → new.asked ≡ mid.asked ++ pattern_reads wanted (now mid) → new.asked ≡ old.asked ++ pattern_reads wanted (now old)
  own_behind wanted none ours is =
      is ∙ ap (λ (l : List Asked). l ++ pattern_reads wanted (now mid)) none ∙ ap (λ (m : Moment). old.asked ++ pattern_reads wanted m) (now_same old mid first (ours_first old mid new second.past ours))
