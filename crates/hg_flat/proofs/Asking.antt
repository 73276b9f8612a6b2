-- Paths that are compared at a moment of a call: over longer calls, and where nothing stepped.
use Rattle.std.proofs.Common.{ℕ, ◌≡◌, Bool, true, false, List, [], Some, IsTrue, refl, sym, ap, ◌∙◌, subst, arith}
use Rattle.hg_compare.specs.Tracked.{is_file_or_link}
use Rattle.hg_flat.specs.Asked.{AsksNothing, AsksReads}
use Rattle.hg_flat.specs.Listing.{AsksRow, IsAskedRow, is_compared_row}
use Rattle.hg_flat.specs.Parent.{Asking, IsAsked, WasAsked}
use Rattle.hg_flat.specs.declared.kept.FlatRow.{FlatRow}
use Rattle.hg_listing.specs.declared.row.Wanted.{Wanted}
use Rattle.hg_flat.proofs.Asks.{reads_none, reads_trans, reads_weaker}
use Rattle.hg_tree.specs.History.{Extends, History, now}
use Rattle.hg_tree.proofs.Histories.{extends_trans}
use Rattle.hg_tree.specs.Moment.{Moment, zero_time}
use Rattle.hg_tree.specs.declared.thing.Thing.TheVariants as a_thing

-- a path that was compared in a part of a call was compared in the call
pub asked_longer : (asks : Asking) (a b c : History) (path : List ℕ) → Extends a b → Extends b c → WasAsked asks a b path → WasAsked asks a c path
asked_longer asks a b c path first second was = record {
  moment = was.moment;
  asked = was.asked;
  at = was.at;
  from = was.from;
  to = λ told. omega (arith, was.to told, second.later);
  is = λ told. second.stay was.at (was.to told) ∙ was.is told;
}

pub asked_later : (asks : Asking) (a b c : History) (path : List ℕ) → Extends a b → WasAsked asks b c path → WasAsked asks a c path
asked_later asks a b c path first was = record {
  moment = was.moment;
  asked = was.asked;
  at = was.at;
  from = λ told. omega (arith, first.later, was.from (first.told ∙ told));
  to = λ told. was.to (first.told ∙ told);
  is = λ told. was.is (first.told ∙ told);
}

-- where no path is compared in a call, none is in a part of it
pub never_each : (asks : Asking) (old mid later new : History) → Extends old mid → Extends mid later → Extends later new → ((path : List ℕ) → WasAsked asks old new path → ⊥)
    → (path : List ℕ) → WasAsked asks mid later path → ⊥
never_each asks old mid later new first second third never path was =
    never path (asked_longer asks old later new path (extends_trans old mid later first second) third (asked_later asks old mid later path first was))

-- a moment at which a file stands at each path
abbrev filled : Moment
filled = record { clock = zero_time; things = λ path. Some (record { thing = a_thing.File false []; mtime = zero_time }) }

-- where a file or a link stands at a path now that is compared with one there, it is compared now
pub asked_now : (asks : Asking) (old new : History) (path : List ℕ) → Extends old new → ((moment : Moment) → is_file_or_link (moment.things path) ≡ true → IsAsked asks moment path)
    → (IsTrue old.told → is_file_or_link ((now old).things path) ≡ true) → WasAsked asks old new path
asked_now asks old new path past asked there = by old.told refl
  where
    by : (b : Bool) → old.told ≡ b → WasAsked asks old new path
    by true told = record {
      moment = now old;
      asked = asked (now old) (there told);
      at = old.last;
      from = λ again. omega arith;
      to = λ again. past.later;
      is = λ again. past.stay old.last (omega arith);
    }
    by false none = record {
      moment = filled;
      asked = asked filled refl;
      at = 0;
      from = λ told. absurd (cc (none, told));
      to = λ told. absurd (cc (none, told));
      is = λ told. absurd (cc (none, told));
    }

-- where nothing stepped it is compared at the start
pub asked_still : (asks : Asking) (old new : History) (path : List ℕ) → Extends old new → new.last ≡ old.last → IsTrue old.told → WasAsked asks old new path → IsAsked asks (now old) path
asked_still asks old new path past still told was =
    let at : was.at ≡ old.last = omega (arith, was.from told, was.to told, still) in
    subst (λ (moment : Moment). IsAsked asks moment path) (sym (was.is told) ∙ ap new.at at ∙ past.stay old.last (omega arith)) was.asked

-- the test of an entry's path where its marks don't decide
pub asks_there : (wanted : Wanted) (kept : FlatRow) (asks : Asking) → AsksRow wanted kept asks → is_compared_row wanted kept ≡ true → (moment : Moment) → is_file_or_link (moment.things kept.path) ≡ true
    → IsAsked asks moment kept.path
asks_there wanted kept asks agrees compared moment there = agrees moment ∙ cc (compared, there)

-- an entry that is compared at a moment is so by the test
pub asks_row : (wanted : Wanted) (kept : FlatRow) (asks : Asking) → AsksRow wanted kept asks → (moment : Moment) → IsAskedRow wanted moment kept → IsAsked asks moment kept.path
asks_row wanted kept asks agrees moment is = asks_there wanted kept asks agrees is.compared moment is.there

-- reads of paths that are compared, behind one another
pub reads_on : (asks : Asking) (a b c : History) → Extends a b → Extends b c → AsksReads (WasAsked asks a b) a b → AsksReads (WasAsked asks b c) b c → AsksReads (WasAsked asks a c) a c
reads_on asks a b c first second before behind =
    reads_trans (WasAsked asks a c) a b c (reads_weaker (WasAsked asks a b) (WasAsked asks a c) a b (λ path was. asked_longer asks a b c path first second was) before)
    (reads_weaker (WasAsked asks b c) (WasAsked asks a c) b c (λ path was. asked_later asks a b c path first was) behind)

-- behind calls that read nothing
pub reads_behind : (asks : Asking) (a b c : History) → Extends a b → AsksNothing a b → AsksReads (WasAsked asks b c) b c → AsksReads (WasAsked asks a c) a c
reads_behind asks a b c first none reads =
    reads_trans (WasAsked asks a c) a b c (reads_none (WasAsked asks a c) a b none) (reads_weaker (WasAsked asks b c) (WasAsked asks a c) b c (λ path was. asked_later asks a b c path first was) reads)
