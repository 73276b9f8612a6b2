-- What is asked for below `.hg` while a record is read, in a longer call too.
use Rattle.hg_entry.specs.Table.{Table}
use Rattle.std.proofs.Common.{◌≡◌, List, ◌∷◌, ◌++◌, length, take, Result, Ok, Err, inl, refl, sym, ap, ◌∙◌, arith, Option}
use Rattle.std.proofs.Math.Seq.{take-length}
use Rattle.std.proofs.lemmas.List.{append-nil}
use Rattle.hg_save.specs.Asked.{AsksAsOf, docket_ask, named_asks}
use Rattle.hg_save.specs.Loads.{files_at}
use Rattle.hg_save.specs.Record.{shown_in}
use Rattle.hg_save.specs.declared.load_fault.LoadFault.{LoadFault}
use Rattle.hg_save.specs.declared.loaded.Loaded.{Loaded}
use Rattle.hg_session.specs.Call.{Watched}
use Rattle.hg_session.specs.Change.{AsksChange}
use Rattle.hg_session.specs.Loaded.{AsksRecord}
use Rattle.hg_shelf.specs.Asks.{AsksFrontOf, AsksInOrder}
use Rattle.hg_shelf.specs.History.{Extends, Files, History}
use Rattle.hg_shelf.specs.declared.asked.Asked.{Asked}
use Rattle.hg_shelf.proofs.Histories.{extends_same}
use Rattle.hg_tree.specs.History as tree
use Rattle.hg_words.specs.declared.given.Command.{Command}

-- all of them are a front of them
front_of : (asks : List Asked) (old new : History) (result : Result Loaded LoadFault) → AsksInOrder asks old new result → AsksFrontOf asks old new
front_of asks old new (Ok loaded) is = record { some = length asks; made = is ∙ ap (λ (l : List Asked). old.asked ++ l) (sym (take-length asks)) }
front_of asks old new (Err fault) front = front

-- what a load asks for
pub asks_load : (old new : History) (result : Result Loaded LoadFault) → AsksAsOf old new result → AsksRecord old new
asks_load old new result is =
    record {
      at = is.at;
      during = is.during;
      seen = is.seen;
      later = is.later;
      upto = is.upto;
      asks = front_of (docket_ask ∷ named_asks (shown_in (files_at new is.at)) (files_at new is.seen)) old new result is.asks;
    }

-- where nothing was asked for
pub asks_none : (old new : History) → Extends old new → new.asked ≡ old.asked → AsksRecord old new
asks_none old new past none = record {
  at = new.last;
  during = record { from = past.later; to = omega arith };
  seen = new.last;
  later = omega arith;
  upto = omega arith;
  asks = record { some = 0; made = none ∙ sym (append-nil old.asked) };
}

-- in a longer call whose other parts ask for nothing
pub asks_wide : (a b c d : History) → Extends a b → b.asked ≡ a.asked → Extends c d → d.asked ≡ c.asked → AsksRecord b c → AsksRecord a d
asks_wide a b c d first before last behind is =
    let same : files_at d is.at ≡ files_at c is.at = (last.stay is.at is.during.to).shown in
    let also : files_at d is.seen ≡ files_at c is.seen = (last.stay is.seen is.upto).shown in
    record {
      at = is.at;
      during = record { from = omega (arith, first.later, is.during.from); to = omega (arith, is.during.to, last.later) };
      seen = is.seen;
      later = is.later;
      upto = omega (arith, is.upto, last.later);
      asks = record {
        some = is.asks.some;
        made =
            behind ∙ is.asks.made ∙ ap (λ (l : List Asked). l ++ take is.asks.some (docket_ask ∷ named_asks (shown_in (files_at c is.at)) (files_at c is.seen))) before
            ∙ ap (λ (f : Files). a.asked ++ take is.asks.some (docket_ask ∷ named_asks (shown_in f) (files_at c is.seen))) (sym same)
            ∙ ap (λ (f : Files). a.asked ++ take is.asks.some (docket_ask ∷ named_asks (shown_in (files_at d is.at)) f)) (sym also);
      };
    }

-- ---- a command that changes the record

-- nothing was asked for but the record
pub asks_read : (command : Command) (copy : Watched tree.History) (read : Option Table) (old new : History) → AsksRecord old new → AsksChange command copy read old new
asks_read command copy read old new load = record { mid = new; end = new; past = extends_same new; later = extends_same new; quiet = refl; load = load; behind = inl refl }

pub asks_nothing : (command : Command) (copy : Watched tree.History) (read : Option Table) (old new : History) → Extends old new → new.asked ≡ old.asked → AsksChange command copy read old new
asks_nothing command copy read old new past none = asks_read command copy read old new (asks_none old new past none)
