-- What the command that prints the record did, from how it ended.
use Rattle.std.proofs.Common.{ℕ, ◌≡◌, false, List, [], Option, Some, None, Result, Ok, Err, IfSome, IsTrue, refl, sym, ap, ◌∙◌, subst, inl, inr, true≢false}
use Rattle.std.proofs.lemmas.List.{append-nil}
use Rattle.hg_base.proofs.Faults.{steady_not_rose}
use Rattle.hg_report.specs.declared.fault.Fault.{Fault}
use Rattle.hg_stream.specs.Stream.{Grown}
use Rattle.hg_shelf.specs.History as shelf
use Rattle.hg_shelf.proofs.Histories as shelves
use Rattle.hg_session.specs.Look.{OnlyReads}
use Rattle.hg_session.specs.Loaded.{AsksRecord}
use Rattle.hg_session.specs.Call.{Call, IsLeftAlone, Serves, Sink}
use Rattle.hg_session.specs.Debug.{AnswersPrinting, HasText, IsExpectedOf, IsTextIn, Prints, RanRecord, ShowsRecord}
use Rattle.hg_session.specs.Load.{of_print, of_read}
use Rattle.hg_session.specs.Put.{IsFaultOrMemory, IsSilent, LeavesFront, OnStream, Puts, is_stream}
use Rattle.hg_session.specs.declared.print_fault.PrintFault.{PrintFault}
use Rattle.hg_session.specs.declared.print_fault.PrintFault.TheVariants as a_print
use Rattle.hg_session.specs.declared.read_fault.ReadFault.{ReadFault}
use Rattle.hg_session.specs.declared.read_fault.ReadFault.TheVariants as a_read
use Rattle.hg_session.proofs.Looks.{not_without}
use Rattle.hg_session.proofs.Readings.{read_now, unreadable_now}
use Rattle.hg_session.specs.Told.{IsText}

-- nothing was told, so an empty text was
grown_none : (old : Option (List ℕ)) → Grown old old []
grown_none None = refl
grown_none (Some bytes) = ap Some (sym (append-nil bytes))

pub puts_none : (sink : Sink) → IsSilent sink → Puts (IsText []) sink
puts_none sink silent = record { text = []; is = refl; put = silent.bytes ∙ grown_none sink.old; calm = silent.count }

module _ (call : Call) (files : shelf.Passes call.looked.shelf.old call.looked.shelf.new) where
  abbrev there : shelf.Files
  there = (shelf.now call.looked.shelf.old).files

  module _ (own : shelf.IsOurs call.looked.shelf.old call.looked.shelf.new) where
    abbrev still : call.looked.shelf.new.last ≡ call.looked.shelf.old.last
    still = shelves.ours_unstepped call.looked.shelf.old call.looked.shelf.new files own

    text_own : (text : List ℕ) → HasText call.looked.shelf text → IsTextIn there text
    text_own text has = record { table = has.table; recorded = read_now call.looked.shelf files.past still own.told has.table (has.read own.told); is = has.is }

    met_expected : (met : PrintFault) → Prints call.looked.shelf call.out (Err met) → Serves call.looked.shelf → Serves call.out → IsExpectedOf there (Some (of_print met))
    met_expected (a_print.Read fault) (met, silent) p q = unreadable_now call.looked.shelf files.past still own.told fault met p
    met_expected a_print.OutFailed front p q = absurd (steady_not_rose call.out.before call.out.after q front.failed)

  expected_by : (fault : Option Fault) (came : Result Unit PrintFault) → Prints call.looked.shelf call.out came → AnswersPrinting call.err came fault → shelf.IsOurs call.looked.shelf.old call.looked.shelf.new
      → Serves call.looked.shelf → Serves call.out → IsExpectedOf there fault
  expected_by fault (Ok done) prints (none, silent) own p q =
      subst (IsExpectedOf there) (sym none) (prints.is.table, read_now call.looked.shelf files.past (still own) own.told prints.is.table (prints.is.read own.told))
  expected_by fault (Err met) prints (inl same, told) own p q = subst (IsExpectedOf there) (sym same) (met_expected own met prints p q)
  expected_by fault (Err met) prints (inr memory, told) own p q = subst (IsExpectedOf there) (sym memory) tt

  whole_own : (fault : Option Fault) (came : Result Unit PrintFault) → Prints call.looked.shelf call.out came → AnswersPrinting call.err came fault → fault ≡ None
      → shelf.IsOurs call.looked.shelf.old call.looked.shelf.new → Puts (IsTextIn there) call.out
  whole_own fault (Ok done) prints answers none own = record { text = prints.text; is = text_own own prints.text prints.is; put = prints.put; calm = prints.calm }
  whole_own fault (Err met) prints (is, told) none own = not_without fault (of_print met) is none

  front_met : (met : PrintFault) → Prints call.looked.shelf call.out (Err met) → shelf.IsOurs call.looked.shelf.old call.looked.shelf.new → LeavesFront (IsTextIn there) call.out
  front_met (a_print.Read fault) (met, silent) own = inl silent.bytes
  front_met a_print.OutFailed front own = inr (front.text, text_own own front.text front.is, front.put)

  front_own : (fault : Option Fault) (came : Result Unit PrintFault) → Prints call.looked.shelf call.out came → AnswersPrinting call.err came fault → shelf.IsOurs call.looked.shelf.old call.looked.shelf.new
      → IfSome fault (λ _. LeavesFront (IsTextIn there) call.out)
  front_own None came prints answers own = tt
  front_own (Some fault) (Ok done) prints (none, silent) own = absurd (cc none)
  front_own (Some fault) (Err met) prints answers own = front_met met prints own

  pub record_by : (fault : Option Fault) → ShowsRecord call.looked.shelf call.out call.err fault → (IsTrue call.looked.shelf.old.told → AsksRecord call.looked.shelf.old call.looked.shelf.new) → IsLeftAlone call.looked.tree → call.looked.oversize.after ≡ call.looked.oversize.before
      → (code : ℕ) → OnlyReads call.saved call.locks → (fault ≡ None → code ≡ 0) → RanRecord call code fault
  record_by fault shows below alone uncounted code only status = record {
    shows = shows;
    whole = whole_own fault shows.came shows.prints shows.tells;
    front = front_own fault shows.came shows.prints shows.tells;
    complete = expected_by fault shows.came shows.prints shows.tells;
    below = below;
    alone = alone;
    uncounted = uncounted;
    only = only;
    status = status;
  }

-- a fault of reading isn't one of a stream
pub read_stream : (fault : ReadFault) → is_stream (of_read fault) ≡ false
read_stream a_read.OutOfMemory = refl
read_stream (a_read.Docket f) = refl
read_stream (a_read.Node f) = refl
read_stream (a_read.DataGone ids) = refl
read_stream a_read.Failed = refl

-- the fault of a stream is that of standard output
pub stream_print : {Is : Type 0} (fault : PrintFault) (answered : Option Fault) → IsFaultOrMemory answered (of_print fault) → (fault ≡ a_print.OutFailed → Is) → OnStream answered Is
stream_print a_print.OutFailed answered either so = subst_stream answered (so refl)
  where
    subst_stream : {Is : Type 0} (o : Option Fault) → Is → OnStream o Is
    subst_stream None is = tt
    subst_stream (Some f) is = λ stream. is
stream_print {Is = Is} (a_print.Read fault) answered (inl same) so = subst (λ (o : Option Fault). OnStream o Is) (sym same) (λ is. absurd (true≢false (sym is ∙ read_stream fault)))
stream_print {Is = Is} (a_print.Read fault) answered (inr memory) so = subst (λ (o : Option Fault). OnStream o Is) (sym memory) (λ is. absurd (true≢false (sym is)))
