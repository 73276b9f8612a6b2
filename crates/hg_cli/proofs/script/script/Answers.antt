use Rattle.std.proofs.Common.{◌≡◌, ◌∙◌, ℕ, true, false, refl, rules, arith, ap, subst, inl}
use Rattle.std.specs.Prelude.{is_some, max}
use Rattle.hg_cli.proofs.Scripting.{does_line, input_failed, input_quiet, input_stayed, line_own, not_input, some_fault}
use Rattle.hg_cli.specs.Seen.{seen}
use Rattle.hg_lines.proofs.Turning.{begins, ends, fails_with, goes_with, refuses_with, stops_with}
use Rattle.hg_base.specs.Fault.{Rose}
use Rattle.hg_lines.specs.Script.{Reading, words_of}
use Rattle.hg_report.specs.declared.fault.Fault.TheVariants as a_fault
use Rattle.hg_cli.proofs.script.script.Goals as goal

pub returns-in-Err : goal.returns-in-Err
returns-in-Err g c =
    record {
      ran = fails_with _ _ _ _ _ _ _ (some_fault c.failed.result.fault a_fault.OutOfMemory c.failed.ensures.fault)
          (record { answered = c.failed.ensures.fault; told = c.failed.ensures.told; idle = search rules; status = c.failed.ensures.status });
      failing = λ is. absurd (not_input c.failed.result.fault a_fault.OutOfMemory c.failed.ensures.fault (λ e. cc e) is);
      quiet = λ none. refl;
      stayed = inl refl;
    }

pub loop-lines-init : goal.loop-lines-init
loop-lines-init g c = record { going = rw c.in-Ok.ensures (begins _ _ _); low = omega (arith, ap (λ (r : Reading). r.before) c.in-Ok.ensures); quiet = refl }

pub returns-in-Ok-None : goal.returns-in-Ok-None
returns-in-Ok-None g c =
    let same = c.in-Ok-None.ensures.cause.quiet ∙ c.loop-lines.invariant.quiet in
    record {
      ran = ends _ _ _ _ _ _ _ _ _ c.loop-lines.invariant.going (rw c.in-Ok-None.field-0-is at c.in-Ok-None.ensures.reads);
      failing = λ is. cc is;
      quiet = λ none. same;
      stayed = inl same;
    }

pub returns-then-is_some : goal.returns-then-is_some
returns-then-is_some g c =
    let answers = rw c.in-Ok-Some.field-0-is at c.in-Ok-Some.ensures.answers in
    let some : is_some c.turn-done.result.fault ≡ true = search rules in
    let same = c.in-Ok-Some.ensures.cause.quiet ∙ c.loop-lines.invariant.quiet in
    record {
      ran = stops_with _ _ _ _ _ _ _ _ _ _ _ _ _ some c.loop-lines.invariant.going (rw c.in-Ok-Some.field-0-is at c.in-Ok-Some.ensures.reads) answers
          (does_line
          (seen (record {
            tree = g.T.Tree.history;
            tree_faults = g.T.Tree.faults;
            shelf = g.S.Shelf.history;
            images = g.S.Shelf.images;
            shelf_faults = g.S.Shelf.faults;
            held = g.S.Shelf.held;
            oversize = g.G.Regexps.oversize;
            out = g.O.Sink.bytes;
            out_faults = g.O.Sink.faults;
            err = g.E.Sink.bytes;
            err_faults = g.E.Sink.faults;
          }))
          c.number.result _ c.as_str.result.now _ _ _ _ _ (c.number.ensures ∙ answers.number) c.as_str.ensures c.turn-done.ensures);
      failing = λ is. absurd (line_own
          (seen (record {
            tree = g.T.Tree.history;
            tree_faults = g.T.Tree.faults;
            shelf = g.S.Shelf.history;
            images = g.S.Shelf.images;
            shelf_faults = g.S.Shelf.faults;
            held = g.S.Shelf.held;
            oversize = g.G.Regexps.oversize;
            out = g.O.Sink.bytes;
            out_faults = g.O.Sink.faults;
            err = g.E.Sink.bytes;
            err_faults = g.E.Sink.faults;
          }))
          c.number.result (words_of c.as_str.result.now) _ _ _ _ c.turn-done.ensures is);
      quiet = λ none. same;
      stayed = inl same;
    }

pub loop-lines-preserved : goal.loop-lines-preserved
loop-lines-preserved g c =
    let answers = rw c.in-Ok-Some.field-0-is at c.in-Ok-Some.ensures.answers in
    let none : is_some c.turn-done.result.fault ≡ false = search rules in
    let greatest : c.max-status.result ≡ max c.loop-lines.status c.turn-done.result.status = search rules in
    record {
      going = rw greatest
          (goes_with _ _ _ _ _ _ _ _ _ _ _ _ _ none c.loop-lines.invariant.going (rw c.in-Ok-Some.field-0-is at c.in-Ok-Some.ensures.reads) answers
          (does_line
          (seen (record {
            tree = g.T.Tree.history;
            tree_faults = g.T.Tree.faults;
            shelf = g.S.Shelf.history;
            images = g.S.Shelf.images;
            shelf_faults = g.S.Shelf.faults;
            held = g.S.Shelf.held;
            oversize = g.G.Regexps.oversize;
            out = g.O.Sink.bytes;
            out_faults = g.O.Sink.faults;
            err = g.E.Sink.bytes;
            err_faults = g.E.Sink.faults;
          }))
          c.number.result _ c.as_str.result.now _ _ _ _ _ (c.number.ensures ∙ answers.number) c.as_str.ensures c.turn-done.ensures));
      low = answers.within;
      quiet = c.in-Ok-Some.ensures.cause.quiet ∙ c.loop-lines.invariant.quiet;
    }

pub returns-in-Err-next : goal.returns-in-Err-next
returns-in-Err-next g c =
    let answered = rw c.fault_of.ensures at c.failed-in-Err-next.ensures.fault in
    let stayed = input_stayed c.in-Err-next.fault c.failed-in-Err-next.result.fault _ _ _ answered c.in-Err-next.ensures.stayed c.loop-lines.invariant.quiet in
    record {
      ran = refuses_with _ _ _ _ _ _ _ _ _ _ _ _ _ (some_fault c.failed-in-Err-next.result.fault _ answered) c.loop-lines.invariant.going c.in-Err-next.ensures.reads c.in-Err-next.ensures.answers
          (record { answered = answered; told = c.failed-in-Err-next.ensures.told; idle = search rules; status = c.failed-in-Err-next.ensures.status });
      failing = input_failed c.in-Err-next.fault c.failed-in-Err-next.result.fault answered (λ is. subst (λ (n : ℕ). Rose n (g.I.Source.faults c.next.new.input)) c.loop-lines.invariant.quiet (c.in-Err-next.ensures.cause.rose is));
      quiet = input_quiet c.failed-in-Err-next.result.fault stayed;
      stayed = stayed;
    }
