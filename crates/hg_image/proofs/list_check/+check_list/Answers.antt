use Rattle.std.proofs.Common.{◌≡◌, ◌+◌, ◌-◌, ◌*◌, ◌≤◌, [], length, Some, refl, sym, ap, ◌∙◌, arith, leb-true, leb-false}
use Rattle.std.specs.Prelude.{option_map}
use Rattle.std.proofs.lemmas.Grind.{common_steps}
use Rattle.std.proofs.lemmas.Result.{err_from_is_err_and}
use Rattle.hg_image.proofs.Levels.{level_below}
use Rattle.hg_image.specs.Tally.{tally_within}
use Rattle.hg_image.proofs.RowsOf.{rows_none}
use Rattle.hg_image.proofs.Tallies.{few_more, few_within, list_counts, list_starts, list_counted, no_rows}
use Rattle.hg_image.proofs.Walk.{SoFar, list_empty, list_deep, list_outside, list_done, list_stops, list_stops_below, list_goes_on}
use Rattle.hg_image.proofs.list_check.+check_list.Goals as goal

pub check_list-requires : goal.check_list-requires
check_list-requires t c =
    let dir = option_map (λ d. d.text.now) c.args.dir in
    let before = option_map (λ b. b.now) c.loop-i.before in
    let room = level_below c.args.bytes.now dir before c.read_record-rec.result c.in_ok-found.found.path.text.now c.args.depth c.in_ok-found.ensures.fault c.in_ok-found.ensures.path (omega arith) c.requires.levels in
    grind (arith, common_steps, room)

pub returns-then-count-eq0-clause-fault : goal.returns-then-count-eq0-clause-fault
returns-then-count-eq0-clause-fault t c = sym (list_empty c.args.depth c.args.bytes.now _ c.args.start c.args.count c.if-count-eq0.true)

pub returns-then-depth-eq0-clause-fault : goal.returns-then-depth-eq0-clause-fault
returns-then-depth-eq0-clause-fault t c = sym (list_deep c.args.depth c.args.bytes.now _ c.args.start c.args.count c.if-depth-eq0.true (omega arith))

pub returns-then-not-within-clause-fault : goal.returns-then-not-within-clause-fault
returns-then-not-within-clause-fault t c = sym (list_outside c.args.depth c.args.bytes.now _ c.args.start c.args.count (omega arith) (leb-false _ _ (sym c.if-not-within.ensures)))

pub returns-in_err-found-clause-fault : goal.returns-in_err-found-clause-fault
returns-in_err-found-clause-fault t c =
    let p = err_from_is_err_and c.from_residual.result c.from_residual.ensures.1 in
    let dir = option_map (λ d. d.text.now) c.args.dir in
    let before = option_map (λ b. b.now) c.loop-i.before in
    let n = c.args.count - c.loop-i.i in
    let room : c.args.start + 44 * c.args.count ≤ length c.args.bytes.now = leb-true _ _ (sym c.if-not-within.ensures) in
    let far : SoFar c.args.depth c.args.bytes.now dir c.args.start c.args.count before c.loop-i.at n =
    record { deep = omega arith; some = omega arith; room = room; rest = c.loop-i.invariant.rest } in
    rw (p.1, p.2)
    (list_stops c.args.depth c.args.bytes.now dir c.args.start c.args.count before c.loop-i.at n far c.read_record-rec.result _ (omega arith) c.read_record-rec.ensures c.in_err-found.ensures.fault)

pub returns-in_err-under-clause-fault : goal.returns-in_err-under-clause-fault
returns-in_err-under-clause-fault t c =
    let p = err_from_is_err_and c.from_residual-in_err-under.result c.from_residual-in_err-under.ensures.1 in
    let dir = option_map (λ d. d.text.now) c.args.dir in
    let before = option_map (λ b. b.now) c.loop-i.before in
    let n = c.args.count - c.loop-i.i in
    let room : c.args.start + 44 * c.args.count ≤ length c.args.bytes.now = leb-true _ _ (sym c.if-not-within.ensures) in
    let far : SoFar c.args.depth c.args.bytes.now dir c.args.start c.args.count before c.loop-i.at n =
    record { deep = omega arith; some = omega arith; room = room; rest = c.loop-i.invariant.rest } in
    rw (p.1, p.2)
    (list_stops_below c.args.depth c.args.bytes.now dir c.args.start c.args.count before c.loop-i.at n far c.read_record-rec.result c.in_ok-found.found.path.text.now _ (omega arith) c.read_record-rec.ensures
    c.in_ok-found.ensures.fault c.in_ok-found.ensures.path c.in_err-under.ensures.fault)

pub loop-i-preserved-then-rec-eq0 : goal.loop-i-preserved-then-rec-eq0
loop-i-preserved-then-rec-eq0 t c =
    let dir = option_map (λ d. d.text.now) c.args.dir in
    let before = option_map (λ b. b.now) c.loop-i.before in
    let n = c.args.count - c.loop-i.i in
    let room : c.args.start + 44 * c.args.count ≤ length c.args.bytes.now = leb-true _ _ (sym c.if-not-within.ensures) in
    let far : SoFar c.args.depth c.args.bytes.now dir c.args.start c.args.count before c.loop-i.at n =
    record { deep = omega arith; some = omega arith; room = room; rest = c.loop-i.invariant.rest } in
    let less : c.args.count - (c.loop-i.i + 1) ≡ n - 1 = omega arith in
    let none = sym (list_empty (c.args.depth - 1) c.args.bytes.now (Some c.in_ok-found.found.path.text.now) c.read_record-rec.result.kids_start c.read_record-rec.result.kids_count c.if-rec-eq0.true) in
    record {
      rest = rw less (list_goes_on c.args.depth c.args.bytes.now dir c.args.start c.args.count before c.loop-i.at n far c.read_record-rec.result c.in_ok-found.found.path.text.now c.in_ok-found.found.name.now (omega arith)
          c.read_record-rec.ensures c.in_ok-found.ensures.fault c.in_ok-found.ensures.path c.in_ok-found.ensures.name none);
      place = omega arith;
      few = rw (c.with_node-sum.ensures, c.most_nodes-most.ensures)
          (few_more _ c.loop-i.sum c.no_nodes-then-rec-eq0.result c.read_record-rec.result c.loop-i.invariant.few (few_within _ [] c.no_nodes-then-rec-eq0.result (c.no_nodes-then-rec-eq0.ensures ∙ no_rows _)));
      sums = λ h. rw (c.with_node-sum.ensures, c.most_nodes-most.ensures)
          (list_counts c.args.depth c.args.bytes.now dir c.args.start c.args.count _ c.loop-i.at _ c.loop-i.i _ c.read_record-rec.result c.loop-i.sum c.no_nodes-then-rec-eq0.result (omega arith) c.loop-i.invariant.place (omega arith) refl
          c.read_record-rec.ensures h (c.loop-i.invariant.sums h)
          (c.no_nodes-then-rec-eq0.ensures ∙ no_rows _ ∙ ap (tally_within _) (sym (rows_none (c.args.depth - 1) c.args.bytes.now c.read_record-rec.result.kids_start c.read_record-rec.result.kids_count c.if-rec-eq0.true))));
    }

pub loop-i-preserved : goal.loop-i-preserved
loop-i-preserved t c =
    let dir = option_map (λ d. d.text.now) c.args.dir in
    let before = option_map (λ b. b.now) c.loop-i.before in
    let n = c.args.count - c.loop-i.i in
    let room : c.args.start + 44 * c.args.count ≤ length c.args.bytes.now = leb-true _ _ (sym c.if-not-within.ensures) in
    let far : SoFar c.args.depth c.args.bytes.now dir c.args.start c.args.count before c.loop-i.at n =
    record { deep = omega arith; some = omega arith; room = room; rest = c.loop-i.invariant.rest } in
    let less : c.args.count - (c.loop-i.i + 1) ≡ n - 1 = omega arith in
    record {
      rest = rw less (list_goes_on c.args.depth c.args.bytes.now dir c.args.start c.args.count before c.loop-i.at n far c.read_record-rec.result c.in_ok-found.found.path.text.now c.in_ok-found.found.name.now (omega arith)
          c.read_record-rec.ensures c.in_ok-found.ensures.fault c.in_ok-found.ensures.path c.in_ok-found.ensures.name c.in_ok-under.ensures.fault);
      place = omega arith;
      few = rw (c.with_node-sum-in-loop-i.ensures, c.most_nodes-most.ensures)
          (few_more _ c.loop-i.sum c.in_ok-under.under c.read_record-rec.result c.loop-i.invariant.few (few_within _ _ c.in_ok-under.under c.in_ok-under.ensures.tally));
      sums = λ h. rw (c.with_node-sum-in-loop-i.ensures, c.most_nodes-most.ensures)
          (list_counts c.args.depth c.args.bytes.now dir c.args.start c.args.count _ c.loop-i.at _ c.loop-i.i _ c.read_record-rec.result c.loop-i.sum c.in_ok-under.under (omega arith) c.loop-i.invariant.place (omega arith) refl
          c.read_record-rec.ensures h (c.loop-i.invariant.sums h) c.in_ok-under.ensures.tally);
    }

pub returns-clause-fault : goal.returns-clause-fault
returns-clause-fault t c =
    let dir = option_map (λ d. d.text.now) c.args.dir in
    let before = option_map (λ b. b.now) c.loop-i.before in
    let n = c.args.count - c.loop-i.i in
    let room : c.args.start + 44 * c.args.count ≤ length c.args.bytes.now = leb-true _ _ (sym c.if-not-within.ensures) in
    let far : SoFar c.args.depth c.args.bytes.now dir c.args.start c.args.count before c.loop-i.at n =
    record { deep = omega arith; some = omega arith; room = room; rest = c.loop-i.invariant.rest } in
    list_done c.args.depth c.args.bytes.now dir c.args.start c.args.count before c.loop-i.at n far (omega arith)

pub returns-then-count-eq0-clause-tally : goal.returns-then-count-eq0-clause-tally
returns-then-count-eq0-clause-tally t c =
    c.no_nodes.ensures ∙ no_rows _ ∙ ap (tally_within _) (sym (rows_none c.args.depth c.args.bytes.now c.args.start c.args.count c.if-count-eq0.true))

pub loop-i-init : goal.loop-i-init
loop-i-init t c =
    let start : c.args.start ≡ c.args.start + 44 * 0 = omega arith in
    let all : c.args.count - 0 ≡ c.args.count = omega arith in
    record {
      rest = rw all refl;
      place = start;
      few = rw c.no_nodes-sum.ensures (few_within _ [] _ (no_rows _));
      sums = λ h. rw c.no_nodes-sum.ensures (list_starts c.args.depth c.args.bytes.now _ c.args.start c.args.count _ c.args.start (c.args.count - 0) refl all h);
    }

pub with_node-sum-requires-in-loop-i-clause-under : goal.with_node-sum-requires-in-loop-i-clause-under
with_node-sum-requires-in-loop-i-clause-under t c = rw c.most_nodes-most.ensures (few_within _ _ c.in_ok-under.under c.in_ok-under.ensures.tally)

pub returns-clause-tally : goal.returns-clause-tally
returns-clause-tally t c =
    let dir = option_map (λ d. d.text.now) c.args.dir in
    let before = option_map (λ b. b.now) c.loop-i.before in
    let n = c.args.count - c.loop-i.i in
    let room : c.args.start + 44 * c.args.count ≤ length c.args.bytes.now = leb-true _ _ (sym c.if-not-within.ensures) in
    let far : SoFar c.args.depth c.args.bytes.now dir c.args.start c.args.count before c.loop-i.at n =
    record { deep = omega arith; some = omega arith; room = room; rest = c.loop-i.invariant.rest } in
    let sound = sym (list_done c.args.depth c.args.bytes.now dir c.args.start c.args.count before c.loop-i.at n far (omega arith)) in
    list_counted c.args.depth c.args.bytes.now dir c.args.start c.args.count _ c.loop-i.at n c.loop-i.sum (omega arith) (c.loop-i.invariant.sums sound)
