use Rattle.std.proofs.Common.{◌≡◌, ◌<◌, ℕ, List, length, get_or, reverse, refl, arith}
use Rattle.std.proofs.lemmas.Bool.{false≢true}
use Rattle.std.proofs.lemmas.Bool.Decides.{not_from_Decides}
use Rattle.hg_glob.specs.Many.{parts_in}
use Rattle.hg_glob.specs.declared.part.Part.{Part}
use Rattle.hg_glob.specs.declared.globs.GlobLine.{GlobLine}
use Rattle.hg_glob.proofs.Bounding.{glob_closed}
use Rattle.hg_glob.proofs.Together.{row_len, shared_len, line_at, read_at, parts_at_place, stands_at_place, gone_first, gone_over, gone_more, trail_next, over_stands, found_line, none_left}
use Rattle.hg_glob.proofs.globs.some_short.Goals as goal
use Rattle.hg_glob.proofs.globs.some_short.Goals.{else-not-is_over-via-then-not-is_over+else-stands_at, else-not-is_over-via-else-not-is_over}

pub loop-i-init : goal.loop-i-init
loop-i-init c = record {
  few = omega arith;
  gone = gone_first c.args.short.now c.args.lines.now c.args.row.now c.args.shared.now c.begin.new.columns c.requires.shared c.begin.ensures;
}

pub bounds-shared-i : goal.bounds-shared-i
bounds-shared-i c = omega (arith, shared_len c.args.lines.now c.args.row.now c.args.shared.now c.requires.row c.requires.shared)

pub loop-i-preserved-then-len-count : goal.loop-i-preserved-then-len-count
loop-i-preserved-then-len-count c =
    let counted : c.loop-i.i < length c.args.shared.now = omega (arith, shared_len c.args.lines.now c.args.row.now c.args.shared.now c.requires.row c.requires.shared) in
    record {
      few = c.loop-i.invariant.few;
      gone = gone_over c.args.short.now c.args.lines.now c.args.row.now c.args.shared.now c.loop-i.i c.loop-i.len c.loop-i.columns c.loop-i.is_over c.loop-i.invariant.gone c.requires.row c.loop-i-test.true counted c.if-is_over.true (omega arith);
    }

pub follow-len-requires-clause-trail : goal.follow-len-requires-clause-trail
follow-len-requires-clause-trail c =
    let laid : c.loop-i.i < length c.args.row.now = omega (arith, row_len c.args.lines.now c.args.row.now c.requires.row) in
    let counted : c.loop-i.i < length c.args.shared.now = omega (arith, shared_len c.args.lines.now c.args.row.now c.args.shared.now c.requires.row c.requires.shared) in
    trail_next c.args.short.now c.args.lines.now c.args.row.now c.args.shared.now c.loop-i.i c.loop-i.len c.cut-from.result c.loop-i.columns c.loop-i.is_over c.at-parts.result.now c.loop-i.invariant.gone laid counted c.at-parts.ensures.parts (omega arith) (omega arith)

pub stands_at-requires-clause-closed : goal.stands_at-requires-clause-closed
stands_at-requires-clause-closed c =
    let lines : List GlobLine = c.args.lines.now in
    let i : ℕ = c.loop-i.i in
    glob_closed (line_at lines i).glob c.at-parts.result.now (parts_at_place lines c.args.row.now c.at-parts.result.now i c.requires.row c.loop-i-test.true c.at-parts.ensures.parts)

pub returns-then-stands_at : goal.returns-then-stands_at
returns-then-stands_at c = λ path e.
    let lines : List GlobLine = c.args.lines.now in
    let i : ℕ = c.loop-i.i in
    let parts_are = parts_at_place lines c.args.row.now c.at-parts.result.now i c.requires.row c.loop-i-test.true c.at-parts.ensures.parts in
    let same = stands_at_place lines i (get_or lines i c.index-lines-i.result) c.at-parts.result.now (reverse c.args.short.now) (read_at lines i c.index-lines-i.result c.loop-i-test.true) parts_are in
    let s = found_line c.args.short.now lines c.args.row.now c.args.shared.now i c.loop-i.len c.loop-i.columns c.loop-i.is_over path c.loop-i.invariant.gone c.loop-i-test.true e (same.0 (c.stands_at.ensures.0 c.if-stands_at.true)) in
    (λ _. s, λ _. refl)

pub loop-i-preserved : goal.loop-i-preserved
loop-i-preserved c =
    let xs : List ℕ = c.args.short.now in
    let lines : List GlobLine = c.args.lines.now in
    let i : ℕ = c.loop-i.i in
    let parts : List Part = c.at-parts.result.now in
    let laid : i < length c.args.row.now = omega (arith, row_len lines c.args.row.now c.requires.row) in
    let counted : i < length c.args.shared.now = omega (arith, shared_len lines c.args.row.now c.args.shared.now c.requires.row c.requires.shared) in
    let parts_are : parts ≡ parts_in (line_at lines i) = parts_at_place lines c.args.row.now parts i c.requires.row c.loop-i-test.true c.at-parts.ensures.parts in
    let go = gone_more xs lines c.args.row.now c.args.shared.now i c.loop-i.len c.follow-len.result c.loop-i.columns c.follow-len.new.columns c.loop-i.is_over c.is_dead-is_over.result parts c.loop-i.invariant.gone c.loop-i-test.true laid counted c.at-parts.ensures.parts
    c.follow-len.ensures.trail c.is_dead-is_over.ensures in
    record {
      few = c.follow-len.ensures.few;
      gone = elim c.else-not-is_over.branch [
        | else-not-is_over-via-then-not-is_over+else-stands_at w ↦ go (λ s. not_from_Decides w.stands_at.result w.stands_at.ensures w.if-stands_at.false
            ((stands_at_place lines i (get_or lines i w.index-lines-i.result) parts (reverse xs) (read_at lines i w.index-lines-i.result c.loop-i-test.true) parts_are).1 s))
        | else-not-is_over-via-else-not-is_over w ↦ go (over_stands xs (line_at lines i) parts c.follow-len.result c.follow-len.new.columns parts_are c.follow-len.ensures.trail (c.is_dead-is_over.ensures w.if-not-is_over.false))
      ];
    }

pub returns : goal.returns
returns c = λ path e. (λ f. absurd (false≢true f), λ s. absurd (none_left c.args.short.now c.args.lines.now c.args.row.now c.args.shared.now c.loop-i.i c.loop-i.len c.loop-i.columns c.loop-i.is_over path c.loop-i.invariant.gone c.loop-i-test.false e s))
