use Rattle.std.proofs.Common.{List, ℕ, ◌++◌, ◌∙◌, ap}
use Rattle.std.specs.Prelude.{map}
use Rattle.hg_gen.specs.Manifest.{lines_of, pair}
use Rattle.hg_gen.proofs.Listed.{next_line, no_line}
use Rattle.hg_gen.proofs.parent.lines.Goals as goal

pub loop-path-init : goal.loop-path-init
loop-path-init c =
    ap (λ (text : List ℕ). text ++ lines_of (map pair c.into_iter-path-iterator.result)) c.new-text.ensures.items
    ∙ ap (λ es. lines_of (map pair es)) c.into_iter-path-iterator.ensures.into_iter_gives.0

pub loop-path-preserved : goal.loop-path-preserved
loop-path-preserved c =
    next_line c.loop-path.text.items c.put_line.new.text.items _ c.as_str.result.now c.as_str-in-loop-path.result.now c.in-Some.path.now c.in-Some.contents.now c.loop-path.path-iterator c.next.new.self c.in-Some.ensures.steps
    c.as_str.ensures.value c.as_str-in-loop-path.ensures.value c.in_ok-put_line.ensures c.loop-path.invariant

pub returns-clause-lines : goal.returns-clause-lines
returns-clause-lines c = no_line c.loop-path.text.items _ c.loop-path.path-iterator c.in-None.ensures.steps.0 c.loop-path.invariant
