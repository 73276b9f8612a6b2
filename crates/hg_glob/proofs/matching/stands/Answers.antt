use Rattle.std.proofs.Common.{refl, sym, ◌∙◌, rules, ap}
use Rattle.std.specs.Char.{IsScalar}
use Rattle.std.specs.Str.Iter.{chars_rest}
use Rattle.std.specs.Iterator.Adapters.{rev_source}
use Rattle.std.proofs.lemmas.Bool.{false≢true}
use Rattle.hg_glob.proofs.Ends.{back_first, back_more}
use Rattle.hg_glob.proofs.Lines.{line_begins, line_over, line_read}
use Rattle.hg_glob.proofs.matching.stands.Goals as goal

pub loop-c-init : goal.loop-c-init
loop-c-init c = record {
  back = back_first c.args.inner c.args.rooted c.args.parts.now c.args.path.now c.args.marks.now c.turn-low.new.marks _ c.turn-low.ensures.marks
      (ap chars_rest (ap rev_source c.into_iter-c-iterator.ensures.into_iter_gives ∙ c.rev-c-items.ensures.source) ∙ c.chars.ensures.rest);
  low = c.turn-low.ensures.low;
}

pub returns-then-begins_behind : goal.returns-then-begins_behind
returns-then-begins_behind c =
    let scalar : IsScalar c.in-Some.c = search rules in
    let s = line_begins c.args.inner c.args.rooted c.args.parts.now c.args.path.now c.loop-c.marks _ _ c.loop-c.yielded c.in-Some.c c.requires.closed c.utf8.path c.loop-c.invariant.back c.in-Some.ensures.steps scalar (sym c.begins_behind.ensures ∙ c.if-begins_behind.true) in
    (λ _. s, λ _. refl)

pub returns-then-is_over : goal.returns-then-is_over
returns-then-is_over c =
    let scalar : IsScalar c.in-Some.c = search rules in
    let h = back_more c.args.inner c.args.rooted c.args.parts.now c.args.path.now c.loop-c.marks c.turn-low-in-loop-c.new.marks _ _ c.loop-c.yielded c.in-Some.c c.loop-c.invariant.back c.in-Some.ensures.steps scalar (sym c.begins_behind.ensures ∙ c.if-begins_behind.false) c.turn-low-in-loop-c.ensures.marks in
    (λ e. absurd (false≢true e), λ s. absurd (line_over c.args.inner c.args.rooted c.args.parts.now c.args.path.now c.turn-low-in-loop-c.new.marks _ _ c.turn-low-in-loop-c.result c.requires.closed c.utf8.path h c.turn-low-in-loop-c.ensures.low (sym c.is_over.ensures ∙ c.if-is_over.true) s))

pub loop-c-preserved : goal.loop-c-preserved
loop-c-preserved c =
    let scalar : IsScalar c.in-Some.c = search rules in
    record {
      back = back_more c.args.inner c.args.rooted c.args.parts.now c.args.path.now c.loop-c.marks c.turn-low-in-loop-c.new.marks _ _ c.loop-c.yielded c.in-Some.c c.loop-c.invariant.back c.in-Some.ensures.steps scalar (sym c.begins_behind.ensures ∙ c.if-begins_behind.false) c.turn-low-in-loop-c.ensures.marks;
      low = c.turn-low-in-loop-c.ensures.low;
    }

pub returns : goal.returns
returns c = line_read c.args.inner c.args.rooted c.args.parts.now c.args.path.now c.loop-c.marks _ c.loop-c.yielded c.requires.closed c.utf8.path c.loop-c.invariant.back c.in-None.ensures.steps.0
