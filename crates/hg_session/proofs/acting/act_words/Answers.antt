use Rattle.std.proofs.Common.{◌≡◌, ◌++◌, Some, List, ℕ, take, refl, sym, ap, ◌∙◌}
use Rattle.std.specs.List.{slice_get}
use Rattle.hg_mixed.specs.Held.{table}
use Rattle.hg_session.specs.Acts.{name, refused_line, steps_of}
use Rattle.hg_session.proofs.KeptLists.{keeps_lent, keeps_none, keeps_on, mark_of, moves_step}
use Rattle.hg_session.proofs.KeptTexts.{goes_step, texts_none, texts_on}
use Rattle.hg_session.proofs.SoFar.{goes_on, goes_on_at, leaves_same, leaves_trans, none_yet}
use Rattle.hg_session.proofs.acting.act_words.Goals as goal

pub loop-i-init : goal.loop-i-init
loop-i-init g c = record {
  unlooked = λ is. refl;
  leaves = leaves_same (g.T.Tree.history c.args.tree.now);
  so_far = none_yet (name c.args.command) (steps_of c.args.command) (g.T.Tree.history c.args.tree.now) c.args.mixed.now c.new-lines.result.items (g.T.Tree.faults c.args.tree.now) c.new-lines.ensures.items;
  keeps = keeps_none (mark_of c.args.command) c.args.mixed.now;
  texts = texts_none (mark_of c.args.command) c.args.mixed.now;
}

pub loop-i-preserved : goal.loop-i-preserved
loop-i-preserved g c =
    let start = g.T.Tree.history c.args.tree.now in
    let mid = g.T.Tree.history c.loop-i.tree in
    let at = g.T.Tree.history c.step.new.tree in
    let words = take c.loop-i.i c.args.words.now in
    let is : slice_get c.args.words.now c.loop-i.i ≡ Some c.as_str-word.result.now = c.at.ensures ∙ ap Some (sym c.as_str-word.ensures) in
    record {
      unlooked = λ is. c.step.ensures.unlooked is ∙ c.loop-i.invariant.unlooked is;
      leaves = leaves_trans start mid at c.loop-i.invariant.leaves (record { passes = c.step.ensures.passes; asked = c.step.ensures.asked });
      so_far =
          goes_on_at (name c.args.command) (steps_of c.args.command) start at c.args.words.now c.loop-i.i c.as_str-word.result.now c.args.mixed.now c.step.new.mixed
          (c.loop-i.lines.items ++ refused_line (name c.args.command) c.as_str-word.result.now c.in_ok-refused.refused) c.put_refused.new.lines.items (g.T.Tree.faults c.args.tree.now) (g.T.Tree.faults c.step.new.tree)
          is (c.in-Ok.ensures ∙ ap (λ (n : List ℕ). c.loop-i.lines.items ++ refused_line n c.as_str-word.result.now c.in_ok-refused.refused) c.name_of.ensures)
          (goes_on (name c.args.command) (steps_of c.args.command) start mid at c.args.mixed.now c.loop-i.mixed c.step.new.mixed words c.as_str-word.result.now c.loop-i.lines.items c.in_ok-refused.refused
          (g.T.Tree.faults c.args.tree.now) (g.T.Tree.faults c.loop-i.tree) (g.T.Tree.faults c.step.new.tree)
          c.loop-i.invariant.so_far c.step.ensures.passes.past c.in_ok-refused.ensures.stepped c.step.ensures.image
          c.in_ok-refused.ensures.changed c.in_ok-refused.ensures.cause);
      keeps =
          keeps_on (mark_of c.args.command) c.as_str-word.result.now c.args.mixed.now c.loop-i.mixed c.step.new.mixed c.loop-i.invariant.keeps
          (moves_step c.args.command mid at c.as_str-word.result.now (table c.loop-i.mixed) c.in_ok-refused.refused (table c.step.new.mixed) c.in_ok-refused.ensures.stepped)
          c.in_ok-refused.ensures.lent;
      texts =
          texts_on (mark_of c.args.command) c.args.mixed.now c.loop-i.mixed c.step.new.mixed c.loop-i.invariant.texts
          (goes_step c.args.command mid at c.as_str-word.result.now (table c.loop-i.mixed) c.in_ok-refused.refused (table c.step.new.mixed) c.step.ensures.formed c.in_ok-refused.ensures.stepped)
          c.in_ok-refused.ensures.texts;
    }

pub returns-clause-lent : goal.returns-clause-lent
returns-clause-lent g c = keeps_lent (mark_of c.args.command) c.args.mixed.now c.loop-i.mixed c.loop-i.invariant.keeps c.loop-i.invariant.texts.keeps
