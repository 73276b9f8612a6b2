use Rattle.std.proofs.Common.{◌∙◌, append-nil}
use Rattle.hg_ignore.specs.Kept.{patterns_kept}
use Rattle.hg_ignore.proofs.Union.{part_more, set_more}
use Rattle.hg_ignore.proofs.sets.sets_of.Goals.{then-len-eq-IN_EACH+in_ok-push, else-len-eq-IN_EACH}
use Rattle.hg_ignore.proofs.sets.sets_of.Goals as goal

pub loop-regex-preserved : goal.loop-regex-preserved
loop-regex-preserved c =
    elim c.if-len-eq-IN_EACH.branch [
      | then-len-eq-IN_EACH+in_ok-push w ↦
          part_more c.if-len-eq-IN_EACH.sets.items c.if-len-eq-IN_EACH.part.items c.loop-regex.yielded c.push-in-loop-regex.new.self.items c.in-Some.regex
          (rw (w.sets-is, w.part-is, w.new-part-then-len-eq-IN_EACH.ensures.items)
          (append-nil (patterns_kept w.push.new.self.items)
          ∙ set_more c.loop-regex.sets.items w.push.new.self.items w.from_regexes.result c.loop-regex.part.items c.loop-regex.yielded c.loop-regex.invariant w.in_ok-push.ensures.items w.from_regexes.ensures.patterns))
          c.in_ok-push-2.ensures.items
      | else-len-eq-IN_EACH w ↦
          part_more c.if-len-eq-IN_EACH.sets.items c.if-len-eq-IN_EACH.part.items c.loop-regex.yielded c.push-in-loop-regex.new.self.items c.in-Some.regex
          (rw (w.sets-is, w.part-is) c.loop-regex.invariant) c.in_ok-push-2.ensures.items
    ]
