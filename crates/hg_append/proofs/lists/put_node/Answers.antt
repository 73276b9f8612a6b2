use Rattle.std.proofs.Common.{subst}
use Rattle.hg_mixed.specs.Child.{shown_child}
use Rattle.hg_append.specs.Put.{AreFields}
use Rattle.hg_append.proofs.lists.put_node.Goals as goal

pub returns-then-sums-gt-LAST-clause-sound : goal.returns-then-sums-gt-LAST-clause-sound
returns-then-sums-gt-LAST-clause-sound c =
    record {
      path = c.path_put-path.ensures.path;
      text = c.path_put-path.ensures.utf8;
      source = c.source_put-source.ensures.sound;
      fields = subst (AreFields (shown_child c.args.child.now)) c.requires.fields.is c.requires.fields;
    }
