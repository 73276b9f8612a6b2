-- One way out for each case: the node stays, it goes at the root, it goes in a directory.
use Rattle.std.proofs.Common.{sym, ◌∙◌, arith}
use Rattle.hg_base.proofs.Children.{parent_length}
use Rattle.hg_nodes.specs.Drop.{bare}
use Rattle.hg_nodes.proofs.Pruned.{dir_formed, dir_pruned, pruned_not, root_formed, root_pruned}
use Rattle.hg_nodes.proofs.pruning.+prune.Goals as goal

pub returns-then-stays-clause-pruned : goal.returns-then-stays-clause-pruned
returns-then-stays-clause-pruned t c = pruned_not c.args.path.text.now c.args.nodes.now c.args.times.now c.args.path.is_path (sym c.stays.ensures ∙ c.if-stays.true)

pub prune-requires : goal.prune-requires
prune-requires t c =
    let shorter = parent_length c.in-Some.dir.text.now c.args.path.text.now (sym c.in-Some.ensures.parent) in (
      omega (arith, c.decreases, shorter),
      dir_formed c.args.path.text.now c.args.nodes.now c.args.times.now c.args.path.is_path c.requires (sym c.stays.ensures ∙ c.if-stays.false) c.remove.new.self c.remove-2.new.self
          c.remove.ensures c.remove-2.ensures c.in-Some.dir.text.now (sym c.in-Some.ensures.parent) c.remove-in-Some.new.self c.remove-in-Some.ensures,
    )

pub returns-in-None-clause-pruned : goal.returns-in-None-clause-pruned
returns-in-None-clause-pruned t c =
    root_pruned c.args.path.text.now c.args.nodes.now c.args.times.now c.args.path.is_path c.requires (sym c.stays.ensures ∙ c.if-stays.false) c.remove.new.self c.remove-2.new.self c.remove.ensures c.remove-2.ensures
    (sym c.in-None.ensures.parent)

pub returns-in-None-clause-formed : goal.returns-in-None-clause-formed
returns-in-None-clause-formed t c =
    root_formed c.args.path.text.now c.args.nodes.now c.args.times.now c.args.path.is_path c.requires (sym c.stays.ensures ∙ c.if-stays.false) c.remove.new.self c.remove-2.new.self c.remove.ensures c.remove-2.ensures

pub returns-in-Some-clause-pruned : goal.returns-in-Some-clause-pruned
returns-in-Some-clause-pruned t c =
    dir_pruned c.args.path.text.now c.args.nodes.now c.args.times.now c.args.path.is_path c.requires (sym c.stays.ensures ∙ c.if-stays.false) c.remove.new.self c.remove-2.new.self c.remove.ensures c.remove-2.ensures
    c.in-Some.dir.text.now (sym c.in-Some.ensures.parent) c.remove-in-Some.new.self c.remove-in-Some.ensures (bare c.prune.new.nodes c.prune.new.times) c.prune.ensures.pruned
