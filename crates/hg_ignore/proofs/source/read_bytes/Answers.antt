use Rattle.std.proofs.Common.{◌∙◌, ◌≡◌}
use Rattle.hg_tree.specs.History.{now}
use Rattle.hg_ignore.specs.declared.fault.IgnoreFault.TheVariants as a_fault
use Rattle.hg_ignore.proofs.Sourced.{stat_sized, seen_during, small_during, large_stated, asks_behind, asked_behind, bytes_behind, sizes_behind, stayed_behind}
use Rattle.hg_ignore.proofs.source.read_bytes.Goals as goal

pub returns-then-size-most-clause-size : goal.returns-then-size-most-clause-size
returns-then-size-most-clause-size g c = λ told.
    large_stated c.args.most c.in-Some.size (g.T.Tree.history c.args.tree.now) (g.T.Tree.history c.stat.new.self) c.in-Ok.ensures.passes c.if-size-most.true
    (stat_sized (now (g.T.Tree.history c.stat.new.self)) c.in-Ok.found c.in-Some.size (c.in-Ok.ensures.found told) c.in-Some.ensures)

pub returns-else-size-most-clause-asked : goal.returns-else-size-most-clause-asked
returns-else-size-most-clause-asked g c = λ told.
    let shown = stat_sized (now (g.T.Tree.history c.stat.new.self)) c.in-Ok.found c.in-Some.size (c.in-Ok.ensures.found told) c.in-Some.ensures in
    asks_behind (g.T.Tree.history c.args.tree.now) (g.T.Tree.history c.stat.new.self) (g.T.Tree.history c.read_file.new.tree) (c.in-Ok.ensures.asked told)
    (seen_during (g.T.Tree.history c.args.tree.now) (g.T.Tree.history c.stat.new.self) (g.T.Tree.history c.read_file.new.tree) c.in-Ok.ensures.passes c.read_file.ensures.passes shown.0) (c.read_file.ensures.asked (c.in-Ok.ensures.passes.past.told ∙ told))

pub returns-else-size-most-clause-found : goal.returns-else-size-most-clause-found
returns-else-size-most-clause-found g c = λ told.
    let shown = stat_sized (now (g.T.Tree.history c.stat.new.self)) c.in-Ok.found c.in-Some.size (c.in-Ok.ensures.found told) c.in-Some.ensures in
    bytes_behind (λ v. v.items) (g.T.Tree.history c.args.tree.now) (g.T.Tree.history c.read_file.new.tree) c.read_file.result
    (seen_during (g.T.Tree.history c.args.tree.now) (g.T.Tree.history c.stat.new.self) (g.T.Tree.history c.read_file.new.tree) c.in-Ok.ensures.passes c.read_file.ensures.passes shown.0) (c.read_file.ensures.found (c.in-Ok.ensures.passes.past.told ∙ told))

pub returns-else-size-most-clause-size : goal.returns-else-size-most-clause-size
returns-else-size-most-clause-size g c = λ told.
    let shown = stat_sized (now (g.T.Tree.history c.stat.new.self)) c.in-Ok.found c.in-Some.size (c.in-Ok.ensures.found told) c.in-Some.ensures in
    sizes_behind c.args.most (g.T.Tree.history c.args.tree.now) (g.T.Tree.history c.read_file.new.tree) c.read_file.result
    (small_during c.args.most c.in-Some.size (g.T.Tree.history c.args.tree.now) (g.T.Tree.history c.stat.new.self) (g.T.Tree.history c.read_file.new.tree) c.in-Ok.ensures.passes c.read_file.ensures.passes c.if-size-most.false shown) (c.read_file.ensures.large (c.in-Ok.ensures.passes.past.told ∙ told))

pub returns-else-size-most-clause-asks : goal.returns-else-size-most-clause-asks
returns-else-size-most-clause-asks g c = λ told.
    let shown = stat_sized (now (g.T.Tree.history c.stat.new.self)) c.in-Ok.found c.in-Some.size (c.in-Ok.ensures.found told) c.in-Some.ensures in
    asked_behind (g.T.Tree.history c.args.tree.now) (g.T.Tree.history c.stat.new.self) (g.T.Tree.history c.read_file.new.tree) c.read_file.result (c.in-Ok.ensures.asked told)
    (seen_during (g.T.Tree.history c.args.tree.now) (g.T.Tree.history c.stat.new.self) (g.T.Tree.history c.read_file.new.tree) c.in-Ok.ensures.passes c.read_file.ensures.passes shown.0) (c.read_file.ensures.asks (c.in-Ok.ensures.passes.past.told ∙ told))

pub returns-else-size-most-clause-stayed : goal.returns-else-size-most-clause-stayed
returns-else-size-most-clause-stayed g c =
    stayed_behind (λ e. e ≡ a_fault.Failed) (g.T.Tree.faults c.args.tree.now) (g.T.Tree.faults c.stat.new.self) (g.T.Tree.faults c.read_file.new.tree) c.read_file.result c.in-Ok.ensures.cause.quiet c.read_file.ensures.stayed
