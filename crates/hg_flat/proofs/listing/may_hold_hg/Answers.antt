use Rattle.std.proofs.Common.{sym, ◌∙◌}
use Rattle.hg_tree.specs.Still.{hg_in}
use Rattle.hg_flat.proofs.InNodes.{no_hg, no_hg_then, no_path_made}
use Rattle.hg_flat.proofs.Steps.{seen_none}
use Rattle.hg_flat.proofs.listing.may_hold_hg.Goals as goal

pub returns-in_ok-found-in-Ok-clause-apart : goal.returns-in_ok-found-in-Ok-clause-apart
returns-in_ok-found-in-Ok-clause-apart g c = λ told never.
    seen_none (g.T.Tree.history c.args.tree.now) (g.T.Tree.history c.stat.new.self) c.stat.ensures.passes.past (hg_in c.args.dir.text.now) c.as_ref.result.text.now (c.as_ref.ensures ∙ c.in-Ok.ensures.0)
    c.in_ok-found-in-Ok.found (c.in_ok-found-in-Ok.ensures.found told) (sym c.is_dir_stat.ensures ∙ never)

pub returns-in_ok-stat-in_default-clause-found : goal.returns-in_ok-stat-in_default-clause-found
returns-in_ok-stat-in_default-clause-found g c = λ path untouched inside.
    let old = g.T.Tree.history c.args.tree.now in
    let new = g.T.Tree.history c.stat-in_default.new.self in
    no_hg_then old new c.stat-in_default.ensures.passes.past (c.in_ok-stat-in_default.ensures.formed (sym c.stat-in_default.ensures.passes.past.told ∙ untouched.told)) c.args.dir.text.now
    (no_path_made (hg_in c.args.dir.text.now) c.in-Err.fault c.in_default.not-OutOfMemory c.in-Err.ensures)

pub returns-in_ok-stat-in_default-clause-apart : goal.returns-in_ok-stat-in_default-clause-apart
returns-in_ok-stat-in_default-clause-apart g c = λ told never.
    let old = g.T.Tree.history c.args.tree.now in
    let new = g.T.Tree.history c.stat-in_default.new.self in
    no_hg old new c.stat-in_default.ensures.passes.past (c.in_ok-stat-in_default.ensures.formed told) c.args.dir.text.now
    (no_path_made (hg_in c.args.dir.text.now) c.in-Err.fault c.in_default.not-OutOfMemory c.in-Err.ensures)
