use Rattle.std.proofs.Common.{sym, ◌∙◌}
use Rattle.hg_tree.specs.Still.{hg_in}
use Rattle.hg_flat.proofs.Steps.{seen_none}
use Rattle.hg_flat.proofs.listing.holds_hg.Goals as goal

pub returns-clause-apart : goal.returns-clause-apart
returns-clause-apart g c = λ told never.
    seen_none (g.T.Tree.history c.args.tree.now) (g.T.Tree.history c.stat.new.self) c.stat.ensures.passes.past (hg_in c.args.dir.text.now) c.as_ref.result.text.now (c.as_ref.ensures ∙ c.in_ok-path.ensures)
    c.in_ok-found.found (c.in_ok-found.ensures.found told) (sym c.is_dir_stat.ensures ∙ never)
