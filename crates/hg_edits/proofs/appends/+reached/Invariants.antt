use Rattle.hg_edits.proofs.appends.+reached.Given as goal

abbrev pub decreases-reached : goal.decreases-reached
decreases-reached l = l.list.depth
