use Rattle.hg_glob.proofs.Reordered.{reordered}
use Rattle.hg_glob.proofs.globs.Globs.of.Goals as goal

pub returns : goal.returns
returns c = reordered c.args.lines.items c.sort_unstable_by.new.self.items c.sort_unstable_by.ensures.permutation
