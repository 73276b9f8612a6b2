use Rattle.std.proofs.Common.{refl}
use Rattle.hg_ignore.specs.Asked.{state_asked}
use Rattle.hg_flat.proofs.Ignoring.{ignored_above, ignored_itself}
use Rattle.hg_flat.proofs.untracked.is_ignored.Goals as goal

pub returns-then-above-clause-ignored : goal.returns-then-above-clause-ignored
returns-then-above-clause-ignored c =
    ignored_above (state_asked c.args.matcher.now) c.args.above c.args.path.text.now c.args.path.is_path c.requires c.if-above.true

pub returns-clause-ignored : goal.returns-clause-ignored
returns-clause-ignored c =
    ignored_itself (state_asked c.args.matcher.now) c.args.above c.matches.result c.args.path.text.now c.args.path.text.now c.args.path.is_path refl c.requires c.if-above.false c.matches.ensures.matches
