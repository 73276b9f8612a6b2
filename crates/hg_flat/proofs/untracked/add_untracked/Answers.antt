use Rattle.std.proofs.Common.{refl, rules}
use Rattle.hg_ignore.specs.Asked.{state_asked}
use Rattle.hg_flat.proofs.Ignoring.{puts_nothing, puts_row}
use Rattle.hg_flat.proofs.untracked.add_untracked.Goals as goal

pub returns-then-not-wants-clause-row : goal.returns-then-not-wants-clause-row
returns-then-not-wants-clause-row g c =
    puts_nothing c.args.wanted (state_asked c.args.matcher.now) (g.K.Entries.kept c.args.entries.now c.args.path.text.now) c.args.path.text.now c.args.path.text.now c.untracked_letter-letter.result c.args.rows.now.items
    (search rules) refl c.untracked_letter-letter.ensures.letter (search rules)

pub returns-clause-row : goal.returns-clause-row
returns-clause-row g c =
    puts_row c.args.wanted (state_asked c.args.matcher.now) (g.K.Entries.kept c.args.entries.now c.args.path.text.now) c.args.path.text.now c.args.path.text.now c.untracked_letter-letter.result c.args.rows.now.items c.push.new.self.items
    (search rules) refl c.untracked_letter-letter.ensures.letter (search rules) (search rules)
