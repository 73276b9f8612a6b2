use Rattle.std.proofs.Common.{ap, ◌∙◌}
use Rattle.hg_entry.specs.Entry.{view, entry_of}
use Rattle.hg_entry.proofs.ReadBack.{entry_back, agrees}
use Rattle.hg_entry.proofs.entry.Entry.write.Goals as goal

pub returns-clause-back : goal.returns-clause-back
returns-clause-back c = ap entry_of c.fields.ensures ∙ entry_back (view c.args.self.now) (agrees c.args.self.now)
