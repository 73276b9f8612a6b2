use Rattle.std.proofs.Common.{sym, ◌∙◌}
use Rattle.hg_nodes.proofs.AsWritten.{theirs}
use Rattle.hg_nodes.proofs.written.is_as_written.Goals as goal

pub returns-clause-theirs : goal.returns-clause-theirs
returns-clause-theirs c = λ is. theirs c.args.f c.if-f.false (sym c.has_entry.ensures ∙ c.if-not-has_entry.false) (sym c.is_sized.ensures ∙ c.if-not-is_sized.false) (sym c.is_timed.ensures ∙ is)
