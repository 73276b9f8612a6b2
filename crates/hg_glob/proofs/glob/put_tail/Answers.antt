use Rattle.std.proofs.Common.{sym, ◌∙◌}
use Rattle.hg_glob.proofs.Literal.{ended_bytes}
use Rattle.hg_glob.proofs.glob.put_tail.Goals as goal

pub returns-in_ok-push-in-Some : goal.returns-in_ok-push-in-Some
returns-in_ok-push-in-Some c = λ text old_is. ended_bytes text _ c.in-Some.c _ _ (sym c.literal_of.ensures ∙ c.in-Some.is) old_is c.in_ok-push-in-Some.ensures.bytes
