use Rattle.hg_ops.proofs.ExactlyRefused.{exactly}
use Rattle.hg_ops.proofs.remove_laws.remove_is_exact.Goals as goal

pub returns : goal.returns
returns c = exactly
