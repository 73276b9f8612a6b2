use Rattle.std.proofs.Common.{refl}
use Rattle.hg_glob.proofs.Masks.{table_first}
use Rattle.hg_glob.proofs.short.Short.new.Goals as goal

pub invariant_of-result : goal.invariant_of-result
invariant_of-result c = table_first _ _ _ refl refl refl
