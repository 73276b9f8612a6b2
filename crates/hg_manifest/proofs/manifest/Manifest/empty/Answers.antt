use Rattle.hg_manifest.proofs.Ascending.{none_kept}
use Rattle.hg_manifest.proofs.manifest.Manifest.empty.Goals as goal

pub invariant_of-result : goal.invariant_of-result
invariant_of-result c = rw (c.new.ensures.items, c.new-2.ensures.items) none_kept
