use Rattle.std.specs.Prelude.{IsTrue}
use Rattle.hg_flat.proofs.Alone.{alone}
use Rattle.hg_listing.specs.Full.{nothing_ignored}
use Rattle.hg_flat.specs.Patterns.{ignored_at}
use Rattle.hg_flat.proofs.full.one_listing.Goals as goal

pub returns-clause-plain : goal.returns-clause-plain
returns-clause-plain c = alone nothing_ignored

pub returns-clause-tested : goal.returns-clause-tested
returns-clause-tested c is_ignored = alone (λ path. IsTrue (is_ignored path))

pub returns-clause-patterns : goal.returns-clause-patterns
returns-clause-patterns c moment = alone (ignored_at moment)
