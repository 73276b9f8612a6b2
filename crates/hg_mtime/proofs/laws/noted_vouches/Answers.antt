use Rattle.hg_mtime.proofs.Tests.{noted_matches, noted_vouch}
use Rattle.hg_mtime.proofs.laws.noted_vouches.Goals as goal

pub returns-clause-matches : goal.returns-clause-matches
returns-clause-matches c = noted_matches

pub returns-clause-vouches : goal.returns-clause-vouches
returns-clause-vouches c = noted_vouch
