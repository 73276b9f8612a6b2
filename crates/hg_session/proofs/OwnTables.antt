-- What a call published is of what its command made.
use Rattle.std.proofs.Common.{Option, inl, inr, refl}
use Rattle.hg_report.specs.declared.fault.Fault.{Fault}
use Rattle.hg_session.specs.Acts.{Makes}
use Rattle.hg_session.specs.Call.{Saved}
use Rattle.hg_session.specs.Change.{IsSafe}
use Rattle.hg_session.specs.Crash.{IsOwnOf, published_in}

pub own_of : (Does : Makes) (saved : Saved) (fault : Option Fault) (safe : IsSafe Does saved fault) → IsOwnOf Does saved (published_in Does saved fault safe)
own_of Does saved fault (inl only) = tt
own_of Does saved fault (inr (may, is)) = (is, refl)
