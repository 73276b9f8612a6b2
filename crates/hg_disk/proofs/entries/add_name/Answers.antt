use Rattle.hg_disk.proofs.entries.add_name.Goals as goal
use Rattle.hg_disk.proofs.Listed.{one_more}

pub returns-in_ok-push-in-Some : goal.returns-in_ok-push-in-Some
returns-in_ok-push-in-Some c =
    let fit = rw c.in-Some.is at c.in_ok-name.ensures in
    one_more _ _ _ _ c.requires fit c.in_ok-push-in-Some.ensures.items
