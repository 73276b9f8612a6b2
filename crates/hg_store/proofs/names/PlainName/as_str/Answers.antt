use Rattle.hg_store.proofs.names.PlainName.as_str.Goals as goal

pub returns-in-Err : goal.returns-in-Err
returns-in-Err c = absurd (c.in-Err.ensures.cases.0 (rw c.as_slice.ensures c.self.invariant))
