use Rattle.std.proofs.Common.{[]}
use Rattle.hg_append.proofs.Written.{back_is}
use Rattle.hg_append.proofs.rewriting.docket_bytes.Goals as goal

pub returns-clause-back : goal.returns-clause-back
returns-clause-back c =
    back_is c.write.new.out.items _ [] _ _ c.in_ok-write.ensures.ok c.new-out.ensures.items c.in_ok-write.ensures.back
    (λ i. record {
      p1 = c.parents.ensures.p1 i;
      p2 = c.parents.ensures.p2 i;
      root_start = c.args.put.start;
      root_count = c.args.put.sums.count;
      entries = c.args.put.sums.entries;
      copies = c.args.put.sums.copies;
      unreachable = 0;
      hash = c.hash.ensures i;
      used = c.args.used;
      id = c.as_bytes.ensures.bytes i;
    })
