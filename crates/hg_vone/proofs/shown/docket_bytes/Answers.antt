use Rattle.std.proofs.Common.{rules}
use Rattle.hg_docket.specs.Docket as dockets
use Rattle.hg_vone.specs.Showing.{with_more}
use Rattle.hg_vone.proofs.Showing.{back_is, put_is}
use Rattle.hg_vone.proofs.Sizes.{docket_few}
use Rattle.hg_vone.proofs.shown.docket_bytes.Goals as goal

pub returns-clause-reads : goal.returns-clause-reads
returns-clause-reads c = back_is c.write.new.out.items _ (with_more (dockets.view c.args.docket) c.args.more) c.in_ok-write.ensures.ok c.new-out.ensures.items c.in_ok-write.ensures.back

pub returns-clause-few : goal.returns-clause-few
returns-clause-few c =
    docket_few (with_more (dockets.view c.args.docket) c.args.more) c.write.new.out.items (search rules) (search rules) (search rules) c.requires.id
    (put_is c.write.new.out.items _ (with_more (dockets.view c.args.docket) c.args.more) c.in_ok-write.ensures.ok c.new-out.ensures.items)
