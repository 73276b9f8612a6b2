use Rattle.std.proofs.Common.{rules, arith}
use Rattle.hg_docket.specs.Docket as dockets
use Rattle.hg_vone.proofs.Showing.{shown}
use Rattle.hg_vone.proofs.shown.told_docket.Goals as goal

pub returns : goal.returns
returns c =
    shown c.args.bytes.now c.args.nodes.now c.in_ok-told.told.items c.args.read.now.items.items (dockets.view c.plain_docket-docket.result) _ c.len-entries.result (search rules) c.in_ok-told.ensures.reads c.in_ok-told.ensures.few (c.is_sound.ensures c.if-not-is_sound.false) c.more.ensures c.plain_docket-docket.ensures.p1
    c.plain_docket-docket.ensures.p2 c.plain_docket-docket.ensures.hash c.plain_docket-docket.ensures.waste c.plain_docket-docket.ensures.id c.plain_docket-docket.ensures.used c.requires.empty (omega arith)
