use Rattle.std.proofs.Common.{ap, refl}
use Rattle.hg_shelf.specs.Rules.{content}
use Rattle.hg_store.proofs.Leading.{alone_first, alone_second, leads_on, proceeds_trans}
use Rattle.hg_store.proofs.Laying.{but_trans}
use Rattle.hg_store.specs.Storing.{ButNew}
use Rattle.hg_store.proofs.writing.write_text.Goals as goal

pub returns-in_err-write_pieces-clause-proceeds : goal.returns-in_err-write_pieces-clause-proceeds
returns-in_err-write_pieces-clause-proceeds g c = proceeds_trans c.clear.ensures.proceeds c.write_pieces.ensures.proceeds

pub returns-in_err-write_pieces-clause-leads : goal.returns-in_err-write_pieces-clause-leads
returns-in_err-write_pieces-clause-leads g c = leads_on ButNew but_trans c.clear.ensures.proceeds c.write_pieces.ensures.proceeds c.clear.ensures.leads c.write_pieces.ensures.leads

pub returns-clause-proceeds : goal.returns-clause-proceeds
returns-clause-proceeds g c = proceeds_trans c.clear.ensures.proceeds (proceeds_trans c.write_pieces.ensures.proceeds c.finish.ensures.proceeds)

pub returns-clause-leads : goal.returns-clause-leads
returns-clause-leads g c =
    leads_on ButNew but_trans c.clear.ensures.proceeds (proceeds_trans c.write_pieces.ensures.proceeds c.finish.ensures.proceeds) c.clear.ensures.leads
    (leads_on ButNew but_trans c.write_pieces.ensures.proceeds c.finish.ensures.proceeds c.write_pieces.ensures.leads c.finish.ensures.leads)

pub returns-clause-sure : goal.returns-clause-sure
returns-clause-sure g c = λ alone.
    let p = c.clear.ensures.proceeds in
    let q = c.write_pieces.ensures.proceeds in
    let r = c.finish.ensures.proceeds in
    let later = alone_second p alone in
    let none = (c.in_ok-clear.ensures.cleared (alone_first (proceeds_trans q r) alone)).shown in
    c.finish.ensures.sure c.args.text.now (alone_second q later) (c.in_ok-write_pieces.ensures.laid (alone_first r later) (ap content none)) refl
