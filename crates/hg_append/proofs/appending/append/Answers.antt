use Rattle.std.proofs.Common.{refl, ap}
use Rattle.hg_docket.specs.Docket.{Contents}
use Rattle.hg_append.proofs.Behind.{fit, soundly}
use Rattle.hg_append.proofs.appending.append.Goals as goal

pub docket_bytes-requires-clause-fit : goal.docket_bytes-requires-clause-fit
docket_bytes-requires-clause-fit c =
    fit c.args.mixed.now c.over.ensures c.in_ok-put.put c.put_root.new.bytes.items c.in_ok-put.ensures.put c.left_behind.result c.left_behind.ensures.bytes c.left_behind.ensures.copies c.in_ok-put.ensures.few c.in_ok-used.ensures.ok.1

pub returns-clause-appended : goal.returns-clause-appended
returns-clause-appended c =
    soundly c.args.mixed.now c.over.ensures c.in_ok-put.put c.put_root.new.bytes.items c.in_ok-put.ensures.put c.left_behind.result c.left_behind.ensures.bytes c.left_behind.ensures.copies _ c.in_ok-used.used
    (ap (λ (d : Contents). d.used) c.image.ensures.docket) refl c.own_id-id.ensures.id c.in_ok-used.ensures.ok.0 c.in_ok-used.ensures.ok.1 c.in_ok-docket.ensures.bytes c.in_ok-docket.ensures.back
