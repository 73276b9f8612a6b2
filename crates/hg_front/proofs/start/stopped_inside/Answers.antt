use Rattle.std.proofs.Common.{◌≡◌, Option, Some, option_map, rules, string_bytes, subst}
use Rattle.hg_front.specs.Guard.{Reason, refusal}
use Rattle.hg_front.specs.Placed.{changes, files}
use Rattle.hg_front.specs.Start.{TellsReason}
use Rattle.hg_front.proofs.start.stopped_inside.Goals as goal

pub returns-in-Err-clause-stopped : goal.returns-in-Err-clause-stopped
returns-in-Err-clause-stopped g c =
    let texts = c.args.texts.now in
    let placed = c.args.placed.now in
    let e : Some (c.in-Err.refused.why, c.in-Err.refused.what.now) ≡ refusal (option_map string_bytes texts.own) (option_map string_bytes texts.store) (changes placed) (files placed) = search rules in
    subst (λ (r : Option Reason). TellsReason r (g.E.Sink.bytes c.args.err.now) (g.E.Sink.bytes c.refuse.new.err) (g.E.Sink.faults c.args.err.now) (g.E.Sink.faults c.refuse.new.err)) e c.refuse.ensures.told
