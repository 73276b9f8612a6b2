use Rattle.std.proofs.Common.{None, Some, ◌∙◌, rules}
use Rattle.hg_base.proofs.Cuts.{is_cut}
use Rattle.hg_words.proofs.Leading.{led_name, led_plain}
use Rattle.hg_words.proofs.folder.led.Goals as goal

pub returns-then-ne : goal.returns-then-ne
returns-then-ne c =
    let rest = c.loop-front.rest.now in
    let cut = is_cut rest (Some (c.in-Some.front, c.in-Some.behind)) c.in-Some.ensures.cases in
    c.loop-front.invariant.leads ∙ led_name c.loop-front.dir.now rest c.in-Some.front.now c.in-Some.behind.now cut.0 cut.1 (search rules) (search rules)

pub returns : goal.returns
returns c =
    let plain = is_cut c.loop-front.rest.now None (rw c.in_default.is at c.split_once.ensures.cases) in
    c.loop-front.invariant.leads ∙ led_plain c.loop-front.dir.now c.loop-front.rest.now plain
