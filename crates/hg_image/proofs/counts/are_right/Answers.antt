use Rattle.std.proofs.Common.{◌≡◌, Bool, false, ◌&&◌, sym, ap, ◌∙◌, eqb, eq-eqb}
use Rattle.std.proofs.lemmas.Bool.{ne_eqb}
use Rattle.hg_docket.specs.Docket.{view}
use Rattle.hg_image.proofs.Tallies.{counted_missing, counted_found}
use Rattle.hg_image.proofs.counts.are_right.Goals as goal

pub returns-in-None : goal.returns-in-None
returns-in-None c = λ rows h. counted_missing (view c.args.docket.now) rows (sym c.in-None.is ∙ h)

pub returns-then-docket-tally : goal.returns-then-docket-tally
returns-then-docket-tally c = λ rows h.
    let docket = c.args.docket.now in
    let tally = c.in-Some.tally in
    sym (ap (λ (t : Bool). t && eqb docket.copies tally.copies) (eq-eqb docket.entries tally.entries c.if-docket-tally.true)) ∙ counted_found (view docket) rows tally (sym c.in-Some.is ∙ h)

pub returns-else-docket-tally : goal.returns-else-docket-tally
returns-else-docket-tally c = λ rows h.
    let docket = c.args.docket.now in
    let tally = c.in-Some.tally in
    let test : eqb docket.entries tally.entries ≡ false = ne_eqb docket.entries tally.entries c.if-docket-tally.false in
    test ∙ sym (ap (λ (t : Bool). t && eqb docket.copies tally.copies) test) ∙ counted_found (view docket) rows tally (sym c.in-Some.is ∙ h)
