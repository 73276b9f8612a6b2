use Rattle.std.proofs.Common.{sym, ap, ◌∙◌, leb-true, refl}
use Rattle.std.specs.Prelude.{option_map}
use Rattle.std.specs.Str.{is_utf8}
use Rattle.hg_image.proofs.Seen.{seen}
use Rattle.hg_image.proofs.below.find_below.Goals as goal

pub sound_text-requires : goal.sound_text-requires
sound_text-requires c =
    (seen c.args.bytes.now (option_map (λ d. d.text.now) c.args.dir) c.args.rec c.in-Some.name.now (leb-true _ _ (sym c.if-not-within.ensures))
    (ap is_utf8 (sym c.part-text.ensures) ∙ c.in-Some.ensures.utf8) (sym c.part-text.ensures ∙ c.in-Some.ensures.whole)
    c.in-Some.ensures.component (c.if-not-makes_path.ensures refl)).text

pub returns-clause-fault : goal.returns-clause-fault
returns-clause-fault c =
    (seen c.args.bytes.now (option_map (λ d. d.text.now) c.args.dir) c.args.rec c.in-Some.name.now (leb-true _ _ (sym c.if-not-within.ensures))
    (ap is_utf8 (sym c.part-text.ensures) ∙ c.in-Some.ensures.utf8) (sym c.part-text.ensures ∙ c.in-Some.ensures.whole)
    c.in-Some.ensures.component (c.if-not-makes_path.ensures refl)).fault

pub returns-clause-name : goal.returns-clause-name
returns-clause-name c =
    (seen c.args.bytes.now (option_map (λ d. d.text.now) c.args.dir) c.args.rec c.in-Some.name.now (leb-true _ _ (sym c.if-not-within.ensures))
    (ap is_utf8 (sym c.part-text.ensures) ∙ c.in-Some.ensures.utf8) (sym c.part-text.ensures ∙ c.in-Some.ensures.whole)
    c.in-Some.ensures.component (c.if-not-makes_path.ensures refl)).is_name

pub returns-clause-stands : goal.returns-clause-stands
returns-clause-stands c =
    (seen c.args.bytes.now (option_map (λ d. d.text.now) c.args.dir) c.args.rec c.in-Some.name.now (leb-true _ _ (sym c.if-not-within.ensures))
    (ap is_utf8 (sym c.part-text.ensures) ∙ c.in-Some.ensures.utf8) (sym c.part-text.ensures ∙ c.in-Some.ensures.whole)
    c.in-Some.ensures.component (c.if-not-makes_path.ensures refl)).stands
