use Rattle.std.proofs.Common.{sym, ap, ◌∙◌}
use Rattle.std.specs.Prelude.{option_map}
use Rattle.std.proofs.lemmas.Bool.{not-true}
use Rattle.hg_image.proofs.Seen.{seen_at_root}
use Rattle.hg_image.proofs.below.makes_path.Goals as goal

pub returns-in-None : goal.returns-in-None
returns-in-None c = λ h.
    seen_at_root (option_map (λ d. d.text.now) c.args.dir) c.args.name.now (ap (option_map (λ d. d.text.now)) c.in-None.is) c.requires.component c.requires.short
    (not-true _ (sym c.ne.ensures ∙ h))
