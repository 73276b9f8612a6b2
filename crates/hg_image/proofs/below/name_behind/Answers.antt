use Rattle.std.proofs.Common.{ℕ, List, ◌∷◌, ◌++◌, ap, ◌∙◌}
use Rattle.std.specs.Str.{is_utf8}
use Rattle.hg_image.proofs.Seen.{utf8_below}
use Rattle.hg_image.proofs.below.name_behind.Goals as goal

pub returns-clause-utf8 : goal.returns-clause-utf8
returns-clause-utf8 c =
    let whole = c.in-Some.ensures ∙ ap (λ (d : List ℕ). d ++ 47 ∷ c.in-Some.rest.now) c.as_bytes.ensures.value in
    ap is_utf8 whole ∙ utf8_below c.args.dir.now c.in-Some.rest.now c.utf8.dir c.in-Some-valid_name.ensures.utf8
