use Rattle.std.proofs.Common.{◌≡◌, chars, reverse, sym, ap, subst, ◌∙◌}
use Rattle.std.specs.Bool.{Decides}
use Rattle.hg_glob.specs.Part.{reading}
use Rattle.hg_glob.specs.Line.{Stands}
use Rattle.hg_glob.proofs.matching.stands_marked.Goals as goal
use Rattle.hg_glob.proofs.matching.stands_marked.Goals.{then-parts-ge16, else-parts-ge16}

pub returns-then-read : goal.returns-then-read
returns-then-read c =
    let all = c.read.ensures.all c.if-read.true in
    let whole : chars c.args.path.now ≡ reverse c.if-parts-ge16.short =
    elim c.if-parts-ge16.branch [
      | then-parts-ge16 w ↦ all ∙ ap reverse (sym (w.short-is ∙ w.prepare.ensures))
      | else-parts-ge16 w ↦ all ∙ ap reverse (sym w.short-is)
    ] in
    subst (λ t. Decides c.stands_short.result (Stands c.args.inner c.args.rooted (reading c.args.parts.now).pattern t)) (sym whole) c.stands_short.ensures
