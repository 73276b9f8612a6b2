use Rattle.std.proofs.Common.{true, Option, subst, sym, ◌∙◌}
use Rattle.hg_image.specs.declared.opened.List.{List as NodeList}
use Rattle.hg_mixed.specs.Walk.{Fills}
use Rattle.hg_mixed.proofs.LentChildren.{fills_first}
use Rattle.hg_mixed.proofs.walk.fills.Goals as goal

pub returns : goal.returns
returns c =
    subst (λ (o : Option NodeList). Fills o true) (sym c.in-Some.is) (fills_first c.in-Some.list _ _ (c.len.ensures.whole ∙ c.get.ensures.rows) c.get.ensures.dir)
