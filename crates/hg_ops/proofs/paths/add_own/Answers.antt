use Rattle.std.proofs.Common.{ℕ, List, [], ◌∷◌, ◌++◌, ap, ◌∙◌}
use Rattle.hg_ops.proofs.Collecting.{own_more}
use Rattle.hg_ops.proofs.paths.add_own.Goals as goal

pub returns-in_ok-push : goal.returns-in_ok-push
returns-in_ok-push c =
    own_more c.args.child.now c.args.paths.now.items c.push.new.self.items
    (c.in_ok-push.ensures.items ∙ ap (λ (p : List ℕ). c.args.paths.now.items ++ p ∷ []) c.in_ok-of.ensures)
