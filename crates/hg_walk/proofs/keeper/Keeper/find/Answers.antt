use Rattle.std.proofs.Common.{rules}
use Rattle.std.specs.Ordering.{nat_cmp}
use Rattle.std.specs.Cmp.Lexicographic.{slice_cmp}
use Rattle.std.proofs.lemmas.Fn.{always_returns_same}
use Rattle.hg_mixed.specs.Gathered.{path_of}
use Rattle.hg_walk.proofs.Rows.{searched_none, searched_place}
use Rattle.hg_walk.proofs.keeper.Keeper.find.Goals as goal

pub returns-in-Ok-clause-found : goal.returns-in-Ok-clause-found
returns-in-Ok-clause-found c =
    searched_place c.deref.result.now c.args.self.now.children.items c.args.path.now c.in-Ok.at c.deref.ensures.value c.in-Ok.ensures.bound
    (c.in-Ok.ensures.position (λ child. slice_cmp nat_cmp (path_of child) c.args.path.now) (always_returns_same _ _ _ (λ a r q called. search rules)))

pub returns-in-Err-clause-none : goal.returns-in-Err-clause-none
returns-in-Err-clause-none c = λ is.
    searched_none c.deref.result.now c.args.self.now.children.items c.args.path.now c.in-Err.at c.deref.ensures.value c.args.self.now.ascending
    (c.in-Err.ensures.position (λ child. slice_cmp nat_cmp (path_of child) c.args.path.now) (always_returns_same _ _ _ (λ a r q called. search rules)))
