use Rattle.std.proofs.Common.{ℕ, List, map, Option, refl, sym, subst}
use Rattle.std.specs.Option.{option_map}
use Rattle.hg_mixed.specs.ChildOf.{with_lent}
use Rattle.hg_mixed.specs.Children.{AreChildren}
use Rattle.hg_mixed.specs.Held.{Held}
use Rattle.hg_mixed.specs.Parted.{IsOwn}
use Rattle.hg_mixed.proofs.Handed.{begun_own}
use Rattle.hg_mixed.proofs.WholeChildren.{own_children}
use Rattle.hg_mixed.proofs.mixed.Mixed.own_walk.Goals as goal

pub returns-clause-children : goal.returns-clause-children
returns-clause-children c =
    let dir : Option (List ℕ) = option_map (λ d. d.text.now) c.args.dir in
    subst (λ (h : Held). AreChildren h dir (map (with_lent c.self.inside.left) c.children.result)) c.self.view_is
    (own_children _ c.children.ensures.formed.paths c.self.invariant.0 dir (subst (λ (h : Held). IsOwn h.left dir) (sym c.self.view_is) c.requires) c.children.result c.children.ensures.nodes)

pub returns-clause-lists : goal.returns-clause-lists
returns-clause-lists c = begun_own c.args.self.now _ c.self.view_is c.self.invariant.0 _ refl refl
