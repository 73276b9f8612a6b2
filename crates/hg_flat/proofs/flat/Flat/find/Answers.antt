use Rattle.std.proofs.Common.{rules}
use Rattle.std.specs.Ordering.{nat_cmp}
use Rattle.std.specs.Cmp.Lexicographic.{slice_cmp}
use Rattle.std.proofs.lemmas.Fn.{always_returns_same}
use Rattle.hg_flat.proofs.Holding.{searched_absent, searched_found}
use Rattle.hg_flat.proofs.flat.Flat.find.Goals as goal

pub returns-in-Ok : goal.returns-in-Ok
returns-in-Ok c =
    searched_found c.deref.result.now c.args.self.now.rows.items c.args.path.now c.in-Ok.at c.index.result.now c.deref.ensures.value c.args.self.now.own c.in-Ok.ensures.bound c.index.ensures
    (c.in-Ok.ensures.position (λ row. slice_cmp nat_cmp row.path c.args.path.now) (always_returns_same _ _ _ (λ a r q called. search rules)))

pub returns-in-Err : goal.returns-in-Err
returns-in-Err c =
    searched_absent c.deref.result.now c.args.self.now.rows.items c.args.path.now c.in-Err.field-0 c.deref.ensures.value c.args.self.now.ascending
    (c.in-Err.ensures.position (λ row. slice_cmp nat_cmp row.path c.args.path.now) (always_returns_same _ _ _ (λ a r q called. search rules)))
