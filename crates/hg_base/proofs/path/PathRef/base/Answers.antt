use Rattle.std.proofs.Common.{List, ℕ, subst}
use Rattle.std.specs.Prelude.{IsTrue}
use Rattle.hg_base.specs.PathText.{is_component}
use Rattle.hg_base.proofs.Cuts.{base_cut, base_plain}
use Rattle.hg_base.proofs.Paths.{path_base}
use Rattle.hg_base.proofs.path.PathRef.base.Goals as goal

pub returns-in-Some-clause-component : goal.returns-in-Some-clause-component
returns-in-Some-clause-component c =
    let text = c.args.self.text.now in
    subst (λ (name : List ℕ). IsTrue (is_component name)) (base_cut text _ _ c.in-Some.ensures.0 c.in-Some.ensures.1) (path_base text c.args.self.is_path)

pub returns-in-None-clause-component : goal.returns-in-None-clause-component
returns-in-None-clause-component c =
    let text = c.args.self.text.now in
    subst (λ (name : List ℕ). IsTrue (is_component name)) (base_plain text c.in-None.ensures) (path_base text c.args.self.is_path)
