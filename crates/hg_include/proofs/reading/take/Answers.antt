use Rattle.std.proofs.Common.{◌++◌, ◌∷◌, [], List, ℕ, false, ap, ◌∙◌}
use Rattle.std.proofs.lemmas.Result.{IfErr-weaker, IfOk-weaker, err_from_is_err_and}
use Rattle.hg_include.specs.Reading.{step_of}
use Rattle.hg_include.specs.Steps.{line_task}
use Rattle.hg_include.proofs.Leading.{include_step, on_unknown, stops_at_once, subinclude_step}
use Rattle.hg_include.proofs.reading.take.Goals as goal

pub returns-in_err-warn-in-Unknown-clause-stops : goal.returns-in_err-warn-in-Unknown-clause-stops
returns-in_err-warn-in-Unknown-clause-stops g c =
    let p = err_from_is_err_and c.from_residual.result c.from_residual.ensures.1 in
    rw (p.1, p.2) (stops_at_once c.args.most c.args.limit (g.T.Tree.history c.args.tree.now) c.args.pieces.now (line_task c.args.holder.now c.args.line.now ∷ []))

pub returns-in_err-target-in-Include-clause-stops : goal.returns-in_err-target-in-Include-clause-stops
returns-in_err-target-in-Include-clause-stops g c =
    let p = err_from_is_err_and c.from_residual-in_err-target-in-Include.result c.from_residual-in_err-target-in-Include.ensures.1 in
    rw (p.1, p.2) (stops_at_once c.args.most c.args.limit (g.T.Tree.history c.args.tree.now) c.args.pieces.now (line_task c.args.holder.now c.args.line.now ∷ []))

pub returns-in_err-target-in-SubInclude-clause-stops : goal.returns-in_err-target-in-SubInclude-clause-stops
returns-in_err-target-in-SubInclude-clause-stops g c =
    let p = err_from_is_err_and c.from_residual-in_err-target-in-SubInclude.result c.from_residual-in_err-target-in-SubInclude.ensures.1 in
    rw (p.1, p.2) (stops_at_once c.args.most c.args.limit (g.T.Tree.history c.args.tree.now) c.args.pieces.now (line_task c.args.holder.now c.args.line.now ∷ []))

pub returns-in_ok-warn-in-Unknown-clause-goes : goal.returns-in_ok-warn-in-Unknown-clause-goes
returns-in_ok-warn-in-Unknown-clause-goes g c =
    on_unknown c.args.most c.args.limit (g.T.Tree.history c.args.tree.now) c.args.pieces.now c.warn.new.pieces (line_task c.args.holder.now c.args.line.now) c.in-Unknown.name
    (ap (step_of c.args.pieces.now.pieces c.args.holder.now.file c.args.holder.now.base) c.in-Unknown.is)
    (c.in_ok-warn-in-Unknown.ensures
    ∙ ap (λ (v : List ℕ). record c.args.pieces.now { warnings = c.args.pieces.now.warnings ++ record { file = v; line = c.args.line.now.number; missing = false; name = c.as_str.result.now } ∷ [] }) c.as_ref.ensures
    ∙ ap (λ (v : List ℕ). record c.args.pieces.now { warnings = c.args.pieces.now.warnings ++ record { file = c.args.holder.now.file; line = c.args.line.now.number; missing = false; name = v } ∷ [] }) c.as_str.ensures)

pub returns-in_ok-target-in-Include-clause-stops : goal.returns-in_ok-target-in-Include-clause-stops
returns-in_ok-target-in-Include-clause-stops g c =
    let e = include_step c.args.pieces.now.pieces c.args.holder.now.file c.args.holder.now.base c.args.line.now.says c.in-Include.name c.as_str-in-Include.result.now c.as_str-in-Include-2.result.now c.in_ok-target-in-Include.target
    c.in-Include.is c.as_str-in-Include.ensures c.as_str-in-Include-2.ensures c.in_ok-target-in-Include.ensures in
    IfErr-weaker c.take_named.result _ _ (λ fault h. h c.args.line.now.says e) c.take_named.ensures.stops

pub returns-in_ok-target-in-SubInclude-clause-goes : goal.returns-in_ok-target-in-SubInclude-clause-goes
returns-in_ok-target-in-SubInclude-clause-goes g c =
    let e = subinclude_step c.args.pieces.now.pieces c.args.holder.now.file c.as_ref-in-SubInclude.result.text.now c.args.holder.now.base c.args.line.now.says c.in-SubInclude.name c.as_str-in-SubInclude.result.now c.as_str-in-SubInclude-2.result.now c.in_ok-target-in-SubInclude.target
    c.in-SubInclude.is c.as_str-in-SubInclude.ensures c.as_str-in-SubInclude-2.ensures c.as_ref-in-SubInclude.ensures c.in_ok-target-in-SubInclude.ensures in
    IfOk-weaker c.take_named-in-SubInclude.result _ _ (λ opened h. h c.args.line.now.says e) c.take_named-in-SubInclude.ensures.goes

pub returns-in_ok-target-in-SubInclude-clause-stops : goal.returns-in_ok-target-in-SubInclude-clause-stops
returns-in_ok-target-in-SubInclude-clause-stops g c =
    let e = subinclude_step c.args.pieces.now.pieces c.args.holder.now.file c.as_ref-in-SubInclude.result.text.now c.args.holder.now.base c.args.line.now.says c.in-SubInclude.name c.as_str-in-SubInclude.result.now c.as_str-in-SubInclude-2.result.now c.in_ok-target-in-SubInclude.target
    c.in-SubInclude.is c.as_str-in-SubInclude.ensures c.as_str-in-SubInclude-2.ensures c.as_ref-in-SubInclude.ensures c.in_ok-target-in-SubInclude.ensures in
    IfErr-weaker c.take_named-in-SubInclude.result _ _ (λ fault h. h c.args.line.now.says e) c.take_named-in-SubInclude.ensures.stops
