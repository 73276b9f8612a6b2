use Rattle.std.proofs.Common.{◌≡◌, ◌≤◌, ◌<◌, ◌++◌, ◌∷◌, [], List, ℕ, true, false, length, arith, sym, ap, subst, ◌∙◌}
use Rattle.std.proofs.lemmas.Result.{err_from_is_err_and}
use Rattle.hg_include.specs.declared.line.Says.{Says}
use Rattle.hg_include.specs.Name.{was_read}
use Rattle.hg_include.specs.Steps.{IsRefused, task_of}
use Rattle.hg_include.proofs.Leading.{leads_none, leads_some, named_new, named_none, named_read, on_read_before, stops_full, stops_kept, stops_open, stops_refused}
use Rattle.hg_include.proofs.reading.take_named.Goals as goal

pub returns-in_default-clause-stops : goal.returns-in_default-clause-stops
returns-in_default-clause-stops g c = λ says e.
    stops_refused c.args.most c.args.limit (g.T.Tree.history c.args.tree.now) c.args.pieces.now (task_of c.args.holder.now c.args.line says) c.refusal.result
    (e ∙ named_none c.args.pieces.now.pieces c.args.name.now c.args.target c.in_default.is)
    (subst (λ (v : List ℕ). IsRefused v c.args.line c.refusal.result) c.as_ref.ensures c.refusal.ensures)

pub returns-then-has-clause-goes : goal.returns-then-has-clause-goes
returns-then-has-clause-goes g c = λ says e.
    let was : was_read c.in-Some.target c.args.pieces.now.pieces ≡ true = sym c.has.ensures ∙ c.if-has.true in
    on_read_before c.args.most c.args.limit (g.T.Tree.history c.args.tree.now) c.args.pieces.now (task_of c.args.holder.now c.args.line says)
    (e ∙ named_read c.args.pieces.now.pieces c.args.name.now c.args.target c.in-Some.target c.in-Some.is was)

pub returns-then-len-limit-clause-stops : goal.returns-then-len-limit-clause-stops
returns-then-len-limit-clause-stops g c = λ says e.
    let new : was_read c.in-Some.target c.args.pieces.now.pieces ≡ false = sym c.has.ensures ∙ c.if-has.false in
    let full : c.args.limit ≤ length c.args.pieces.now.pieces = omega (arith, c.len.ensures, c.if-len-limit.true) in
    stops_full c.args.most c.args.limit (g.T.Tree.history c.args.tree.now) c.args.pieces.now (task_of c.args.holder.now c.args.line says) c.refusal-then-len-limit.result c.in-Some.target c.args.name.now
    (e ∙ named_new c.args.pieces.now.pieces c.args.name.now c.args.target c.in-Some.target c.in-Some.is new) full
    (subst (λ (v : List ℕ). IsRefused v c.args.line c.refusal-then-len-limit.result) c.as_ref-then-len-limit.ensures c.refusal-then-len-limit.ensures)

pub returns-in_err-warn-in-Ok-None-clause-stops : goal.returns-in_err-warn-in-Ok-None-clause-stops
returns-in_err-warn-in-Ok-None-clause-stops g c =
    let p = err_from_is_err_and c.from_residual.result c.from_residual.ensures.1 in
    let new : was_read c.in-Some.target c.args.pieces.now.pieces ≡ false = sym c.has.ensures ∙ c.if-has.false in
    let room : length c.args.pieces.now.pieces < c.args.limit = omega (arith, c.len.ensures, c.if-len-limit.false) in
    let o = c.in-Ok-None.ensures.opens in
    rw (p.1, p.2)
    (λ (says : Says) e.
    stops_kept c.args.most c.args.limit (g.T.Tree.history c.args.tree.now) (g.T.Tree.history c.enter.new.tree) c.args.pieces.now (task_of c.args.holder.now c.args.line says) c.in-Some.target c.args.name.now o.given
    (e ∙ named_new c.args.pieces.now.pieces c.args.name.now c.args.target c.in-Some.target c.in-Some.is new) room c.in-Ok-None.ensures.passes o.gives)

pub returns-in-Err-clause-stops : goal.returns-in-Err-clause-stops
returns-in-Err-clause-stops g c = λ says e.
    let new : was_read c.in-Some.target c.args.pieces.now.pieces ≡ false = sym c.has.ensures ∙ c.if-has.false in
    let room : length c.args.pieces.now.pieces < c.args.limit = omega (arith, c.len.ensures, c.if-len-limit.false) in
    stops_open c.args.most c.args.limit (g.T.Tree.history c.args.tree.now) (g.T.Tree.history c.enter.new.tree) c.args.pieces.now (task_of c.args.holder.now c.args.line says) c.in-Some.target c.args.name.now c.in-Err.fault
    (e ∙ named_new c.args.pieces.now.pieces c.args.name.now c.args.target c.in-Some.target c.in-Some.is new) room c.in-Err.ensures.passes c.in-Err.ensures.fails

pub returns-in-Ok-Some-clause-goes : goal.returns-in-Ok-Some-clause-goes
returns-in-Ok-Some-clause-goes g c = λ says e.
    let new : was_read c.in-Some.target c.args.pieces.now.pieces ≡ false = sym c.has.ensures ∙ c.if-has.false in
    let room : length c.args.pieces.now.pieces < c.args.limit = omega (arith, c.len.ensures, c.if-len-limit.false) in
    leads_some c.args.most c.args.limit (g.T.Tree.history c.args.tree.now) (g.T.Tree.history c.enter.new.tree) c.args.pieces.now c.enter.new.pieces (task_of c.args.holder.now c.args.line says) c.in-Some.target c.args.name.now c.in-Ok-Some.opened
    (e ∙ named_new c.args.pieces.now.pieces c.args.name.now c.args.target c.in-Some.target c.in-Some.is new) room c.in-Ok-Some.ensures.passes (rw c.in-Ok-Some.field-0-is at c.in-Ok-Some.ensures.opens)

pub returns-in_ok-warn-in-Ok-None-clause-goes : goal.returns-in_ok-warn-in-Ok-None-clause-goes
returns-in_ok-warn-in-Ok-None-clause-goes g c = λ says e.
    let new : was_read c.in-Some.target c.args.pieces.now.pieces ≡ false = sym c.has.ensures ∙ c.if-has.false in
    let room : length c.args.pieces.now.pieces < c.args.limit = omega (arith, c.len.ensures, c.if-len-limit.false) in
    leads_none c.args.most c.args.limit (g.T.Tree.history c.args.tree.now) (g.T.Tree.history c.enter.new.tree) c.args.pieces.now c.enter.new.pieces c.warn.new.pieces (task_of c.args.holder.now c.args.line says) c.in-Some.target c.args.name.now c.in-Ok-None.field-0 c.in-Ok-None.field-0-is
    (e ∙ named_new c.args.pieces.now.pieces c.args.name.now c.args.target c.in-Some.target c.in-Some.is new) room c.in-Ok-None.ensures.passes c.in-Ok-None.ensures.opens
    (c.in_ok-warn-in-Ok-None.ensures ∙ ap (λ (v : List ℕ). record c.enter.new.pieces { warnings = c.enter.new.pieces.warnings ++ record { file = v; line = c.args.line; missing = true; name = c.args.name.now } ∷ [] }) c.as_ref-in-Ok-None.ensures)
