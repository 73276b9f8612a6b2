use Rattle.std.proofs.Common.{◌≡◌, None, List, ℕ, ap}
use Rattle.std.proofs.lemmas.Result.{err_from_is_err_and}
use Rattle.hg_include.specs.Reading.{start}
use Rattle.hg_include.proofs.Beginning.{read_all, read_none, stops_all, stops_first}
use Rattle.hg_include.proofs.reading.read_within.Goals as goal

pub returns-in_err-read_lines-in-Ok-Some-clause-stops : goal.returns-in_err-read_lines-in-Ok-Some-clause-stops
returns-in_err-read_lines-in-Ok-Some-clause-stops g c =
    let p = err_from_is_err_and c.from_residual-in_err-read_lines-in-Ok-Some.result c.from_residual-in_err-read_lines-in-Ok-Some.ensures.1 in
    let same : record { file = c.in_ok-file.file; base = None } ≡ start = ap (λ (v : List ℕ). record { file = v; base = None }) c.in_ok-file.ensures in
    rw (p.1, p.2)
    (stops_all c.args.most c.args.limit (g.T.Tree.history c.args.tree.now) (g.T.Tree.history c.enter.new.tree) (g.T.Tree.history c.read_lines.new.tree) (record { file = c.in_ok-file.file; base = None })
    c.new-pieces.result c.enter.new.pieces c.in-Ok-Some.opened _ same c.new-pieces.ensures c.in-Ok-Some.ensures.passes (rw c.in-Ok-Some.field-0-is at c.in-Ok-Some.ensures.opens) c.in_err-read_lines-in-Ok-Some.ensures.stops)

pub returns-in-Err-clause-stops : goal.returns-in-Err-clause-stops
returns-in-Err-clause-stops g c =
    let same : record { file = c.in_ok-file.file; base = None } ≡ start = ap (λ (v : List ℕ). record { file = v; base = None }) c.in_ok-file.ensures in
    stops_first c.args.most c.args.limit (g.T.Tree.history c.args.tree.now) (g.T.Tree.history c.enter.new.tree) (record { file = c.in_ok-file.file; base = None }) c.in-Err.fault same c.in-Err.ensures.fails

pub returns-in-Ok-None-clause-read : goal.returns-in-Ok-None-clause-read
returns-in-Ok-None-clause-read g c =
    let same : record { file = c.in_ok-file.file; base = None } ≡ start = ap (λ (v : List ℕ). record { file = v; base = None }) c.in_ok-file.ensures in
    read_none c.args.most c.args.limit (g.T.Tree.history c.args.tree.now) (g.T.Tree.history c.enter.new.tree) (record { file = c.in_ok-file.file; base = None }) c.new-pieces.result c.enter.new.pieces c.in-Ok-None.field-0
    same c.new-pieces.ensures c.in-Ok-None.field-0-is c.in-Ok-None.ensures.opens

pub returns-in_ok-read_lines-in-Ok-Some-clause-read : goal.returns-in_ok-read_lines-in-Ok-Some-clause-read
returns-in_ok-read_lines-in-Ok-Some-clause-read g c =
    let same : record { file = c.in_ok-file.file; base = None } ≡ start = ap (λ (v : List ℕ). record { file = v; base = None }) c.in_ok-file.ensures in
    read_all c.args.most c.args.limit (g.T.Tree.history c.args.tree.now) (g.T.Tree.history c.enter.new.tree) (g.T.Tree.history c.read_lines.new.tree) (record { file = c.in_ok-file.file; base = None })
    c.new-pieces.result c.enter.new.pieces c.read_lines.new.pieces c.in-Ok-Some.opened same c.new-pieces.ensures c.in-Ok-Some.ensures.passes (rw c.in-Ok-Some.field-0-is at c.in-Ok-Some.ensures.opens) c.in_ok-read_lines-in-Ok-Some.ensures.goes
