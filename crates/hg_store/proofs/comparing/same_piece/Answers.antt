use Rattle.std.proofs.Common.{ℕ, take, drop, sym, ap, ◌∙◌}
use Rattle.hg_shelf.proofs.Scenes.{goes_trans}
use Rattle.hg_store.proofs.Reading.{equal_texts, still_file, still_first, still_second}
use Rattle.hg_store.proofs.comparing.same_piece.Goals as goal

pub returns-in_err-theirs_read-clause-kept : goal.returns-in_err-theirs_read-clause-kept
returns-in_err-theirs_read-clause-kept g c = goes_trans _ _ _ c.read_piece.ensures.kept c.read_piece-2.ensures.kept

pub returns-clause-kept : goal.returns-clause-kept
returns-clause-kept g c = goes_trans _ _ _ c.read_piece.ensures.kept c.read_piece-2.ensures.kept

pub returns-clause-found : goal.returns-clause-found
returns-clause-found g c = λ text bytes still mine theirs.
    let p = c.read_piece.ensures.passes in
    let q = c.read_piece-2.ensures.passes in
    equal_texts _ _ _ _ c.eq.result c.eq.ensures (c.in_ok-mine_read.ensures.found text (still_first p q still) mine)
    (c.in_ok-theirs_read.ensures.found bytes (still_second p q still) (still_file c.args.name.now bytes p q still theirs) ∙ ap (λ (w : ℕ). take w (drop c.args.place bytes)) (sym c.requires))
