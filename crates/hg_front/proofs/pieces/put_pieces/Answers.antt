use Rattle.std.proofs.Common.{◌≡◌, ◌+◌, ◌++◌, ◌∙◌, ℕ, List, Bor, ap, sym, drop}
use Rattle.std.specs.List.{flat_map}
use Rattle.std.proofs.lemmas.List.{at_drop_more}
use Rattle.hg_front.proofs.Fronts.{at_err, part_put, put_on}
use Rattle.hg_front.proofs.pieces.put_pieces.Goals as goal

pub returns-in_err-put_all-clause-prefix : goal.returns-in_err-put_all-clause-prefix
returns-in_err-put_all-clause-prefix g c =
    let texts : List (Bor (List ℕ)) → List ℕ = flat_map (λ p. p.now) in
    let rest = drop (c.loop-piece.piece-index + 1) c.args.pieces.now in
    let split : texts (drop c.loop-piece.piece-index c.args.pieces.now) ≡ c.as_bytes.result.now ++ texts rest =
    at_drop_more texts c.args.pieces.now c.loop-piece.piece-index _ c.loop-piece-test.true ∙ ap (λ (t : List ℕ). t ++ texts rest) (sym c.as_bytes.ensures.value) in
    at_err c.from_residual.result (part_put _ _ _ _ _ _ (rw split at c.loop-piece.invariant.put) c.in_err-put_all.ensures.prefix)

pub loop-piece-preserved : goal.loop-piece-preserved
loop-piece-preserved g c =
    let texts : List (Bor (List ℕ)) → List ℕ = flat_map (λ p. p.now) in
    let rest = drop (c.loop-piece.piece-index + 1) c.args.pieces.now in
    let split : texts (drop c.loop-piece.piece-index c.args.pieces.now) ≡ c.as_bytes.result.now ++ texts rest =
    at_drop_more texts c.args.pieces.now c.loop-piece.piece-index _ c.loop-piece-test.true ∙ ap (λ (t : List ℕ). t ++ texts rest) (sym c.as_bytes.ensures.value) in
    record {
      put = put_on _ _ _ _ _ _ (rw split at c.loop-piece.invariant.put) c.in_ok-put_all.ensures.all;
      quiet = c.in_ok-put_all.ensures.cause.quiet ∙ c.loop-piece.invariant.quiet;
    }
