use Rattle.std.proofs.Common.{◌∙◌, rules}
use Rattle.hg_shelf.proofs.Histories.{passes_trans}
use Rattle.hg_shelf.proofs.Scenes.{goes_trans}
use Rattle.hg_store.specs.Storing.{new_name}
use Rattle.hg_store.proofs.Reading.{is_not, is_so, piece_same, same_more, same_whole, still_file, still_first, still_second}
use Rattle.hg_store.proofs.comparing.same_bytes.Goals as goal

pub returns-in_err-same_piece-clause-kept : goal.returns-in_err-same_piece-clause-kept
returns-in_err-same_piece-clause-kept g c = goes_trans _ _ _ c.loop-place.invariant.kept c.same_piece.ensures.kept

pub returns-then-not-branch-clause-kept : goal.returns-then-not-branch-clause-kept
returns-then-not-branch-clause-kept g c = goes_trans _ _ _ c.loop-place.invariant.kept c.same_piece.ensures.kept

pub returns-then-not-branch-clause-found : goal.returns-then-not-branch-clause-found
returns-then-not-branch-clause-found g c = λ text bytes still there stands long wide same.
    let p = c.loop-place.invariant.passes in
    let q = c.same_piece.ensures.passes in
    is_not _ _ c.in_ok-same_piece.field-0 (search rules)
    (c.in_ok-same_piece.ensures.found text bytes (still_second p q still) (still_file new_name text p q still there) (still_file c.args.name.now bytes p q still stands))
    (piece_same _ _ text bytes same)

pub loop-place-preserved : goal.loop-place-preserved
loop-place-preserved g c =
    let p = c.loop-place.invariant.passes in
    let q = c.same_piece.ensures.passes in
    record {
      passes = passes_trans _ _ _ p q;
      kept = goes_trans _ _ _ c.loop-place.invariant.kept c.same_piece.ensures.kept;
      same = λ text bytes still there stands.
          same_more c.loop-place.place _ _ text bytes (search rules) (c.loop-place.invariant.same text bytes (still_first p q still) there stands)
          (is_so _ _ c.in_ok-same_piece.field-0 (search rules)
          (c.in_ok-same_piece.ensures.found text bytes (still_second p q still) (still_file new_name text p q still there) (still_file c.args.name.now bytes p q still stands)));
      held = c.same_piece.ensures.held ∙ c.loop-place.invariant.held;
      quiet = c.in_ok-same_piece.ensures.cause.quiet ∙ c.loop-place.invariant.quiet;
      within = search rules;
      mine = search rules;
      theirs = search rules;
    }

pub returns-clause-found : goal.returns-clause-found
returns-clause-found g c = λ text bytes still there stands long wide.
    same_whole c.loop-place.place c.args.size text bytes c.loop-place-test.false long wide (c.loop-place.invariant.same text bytes still there stands)
