use Rattle.std.proofs.Common.{ap, sym, ◌∙◌, rules}
use Rattle.hg_shelf.proofs.Scenes.{goes_trans}
use Rattle.hg_shelf.specs.History.{Files}
use Rattle.hg_shelf.specs.Reads.{size_of}
use Rattle.hg_store.specs.Storing.{new_name}
use Rattle.hg_store.proofs.Reading.{is_not, is_so, standing_other, standing_same, still_file, still_now, still_second}
use Rattle.hg_store.proofs.comparing.standing.Goals as goal

pub returns-in_err-same_bytes-in-Some-clause-kept : goal.returns-in_err-same_bytes-in-Some-clause-kept
returns-in_err-same_bytes-in-Some-clause-kept g c = goes_trans _ _ _ c.size.ensures.kept c.same_bytes.ensures.kept

pub returns-then-branch-clause-kept : goal.returns-then-branch-clause-kept
returns-then-branch-clause-kept g c = goes_trans _ _ _ c.size.ensures.kept c.same_bytes.ensures.kept

pub returns-then-branch-clause-found : goal.returns-then-branch-clause-found
returns-then-branch-clause-found g c = λ text still there long.
    let p = c.size.ensures.passes in
    let q = c.same_bytes.ensures.passes in
    standing_same _ text c.in-Some.size (sym c.in-Some.is ∙ c.in_ok-size.ensures.found still.told ∙ ap (λ (f : Files). size_of (f c.args.name.now)) (still_now p q still))
    (λ bytes is wide. is_so _ _ c.in_ok-same_bytes-in-Some.field-0 (search rules) (c.in_ok-same_bytes-in-Some.ensures.found text bytes (still_second p q still) (still_file new_name text p q still there) (still_file c.args.name.now bytes p q still is) (search rules) wide))

pub returns-else-branch-clause-kept : goal.returns-else-branch-clause-kept
returns-else-branch-clause-kept g c = goes_trans _ _ _ c.size.ensures.kept c.same_bytes.ensures.kept

pub returns-else-branch-clause-found : goal.returns-else-branch-clause-found
returns-else-branch-clause-found g c = λ text still there long.
    let p = c.size.ensures.passes in
    let q = c.same_bytes.ensures.passes in
    standing_other _ text c.in-Some.size (sym c.in-Some.is ∙ c.in_ok-size.ensures.found still.told ∙ ap (λ (f : Files). size_of (f c.args.name.now)) (still_now p q still))
    (λ bytes is wide. is_not _ _ c.in_ok-same_bytes-in-Some.field-0 (search rules) (c.in_ok-same_bytes-in-Some.ensures.found text bytes (still_second p q still) (still_file new_name text p q still there) (still_file c.args.name.now bytes p q still is) (search rules) wide))
