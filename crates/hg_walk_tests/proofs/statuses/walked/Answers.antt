-- What a walk notes can be written into the table that it walked over.
use Rattle.std.proofs.Common.{ℕ, List, [], arith, subst}
use Rattle.std.specs.List.{Contains}
use Rattle.hg_walk.specs.Notes.{DirNote}
use Rattle.hg_walk_tests.proofs.statuses.walked.Goals as goal

pub apply-requires : goal.apply-requires
apply-requires c =
    let needed = c.in_ok-found.ensures.needed in
    record {
      kind = λ note among. (needed.clean note among).kind;
      seen = λ note among. absurd (let none : Contains [] note = subst (λ (l : List DirNote). Contains l note) needed.seen among in omega (arith, none.1));
      gone = λ dir among. absurd (let none : Contains [] dir = subst (λ (l : List (List ℕ)). Contains l dir) needed.gone among in omega (arith, none.1));
    }
