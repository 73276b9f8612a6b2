-- The steps that did something, one change after another.
use Rattle.std.proofs.Common.{ℕ, ◌≡◌, ◌<◌, ◌+◌, refl, ap, sym, ◌∙◌, Bool, true, false, List, [], ◌∷◌, ◌++◌, length, drop, get_or, append_assoc}
use Rattle.std.specs.Prelude.{if◌then◌else◌}
use Rattle.std.proofs.lemmas.List.{drop_more}
use Rattle.hg_shelf.specs.Crash.{done_by, effective, is_before, is_idle, up_to}
use Rattle.hg_shelf.specs.History.{Files}
use Rattle.hg_shelf.specs.declared.outside.Change.{Change}
use Rattle.hg_shelf.specs.declared.outside.Step.{Step}
use Rattle.hg_shelf.proofs.Replay.{same_maps}

noted : (idle : Bool) (step : Step) (more : List Change) (steps : List Step) (files : Files)
    → (if idle then steps else steps ++ step ∷ []) ++ effective more (if idle then files else done_by step files)
    ≡ steps ++ (if idle then effective more files else step ∷ effective more (done_by step files))
noted true step more steps files = refl
noted false step more steps files = append_assoc steps (step ∷ []) (effective more (done_by step files))

pub followed : (call : ℕ) (changes : List Change) (place : ℕ) (change : Change) (steps new : List Step) (files after : Files) (all : List Step)
    → place < length changes → change ≡ get_or changes place change → is_before call change ≡ true
    → new ≡ (if is_idle change.what files then steps else steps ++ change.what ∷ [])
    → ((at : List ℕ) → after at ≡ (if is_idle change.what files then files else done_by change.what files) at)
    → steps ++ effective (up_to call (drop place changes)) files ≡ all
    → new ++ effective (up_to call (drop (place + 1) changes)) after ≡ all
followed call changes place change steps new files after all within is before put made so_far =
    let rest = drop (place + 1) changes in
    let split : drop place changes ≡ change ∷ rest = drop_more changes place change within ∙ ap (λ (c : Change). c ∷ rest) (sym is) in
    let upto : up_to call (drop place changes) ≡ change ∷ up_to call rest =
    ap (up_to call) split ∙ ap (λ (b : Bool). if b then change ∷ up_to call rest else []) before in
    ap (λ (s : List Step). s ++ effective (up_to call rest) after) put
    ∙ ap (λ (f : Files). (if is_idle change.what files then steps else steps ++ change.what ∷ []) ++ effective (up_to call rest) f)
    (same_maps after (if is_idle change.what files then files else done_by change.what files) made)
    ∙ noted (is_idle change.what files) change.what (up_to call rest) steps files
    ∙ sym (ap (λ (cs : List Change). steps ++ effective cs files) upto)
    ∙ so_far
