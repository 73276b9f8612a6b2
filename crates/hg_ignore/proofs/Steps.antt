-- How a glob is normalized.
use Rattle.std.proofs.Common.{◌≡◌, ◌≢◌, ℕ, Bool, true, false, cond, List, [], ◌∷◌, ◌++◌, drop, inl, inr, refl, sym, ap, ◌∙◌, append_assoc, append-nil}
use Rattle.std.specs.List.{filter}
use Rattle.hg_syntax.specs.Text.{has, pieces}
use Rattle.hg_ignore.specs.Line.{is_step, slashed}
use Rattle.hg_ignore.specs.Normal.{steps_of, IsSlashed}
use Rattle.hg_syntax.proofs.Texts.{cut_pieces, plain_pieces}

step_onto : (piece : List ℕ) (more : List (List ℕ)) (t : Bool) → is_step piece ≡ t → slashed (filter is_step (piece ∷ more)) ≡ cond t (47 ∷ piece) [] ++ slashed (filter is_step more)
step_onto piece more true e = ap (λ t. slashed (cond t (piece ∷ filter is_step more) (filter is_step more))) e
step_onto piece more false e = ap (λ t. slashed (cond t (piece ∷ filter is_step more) (filter is_step more))) e

onto : (piece : List ℕ) (more : List (List ℕ)) → slashed (filter is_step (piece ∷ more)) ≡ cond (is_step piece) (47 ∷ piece) [] ++ slashed (filter is_step more)
onto piece more = step_onto piece more (is_step piece) refl

-- one component more
pub steps_more : (steps once text piece rest all : List ℕ) → text ≡ piece ++ 47 ∷ rest → has 47 piece ≡ false → once ≡ steps ++ cond (is_step piece) (47 ∷ piece) [] → steps ++ steps_of text ≡ all → once ++ steps_of rest ≡ all
steps_more steps once text piece rest all e plain put so_far =
    ap (λ v. v ++ steps_of rest) put ∙ append_assoc steps (cond (is_step piece) (47 ∷ piece) []) (steps_of rest)
    ∙ ap (λ v. steps ++ v) (sym (ap (λ ps. slashed (filter is_step ps)) (cut_pieces 47 text piece rest e plain) ∙ onto piece (pieces 47 rest))) ∙ so_far

-- the last component
pub steps_last : (steps once text all : List ℕ) → has 47 text ≡ false → once ≡ steps ++ cond (is_step text) (47 ∷ text) [] → steps ++ steps_of text ≡ all → once ≡ all
steps_last steps once text all plain put so_far =
    put ∙ ap (λ v. steps ++ v) (sym (append-nil (cond (is_step text) (47 ∷ text) [])) ∙ sym (ap (λ ps. slashed (filter is_step ps)) (plain_pieces 47 text plain) ∙ onto text [])) ∙ so_far

slashed_pieces : (ps : List (List ℕ)) → IsSlashed (slashed ps)
slashed_pieces [] = inl refl
slashed_pieces (p ∷ ps) = inr (p ++ slashed ps, refl)

pub steps_slashed : (text steps : List ℕ) → steps ≡ steps_of text → IsSlashed steps
steps_slashed text steps e = rw e (slashed_pieces (filter is_step (pieces 47 text)))

pub unslashed : (text : List ℕ) → IsSlashed text → ((rest : List ℕ) → text ≢ 47 ∷ rest) → text ≡ drop 1 text
unslashed text (inl e) other = e ∙ sym (ap (drop 1) e)
unslashed text (inr p) other = absurd (other p.0 p.1)
