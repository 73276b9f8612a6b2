-- What each pick leaves, said of a whole shelf.
use Rattle.std.proofs.Common.{ℕ, ◌≡◌, refl, ap, sym, ◌∙◌, subst, inl, inr, Bool, true, false, List, [], ◌∷◌, length, take, arith}
use Rattle.std.specs.Prelude.{if◌then◌else◌, ◌==◌}
use Rattle.std.proofs.lemmas.Bool.{cases_Bool, eq-eqb, ne_eqb}
use Rattle.hg_shelf.specs.Crash.{HasOnly, done_by, effective, is_before, kept, kept_by, lost, lost_by, picked_by, shown, steps_up_to, stop_at, through, up_to}
use Rattle.hg_shelf.specs.History.{Files, now}
use Rattle.hg_shelf.specs.Memory.{Memory, empty, history_of, images_of, replayed}
use Rattle.hg_shelf.specs.Sound.{replayed_sound, replayed_shown}
use Rattle.hg_shelf.specs.declared.outside.Change.{Change}
use Rattle.hg_shelf.specs.declared.outside.Step.{Step}
use Rattle.hg_shelf.proofs.CrashImages.{lost_leaves, kept_named, shown_is}
use Rattle.hg_shelf.proofs.Replay.{same_maps}

-- the rule of a pick, by its two tests
abbrev by_tests : Bool → Bool → List Step → Step → Files → Files
by_tests none all rest step files = if none then lost_by 170 rest step files else (if all then done_by step files else kept_by 255 rest step files)

picked_lost : (pick : ℕ) (steps : List Step) → (pick == 0) ≡ true → through (picked_by pick) steps empty.files ≡ lost 170 steps empty.files
picked_lost pick steps is = ap (λ (b : Bool). through (by_tests b (pick == 1)) steps empty.files) is

picked_shown : (pick : ℕ) (steps : List Step) → (pick == 0) ≡ false → (pick == 1) ≡ true → through (picked_by pick) steps empty.files ≡ shown steps empty.files
picked_shown pick steps isnt is =
    ap (λ (b : Bool). through (by_tests b (pick == 1)) steps empty.files) isnt ∙ ap (λ (b : Bool). through (by_tests false b) steps empty.files) is

picked_kept : (pick : ℕ) (steps : List Step) → (pick == 0) ≡ false → (pick == 1) ≡ false → through (picked_by pick) steps empty.files ≡ kept 255 steps empty.files
picked_kept pick steps isnt isnt_all =
    ap (λ (b : Bool). through (by_tests b (pick == 1)) steps empty.files) isnt ∙ ap (λ (b : Bool). through (by_tests false b) steps empty.files) isnt_all

lost_image : (changes : List Change) → (replayed changes empty).leaves (lost 170 (effective changes empty.files) empty.files)
lost_image changes = lost_leaves 170 changes empty empty.files record {
  agreed = record { each = λ name is. refl };
  left = λ name. refl;
  named = λ is name. refl;
}

shown_image : (changes : List Change) → (replayed changes empty).leaves (shown (effective changes empty.files) empty.files)
shown_image changes =
    subst (replayed changes empty).leaves (sym (shown_is changes empty))
    (replayed_sound changes empty (λ c none. none) (replayed changes empty).files (replayed_shown changes empty (λ name. refl)))

kept_image : (changes : List Change) → (replayed changes empty).leaves (kept 255 (effective changes empty.files) empty.files)
kept_image changes = replayed_sound changes empty (λ c none. none) (kept 255 (effective changes empty.files) empty.files)
    (kept_named 255 changes empty empty.files record {
      agreed = record { each = λ name is. refl };
      named = λ name. refl;
    })

picked_image : (pick : ℕ) (changes : List Change) → (replayed changes empty).leaves (through (picked_by pick) (effective changes empty.files) empty.files)
picked_image pick changes = elim (cases_Bool (pick == 0)) [
  | inl none ↦ subst (replayed changes empty).leaves (sym (picked_lost pick (effective changes empty.files) none)) (lost_image changes)
  | inr some ↦ elim (cases_Bool (pick == 1)) [
    | inl all ↦ subst (replayed changes empty).leaves (sym (picked_shown pick (effective changes empty.files) some all)) (shown_image changes)
    | inr most ↦ subst (replayed changes empty).leaves (sym (picked_kept pick (effective changes empty.files) some most)) (kept_image changes)
  ]
]

front_by : (before : Bool) (change : Change) (changes front : List Change) → take (length front) changes ≡ front
    → take (length (if before then change ∷ front else [])) (change ∷ changes) ≡ (if before then change ∷ front else [])
front_by true change changes front is = ap (λ (l : List Change). change ∷ l) is
front_by false change changes front is = refl

-- as many changes as were made up to a call are the changes up to that call
front : (call : ℕ) (changes : List Change) → take (length (up_to call changes)) changes ≡ up_to call changes
front call [] = refl
front call (change ∷ changes) = front_by (is_before call change) change changes (up_to call changes) (front call changes)

module _ (call pick : ℕ) (memory left : Memory) (steps : List Step) (files : Files) (are : steps ≡ steps_up_to call memory)
    (made : (at : List ℕ) → files at ≡ through (picked_by pick) steps empty.files at) (only : HasOnly files left) where
  whole : (now (history_of left)).files ≡ through (picked_by pick) (steps_up_to call memory) empty.files
  whole = same_maps (now (history_of left)).files (through (picked_by pick) (steps_up_to call memory) empty.files)
      (λ at. only.shown at ∙ made at ∙ ap (λ (s : List Step). through (picked_by pick) s empty.files at) are)

  pub is_image : (images_of memory (stop_at call memory)).leaves (now (history_of left)).files
  is_image =
      let P : List Change → Type 0 = λ cs. (replayed cs empty).leaves (now (history_of left)).files in
      subst P (sym (front call memory.changes))
      (subst (replayed (up_to call memory.changes) empty).leaves (sym whole) (picked_image pick (up_to call memory.changes)))

  pub is_shown : pick ≡ 1 → (name : List ℕ) → (now (history_of left)).files name ≡ ((history_of memory).at (stop_at call memory)).files name
  is_shown is name =
      ap (λ (f : Files). f name)
      (whole
      ∙ picked_shown pick (steps_up_to call memory) (ne_eqb pick 0 (λ none. absurd (omega (arith, none, is)))) (eq-eqb pick 1 is)
      ∙ shown_is (up_to call memory.changes) empty
      ∙ sym (ap (λ (cs : List Change). (replayed cs empty).files) (front call memory.changes)))

  pub is_kept : (pick ≡ 0 → ⊥) → (pick ≡ 1 → ⊥) → (name : List ℕ) → (now (history_of left)).files name ≡ kept 255 (steps_up_to call memory) empty.files name
  is_kept none all name = ap (λ (f : Files). f name) (whole ∙ picked_kept pick (steps_up_to call memory) (ne_eqb pick 0 none) (ne_eqb pick 1 all))
