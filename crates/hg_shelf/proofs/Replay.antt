-- The files of a shelf in memory go on being what its changes leave.
use Rattle.std.proofs.Common.{◌≡◌, ℕ, List, [], ◌∷◌, ◌++◌, refl, ap, sym, ◌∙◌, Option, Some, None}
use Rattle.hg_shelf.specs.History.{Files}
use Rattle.hg_shelf.specs.Images.{Scene}
use Rattle.hg_shelf.specs.Memory.{AreLeft, empty, next, renamed, replayed, stepped, with_file}
use Rattle.hg_shelf.specs.Rules.{content, overwritten, moved, without}
use Rattle.hg_shelf.specs.declared.outside.Change.{Change}
use Rattle.hg_shelf.specs.declared.outside.Step.{Step}
use Rattle.hg_shelf.specs.declared.outside.Step.TheVariants as a_step

pub replayed_push : (changes : List Change) (change : Change) (start : Scene) → replayed (changes ++ change ∷ []) start ≡ next change.what (replayed changes start)
replayed_push [] change start = refl
replayed_push (first ∷ more) change start = replayed_push more change (next first.what start)

pub same_maps : (f g : Files) → ((at : List ℕ) → f at ≡ g at) → f ≡ g
same_maps f g same = λ i at. same at i

renamed_stepped : (file : Option (List ℕ)) (from to : List ℕ) (s : Scene) (files : Files) → files ≡ s.files
    → (renamed file from to (record { files = files; leaves = λ c. Unit {0}; named = λ c. Unit {0} })).files ≡ (renamed file from to s).files
renamed_stepped None from to s files same = same
renamed_stepped (Some bytes) from to s files same = ap (moved from to) same

pub stepped_next : (what : Step) (s : Scene) (files : Files) → files ≡ s.files → stepped what files ≡ (next what s).files
stepped_next (a_step.Placed name bytes) s files same = ap (with_file name bytes) same
stepped_next (a_step.Taken name) s files same = ap (without name) same
stepped_next (a_step.Wrote name place bytes) s files same = ap (λ (f : Files). with_file name (overwritten (content (f name)) place bytes) f) same
stepped_next (a_step.Synced name) s files same = same
stepped_next (a_step.Renamed from to) s files same =
    ap (λ (file : Option (List ℕ)). (renamed file from to (record { files = files; leaves = λ c. Unit {0}; named = λ c. Unit {0} })).files) (ap (λ (f : Files). f from) same)
    ∙ renamed_stepped (s.files from) from to s files same
stepped_next a_step.SyncedNames s files same = same
stepped_next (a_step.Removed name) s files same = ap (without name) same

-- the changes and the files after a change
pub left_after : (changes new : List Change) (change : Change) (files after : Files) → new ≡ changes ++ change ∷ [] → AreLeft changes files
    → ((at : List ℕ) → after at ≡ stepped change.what files at) → AreLeft new after
left_after changes new change files after pushed left made = λ at.
    made at
    ∙ ap (λ (f : Files). f at) (stepped_next change.what (replayed changes empty) files (same_maps files (replayed changes empty).files left))
    ∙ sym (ap (λ (s : Scene). s.files at) (ap (λ (l : List Change). replayed l empty) pushed ∙ replayed_push changes change empty))

-- where nothing changed
pub left_same : (changes new : List Change) (files after : Files) → new ≡ changes → AreLeft changes files → ((at : List ℕ) → after at ≡ files at) → AreLeft new after
left_same changes new files after same left kept = λ at. kept at ∙ left at ∙ sym (ap (λ (l : List Change). (replayed l empty).files at) same)

-- a write is its step
pub written_step : (what : Step) (name bytes its_name its_bytes : List ℕ) (place : ℕ) (files after : Files) → what ≡ a_step.Wrote its_name place its_bytes → name ≡ its_name → bytes ≡ its_bytes
    → ((at : List ℕ) → after at ≡ with_file name (overwritten (content (files name)) place bytes) files at) → (at : List ℕ) → after at ≡ stepped what files at
written_step what name bytes its_name its_bytes place files after is same_name same_bytes made = λ at.
    made at
    ∙ ap (λ (n : List ℕ). with_file n (overwritten (content (files n)) place bytes) files at) same_name
    ∙ ap (λ (b : List ℕ). with_file its_name (overwritten (content (files its_name)) place b) files at) same_bytes
    ∙ ap (λ (w : Step). stepped w files at) (sym is)
