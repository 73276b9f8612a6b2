-- What a crash may leave of a shelf in memory: of it some has all names done, and so has what reads show.
use Rattle.std.specs.Prelude.{ℕ, ◌≤◌, List, [], ◌∷◌, take, Option, Some, None, IsTrue, refl}
use Rattle.std.proofs.Common.{inr}
use Rattle.hg_shelf.specs.History.{Files}
use Rattle.hg_shelf.specs.Images.{Scene}
use Rattle.hg_shelf.specs.Memory.{Memory, empty, history_of, images_of, next, renamed, replayed}
use Rattle.hg_shelf.specs.Torn.{torn_written}
use Rattle.hg_shelf.specs.declared.outside.Change.{Change}
use Rattle.hg_shelf.specs.declared.outside.Step.{Step}
use Rattle.hg_shelf.specs.declared.outside.Step.TheVariants as a_step

abbrev pub LeavesNamed : Scene → Type 0
LeavesNamed s = (c : Files) → s.named c → s.leaves c

renamed_sound : (file : Option (List ℕ)) (from to : List ℕ) (s : Scene) → LeavesNamed s → LeavesNamed (renamed file from to s)
renamed_sound None from to s sound = sound
renamed_sound (Some bytes) from to s sound = λ c done. (done.0, sound done.0 done.1, inr done.2)

pub next_sound : (what : Step) (s : Scene) → LeavesNamed s → LeavesNamed (next what s)
next_sound (a_step.Placed name bytes) s sound = λ c done. (done.0, sound done.0 done.1, done.2)
next_sound (a_step.Taken name) s sound = λ c done. (done.0, sound done.0 done.1, done.2)
next_sound (a_step.Wrote name place bytes) s sound = λ c done. (done.0, sound done.0 done.1, done.2)
next_sound (a_step.Synced name) s sound = λ c done. (sound c done.0, done.1)
next_sound (a_step.Renamed from to) s sound = renamed_sound (s.files from) from to s sound
next_sound a_step.SyncedNames s sound = λ c done. done
next_sound (a_step.Removed name) s sound = λ c done. (done.0, sound done.0 done.1, inr done.2)

pub replayed_sound : (changes : List Change) (s : Scene) → LeavesNamed s → LeavesNamed (replayed changes s)
replayed_sound [] s sound = sound
replayed_sound (change ∷ more) s sound = replayed_sound more (next change.what s) (next_sound change.what s sound)

pub named_leaves : (memory : Memory) (k : ℕ) (c : Files) → (images_of memory k).named c → (images_of memory k).leaves c
named_leaves memory k = replayed_sound (take k memory.changes) empty (λ c none. none)

abbrev pub IsShown : Scene → Type 0
IsShown s = s.named s.files

renamed_shown : (file : Option (List ℕ)) (from to : List ℕ) (s : Scene) → IsShown s → IsShown (renamed file from to s)
renamed_shown None from to s shown = shown
renamed_shown (Some bytes) from to s shown = (s.files, shown, λ at. refl)

pub next_shown : (what : Step) (s : Scene) → IsShown s → IsShown (next what s)
next_shown (a_step.Placed name bytes) s shown = (s.files, shown, λ at. refl)
next_shown (a_step.Taken name) s shown = (s.files, shown, λ at. refl)
next_shown (a_step.Wrote name place bytes) s shown = (s.files, shown, torn_written name place bytes s.files)
next_shown (a_step.Synced name) s shown = (shown, λ bytes is. is)
next_shown (a_step.Renamed from to) s shown = renamed_shown (s.files from) from to s shown
next_shown a_step.SyncedNames s shown = shown
next_shown (a_step.Removed name) s shown = (s.files, shown, λ at. refl)

pub replayed_shown : (changes : List Change) (s : Scene) → IsShown s → IsShown (replayed changes s)
replayed_shown [] s shown = shown
replayed_shown (change ∷ more) s shown = replayed_shown more (next change.what s) (next_shown change.what s shown)

pub shown_named : (memory : Memory) (k : ℕ) → IsTrue (history_of memory).told → k ≤ (history_of memory).last → (images_of memory k).named ((history_of memory).at k).files
shown_named memory k told below = replayed_shown (take k memory.changes) empty (λ name. refl)
