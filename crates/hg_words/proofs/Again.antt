-- A command that is spelled reads as itself.
use Rattle.std.proofs.Common.{ℕ, ◌≡◌, ◌<◌, ◌≤◌, Bool, true, false, ◌&&◌, List, [], ◌∷◌, length, map, Ok, refl, ap, arith}
use Rattle.std.specs.List.{list_any}
use Rattle.std.specs.Str.{bytes_eq}
use Rattle.std.proofs.lemmas.Bool.{le-leb}
use Rattle.std.proofs.lemmas.List.{length-map}
use Rattle.hg_words.specs.Command.{command_of}
use Rattle.hg_words.specs.Given.{changes, files_of, is_built, located, name_of, spelled}
use Rattle.hg_words.specs.Help.{Help, help_table}
use Rattle.hg_words.specs.Told.{from_folder}
use Rattle.hg_words.specs.declared.given.Command.{Command}
use Rattle.hg_words.specs.declared.given.Command.TheVariants as a_command

spelled_add : (files : List (List ℕ)) → 0 < length files → command_of (spelled (a_command.Add files)) ≡ Ok (a_command.Add files)
spelled_add files some = rw (le-leb 1 (length files) (omega (arith, some))) refl

spelled_forget : (files : List (List ℕ)) → 0 < length files → command_of (spelled (a_command.Forget files)) ≡ Ok (a_command.Forget files)
spelled_forget files some = rw (le-leb 1 (length files) (omega (arith, some))) refl

spelled_remove : (after : Bool) (files : List (List ℕ)) → 0 < length files → command_of (spelled (a_command.Remove after files)) ≡ Ok (a_command.Remove after files)
spelled_remove true files some = rw (le-leb 1 (length files) (omega (arith, some))) refl
spelled_remove false files some = rw (le-leb 1 (length files) (omega (arith, some))) refl

pub spelled_reads : (c : Command) → 0 < length (files_of c) → command_of (spelled c) ≡ Ok c
spelled_reads (a_command.Status flags) some = absurd (omega (arith, some))
spelled_reads (a_command.Add files) some = spelled_add files some
spelled_reads (a_command.Forget files) some = spelled_forget files some
spelled_reads (a_command.Remove after files) some = spelled_remove after files some
spelled_reads (a_command.Copy source target) some = refl
spelled_reads (a_command.SetParents p1 p2) some = absurd (omega (arith, some))
spelled_reads a_command.DebugDirstate some = absurd (omega (arith, some))
spelled_reads a_command.DebugScript some = absurd (omega (arith, some))
spelled_reads (a_command.DebugLoad n) some = absurd (omega (arith, some))

-- what is located is the same command, of as many files
pub located_keeps : (folder : List ℕ) (c : Command) → (files_of (located folder c) ≡ map (from_folder folder) (files_of c)) × (changes (located folder c) ≡ changes c) × (is_built (located folder c) ≡ is_built c)
located_keeps folder (a_command.Status flags) = (refl, refl, refl)
located_keeps folder (a_command.Add files) = (refl, refl, refl)
located_keeps folder (a_command.Forget files) = (refl, refl, refl)
located_keeps folder (a_command.Remove after files) = (refl, refl, refl)
located_keeps folder (a_command.Copy source target) = (refl, refl, refl)
located_keeps folder (a_command.SetParents p1 p2) = (refl, refl, refl)
located_keeps folder a_command.DebugDirstate = (refl, refl, refl)
located_keeps folder a_command.DebugScript = (refl, refl, refl)
located_keeps folder (a_command.DebugLoad n) = (refl, refl, refl)

pub located_without_files : (folder : List ℕ) (c : Command) → length (files_of c) ≡ 0 → located folder c ≡ c
located_without_files folder (a_command.Status flags) none = refl
located_without_files folder (a_command.Add []) none = refl
located_without_files folder (a_command.Add (file ∷ files)) none = absurd (omega (arith, none))
located_without_files folder (a_command.Forget []) none = refl
located_without_files folder (a_command.Forget (file ∷ files)) none = absurd (omega (arith, none))
located_without_files folder (a_command.Remove after []) none = refl
located_without_files folder (a_command.Remove after (file ∷ files)) none = absurd (omega (arith, none))
located_without_files folder (a_command.Copy source target) none = absurd (omega (arith, none))
located_without_files folder (a_command.SetParents p1 p2) none = refl
located_without_files folder a_command.DebugDirstate none = refl
located_without_files folder a_command.DebugScript none = refl
located_without_files folder (a_command.DebugLoad n) none = refl

-- the help tells as built what is
pub help_tells_built : (c : Command) → list_any (λ (help : Help). bytes_eq help.name (name_of c) && help.is_built) help_table ≡ is_built c
help_tells_built (a_command.Status flags) = refl
help_tells_built (a_command.Add files) = refl
help_tells_built (a_command.Forget files) = refl
help_tells_built (a_command.Remove after files) = refl
help_tells_built (a_command.Copy source target) = refl
help_tells_built (a_command.SetParents p1 p2) = refl
help_tells_built a_command.DebugDirstate = refl
help_tells_built a_command.DebugScript = refl
help_tells_built (a_command.DebugLoad n) = refl
