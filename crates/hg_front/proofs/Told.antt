-- What words become in a folder.
use Rattle.std.proofs.Common.{ℕ, ◌≡◌, ◌≢◌, ◌<◌, List, length, Option, Some, Ok, sym, ap, ◌∙◌, arith, subst}
use Rattle.std.proofs.lemmas.List.{length-map}
use Rattle.hg_words.specs.Command.{command_of}
use Rattle.hg_words.specs.Given.{files_of, located, spelled}
use Rattle.hg_words.specs.declared.given.Command.{Command}
use Rattle.hg_words.proofs.Again.{located_keeps, spelled_reads}
use Rattle.hg_front.specs.Placed.{IsPlaced, reached, read_as}

-- words of a command with file words
pub placed_files : (told : Option (List ℕ)) (folder : List ℕ) (words again : List (List ℕ)) (command there : Command) → told ≡ Some folder → command_of words ≡ Ok command
    → length (files_of command) ≢ 0 → there ≡ located folder command → again ≡ spelled there → IsPlaced told words (record { command = Some there; words = again })
placed_files told folder words again command there told_is is some there_is again_is =
    let as_many : length (files_of there) ≡ length (files_of command) =
    ap (λ (c : Command). length (files_of c)) there_is ∙ ap length (located_keeps folder command).0 ∙ length-map _ _ in
    let more : 0 < length (files_of there) = omega (arith, some, as_many) in
    let reads : command_of again ≡ Ok there = ap command_of again_is ∙ spelled_reads there more in
    subst (λ (t : Option (List ℕ)). IsPlaced t words (record { command = Some there; words = again })) (sym told_is)
    (record {
      told = reads ∙ ap Ok there_is ∙ sym (ap (reached folder) is);
      untold = λ none. absurd (cc none);
      same = λ none. absurd (omega (arith, none, more));
      command = sym (ap read_as reads);
    })
