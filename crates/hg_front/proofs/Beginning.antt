-- A command that begins is neither stopped nor without a folder.
use Rattle.std.proofs.Common.{ℕ, ◌≡◌, List, [], length, Option, Some, None, ap, arith, option_map, string_bytes, subst, sym, ◌∙◌}
use Rattle.std.specs.Prelude.{false, if◌then◌else◌}
use Rattle.std.specs.Option.{option_map_or, unwrap_or}
use Rattle.std.proofs.lemmas.List.{length-map}
use Rattle.hg_words.specs.Given as given
use Rattle.hg_words.specs.declared.given.Command.{Command}
use Rattle.hg_words.proofs.Again.{located_keeps}
use Rattle.hg_front.specs.Carried.{HasNoFolder, IsStoppedAs}
use Rattle.hg_front.specs.Guard.{Reason, refusal}
use Rattle.hg_front.specs.Placed.{IsPlaced, files, reached, read_as}
use Rattle.hg_front.specs.Start.{BeginsAt, TellsReason}
use Rattle.hg_front.specs.declared.guarding.Why.TheVariants as why
use Rattle.hg_front.specs.declared.placing.Placed.{Placed}
use Rattle.hg_front.specs.declared.start.Here.{Here}
use Rattle.hg_front.specs.declared.start.Here.TheVariants as a_here

-- words are one command in a folder
same_command : (folder : Option (List ℕ)) (words : List (List ℕ)) (placed other : Placed) → IsPlaced folder words placed → IsPlaced folder words other → placed.command ≡ other.command
same_command folder words placed other is too = is.command ∙ ap read_as (is.told ∙ sym too.told) ∙ sym too.command

pub not_stopped : (folder : Option (List ℕ)) (here : Here) (words : List (List ℕ)) (placed : Placed) (old new : Option (List ℕ)) (before after : ℕ) → IsPlaced folder words placed → BeginsAt here placed old new before after
    → (told now : Option (List ℕ)) (first last : ℕ) → IsStoppedAs folder here words told now first last → ⊥
not_stopped folder a_here.Outside words placed old new before after is begins told now first last stops =
    let refused : Option Command → Option Reason = λ command. if option_map_or given.changes command false then Some (why.NoRepository, []) else None in
    subst (λ (reason : Option Reason). TellsReason reason told now first last) (ap refused (same_command folder words stops.placed placed stops.is is) ∙ begins.free) stops.stopped
not_stopped folder (a_here.Inside requires) words placed old new before after is begins told now first last stops =
    let refused : Option Command → Option Reason =
    λ command. refusal (option_map string_bytes requires.own) (option_map string_bytes requires.store) (option_map_or given.changes command false) (option_map_or given.files_of command []) in
    subst (λ (reason : Option Reason). TellsReason reason told now first last) (ap refused (same_command folder words stops.placed placed stops.is is) ∙ begins.free) stops.stopped
not_stopped folder (a_here.Unread unreadable) words placed old new before after is begins told now first last stops = begins.said

pub has_folder : (folder : Option (List ℕ)) (words : List (List ℕ)) (placed : Placed) → IsPlaced folder words placed → (told now : Option (List ℕ)) (first last : ℕ) → HasNoFolder folder words told now first last → ⊥
has_folder folder words placed is told now first last without =
    let root = unwrap_or folder [] in
    let command = without.files.command in
    let reads : placed.command ≡ Some (given.located root command) = is.command ∙ ap read_as (is.told ∙ ap (reached root) without.files.is) in
    let as_many : length (files placed) ≡ length (given.files_of command) =
    ap (λ (c : Option Command). length (option_map_or given.files_of c [])) reads ∙ ap length (located_keeps root command).0 ∙ length-map _ _ in
    let none : length (files placed) ≡ 0 = is.untold without.none in
    absurd (omega (arith, none, as_many, without.files.some))
