-- Why a text is no path: the rules in the order in which a reading tries them.
use Rattle.std.specs.Prelude.{ℕ, ◌≡◌, ◌+◌, if◌then◌else◌, List, [], ◌∷◌, length, Option, Some, None, ◌==◌, nat_lt, Result, Ok, Err}
use Rattle.hg_base.specs.PathText.{components, is_component, is_reserved}
use Rattle.hg_base.specs.declared.path.PathFault.{PathFault}
use Rattle.hg_base.specs.declared.path.PathFault.TheVariants as a_fault

-- the place where the first piece begins that is no component, where the pieces begin at `at`
abbrev pub bad_place : ℕ → List (List ℕ) → Option ℕ
bad_place at [] = None
bad_place at (part ∷ parts) = if is_component part then bad_place (at + length part + 1) parts else Some at

-- of pieces that may be components: one that isn't, `.hg` at the front, too many
abbrev pub component_refusal : Option ℕ → List (List ℕ) → Option PathFault
component_refusal (Some at) parts = Some (a_fault.Component at)
component_refusal None parts =
    if is_reserved parts
    then Some a_fault.Reserved
    else (if nat_lt 2048 (length parts) then Some (a_fault.TooDeep (length parts)) else None)

-- why a text is no path: the first rule that it breaks, in the order of the refusals
abbrev pub refusal : List ℕ → Option PathFault
refusal text =
    if length text == 0
    then Some a_fault.Empty
    else (
    if nat_lt 65535 (length text)
    then Some (a_fault.TooLong (length text))
    else component_refusal (bad_place 0 (components text)) (components text)
    )

-- what a reading that copies may answer: the path where nothing is refused, the refusal, or want of memory
abbrev pub Makes : List ℕ → Result (List ℕ) PathFault → Type 0
Makes text (Ok path) = (path ≡ text) × (refusal text ≡ None)
Makes text (Err a_fault.OutOfMemory) = Unit {0}
Makes text (Err fault) = refusal text ≡ Some fault
