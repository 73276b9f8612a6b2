-- The reading of a dirstate of the first version: its parents and its entries in their order, or the first fault.
use Rattle.std.specs.Prelude.{ℕ, zero, suc, ◌+◌, Bool, false, if◌then◌else◌, List, [], ◌∷◌, ◌++◌, length, take, drop, Option, Some, None, Result, Ok, Err, ◌==◌, nat_lt}
use Rattle.std.specs.List.{list_any}
use Rattle.std.specs.Str.{bytes_eq}
use Rattle.hg_entry.specs.Table.{Marks}
use Rattle.hg_vone.specs.Format.{marks, marks_in, own_fault, path_in, size_in, source_in}
use Rattle.hg_vone.specs.declared.fault.VoneFault.{VoneFault}
use Rattle.hg_vone.specs.declared.fault.VoneFault.TheVariants as a_fault

-- what an entry says: its path, its copy source, and whether the file is tracked and in the parents
pub record Item : Type 0 where
  pub path : List ℕ
  pub source : Option (List ℕ)
  pub marks : Marks

-- the marks of a state that is one
abbrev pub known_marks : Option Marks → Marks
known_marks None = marks false false false
known_marks (Some known) = known

-- what the entry at the beginning of some bytes says
unfoldable pub item_in : List ℕ → Item
item_in bytes = record { path = path_in bytes; source = source_in bytes; marks = known_marks (marks_in bytes) }

-- an entry of some is of this path
abbrev pub has_path : List Item → List ℕ → Bool
has_path items path = list_any (λ i. bytes_eq i.path path) items

-- what is wrong with an entry behind others: what is so by itself, or that one of them is of its path
abbrev pub or_twice : Option VoneFault → Bool → ℕ → Option VoneFault
or_twice (Some fault) twice at = Some fault
or_twice None twice at = if twice then Some (a_fault.V1Twice at) else None

unfoldable pub entry_fault : ℕ → List Item → List ℕ → Option VoneFault
entry_fault at before bytes = or_twice (own_fault at bytes) (has_path before (path_in bytes)) at

-- a fault, or what is read later
abbrev pub unless : Option VoneFault → Result (List Item) VoneFault → Result (List Item) VoneFault
unless (Some fault) later = Err fault
unless None later = later

-- the entries to the end of some bytes that begin at a place, behind others; each has a byte at least, so no more are looked for than there are bytes
unfoldable pub items_from : ℕ → ℕ → List Item → List ℕ → Result (List Item) VoneFault
items_from zero at before bytes = Ok before
items_from (suc most) at before bytes =
    if length bytes == 0
    then Ok before
    else unless (entry_fault at before bytes) (items_from most (at + size_in bytes) (before ++ item_in bytes ∷ []) (drop (size_in bytes) bytes))

-- what the file says: the two parents, 20 bytes each, and the entries
pub record Reading : Type 0 where
  pub p1 : List ℕ
  pub p2 : List ℕ
  pub items : List Item

-- the entries behind the parents
abbrev pub items_in : List ℕ → Result (List Item) VoneFault
items_in bytes = items_from (length bytes) 40 [] (drop 40 bytes)

abbrev pub with_parents : List ℕ → Result (List Item) VoneFault → Result Reading VoneFault
with_parents bytes (Err fault) = Err fault
with_parents bytes (Ok items) = Ok (record { p1 = take 20 bytes; p2 = take 20 (drop 20 bytes); items = items })

-- the whole reading: the first fault in the order of the entries, or what is said
abbrev pub reading : List ℕ → Result Reading VoneFault
reading bytes = if nat_lt (length bytes) 40 then Err (a_fault.V1Short 0) else with_parents bytes (items_in bytes)
