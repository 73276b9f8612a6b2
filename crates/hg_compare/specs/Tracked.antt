-- The letter of a path that the dirstate has an entry for, as the help topic `status` gives it.
use Rattle.std.specs.Prelude.{ℕ, Bool, true, false, not, ◌&&◌, ◌||◌, if◌then◌else◌, List, Option, Some, None}
use Rattle.std.specs.Str.{bytes_eq}
use Rattle.hg_entry.specs.Table.{Marks}
use Rattle.hg_tree.specs.declared.thing.Thing.{Thing}
use Rattle.hg_tree.specs.declared.thing.Thing.TheVariants as a_thing
use Rattle.hg_tree.specs.declared.thing.Placed.{Placed}
use Rattle.hg_compare.specs.declared.letter.Letter.{Letter}
use Rattle.hg_compare.specs.declared.letter.Letter.TheVariants as a_letter

-- what the first parent has of a path: its flag, and its bytes where its contents are there
pub record ParentRow : Type 0 where
  pub exec : Bool
  pub link : Bool
  pub bytes : Option (List ℕ)

-- contents that are absent equal no bytes
abbrev pub equal_bytes : Option (List ℕ) → List ℕ → Bool
equal_bytes None bytes = false
equal_bytes (Some row) bytes = bytes_eq row bytes

abbrev pub equal_bools : Bool → Bool → Bool
equal_bools true b = b
equal_bools false b = not b

-- a thing has the flag and the bytes of a row
abbrev pub equals_row : ParentRow → Thing → Bool
equals_row row (a_thing.File exec bytes) = not row.link && equal_bools row.exec exec && equal_bytes row.bytes bytes
equals_row row (a_thing.Link target) = row.link && equal_bytes row.bytes target
equals_row row a_thing.Dir = false
equals_row row a_thing.Other = false

-- what stands at a path equals the first parent's row, where both are there
abbrev pub is_unchanged : Option ParentRow → Option Placed → Bool
is_unchanged None placed = false
is_unchanged (Some row) None = false
is_unchanged (Some row) (Some placed) = equals_row row placed.thing

abbrev pub is_file_or_link_thing : Thing → Bool
is_file_or_link_thing (a_thing.File exec bytes) = true
is_file_or_link_thing (a_thing.Link target) = true
is_file_or_link_thing a_thing.Dir = false
is_file_or_link_thing a_thing.Other = false

-- something that can be tracked stands there
abbrev pub is_file_or_link : Option Placed → Bool
is_file_or_link None = false
is_file_or_link (Some placed) = is_file_or_link_thing placed.thing

-- the letter of a path with an entry: the first of these that fits
abbrev pub tracked_letter : Option ParentRow → Marks → Bool → Option Placed → Option Letter
tracked_letter row marks copied placed =
    if marks.w
    then Some (
    if not (is_file_or_link placed) then a_letter.Gone else (
    if marks.p2 then a_letter.M else (
    if not marks.p1 then a_letter.A else (
    if copied then a_letter.M else (
    if is_unchanged row placed then a_letter.C else a_letter.M))))
    )
    else (if marks.p1 || marks.p2 then Some a_letter.R else None)
