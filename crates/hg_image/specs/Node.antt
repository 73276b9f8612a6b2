-- One node of the data file (Mercurial help, internals.dirstate-v2, "The data file format"): what it names, and what is wrong with it.
use Rattle.std.specs.Prelude.{ℕ, ◌+◌, Bool, true, false, not, ◌&&◌, ◌||◌, if◌then◌else◌, List, length, take, drop, Option, Some, None, ◌==◌, nat_le}
use Rattle.std.specs.Ordering.{is_lt, nat_cmp}
use Rattle.std.specs.Cmp.Lexicographic.{slice_cmp}
use Rattle.std.specs.Str.{is_utf8}
use Rattle.hg_base.specs.PathText.{is_path, base_of, parent_of, is_same_dir}
use Rattle.hg_base.specs.PathRefusal.{refusal}
use Rattle.hg_base.specs.declared.path.PathFault.{PathFault}
use Rattle.hg_base.specs.declared.path.PathFault.TheVariants as a_refusal
use Rattle.hg_node.specs.declared.record.Rec.{Rec}
use Rattle.hg_node.specs.Node.{rec_of}
use Rattle.hg_entry.specs.declared.entry.Fields.{Fields}
use Rattle.hg_entry.specs.Entry.{is_timely, has_entry}
use Rattle.hg_image.specs.declared.fault.NodeFault.{NodeFault}
use Rattle.hg_image.specs.declared.fault.NodeFault.TheVariants as a_fault

-- the record that stands at a place
unfoldable pub record_at : List ℕ → ℕ → Rec
record_at bytes at = record (rec_of (take 44 (drop at bytes))) { place = at }

-- so many bytes from a place on
abbrev pub part_at : List ℕ → ℕ → ℕ → List ℕ
part_at bytes start len = take len (drop start bytes)

-- so many bytes from a place on are there and are UTF-8
unfoldable pub is_text : List ℕ → ℕ → ℕ → Bool
is_text bytes start len = nat_le (start + len) (length bytes) && is_utf8 (part_at bytes start len)

-- the full path of a node
abbrev pub path_of : List ℕ → Rec → List ℕ
path_of bytes rec = part_at bytes rec.path_start rec.path_len

-- the name of a node in its directory
abbrev pub name_of : List ℕ → Rec → List ℕ
name_of bytes rec = base_of (path_of bytes rec)

-- the numbers that an entry or a cached directory is read from
abbrev pub fields_of : Rec → Fields
fields_of rec = record { flags = rec.flags; size = rec.size; seconds = rec.seconds; nanos = rec.nanos }

-- the copy source, where the node has an entry and names one; a start of 0 names none
abbrev pub source_of : List ℕ → Rec → Option (List ℕ)
source_of bytes rec =
    if has_entry rec.flags && not (rec.copy_start == 0) then Some (part_at bytes rec.copy_start rec.copy_len) else None

-- a rule of paths is broken, and the limit of depth isn't the first that is
abbrev pub breaks_rule : Option PathFault → Bool
breaks_rule None = false
breaks_rule (Some (a_refusal.TooDeep n)) = false
breaks_rule (Some refusal) = true

-- the limit of depth is the first rule that is broken
abbrev pub is_too_deep : Option PathFault → Bool
is_too_deep (Some (a_refusal.TooDeep n)) = true
is_too_deep refusal = false

-- the name is greater than the one before, where there is one
abbrev pub is_after : Option (List ℕ) → List ℕ → Bool
is_after None name = true
is_after (Some before) name = is_lt (slice_cmp nat_cmp before name)

-- the copy source that is named is a path
abbrev pub is_sourced : List ℕ → Rec → Bool
is_sourced bytes rec =
    rec.copy_start == 0 || (is_text bytes rec.copy_start rec.copy_len && is_path (part_at bytes rec.copy_start rec.copy_len))

-- what is wrong with the full path of a node: it isn't text, breaks a rule of paths, or is too deep
abbrev pub path_fault : List ℕ → Rec → Option NodeFault
path_fault bytes rec =
    if not (is_text bytes rec.path_start rec.path_len)
    then Some (a_fault.Text rec.place)
    else (
    if breaks_rule (refusal (path_of bytes rec))
    then Some (a_fault.Name rec.place)
    else (if is_too_deep (refusal (path_of bytes rec)) then Some (a_fault.Deep rec.place) else None)
    )

-- what is wrong with a node in a directory (none for the root) behind the name before it in its list, where its path is one
abbrev pub place_fault : List ℕ → Option (List ℕ) → Option (List ℕ) → Rec → Option NodeFault
place_fault bytes dir before rec =
    if not (rec.base_at + length (name_of bytes rec) == length (path_of bytes rec))
    then Some (a_fault.Base rec.place)
    else (
    if not (is_same_dir dir (parent_of (path_of bytes rec)))
    then Some (a_fault.Parent rec.place)
    else (
    if not (is_after before (name_of bytes rec))
    then Some (a_fault.Order rec.place)
    else (
    if not (is_sourced bytes rec)
    then Some (a_fault.Copy rec.place)
    else (if not (is_timely (fields_of rec)) then Some (a_fault.Times rec.place) else None)
    )
    )
    )

-- the first fault of two, one looked for after the other
abbrev pub first_of : Option NodeFault → Option NodeFault → Option NodeFault
first_of (Some fault) later = Some fault
first_of None later = later

-- the first fault of a node in a directory, behind the name before it
unfoldable pub node_fault : List ℕ → Option (List ℕ) → Option (List ℕ) → Rec → Option NodeFault
node_fault bytes dir before rec = first_of (path_fault bytes rec) (place_fault bytes dir before rec)
