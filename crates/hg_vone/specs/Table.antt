-- The table that a dirstate of the first version says.
use Rattle.std.specs.Prelude.{ℕ, ◌≡◌, Bool, false, if◌then◌else◌, List, [], ◌∷◌, Option, Some, None, option_map, Result, Ok}
use Rattle.std.specs.List.{list_any}
use Rattle.std.specs.Option.{option_and_then}
use Rattle.std.specs.Str.{bytes_eq}
use Rattle.hg_base.specs.Within.{is_within}
use Rattle.hg_docket.specs.Docket.{empty_hash}
use Rattle.hg_entry.specs.Entry.{EntryData}
use Rattle.hg_entry.specs.Table.{Marks, Table}
use Rattle.hg_image.specs.Reading.{RecordFault}
use Rattle.hg_vone.specs.Items.{Item, Reading}

-- the item of a path, where there is one
abbrev pub item_at : List Item → List ℕ → Option Item
item_at [] path = None
item_at (item ∷ items) path = if bytes_eq item.path path then Some item else item_at items path

-- an entry of which nothing is known of the file on the disk
abbrev pub entry : Marks → EntryData
entry m = record { w = m.w; p1 = m.p1; p2 = m.p2; exec = false; link = false; size = None; stamp = None; modified = false; fallback = 0 }

-- a node stands at each path and at the directories above it
abbrev pub is_node : List Item → List ℕ → Bool
is_node items at = list_any (λ i. is_within at i.path) items

-- the table: no sizes, modes, times and caches, and the hash of no ignore patterns
abbrev pub table : Reading → Table
table r =
    record {
      p1 = r.p1;
      p2 = r.p2;
      hash = empty_hash;
      entries = λ path. option_map (λ i. entry i.marks) (item_at r.items path);
      sources = λ path. option_and_then (λ i. i.source) (item_at r.items path);
      nodes = λ path. is_node r.items path;
      caches = λ path. None;
    }

-- two tables say the same
pub record IsSame (a b : Table) : Type 0 where
  pub p1 : a.p1 ≡ b.p1
  pub p2 : a.p2 ≡ b.p2
  pub hash : a.hash ≡ b.hash
  pub entries : (at : List ℕ) → a.entries at ≡ b.entries at
  pub sources : (at : List ℕ) → a.sources at ≡ b.sources at
  pub nodes : (at : List ℕ) → a.nodes at ≡ b.nodes at
  pub caches : (at : List ℕ) → a.caches at ≡ b.caches at

-- a reading of a record is a table that says the same
pub record ReadsAs (t : Table) (read : Result Table RecordFault) : Type 0 where
  pub found : Table
  pub is : read ≡ Ok found
  pub same : IsSame found t
