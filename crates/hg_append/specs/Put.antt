-- What was put of a tree.
use Rattle.std.specs.Prelude.{ℕ, ◌≡◌, ◌<◌, ◌≤◌, ◌+◌, ◌-◌, ◌*◌, ◌==◌, ◌^◌, Bool, true, if◌then◌else◌, List, [], ◌∷◌, ◌++◌, length, Option, Some, None, min}
use Rattle.std.specs.Str.{is_utf8}
use Rattle.std.specs.List.{AllByRecursion}
use Rattle.hg_base.specs.PathText.{is_path}
use Rattle.hg_entry.specs.declared.entry.Fields.{Fields}
use Rattle.hg_entry.specs.Entry.{cache_of, entry_of, is_timely}
use Rattle.hg_node.specs.Node.{bytes_of}
use Rattle.hg_node.specs.declared.record.Rec.{Rec}
use Rattle.hg_mixed.specs.Children.{AreChildren}
use Rattle.hg_nodes.specs.Children.{ChildData}
use Rattle.hg_mixed.specs.Held.{Held}
use Rattle.hg_nodes.specs.Written.{fields_for}
use Rattle.hg_append.specs.declared.sums.Sums.{Sums}
use Rattle.hg_append.specs.declared.lists.Put.{Put}
use Rattle.hg_append.specs.declared.kept.Kept.{Kept}
use Rattle.hg_append.specs.declared.way.Way.{Way}
use Rattle.hg_append.specs.declared.way.Way.TheVariants as a_way
use Rattle.hg_append.specs.Keeps.{Keeps, bytes_unless, keeps_nothing, number_unless, size_unless, text_start}
use Rattle.hg_append.specs.Tree.{AreBelowIn, AreKids, IsTreeIn, Tree, Nothing, Node, has_entry, has_source, heads, is_tracked, kept_of, number_in}
use Rattle.hg_append.specs.Layout.{
  copy_start,
  front_in,
  front_size_in,
  path_put,
  put_in,
  records_in,
  size_in,
  source_put,
  source_text,
  start_in,
}

-- a sum as it is kept: the greatest number of 64 bits where it would be greater
abbrev pub kept : ℕ → ℕ
kept n = min n (2 ^ 64 - 1)

-- numbers that are read back as what they were written for
pub record AreFields (child : ChildData) (f : Fields) : Type 0 where
  pub is : f ≡ fields_for child.entry child.cache
  pub entry : entry_of f ≡ child.entry
  pub cache : child.entry ≡ None → cache_of f ≡ child.cache
  pub timely : is_timely f ≡ true
  pub flags : f.flags < 2 ^ 16
  pub size : f.size < 2 ^ 32
  pub seconds : f.seconds < 2 ^ 32
  pub nanos : f.nanos < 2 ^ 32

-- a node as it can be written: its texts are paths in UTF-8
pub record IsWritable (child : ChildData) : Type 0 where
  pub path : is_path child.path ≡ true
  pub text : is_utf8 child.path ≡ true
  pub source : (source : List ℕ) → child.source ≡ Some source → (is_path source ≡ true) × (is_utf8 source ≡ true)
  pub fields : AreFields child (fields_for child.entry child.cache)

-- nodes of which those that were put are
abbrev pub nodes_unless : Option Kept → List ChildData → List ChildData
nodes_unless None children = children
nodes_unless (Some list) children = []

-- the nodes that are put of a tree
abbrev pub nodes_in : Keeps → Tree → List ChildData
nodes_in keeps Nothing = []
nodes_in keeps (Node child below behind) = child ∷ (nodes_unless (kept_of keeps child) (nodes_in keeps below) ++ nodes_in keeps behind)

-- each node of a tree is
abbrev pub AreSoundIn : Keeps → Tree → Type 0
AreSoundIn keeps tree = AllByRecursion IsWritable (nodes_in keeps tree)

abbrev pub AreSound : Tree → Type 0
AreSound tree = AreSoundIn keeps_nothing tree

-- a part was put behind, unless it would end behind the last place that 32 bits can name
abbrev pub Puts : ℕ → List ℕ → List ℕ → List ℕ → Type 0
Puts end part old new = end < 2 ^ 32 → new ≡ old ++ part

-- the record of a node, where its path and its source may be at places already, and this was put below it
abbrev pub rec_with : Keeps → ChildData → ℕ → Put → Rec
rec_with keeps child base_at under =
    record {
      place = 0;
      path_start = text_start (keeps.text child.text_at) under.sums.end;
      path_len = length child.path;
      base_at = base_at;
      copy_start = copy_start child.source (text_start (keeps.text child.source_at) (under.sums.end + length (path_put keeps child)));
      copy_len = length (source_text child.source);
      kids_start = under.start;
      kids_count = under.sums.count;
      entries_below = under.sums.entries;
      tracked_below = under.sums.tracked;
      flags = (fields_for child.entry child.cache).flags;
      size = (fields_for child.entry child.cache).size;
      seconds = (fields_for child.entry child.cache).seconds;
      nanos = (fields_for child.entry child.cache).nanos;
    }

-- where the last component of what stands in a directory begins
abbrev pub base_in : Option (List ℕ) → ℕ
base_in None = 0
base_in (Some dir) = length dir + 1

-- one more where a test holds
abbrev pub one_if : Bool → ℕ
one_if holds = if holds then 1 else 0

-- the sums of a list with one node more, of which so much is put
abbrev pub with_node : ChildData → List ℕ → List ℕ → Sums → Sums → Sums
with_node child path source under sums =
    record {
      end = kept (kept (under.end + length path) + length source);
      count = kept (sums.count + 1);
      entries = kept (kept (sums.entries + under.entries) + one_if (has_entry.test child));
      tracked = kept (kept (sums.tracked + under.tracked) + one_if (is_tracked.test child));
      copies = kept (kept (sums.copies + under.copies) + one_if (has_source.test child));
    }

-- the sums of a list with its records
abbrev pub ended : Sums → Sums
ended sums = record sums { end = kept (sums.end + kept (sums.count * 44)) }

-- where the records of a list begin
abbrev pub start_with : Sums → ℕ
start_with sums = if sums.count == 0 then 0 else sums.end

-- where a list ends in range, its numbers fit 32 bits
pub record IsFew (put : Put) : Type 0 where
  pub start : put.sums.end < 2 ^ 32 → put.start < 2 ^ 32
  pub count : put.sums.end < 2 ^ 32 → put.sums.count < 2 ^ 32
  pub entries : put.sums.end < 2 ^ 32 → put.sums.entries < 2 ^ 32
  pub tracked : put.sums.end < 2 ^ 32 → put.sums.tracked < 2 ^ 32

-- these are the sums
pub record HasSums (place nodes having tracking copying : ℕ) (sums : Sums) : Type 0 where
  pub ends : sums.end ≡ kept place
  pub count : sums.count ≡ kept nodes
  pub entries : sums.entries ≡ kept having
  pub tracked : sums.tracked ≡ kept tracking
  pub copies : sums.copies ≡ kept copying

-- the sums are those of a tree, up to an end
abbrev pub AreSums : Keeps → ℕ → Tree → Sums → Type 0
AreSums keeps end tree sums = HasSums end (length (heads tree)) (number_in keeps has_entry tree) (number_in keeps is_tracked tree) (number_in keeps has_source tree) sums

-- the same of the children of a node, whose list may be kept
abbrev pub AreSumsUnder : Keeps → Option Kept → ℕ → Tree → Sums → Type 0
AreSumsUnder keeps list end tree sums =
    HasSums end (number_unless list (λ l. l.count) (length (heads tree)))
    (number_unless list has_entry.below (number_in keeps has_entry tree))
    (number_unless list is_tracked.below (number_in keeps is_tracked tree))
    (number_unless list has_source.below (number_in keeps has_source tree)) sums

-- lists that are put behind so many bytes have few entries: each takes a record, there or among those bytes
pub record AreFew (held : Held) (keeps : Keeps) (base : ℕ) : Type 0 where
  pub entries : (dir : Option (List ℕ)) (tree : Tree) → IsTreeIn held keeps dir tree → 44 * number_in keeps has_entry tree ≤ base + size_in keeps tree
  pub tracked : (dir : Option (List ℕ)) (tree : Tree) → IsTreeIn held keeps dir tree → 44 * number_in keeps is_tracked tree ≤ base + size_in keeps tree

-- how many bytes come before
abbrev pub base_by : Held → Way → ℕ
base_by held a_way.Rewrite = 0
base_by held a_way.Append = held.docket.used

-- a part of a directory's list was put at a place, but for its records, which are kept; others are left
pub record IsPutPart (held : Held) (keeps : Keeps) (dir : Option (List ℕ)) (at : ℕ) (left : List ChildData) (sums : Sums) (old new old_records new_records : List ℕ) : Type 0 where
  pub tree : Tree
  pub children : AreChildren held dir (heads tree ++ left)
  pub below : AreBelowIn held keeps tree
  pub sound : AreSoundIn keeps tree
  pub sums_are : AreSums keeps (at + front_size_in keeps tree) tree sums
  pub bytes : Puts (at + front_size_in keeps tree) (front_in keeps at tree) old new
  pub records : Puts (at + front_size_in keeps tree) (records_in keeps at tree) old_records new_records

-- the list of a directory was put at a place with all below it
pub record IsPut (held : Held) (keeps : Keeps) (dir : Option (List ℕ)) (at : ℕ) (put : Put) (old new old_records new_records : List ℕ) : Type 0 where
  pub tree : Tree
  pub is : IsTreeIn held keeps dir tree
  pub sound : AreSoundIn keeps tree
  pub sums_are : AreSums keeps (at + size_in keeps tree) tree put.sums
  pub start : at + size_in keeps tree < 2 ^ 32 → put.start ≡ start_in keeps at tree
  pub bytes : Puts (at + size_in keeps tree) (put_in keeps at tree) old new
  pub records : Puts (at + size_in keeps tree) [] old_records new_records

-- the list of a node's children was, unless it is kept
pub record IsPutUnder (held : Held) (keeps : Keeps) (list : Option Kept) (path : List ℕ) (at : ℕ) (put : Put) (old new old_records new_records : List ℕ) : Type 0 where
  pub tree : Tree
  pub kids : AreKids held list path (heads tree)
  pub below : AreBelowIn held keeps tree
  pub sound : AllByRecursion IsWritable (nodes_unless list (nodes_in keeps tree))
  pub sums_are : AreSumsUnder keeps list (at + size_unless list (size_in keeps tree)) tree put.sums
  pub start : at + size_unless list (size_in keeps tree) < 2 ^ 32 → put.start ≡ number_unless list (λ l. l.start) (start_in keeps at tree)
  pub bytes : Puts (at + size_unless list (size_in keeps tree)) (bytes_unless list (put_in keeps at tree)) old new
  pub records : Puts (at + size_unless list (size_in keeps tree)) [] old_records new_records

-- a node was put behind the list of its children
pub record HasPut (held : Held) (keeps : Keeps) (child : ChildData) (base_at : ℕ) (sums now : Sums) (old new old_records new_records : List ℕ) : Type 0 where
  pub under : Put
  pub mid : List ℕ
  pub mid_records : List ℕ
  pub below : IsPutUnder held keeps (kept_of keeps child) child.path sums.end under old mid old_records mid_records
  pub few : IsFew under
  pub is : now ≡ with_node child (path_put keeps child) (source_put keeps child) under.sums sums
  pub sound : IsWritable child
  pub texts : Puts now.end (path_put keeps child ++ source_put keeps child) mid new
  pub records : Puts now.end (bytes_of (rec_with keeps child base_at under)) mid_records new_records
