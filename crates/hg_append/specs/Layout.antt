-- How a tree of nodes is laid out in a data file. Of a list each node comes with all that belongs to it: first the list of its children, unless that is
-- kept, then its path and then its copy source, unless they are at a place already. Behind the last stand the records of the list, in order.
use Rattle.std.specs.Prelude.{ℕ, ◌+◌, ◌-◌, List, [], ◌++◌, length, Option, Some, None}
use Rattle.hg_base.specs.PathText.{base_of}
use Rattle.hg_node.specs.declared.record.Rec.{Rec}
use Rattle.hg_node.specs.Node.{bytes_of}
use Rattle.hg_nodes.specs.Children.{ChildData}
use Rattle.hg_nodes.specs.Written.{fields_for}
use Rattle.hg_append.specs.Keeps.{Keeps, bytes_unless, keeps_nothing, new_text, number_unless, size_unless, text_start}
use Rattle.hg_append.specs.Tree.{Counting, Tree, Nothing, Node, has_entry, heads, is_tracked, kept_of, number_in}

-- the text of a copy source, nothing where there is none
abbrev pub source_text : Option (List ℕ) → List ℕ
source_text None = []
source_text (Some source) = source

-- how many bytes a node takes: its record, its path and its copy source
abbrev pub node_size : ChildData → ℕ
node_size child = 44 + length child.path + length (source_text child.source)

-- what is put of its path and of its copy source
abbrev pub path_put : Keeps → ChildData → List ℕ
path_put keeps child = new_text (keeps.text child.text_at) child.path

abbrev pub source_put : Keeps → ChildData → List ℕ
source_put keeps child = new_text (keeps.text child.source_at) (source_text child.source)

-- how many bytes a list takes with all below it
abbrev pub size_in : Keeps → Tree → ℕ
size_in keeps Nothing = 0
size_in keeps (Node child below behind) =
    44 + length (path_put keeps child) + length (source_put keeps child) + size_unless (kept_of keeps child) (size_in keeps below) + size_in keeps behind

-- how many of them are those of a node's children
abbrev pub under_size : Keeps → ChildData → Tree → ℕ
under_size keeps child below = size_unless (kept_of keeps child) (size_in keeps below)

-- how many of them stand before its records
abbrev pub front_size_in : Keeps → Tree → ℕ
front_size_in keeps Nothing = 0
front_size_in keeps (Node child below behind) =
    under_size keeps child below + length (path_put keeps child) + length (source_put keeps child) + front_size_in keeps behind

-- where the records of a list begin that is put at a place; a list without nodes begins nowhere
abbrev pub start_in : Keeps → ℕ → Tree → ℕ
start_in keeps at Nothing = 0
start_in keeps at (Node child below behind) = at + front_size_in keeps (Node child below behind)

-- where the list of a node's children begins, how many there are, and how many are counted in and below it
abbrev pub under_start : Keeps → ℕ → ChildData → Tree → ℕ
under_start keeps at child below = number_unless (kept_of keeps child) (λ list. list.start) (start_in keeps at below)

abbrev pub under_count : Keeps → ChildData → Tree → ℕ
under_count keeps child below = number_unless (kept_of keeps child) (λ list. list.count) (length (heads below))

abbrev pub under_number : Keeps → Counting → ChildData → Tree → ℕ
under_number keeps counting child below = number_unless (kept_of keeps child) counting.below (number_in keeps counting below)

-- where a copy source begins, where there is one
abbrev pub copy_start : Option (List ℕ) → ℕ → ℕ
copy_start None at = 0
copy_start (Some source) at = at

-- the record of a node, where the list of its children is put at a place
abbrev pub rec_in : Keeps → ℕ → ChildData → Tree → Rec
rec_in keeps at child below =
    record {
      place = 0;
      path_start = text_start (keeps.text child.text_at) (at + under_size keeps child below);
      path_len = length child.path;
      base_at = length child.path - length (base_of child.path);
      copy_start = copy_start child.source (text_start (keeps.text child.source_at) (at + under_size keeps child below + length (path_put keeps child)));
      copy_len = length (source_text child.source);
      kids_start = under_start keeps at child below;
      kids_count = under_count keeps child below;
      entries_below = under_number keeps has_entry child below;
      tracked_below = under_number keeps is_tracked child below;
      flags = (fields_for child.entry child.cache).flags;
      size = (fields_for child.entry child.cache).size;
      seconds = (fields_for child.entry child.cache).seconds;
      nanos = (fields_for child.entry child.cache).nanos;
    }

-- where what belongs to a node ends
abbrev pub behind_in : Keeps → ℕ → ChildData → Tree → ℕ
behind_in keeps at child below = at + under_size keeps child below + length (path_put keeps child) + length (source_put keeps child)

-- the records of a list that is put at a place
abbrev pub records_in : Keeps → ℕ → Tree → List ℕ
records_in keeps at Nothing = []
records_in keeps at (Node child below behind) = bytes_of (rec_in keeps at child below) ++ records_in keeps (behind_in keeps at child below) behind

-- what stands before them
abbrev pub front_in : Keeps → ℕ → Tree → List ℕ
front_in keeps at Nothing = []
front_in keeps at (Node child below behind) =
    bytes_unless (kept_of keeps child) (front_in keeps at below ++ records_in keeps at below) ++ path_put keeps child ++ source_put keeps child ++ front_in keeps (behind_in keeps at child below) behind

-- the bytes of a list and all below it
abbrev pub put_in : Keeps → ℕ → Tree → List ℕ
put_in keeps at tree = front_in keeps at tree ++ records_in keeps at tree

-- the bytes of the list of a node's children
abbrev pub under_bytes : Keeps → ℕ → ChildData → Tree → List ℕ
under_bytes keeps at child below = bytes_unless (kept_of keeps child) (put_in keeps at below)

-- the same where nothing is kept
abbrev pub size_of : Tree → ℕ
size_of tree = size_in keeps_nothing tree

abbrev pub front_size : Tree → ℕ
front_size tree = front_size_in keeps_nothing tree

abbrev pub list_start : ℕ → Tree → ℕ
list_start at tree = start_in keeps_nothing at tree

abbrev pub rec_of : ℕ → ChildData → Tree → Rec
rec_of at child below = rec_in keeps_nothing at child below

abbrev pub behind_node : ℕ → ChildData → Tree → ℕ
behind_node at child below = behind_in keeps_nothing at child below

abbrev pub records_of : ℕ → Tree → List ℕ
records_of at tree = records_in keeps_nothing at tree

abbrev pub front_of : ℕ → Tree → List ℕ
front_of at tree = front_in keeps_nothing at tree

abbrev pub put_of : ℕ → Tree → List ℕ
put_of at tree = put_in keeps_nothing at tree
