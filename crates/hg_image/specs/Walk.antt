-- The walk of a data file (Mercurial help, internals.dirstate-v2, "The data file format"): lists of nodes, each node before its children
-- and its children before the next sibling, and the first fault on the way.
use Rattle.std.specs.Prelude.{◌≡◌, ℕ, zero, suc, ◌+◌, ◌*◌, if◌then◌else◌, List, length, take, Option, Some, None, ◌==◌, nat_lt}
use Rattle.hg_base.specs.PathText.{components}
use Rattle.hg_docket.specs.Docket.{Contents}
use Rattle.hg_image.specs.declared.fault.NodeFault.{NodeFault}
use Rattle.hg_image.specs.declared.fault.NodeFault.TheVariants as a_fault
use Rattle.hg_image.specs.Node.{record_at, path_of, name_of, first_of, node_fault}

-- the first fault of so many nodes, one after the other: each node, then its children
unfoldable pub nodes_fault : (List ℕ → ℕ → ℕ → Option NodeFault) → List ℕ → Option (List ℕ) → Option (List ℕ) → ℕ → ℕ → Option NodeFault
nodes_fault below bytes dir before at zero = None
nodes_fault below bytes dir before at (suc count) =
    let rec = record_at bytes at in
    first_of (node_fault bytes dir before rec)
    (first_of (below (path_of bytes rec) rec.kids_start rec.kids_count)
    (nodes_fault below bytes dir (Some (name_of bytes rec)) (at + 44) count))

-- the first fault of a list in a directory, none for the root, from which so many levels are left; a list of no nodes has none
-- wherever it is said to begin, and one without a level left has nodes for which there is no room
unfoldable pub list_fault : ℕ → List ℕ → Option (List ℕ) → ℕ → ℕ → Option NodeFault
list_fault zero bytes dir start count = if count == 0 then None else Some (a_fault.List start count)
list_fault (suc depth) bytes dir start count =
    if count == 0
    then None
    else (
    if nat_lt (length bytes) (start + 44 * count)
    then Some (a_fault.List start count)
    else nodes_fault (λ path. list_fault depth bytes (Some path)) bytes dir None start count
    )

-- how many components a directory has, none for the root
abbrev pub depth_of : Option (List ℕ) → ℕ
depth_of None = 0
depth_of (Some dir) = length (components dir)

-- how many levels of lists a walk looks at: a path has at most 2,048 components, and below such a one a list is looked at still
unfoldable pub levels : ℕ
levels = 2049

-- more levels would find nothing else
abbrev pub NeedsNoMore : Contents → List ℕ → Type 0
NeedsNoMore docket bytes =
    (more : ℕ)
    → list_fault (levels + more) (take docket.used bytes) None docket.root_start docket.root_count
    ≡ list_fault levels (take docket.used bytes) None docket.root_start docket.root_count

-- the first fault of a data file: too few bytes, and then those of the walk, which looks at the used bytes alone
abbrev pub image_fault : Contents → List ℕ → Option NodeFault
image_fault docket bytes =
    if nat_lt (length bytes) docket.used
    then Some (a_fault.DataShort (length bytes) docket.used)
    else list_fault levels (take docket.used bytes) None docket.root_start docket.root_count
