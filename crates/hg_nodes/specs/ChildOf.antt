-- A node as a child, with its time.
use Rattle.std.specs.Prelude.{ℕ, ◌≡◌, true, List, map}
use Rattle.std.specs.List.{AllByRecursion}
use Rattle.hg_base.specs.PathText.{is_path}
use Rattle.hg_entry.specs.Entry.{CacheData}
use Rattle.hg_nodes.specs.Children.{ChildData}
use Rattle.hg_nodes.specs.Lists.{has_rows_in}
use Rattle.hg_nodes.specs.Node.{NodeData}
use Rattle.hg_nodes.specs.Times.{time_at}

abbrev pub child_of : List (List ℕ × NodeData) → List (List ℕ × CacheData) → List ℕ × NodeData → ChildData
child_of rows times kid =
    record {
      path = kid.0;
      entry = kid.1.entry;
      source = kid.1.source;
      cache = time_at times kid.0;
      has_kids = has_rows_in rows kid.0;
      text_at = kid.1.text_at;
      source_at = kid.1.source_at;
    }

abbrev pub children_of : List (List ℕ × NodeData) → List (List ℕ × CacheData) → List (List ℕ × NodeData) → List ChildData
children_of rows times kids = map (child_of rows times) kids

-- each stands at a path
abbrev pub AreAtPaths : List (List ℕ × NodeData) → Type 0
AreAtPaths kids = AllByRecursion (λ kid. is_path kid.0 ≡ true) kids
