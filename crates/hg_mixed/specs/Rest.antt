-- What is left of a directory's children, by where they are.
use Rattle.std.specs.Prelude.{ℕ, List, [], map, Option, Some, None}
use Rattle.hg_image.specs.Rows.{Row}
use Rattle.hg_image.specs.declared.opened.List.{List as NodeList}
use Rattle.hg_mixed.specs.ChildOf.{row_child, with_lent}
use Rattle.hg_nodes.specs.Children.{ChildData}
use Rattle.hg_image.specs.Found.{level}

-- those of a list of the image from a place on, where there is one
abbrev pub children_from : Option NodeList → ℕ → List ChildData
children_from None at = []
children_from (Some list) at = map row_child (level list at)

-- those in memory, where they are there, else those of the image
abbrev pub children_in : Option (List ChildData) → List (List ℕ × List Row) → Option NodeList → ℕ → List ChildData
children_in None left list at = children_from list at
children_in (Some kids) left list at = map (with_lent left) kids
