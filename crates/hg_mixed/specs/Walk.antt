-- A walk over the children of a directory, with the lists of the image that it hands out.
use Rattle.std.specs.Prelude.{ℕ, ◌≡◌, Bool, true, List, Option, Some, IfSome, option_map}
use Rattle.hg_base.specs.PathText.{is_path}
use Rattle.hg_base.specs.Within.{is_above}
use Rattle.hg_image.specs.Reading.{row_at}
use Rattle.hg_image.specs.Rows.{Row}
use Rattle.hg_image.specs.View.{dir_of, rows_in}
use Rattle.hg_image.specs.declared.opened.List.{List as NodeList}
use Rattle.hg_mixed.specs.ChildOf.{has_below}
use Rattle.hg_nodes.specs.Children.{ChildData}
use Rattle.hg_mixed.specs.Held.{Held}
use Rattle.hg_mixed.specs.Lent.{as_dir, lent_at}
use Rattle.hg_nodes.specs.Lists.{or_root}
use Rattle.hg_mixed.specs.Parted.{IsLentIn, image_of}
use Rattle.hg_mixed.specs.Rest.{children_in}
use Rattle.hg_mixed.specs.declared.below.Below.{Below}
use Rattle.hg_mixed.specs.declared.child.Child.{Child}
use Rattle.hg_mixed.specs.declared.walk.Walk.{Walk}

-- the children that are left
abbrev pub walked : Walk → List ChildData
walked w = children_in w.kids w.left.now w.list w.at

-- a list, where it is there, is what is lent of a path
abbrev pub IsLentAt : List (List ℕ × List Row) → List ℕ → Option NodeList → Type 0
IsLentAt left path list = IfSome list (λ l. (Some (rows_in l) ≡ lent_at left path) × (or_root (dir_of l) ≡ path))

-- it was found whether a list has something below its directory
abbrev pub Fills : Option NodeList → Bool → Type 0
Fills list has = (path : List ℕ) → is_path path ≡ true → IfSome list (λ l. or_root (dir_of l) ≡ path) → has ≡ has_below path (option_map rows_in list)

-- the list of what stands right in a child, where it is at hand, is the image's
abbrev pub ListIsOf : Held → Child → Type 0
ListIsOf held child = IfSome child.list (λ list. IsLentIn held.left (image_of held) (Some child.path.text.now) (Some list))

-- the same of what a walk into a child goes by
abbrev pub IsBelow : Held → Below → Type 0
IsBelow held below = IfSome below.list (λ list. IsLentIn held.left (image_of held) (Some below.path.text.now) (Some list))

-- a walk is one over a table: the lists that are lent are the table's, each with what the image has, and the list that it goes through, where there is one, is the image's
pub record ListsAreOf (held : Held) (walk : Walk) : Type 0 where
  pub left : walk.left.now ≡ held.left
  pub lent : (dir : List ℕ) (rows : List Row) → lent_at held.left dir ≡ Some rows → (at : List ℕ) → is_above (as_dir dir) at ≡ true → row_at rows at ≡ row_at (image_of held) at
  pub here : IfSome walk.list (λ list. IsLentIn held.left (image_of held) (dir_of list) (Some list))
