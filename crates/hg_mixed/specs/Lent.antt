-- The lists that are lent from an image, each by its directory.
use Rattle.std.specs.Prelude.{ℕ, ◌≡◌, Bool, true, false, if◌then◌else◌, List, [], ◌∷◌, ◌==◌, length, map, Option, Some, None, String, option_map, IfSome}
use Rattle.std.specs.List.{AllByRecursion, list_any}
use Rattle.std.specs.Map.{lookup, update}
use Rattle.std.specs.Str.{bytes_eq}
use Rattle.std.specs.String.{string_bytes}
use Rattle.hg_base.specs.Within.{is_above}
use Rattle.hg_entry.specs.Entry.{CacheData}
use Rattle.hg_image.specs.Found.{HasBelowIn}
use Rattle.hg_image.specs.Reading.{row_at}
use Rattle.hg_image.specs.Rows.{Row}
use Rattle.hg_image.specs.View.{dir_of, row, rows_in}
use Rattle.hg_image.specs.declared.opened.List.{List as NodeList}
use Rattle.hg_image.specs.declared.opened.NodeRef.{NodeRef}
use Rattle.hg_nodes.specs.Lists.{or_root}
use Rattle.hg_mixed.specs.declared.lent.Place.{Place}
use Rattle.hg_mixed.specs.declared.lent.Place.TheVariants as a_place

-- a text as a directory, where the root is nothing
abbrev pub as_dir : List ℕ → Option (List ℕ)
as_dir [] = None
as_dir (b ∷ text) = Some (b ∷ text)

-- the rows that are lent with a directory's list
abbrev pub lent_at : List (List ℕ × List Row) → List ℕ → Option (List Row)
lent_at lent dir = lookup (bytes_eq dir) lent

-- a list that is lent has what stands at a path
abbrev pub covers : List (List ℕ × List Row) → List ℕ → Bool
covers lent at = list_any (λ l. is_above (as_dir l.0) at) lent

-- one directory has another list, or none, and all others have what they had
abbrev pub IsLentPut : List ℕ → Option (List Row) → List (List ℕ × List Row) → List (List ℕ × List Row) → Type 0
IsLentPut dir rows old new = (at : List ℕ) → lent_at new at ≡ update bytes_eq (lent_at old) dir rows at

-- no directory has a list, and all have the lists that they had
abbrev pub IsNoneLent : List (List ℕ × List Row) → Type 0
IsNoneLent lent = (at : List ℕ) → lent_at lent at ≡ None

abbrev pub AreLentStill : List (List ℕ × List Row) → List (List ℕ × List Row) → Type 0
AreLentStill old new = (at : List ℕ) → lent_at new at ≡ lent_at old at

-- no list of a directory above a path is lent any more, and all others have the lists that they had
abbrev pub AreEnded : List ℕ → List (List ℕ × List Row) → List (List ℕ × List Row) → Type 0
AreEnded path old new = (dir : List ℕ) → lent_at new dir ≡ (if is_above (as_dir dir) path then None else lent_at old dir)

-- no list of a directory above a cached one is lent any more, and all others have the lists that they had
abbrev pub AreEndedOver : List (List ℕ × CacheData) → List (List ℕ × List Row) → List (List ℕ × List Row) → Type 0
AreEndedOver times old new = (dir : List ℕ) → lent_at new dir ≡ (if list_any (λ time. is_above (as_dir dir) time.0) times then None else lent_at old dir)

-- no path is had by a list that is lent
abbrev pub CoversNone : List (List ℕ × List Row) → Type 0
CoversNone lent = (at : List ℕ) → covers lent at ≡ false

-- a path is to be looked for in the image: in the list of a directory above it, where the node is that stands there
pub record IsInImage (lent : List (List ℕ × List Row)) (path : List ℕ) (node : Option NodeRef) : Type 0 where
  pub dir : List ℕ
  pub rows : List Row
  pub there : lent_at lent dir ≡ Some rows
  pub above : is_above (as_dir dir) path ≡ true
  pub found : option_map row node ≡ row_at rows path
  pub below : IfSome node (HasBelowIn rows)
  pub covered : covers lent path ≡ true

-- where a path is to be looked for
abbrev pub IsPlace : List (List ℕ × List Row) → List ℕ → Place → Type 0
IsPlace lent path a_place.Memory = covers lent path ≡ false
IsPlace lent path (a_place.Image node) = IsInImage lent path node

-- the list of the nearest directory above a path that has one, none where none has
abbrev pub IsOver : List (List ℕ × List Row) → List ℕ → Option NodeList → Type 0
IsOver lent path None = covers lent path ≡ false
IsOver lent path (Some list) = (lent_at lent (or_root (dir_of list)) ≡ Some (rows_in list)) × (is_above (dir_of list) path ≡ true)

-- with the list of the root first, where there is one
abbrev pub with_root : Option NodeList → List (List ℕ × List Row) → List (List ℕ × List Row)
with_root None lists = lists
with_root (Some list) lists = ([], rows_in list) ∷ lists

-- a list is that of the root, where there is one
abbrev pub IsOfRoot : Option NodeList → Type 0
IsOfRoot list = IfSome list (λ l. or_root (dir_of l) ≡ [])

-- each list with its directory and its rows
abbrev pub lists_of : {Y : Type 0} → List (String Y × NodeList) → List (List ℕ × List Row)
lists_of lists = map (λ e. (string_bytes e.0, rows_in e.1)) lists

-- each list is that of its directory, which isn't the root
abbrev pub AreByDir : {Y : Type 0} → List (String Y × NodeList) → Type 0
AreByDir lists = AllByRecursion (λ e. (or_root (dir_of e.1) ≡ string_bytes e.0) × ((length (string_bytes e.0) == 0) ≡ false)) lists
