-- What a status lists besides the tracked paths, and all its rows in order.
use Rattle.std.specs.Prelude.{◌≡◌, List, None}
use Rattle.std.specs.List.{dedup}
use Rattle.std.specs.List.Sorted.{IsPermutation, IsSorted}
use Rattle.std.specs.Ordering.{eq_by_cmp}
use Rattle.hg_ignore.specs.State.{Piece}
use Rattle.hg_listing.specs.Cause.{of_tree}
use Rattle.hg_listing.specs.Order.{whole_order}
use Rattle.hg_listing.specs.declared.fault.StatusFault.{StatusFault}
use Rattle.hg_listing.specs.declared.row.Row.{Row}
use Rattle.hg_listing.specs.declared.row.Wanted.{Wanted}
use Rattle.hg_tree.specs.History.{History, now}
use Rattle.hg_tree.specs.declared.fault.TreeFault.{TreeFault}
use Rattle.hg_flat.specs.Kept.{Kept}
use Rattle.hg_flat.specs.Listing.{Gives, IsUnknownIn}
use Rattle.hg_flat.specs.Passed.{Known, ListsSince}

-- the rows of what else stands in the working copy were put behind those so far, and then all in order, each once
pub record ListsOthers (kept : Kept) (known : Known) (wanted : Wanted) (state : List Piece) (old new : History) (before rows : List Row) : Type 0 where
  pub whole : List Row
  pub listed : ListsSince kept known (Gives wanted state) old new (IsUnknownIn kept (now old) None) before whole
  pub sorted : List Row
  pub moved : IsPermutation whole sorted
  pub order : IsSorted whole_order sorted
  pub once : rows ≡ dedup (eq_by_cmp whole_order) sorted

-- a listing lacked memory, or the tree failed
abbrev pub IsOfListing : StatusFault → Type 0
IsOfListing fault = (cause : TreeFault) × (fault ≡ of_tree cause)
