-- A status from its parts: the rows of the paths with an entry, and those of what else stands, behind a read of the patterns.
use Rattle.std.proofs.Common.{ℕ, ◌≡◌, false, true, List, [], Option, None, is_some, option_map, ap, sym, subst}
use Rattle.hg_base.specs.declared.id.Id20.{Id20}
use Rattle.hg_entry.specs.Entry.{view}
use Rattle.hg_entry.specs.Table.{Flat, marks_of}
use Rattle.hg_ignore.specs.State.{Ignore, Piece}
use Rattle.hg_listing.specs.Full.{IsFullFor}
use Rattle.hg_listing.specs.declared.row.Row.{Row}
use Rattle.hg_listing.specs.declared.row.Wanted.{Wanted}
use Rattle.hg_shelf.specs.History as shelves
use Rattle.hg_tree.specs.History as trees
use Rattle.hg_tree.specs.Moment.{Moment}
use Rattle.hg_tree.proofs.Histories.{extends_trans}
use Rattle.hg_tree.proofs.Stillness.{alike_between, untouched_first}
use Rattle.hg_flat.specs.Course.{IsKeptState, pieces_of}
use Rattle.hg_flat.specs.Judged.{AddsBy, IsLeftAsked}
use Rattle.hg_flat.specs.Kept.{HaveOwnPaths, Kept, flat_from, row_at}
use Rattle.hg_flat.specs.Listing.{Gives, IsUnknownIn, ListsUnknown}
use Rattle.hg_flat.specs.Others.{ListsOthers}
use Rattle.hg_flat.specs.Parent.{Asking, IsAsked, IsLeft, IsServed, parent_rows}
use Rattle.hg_flat.specs.Passed.{AreKnown, AreServed, Known, ListsSince}
use Rattle.hg_flat.specs.Patterns.{ignored_at, needs_patterns}
use Rattle.hg_flat.specs.declared.kept.FlatRow.{FlatRow}
use Rattle.hg_flat.proofs.Fullness.{Narrows, full_for, none_is, served_path}
use Rattle.hg_flat.proofs.Holding.{holds_rows, named}
use Rattle.hg_flat.proofs.Judging.{AsksAlike, adds_moved, left_ended}
use Rattle.hg_flat.proofs.Refusing.{state_kept}
use Rattle.hg_flat.proofs.Steps.{lists_later}

module _ (asks : Asking) (same : AsksAlike asks) (Premise : Type 0) (p1 p2 : List ℕ) (rows : List FlatRow) (own : HaveOwnPaths rows) (wanted : Wanted) (id : Id20)
    (old mid later new : trees.History) (first : trees.Passes old mid) (second : trees.Passes mid later) (third : trees.Passes later new) (files : shelves.History) (since : ℕ)
    (store : shelves.Files) where
  -- the record as a map, and which paths have an entry
  abbrev pub flat : Flat
  flat = flat_from p1 p2 (row_at rows)

  abbrev pub keeps : Kept
  keeps path = is_some (row_at rows path)

  -- what is left over the whole status
  abbrev pub Left : List ℕ → Type 0
  Left = IsLeft store wanted flat asks id new old.last files since

  past : trees.Extends old later
  past = extends_trans old mid later first.past second.past

  -- a path that is left is so while the entries are looked at
  left_then : (path : List ℕ) → Left path → IsLeftAsked store asks id later old.last files since path
  left_then path left = record {
    own = untouched_first later new old.last path third.past past.later left.own;
    row = λ asked. left.row (subst (λ (m : Moment). IsAsked asks m path) (sym (third.past.stay old.last past.later)) asked);
  }

  tracked_whole : (a b : List Row) → AddsBy asks Premise (IsLeftAsked store asks id later mid.last files since) store id (trees.now mid) wanted rows a b
      → AddsBy asks Premise Left store id (trees.now old) wanted rows a b
  tracked_whole a b added =
      adds_moved asks same Premise Premise (λ premise. premise) (IsLeftAsked store asks id later mid.last files since) Left store id (trees.now mid) (trees.now old) wanted rows a b
      (λ path left. left_ended store asks same id old mid later first.past second.past files since path (left_then path left))
      (λ path left. alike_between old mid later path first.past second.past (left_then path left).own) added

  lists_whole : (known : Known) (state : List Piece) (a b : List Row) → AreKnown known later mid.last → AreServed known (Gives wanted state) later mid.last
      → ListsSince keeps known (Gives wanted state) later new (IsUnknownIn keeps (trees.now later) None) a b → ListsUnknown keeps (Gives wanted state) Left (IsUnknownIn keeps (trees.now old) None) a b
  lists_whole known state a b are serve lists =
      lists_later old later new past third.past mid.last first.past.later second.past.later keeps (Gives wanted state) Left (λ path left. left.own) a b (lists mid.last are serve)

  -- where the patterns decide the letter of a path that is left, they are those of the start
  state_start : (ignore : Option (List Piece)) → IsKeptState wanted old mid ignore → (path : List ℕ) → Left path → keeps path ≡ false → needs_patterns wanted ≡ true → pieces_of ignore ≡ Ignore (trees.now old)
  state_start ignore kept path left none needed =
      state_kept old mid new first (extends_trans mid later new second.past third.past) wanted ignore kept needed
      (left.patterns needed (ap (option_map (λ (r : FlatRow). marks_of (view r.entry))) (none_is (row_at rows path) none)))

  -- all that a comparison of a path that is left asked for was there
  pub whole_served : (a : List Row) → AddsBy asks Premise (IsLeftAsked store asks id later mid.last files since) store id (trees.now mid) wanted rows [] a → Narrows asks wanted flat
      → (path : List ℕ) → Left path → IsAsked asks (trees.now old) path → IsServed store id (trees.now old) path
  whole_served a added =
      served_path p1 p2 (row_at rows) store id (trees.now old) wanted (named rows) asks Premise Left rows (holds_rows rows own) a (tracked_whole [] a added)

  module _ (a d : List Row) (added : AddsBy asks Premise (IsLeftAsked store asks id later mid.last files since) store id (trees.now mid) wanted rows [] a) (ignore : Option (List Piece)) (kept : IsKeptState wanted old mid ignore)
      (known : Known) (are : AreKnown known later mid.last) (serve : AreServed known (Gives wanted (pieces_of ignore)) later mid.last) (others : ListsOthers keeps known wanted (pieces_of ignore) later new a d) where
    -- of the paths that are left the rows are the full listing
    pub whole_listing : Premise → IsFullFor Left flat (trees.now old) (parent_rows store id) (ignored_at (trees.now old)) wanted d
    whole_listing premise =
        full_for p1 p2 (row_at rows) store id (trees.now old) wanted (named rows) asks Premise Left rows own (holds_rows rows own) a others.whole (tracked_whole [] a added)
        (pieces_of ignore) (state_start ignore kept) (lists_whole known (pieces_of ignore) a others.whole are serve others.listed) premise others.sorted d others.moved others.order others.once
