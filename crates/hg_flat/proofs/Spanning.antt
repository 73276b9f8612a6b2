-- What was met of the first parent behind a read of the patterns was met in the whole status.
use Rattle.std.proofs.Common.{ℕ, ◌≡◌, true, List, Some, Result, Ok, Err, IsTrue, refl, sym, ap, ◌∙◌, subst, arith}
use Rattle.std.specs.Prelude.{IfErr, IfOk, OnOk}
use Rattle.hg_base.specs.declared.id.Id20.{Id20}
use Rattle.hg_base.specs.declared.stat.Stat.{Stat}
use Rattle.hg_tree.specs.History as trees
use Rattle.hg_tree.specs.Moment.{Moment, stat_at}
use Rattle.hg_tree.specs.declared.fault.TreeFault.{TreeFault}
use Rattle.hg_tree.specs.declared.fault.TreeFault.TheVariants as a_tree_fault
use Rattle.hg_shelf.specs.History as shelves
use Rattle.hg_manifest.specs.Rows.{Rows}
use Rattle.hg_manifest.specs.declared.fault.ManifestFault.{ManifestFault}
use Rattle.hg_manifest.specs.declared.fault.ManifestFault.TheVariants as a_manifest_fault
use Rattle.hg_compare.specs.Alike.{is_alike}
use Rattle.hg_flat.specs.Course.{LacksPatterns, MetParent}
use Rattle.hg_flat.specs.First.{AreServedBefore, LacksAt, MetFirst}
use Rattle.hg_flat.specs.Met.{LacksContents, Met, NeedsManifest, Shows, Status, WasRead}
use Rattle.hg_flat.specs.Others.{IsOfListing}
use Rattle.hg_flat.specs.Parent.{Asking, IsAsked}
use Rattle.hg_flat.specs.Patterns.{CountsOversize, is_of_parent, needs_patterns}
use Rattle.hg_listing.specs.Cause.{of_tree}
use Rattle.hg_listing.specs.declared.fault.StatusFault.{StatusFault}
use Rattle.hg_listing.specs.declared.fault.StatusFault.TheVariants as a_fault
use Rattle.hg_listing.specs.declared.row.Wanted.{Wanted}
use Rattle.hg_flat.proofs.Asking.{asked_later}
use Rattle.hg_flat.proofs.Judging.{AsksAlike, left_ended}
use Rattle.hg_flat.proofs.Tracking.{served_moved}
use Rattle.hg_tree.proofs.Stillness.{alike_between}

module _ (wanted : Wanted) (asks : Asking) (id : Id20) (start old new : trees.History) (first : trees.Passes start old) (files later : shelves.History) where
  abbrev part : Status
  part = record { wanted = wanted; asks = asks; id = id; tree_old = old; tree_new = new; shelf_old = files; shelf_new = later }

  abbrev whole : Status
  whole = record { wanted = wanted; asks = asks; id = id; tree_old = start; tree_new = new; shelf_old = files; shelf_new = later }

  shows_whole : (P : Moment → Type 0) → Shows part P → Shows whole P
  shows_whole P shows = record {
    at = shows.at;
    from = λ told. omega (arith, first.past.later, shows.from (first.past.told ∙ told));
    to = λ told. shows.to (first.past.told ∙ told);
    so = λ told. shows.so (first.past.told ∙ told);
  }

  read_whole : (answer : Result Rows ManifestFault) → WasRead part answer → WasRead whole answer
  read_whole answer read =
      record { size = read.size; bytes = read.bytes; few = read.few; short = read.short; sized = read.sized; front = read.front; found = read.found }

  needs_whole : NeedsManifest part → NeedsManifest whole
  needs_whole needs = record { path = needs.path; asked = asked_later asks start old new needs.path first.past needs.asked; committed = needs.committed }

  lacks_at : (gone : Id20) (lacks : LacksContents part gone) → LacksAt whole lacks.path gone
  lacks_at gone lacks = (
    record {
      path = lacks.path;
      asked = asked_later asks start old new lacks.path first.past lacks.asked;
      rows = lacks.rows;
      read = read_whole (Ok lacks.rows) lacks.read;
      row = lacks.row;
      is = lacks.is;
      names = lacks.names;
      alike = shows_whole (λ moment. IsAsked asks moment lacks.path × (stat : Stat) × (stat_at moment lacks.path ≡ Some stat) × IsTrue (is_alike lacks.row stat)) lacks.alike;
      absent = lacks.absent;
      committed = lacks.committed;
    },
    refl,
  )

  -- what is the first in a part is the first in the whole, where the test asks the same of what is alike
  module _ (same : AsksAlike asks) (second : trees.Extends old new) where
    before_whole : (path : List ℕ) → AreServedBefore part path → AreServedBefore whole path
    before_whole path served store other before left asked =
        let alike = alike_between start old new other first.past second left.own in
        served_moved store id (trees.now old) (trees.now start) other alike
        (served store other before (left_ended store asks same id start old new first.past second later files.last other left) (same (trees.now old) (trees.now start) other alike ∙ asked))

    pub first_whole : (fault : StatusFault) → MetFirst part fault → MetFirst whole fault
    first_whole a_fault.OutOfMemory met = tt
    first_whole a_fault.TreeFailed met = tt
    first_whole a_fault.ShelfFailed met = tt
    first_whole (a_fault.NoManifest gone) met = tt
    first_whole (a_fault.ManifestTooLarge size) met = tt
    first_whole (a_fault.ManifestLine line) met = tt
    first_whole (a_fault.ManifestOrder line) met = tt
    first_whole (a_fault.NoContents gone) met = let at = lacks_at gone met.lacks in record { lacks = at.0; before = subst (AreServedBefore whole) (sym at.1) (before_whole met.lacks.path met.before) }
    first_whole (a_fault.IgnoreTooLarge size) met = tt
    first_whole (a_fault.IgnoreText at) met = tt
    first_whole (a_fault.BadGlob line) met = tt
    first_whole (a_fault.BadRegexp line) met = tt
    first_whole (a_fault.RegexpTooBig line) met = tt
    first_whole (a_fault.BadInclude line) met = tt

  pub met_whole : (fault : StatusFault) → MetParent part fault → Met whole fault
  met_whole a_fault.OutOfMemory met = tt
  met_whole a_fault.TreeFailed met = tt
  met_whole a_fault.ShelfFailed met = tt
  met_whole (a_fault.NoManifest gone) met = (needs_whole met.0, met.1, met.2)
  met_whole (a_fault.ManifestTooLarge size) met = (needs_whole met.0, met.1, met.2)
  met_whole (a_fault.ManifestLine line) met = (needs_whole met.0, read_whole (Err (a_manifest_fault.ManifestLine line)) met.1)
  met_whole (a_fault.ManifestOrder line) met = (needs_whole met.0, read_whole (Err (a_manifest_fault.ManifestOrder line)) met.1)
  met_whole (a_fault.NoContents gone) met = (lacks_at gone met).0
  met_whole (a_fault.IgnoreTooLarge size) met = absurd met
  met_whole (a_fault.IgnoreText at) met = absurd met
  met_whole (a_fault.BadGlob line) met = absurd met
  met_whole (a_fault.BadRegexp line) met = absurd met
  met_whole (a_fault.RegexpTooBig line) met = absurd met
  met_whole (a_fault.BadInclude line) met = absurd met

  pub parent_whole : (fault : StatusFault) → MetParent part fault → MetParent whole fault
  parent_whole a_fault.OutOfMemory met = tt
  parent_whole a_fault.TreeFailed met = tt
  parent_whole a_fault.ShelfFailed met = tt
  parent_whole (a_fault.NoManifest gone) met = met_whole (a_fault.NoManifest gone) met
  parent_whole (a_fault.ManifestTooLarge size) met = met_whole (a_fault.ManifestTooLarge size) met
  parent_whole (a_fault.ManifestLine line) met = met_whole (a_fault.ManifestLine line) met
  parent_whole (a_fault.ManifestOrder line) met = met_whole (a_fault.ManifestOrder line) met
  parent_whole (a_fault.NoContents gone) met = met_whole (a_fault.NoContents gone) met
  parent_whole (a_fault.IgnoreTooLarge size) met = met
  parent_whole (a_fault.IgnoreText at) met = met
  parent_whole (a_fault.BadGlob line) met = met
  parent_whole (a_fault.BadRegexp line) met = met
  parent_whole (a_fault.RegexpTooBig line) met = met
  parent_whole (a_fault.BadInclude line) met = met

-- no regexp was too big
pub counts_still : (T : Type 0) (s : Status) (fault : StatusFault) (before now : ℕ) → now ≡ before → MetParent s fault → CountsOversize {T = T} before now (Err fault)
counts_still T s a_fault.OutOfMemory before now same met = same
counts_still T s a_fault.TreeFailed before now same met = same
counts_still T s a_fault.ShelfFailed before now same met = same
counts_still T s (a_fault.NoManifest gone) before now same met = same
counts_still T s (a_fault.ManifestTooLarge size) before now same met = same
counts_still T s (a_fault.ManifestLine line) before now same met = same
counts_still T s (a_fault.ManifestOrder line) before now same met = same
counts_still T s (a_fault.NoContents gone) before now same met = same
counts_still T s (a_fault.IgnoreTooLarge size) before now same met = absurd met
counts_still T s (a_fault.IgnoreText at) before now same met = absurd met
counts_still T s (a_fault.BadGlob line) before now same met = absurd met
counts_still T s (a_fault.BadRegexp line) before now same met = absurd met
counts_still T s (a_fault.RegexpTooBig line) before now same met = absurd met
counts_still T s (a_fault.BadInclude line) before now same met = absurd met

-- a fault of the patterns is what the status met
pub met_patterns : (s : Status) (fault : StatusFault) → needs_patterns s.wanted ≡ true → LacksPatterns s.tree_old s.tree_new fault → Met s fault
met_patterns s a_fault.OutOfMemory needed lacks = tt
met_patterns s a_fault.TreeFailed needed lacks = tt
met_patterns s a_fault.ShelfFailed needed lacks = tt
met_patterns s (a_fault.NoManifest gone) needed lacks = absurd lacks
met_patterns s (a_fault.ManifestTooLarge size) needed lacks = absurd lacks
met_patterns s (a_fault.ManifestLine line) needed lacks = absurd lacks
met_patterns s (a_fault.ManifestOrder line) needed lacks = absurd lacks
met_patterns s (a_fault.NoContents gone) needed lacks = absurd lacks
met_patterns s (a_fault.IgnoreTooLarge size) needed lacks = (needed, lacks)
met_patterns s (a_fault.IgnoreText at) needed lacks = (needed, lacks)
met_patterns s (a_fault.BadGlob line) needed lacks = (needed, lacks)
met_patterns s (a_fault.BadRegexp line) needed lacks = (needed, lacks)
met_patterns s (a_fault.RegexpTooBig line) needed lacks = (needed, lacks)
met_patterns s (a_fault.BadInclude line) needed lacks = (needed, lacks)

-- of no contents
pub first_patterns : (s : Status) (fault : StatusFault) → LacksPatterns s.tree_old s.tree_new fault → MetFirst s fault
first_patterns s a_fault.OutOfMemory lacks = tt
first_patterns s a_fault.TreeFailed lacks = tt
first_patterns s a_fault.ShelfFailed lacks = tt
first_patterns s (a_fault.NoManifest gone) lacks = tt
first_patterns s (a_fault.ManifestTooLarge size) lacks = tt
first_patterns s (a_fault.ManifestLine line) lacks = tt
first_patterns s (a_fault.ManifestOrder line) lacks = tt
first_patterns s (a_fault.NoContents gone) lacks = absurd lacks
first_patterns s (a_fault.IgnoreTooLarge size) lacks = tt
first_patterns s (a_fault.IgnoreText at) lacks = tt
first_patterns s (a_fault.BadGlob line) lacks = tt
first_patterns s (a_fault.BadRegexp line) lacks = tt
first_patterns s (a_fault.RegexpTooBig line) lacks = tt
first_patterns s (a_fault.BadInclude line) lacks = tt

-- it is none of the parent
pub not_parent : (old new : trees.History) (fault : StatusFault) → LacksPatterns old new fault → is_of_parent fault ≡ true → ⊥
not_parent old new a_fault.OutOfMemory lacks is = absurd (cc is)
not_parent old new a_fault.TreeFailed lacks is = absurd (cc is)
not_parent old new a_fault.ShelfFailed lacks is = absurd lacks
not_parent old new (a_fault.NoManifest gone) lacks is = absurd lacks
not_parent old new (a_fault.ManifestTooLarge size) lacks is = absurd lacks
not_parent old new (a_fault.ManifestLine line) lacks is = absurd lacks
not_parent old new (a_fault.ManifestOrder line) lacks is = absurd lacks
not_parent old new (a_fault.NoContents gone) lacks is = absurd lacks
not_parent old new (a_fault.IgnoreTooLarge size) lacks is = absurd (cc is)
not_parent old new (a_fault.IgnoreText at) lacks is = absurd (cc is)
not_parent old new (a_fault.BadGlob line) lacks is = absurd (cc is)
not_parent old new (a_fault.BadRegexp line) lacks is = absurd (cc is)
not_parent old new (a_fault.RegexpTooBig line) lacks is = absurd (cc is)
not_parent old new (a_fault.BadInclude line) lacks is = absurd (cc is)

-- ---- a listing behind the rest

pub if_ok_on : {X Y : Type 0} (r : Result X Y) (P : X → Type 0) (Q : Type 0) → ((x : X) → P x → Q) → IfOk r P → OnOk r Q
if_ok_on (Ok x) P Q to is = to x is
if_ok_on (Err y) P Q to is = tt

pub met_listing : (s : Status) (fault : StatusFault) → IsOfListing fault → Met s fault
met_listing s fault (cause, is) = subst (Met s) (sym is) (by cause)
  where
    by : (cause : TreeFault) → Met s (of_tree cause)
    by a_tree_fault.OutOfMemory = tt
    by a_tree_fault.Failed = tt

-- and of no contents
pub first_listing : (s : Status) (fault : StatusFault) → IsOfListing fault → MetFirst s fault
first_listing s fault (cause, is) = subst (MetFirst s) (sym is) (by cause)
  where
    by : (cause : TreeFault) → MetFirst s (of_tree cause)
    by a_tree_fault.OutOfMemory = tt
    by a_tree_fault.Failed = tt

-- it is none of the parent
pub of_listing_none : (fault : StatusFault) → IsOfListing fault → is_of_parent fault ≡ true → ⊥
of_listing_none fault (cause, is) parent = by cause (sym (ap is_of_parent is) ∙ parent)
  where
    by : (cause : TreeFault) → is_of_parent (of_tree cause) ≡ true → ⊥
    by a_tree_fault.OutOfMemory same = absurd (cc same)
    by a_tree_fault.Failed same = absurd (cc same)

-- and no regexp was too big
pub counts_listing : (T : Type 0) (result : Result T StatusFault) (before now : ℕ) → now ≡ before → IfErr result IsOfListing → CountsOversize {T = T} before now result
counts_listing T (Ok listed) before now same of = same
counts_listing T (Err fault) before now same (cause, is) = subst (λ (f : StatusFault). CountsOversize {T = T} before now (Err f)) (sym is) (by cause)
  where
    by : (cause : TreeFault) → CountsOversize {T = T} before now (Err (of_tree cause))
    by a_tree_fault.OutOfMemory = same
    by a_tree_fault.Failed = same
