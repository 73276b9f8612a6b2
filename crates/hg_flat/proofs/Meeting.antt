-- What a comparison met of the first parent is what the status met.
use Rattle.std.proofs.Common.{ℕ, ◌≡◌, false, List, Some, refl, sym, ◌∙◌, subst, arith}
use Rattle.std.specs.Prelude.{IsTrue}
use Rattle.hg_base.specs.declared.id.Id20.{Id20}
use Rattle.hg_base.specs.declared.stat.Stat.{Stat}
use Rattle.hg_shelf.specs.History as shelves
use Rattle.hg_tree.specs.History as trees
use Rattle.hg_tree.specs.Moment.{Moment, stat_at}
use Rattle.hg_manifest.specs.Plain.{is_null}
use Rattle.hg_compare.specs.Alike.{is_alike}
use Rattle.hg_flat.specs.Course.{MetBy, MetParent, upto}
use Rattle.hg_flat.specs.First.{LacksAt, MetAt}
use Rattle.hg_flat.specs.Met.{NeedsManifest, Shows, Status}
use Rattle.hg_flat.specs.Parent.{IsAsked, WasAsked}
use Rattle.hg_listing.specs.declared.fault.StatusFault.{StatusFault}
use Rattle.hg_listing.specs.declared.fault.StatusFault.TheVariants as a_fault

module _ (s : Status) (copy later : trees.History) (new : shelves.History) (path : List ℕ) (there : Stat) (first : trees.Passes s.tree_old copy) (second : trees.Passes copy later)
    (asked : IsTrue copy.told → IsAsked s.asks (trees.now copy) path) (was : WasAsked s.asks s.tree_old later path) (shown : IsTrue copy.told → stat_at (trees.now copy) path ≡ Some there) where
  -- the moment of the look is one of the status
  shows : (P : Moment → Type 0) → (IsTrue copy.told → P (trees.now copy)) → Shows (upto s later new) P
  shows P is = record {
    at = copy.last;
    from = λ told. first.past.later;
    to = λ told. second.past.later;
    so = λ told. subst P (sym (second.past.stay copy.last (omega arith))) (is (first.past.told ∙ told));
  }

  needs : is_null s.id.0 ≡ false → NeedsManifest (upto s later new)
  needs some = record { path = path; asked = was; committed = some }

  -- contents that weren't there are those of the path
  lacks_compared : (gone : Id20) → MetBy (upto s later new) path there (a_fault.NoContents gone) → LacksAt (upto s later new) path gone
  lacks_compared gone met = (
    record {
      path = path;
      asked = was;
      rows = met.rows;
      read = met.read;
      row = met.row;
      is = met.is;
      names = met.file.names;
      alike =
          shows (λ moment. IsAsked s.asks moment path × (stat : Stat) × (stat_at moment path ≡ Some stat) × IsTrue (is_alike met.row stat))
          (λ told. (asked told, there, shown told, met.file.alike));
      absent = met.file.absent;
      committed = met.committed;
    },
    refl,
  )

  pub met_compared : (fault : StatusFault) → MetBy (upto s later new) path there fault → MetParent (upto s later new) fault
  met_compared a_fault.OutOfMemory met = tt
  met_compared a_fault.TreeFailed met = tt
  met_compared a_fault.ShelfFailed met = tt
  met_compared (a_fault.NoManifest gone) met = (needs met.0, met.1, met.2)
  met_compared (a_fault.ManifestTooLarge size) met = (needs met.0, met.1, met.2)
  met_compared (a_fault.ManifestLine line) met = (needs met.0, met.1)
  met_compared (a_fault.ManifestOrder line) met = (needs met.0, met.1)
  met_compared (a_fault.NoContents gone) met = (lacks_compared gone met).0
  met_compared (a_fault.IgnoreTooLarge size) met = absurd met
  met_compared (a_fault.IgnoreText at) met = absurd met
  met_compared (a_fault.BadGlob line) met = absurd met
  met_compared (a_fault.BadRegexp line) met = absurd met
  met_compared (a_fault.RegexpTooBig line) met = absurd met
  met_compared (a_fault.BadInclude line) met = absurd met

  pub met_at : (fault : StatusFault) → MetBy (upto s later new) path there fault → MetAt (upto s later new) path fault
  met_at a_fault.OutOfMemory met = tt
  met_at a_fault.TreeFailed met = tt
  met_at a_fault.ShelfFailed met = tt
  met_at (a_fault.NoManifest gone) met = tt
  met_at (a_fault.ManifestTooLarge size) met = tt
  met_at (a_fault.ManifestLine line) met = tt
  met_at (a_fault.ManifestOrder line) met = tt
  met_at (a_fault.NoContents gone) met = lacks_compared gone met
  met_at (a_fault.IgnoreTooLarge size) met = tt
  met_at (a_fault.IgnoreText at) met = tt
  met_at (a_fault.BadGlob line) met = tt
  met_at (a_fault.BadRegexp line) met = tt
  met_at (a_fault.RegexpTooBig line) met = tt
  met_at (a_fault.BadInclude line) met = tt
