-- A status goes on: what it keeps of its parent, and what was asked below `.hg`.
use Rattle.std.proofs.Common.{◌≡◌, Option, Some, None, IsTrue}
use Rattle.hg_flat.specs.Course.{AsksWhole, Proceeds, IsKeptManifest, IsManifest, upto}
use Rattle.hg_flat.specs.Met.{Status}
use Rattle.hg_flat.specs.Stored.{AsksStore}
use Rattle.hg_flat.specs.declared.parent.Loaded.{Loaded}
use Rattle.hg_flat.specs.declared.parent.Parent.{Parent}
use Rattle.hg_flat.proofs.Manifests.{manifest_later}
use Rattle.hg_flat.proofs.Storing.{has_later, store_of}
use Rattle.hg_shelf.specs.History as shelves
use Rattle.hg_shelf.proofs.Histories as shelf
use Rattle.hg_tree.specs.History as trees
use Rattle.hg_tree.proofs.Spans as tree

kept_later : (s : Status) (copy later : trees.History) (old new : shelves.History) (loaded : Option Loaded) → shelves.Passes s.shelf_old old → shelves.Passes old new → IsKeptManifest (upto s copy old) loaded → IsKeptManifest (upto s later new) loaded
kept_later s copy later old new None first second is = tt
kept_later s copy later old new (Some loaded) first second is = manifest_later s copy later old new loaded.manifest first second is

pub goes_on : (s : Status) (copy later : trees.History) (old new : shelves.History) (parent : Parent) → trees.Passes copy later → shelves.Passes old new → new.asked ≡ old.asked → Proceeds (upto s copy old) parent → Proceeds (upto s later new) parent
goes_on s copy later old new parent first second same goes = record {
  tree = tree.passes_trans s.tree_old copy later goes.tree first;
  shelf = shelf.passes_trans s.shelf_old old new goes.shelf second;
  same = goes.same;
  read = kept_later s copy later old new parent.loaded goes.shelf second goes.read;
  asked = λ told. has_later s copy later old new goes.tree.past first.past goes.shelf second same parent.loaded (goes.asked told);
}

-- with a manifest that is loaded
pub goes_loaded : (s : Status) (copy later : trees.History) (old new : shelves.History) (parent : Parent) (loaded : Loaded) → trees.Passes copy later → shelves.Passes old new → Proceeds (upto s copy old) parent
    → IsManifest (upto s later new) loaded.manifest → (IsTrue s.shelf_old.told → AsksWhole (upto s later new)) → Proceeds (upto s later new) (record { id = parent.id; loaded = Some loaded })
goes_loaded s copy later old new parent loaded first second goes is whole = record {
  tree = tree.passes_trans s.tree_old copy later goes.tree first;
  shelf = shelf.passes_trans s.shelf_old old new goes.shelf second;
  same = goes.same;
  read = is;
  asked = whole;
}

-- what was asked so far
pub goes_store : (s : Status) (copy : trees.History) (files : shelves.History) (parent : Parent) → Proceeds (upto s copy files) parent → IsTrue s.shelf_old.told → AsksStore (upto s copy files)
goes_store s copy files parent goes told = store_of (upto s copy files) parent.loaded goes.shelf (goes.asked told)
