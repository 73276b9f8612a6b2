-- What a listing knows of paths from looks before it, so that it needs none of its own there.
use Rattle.std.specs.Prelude.{ℕ, ◌≡◌, ◌≤◌, ◌⊎◌, Bool, true, false, List, [], Option, Some, is_some, IsTrue}
use Rattle.hg_base.specs.PathText.{is_component, joined}
use Rattle.hg_base.specs.declared.stat.Kind.{Kind}
use Rattle.hg_tree.specs.History.{History}
use Rattle.hg_tree.specs.Moment.{IsFormed, is_among, is_dir}
use Rattle.hg_tree.specs.Still.{Untouched, kind_at}
use Rattle.hg_compare.specs.declared.letter.Letter.{Letter}
use Rattle.hg_listing.specs.declared.row.Row.{Row}
use Rattle.hg_flat.specs.Kept.{Kept}
use Rattle.hg_flat.specs.Listing.{ListsUnknown, is_from}

-- at a moment from one on no directory stood at a path
pub record WasNoDir (h : History) (start : ℕ) (path : List ℕ) : Type 0 where
  pub moment : ℕ
  pub begun : start ≤ moment
  pub past : moment ≤ h.last
  pub none : is_dir ((h.at moment).things path) ≡ false

-- at a moment from one on a directory stood at a path
pub record WasDir (h : History) (start : ℕ) (path : List ℕ) : Type 0 where
  pub moment : ℕ
  pub begun : start ≤ moment
  pub past : moment ≤ h.last
  pub is : is_dir ((h.at moment).things path) ≡ true

-- at a moment from one on a thing of this kind stood at a path, or nothing
pub record WasKind (h : History) (start : ℕ) (path : List ℕ) (kind : Option Kind) : Type 0 where
  pub moment : ℕ
  pub begun : start ≤ moment
  pub past : moment ≤ h.last
  pub is : kind ≡ kind_at (h.at moment) path

-- what is known of paths before a listing: at which no directory stood once, at which one did, of which directories the nodes serve as names, and the paths
-- of all nodes
pub record Known : Type 0 where
  pub none : List ℕ → Bool
  pub dir : List ℕ → Bool
  pub served : List ℕ → Bool
  pub nodes : List (List ℕ)

-- nothing is known of any path
abbrev pub nothing_known : Known
nothing_known = record { none = λ path. false; dir = λ path. false; served = λ path. false; nodes = [] }

-- since this moment it was so once at each path of which it is known
pub record AreKnown (known : Known) (h : History) (start : ℕ) : Type 0 where
  pub begun : start ≤ h.last
  pub none : IsTrue h.told → (path : List ℕ) → IsTrue (known.none path) → WasNoDir h start path
  pub dirs : IsTrue h.told → (path : List ℕ) → IsTrue (known.dir path) → WasDir h start path

-- since this moment it was once a working copy as a file system can hold it
pub record WasFormed (h : History) (start : ℕ) : Type 0 where
  pub moment : ℕ
  pub begun : start ≤ moment
  pub past : moment ≤ h.last
  pub formed : IsFormed (h.at moment)

-- no path from one on has a letter by L
abbrev pub GivesNone : (List ℕ → Letter → Type 0) → List ℕ → Type 0
GivesNone L from = (path : List ℕ) (letter : Letter) → IsTrue (is_from (Some from) path) → L path letter → ⊥

-- at a moment from one on each name in a directory was that of a node, or no path from it on has a letter by L
pub record WasServed (known : Known) (L : List ℕ → Letter → Type 0) (h : History) (start : ℕ) (dir : List ℕ) : Type 0 where
  pub moment : ℕ
  pub begun : start ≤ moment
  pub past : moment ≤ h.last
  pub names : (name : List ℕ) → IsTrue (is_component name) → IsTrue (is_some ((h.at moment).things (joined (Some dir) name)))
      → IsTrue (is_among (joined (Some dir) name) known.nodes) ⊎ GivesNone L (joined (Some dir) name)

-- since this moment it was so once in each directory whose nodes serve as its names
abbrev pub AreServed : Known → (List ℕ → Letter → Type 0) → History → ℕ → Type 0
AreServed known L h start = IsTrue h.told → (dir : List ℕ) → IsTrue (known.served dir) → WasServed known L h start dir

-- rows of paths without an entry were put behind the rows so far; of the paths that nobody touches since a moment, just those that meet P,
-- for each moment since which what is known was so once, and what serves as names was all that stood there
abbrev pub ListsSince : Kept → Known → (List ℕ → Letter → Type 0) → History → History → (List ℕ → Type 0) → List Row → List Row → Type 0
ListsSince kept known L old new P before after =
    (start : ℕ) → AreKnown known old start → AreServed known L old start → ListsUnknown kept L (Untouched new start) P before after

-- the same for moments since which the working copy was once well-formed
abbrev pub ListsFormed : Kept → Known → (List ℕ → Letter → Type 0) → History → History → (List ℕ → Type 0) → List Row → List Row → Type 0
ListsFormed kept known L old new P before after =
    (start : ℕ) → AreKnown known old start → AreServed known L old start → (IsTrue old.told → WasFormed old start)
    → ListsUnknown kept L (Untouched new start) P before after
