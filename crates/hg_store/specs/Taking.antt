-- What is taken of a path, each byte at a moment of the call. Of a working copy that tells no moments nothing is said.
use Rattle.std.specs.Prelude.{ℕ, ◌≡◌, ◌≤◌, ◌<◌, ◌⊎◌, Bool, true, false, List, [], length, take, slice_get, Option, Some, None, Result, Ok, Err, IsTrue, bytes_eq, replicate}
use Rattle.sha1.specs.Sha1.{Holds, sha1}
use Rattle.sha1.specs.declared.Sha1.{Sha1}
use Rattle.hg_base.specs.Fault.{Rose}
use Rattle.hg_base.specs.declared.id.Id20.{Id20}
use Rattle.hg_base.specs.declared.stat.Kind.{Kind}
use Rattle.hg_base.specs.declared.stat.Kind.TheVariants as a_kind
use Rattle.hg_base.specs.declared.stat.Stat.{Stat}
use Rattle.hg_compare.specs.Alike.{contents_name}
use Rattle.hg_compare.specs.Seen.{During, HasByte, HasPiece}
use Rattle.hg_manifest.specs.declared.row.FileRow.{FileRow}
use Rattle.hg_shelf.specs.Images.{Course, last_scene}
use Rattle.hg_tree.specs.History.{History, now}
use Rattle.hg_tree.specs.Moment.{Moment, bytes_at, stat_at}
use Rattle.hg_store.specs.Standing.{clashes}
use Rattle.hg_store.specs.Storing.{ButNew, IsAlone, IsLaid, IsStored, IsSure, Keeps, Leads, new_name}
use Rattle.hg_store.specs.declared.fault.StoreFault.{StoreFault}
use Rattle.hg_store.specs.declared.fault.StoreFault.TheVariants as a_fault
use Rattle.hg_store.specs.declared.taking.Taken.{Taken}

-- at a moment of a call the working copy was so
pub record Shows (old new : History) (P : Moment → Type 0) : Type 0 where
  pub at : ℕ
  pub during : IsTrue old.told → During old new at
  pub so : IsTrue old.told → P (new.at at)

-- a file or a link was there, with no byte at a place or behind it
abbrev pub EndsAt : ℕ → Option (List ℕ) → Type 0
EndsAt place None = ⊥
EndsAt place (Some bytes) = length bytes ≤ place

-- each byte of a text was at its place of the path
abbrev pub IsFront : List ℕ → List ℕ → History → History → Type 0
IsFront path text old new = (k : ℕ) → k < length text → Shows old new (λ moment. HasByte k (slice_get text k) (bytes_at moment path))

-- neither a file nor a link was there
abbrev pub SeesNone : List ℕ → History → History → Type 0
SeesNone path old new = Shows old new (λ moment. bytes_at moment path ≡ None)

-- so many bytes were taken as a size says, or fewer where the path ended earlier
pub record IsTaken (path text : List ℕ) (size : ℕ) (old new : History) : Type 0 where
  pub front : IsFront path text old new
  pub few : length text ≤ size
  pub ended : length text < size → Shows old new (λ moment. EndsAt (length text) (bytes_at moment path))

-- ---- the steps

-- a piece of the path, as the last moment has it
abbrev pub TakesPiece : History → List ℕ → ℕ → ℕ → List ℕ → Result (Option ℕ) StoreFault → Type 0
TakesPiece h path place width room (Ok None) = IsTrue h.told → bytes_at (now h) path ≡ None
TakesPiece h path place width room (Ok (Some n)) = (n ≤ width) × (IsTrue h.told → HasPiece place width (take n room) (bytes_at (now h) path))
TakesPiece h path place width room (Err fault) = Unit {0}

-- a fact of how many bytes were taken, where some were
abbrev pub OnTaken : (ℕ → Type 0) → Result (Option ℕ) StoreFault → Type 0
OnTaken P (Ok (Some n)) = P n
OnTaken P (Ok None) = Unit {0}
OnTaken P (Err fault) = Unit {0}

-- a text was taken so far, laid into the new file, and hashed
pub record Copies (path text : List ℕ) (tree_old tree_new : History) (old new : Course) (hasher_old hasher_new : Sha1) (len : ℕ) : Type 0 where
  pub front : IsFront path text tree_old tree_new
  pub long : length text ≡ len
  pub laid : IsAlone old new → IsLaid [] old → IsLaid text new
  pub hashed : Holds hasher_old [] → Holds hasher_new text

-- all that a size says was copied, or the path was gone
abbrev pub CopiesAll : List ℕ → ℕ → History → History → Course → Course → Sha1 → Sha1 → Result (Option ℕ) StoreFault → Type 0
CopiesAll path size tree_old tree_new old new hasher_old hasher_new (Ok (Some len)) =
    (text : List ℕ) × Copies path text tree_old tree_new old new hasher_old hasher_new len × IsTaken path text size tree_old tree_new
CopiesAll path size tree_old tree_new old new hasher_old hasher_new (Ok None) = SeesNone path tree_old tree_new
CopiesAll path size tree_old tree_new old new hasher_old hasher_new (Err fault) = Unit {0}

-- a text was taken, and is sure as the new file; or the path was gone
abbrev pub WritesAll : List ℕ → ℕ → History → History → Course → Course → Result (Option Taken) StoreFault → Type 0
WritesAll path size tree_old tree_new old new (Ok (Some taken)) =
    (text : List ℕ) × IsTaken path text size tree_old tree_new × (length text ≡ taken.len) × (taken.id.0 ≡ sha1 text) × (IsAlone old new → IsSure new_name text new)
WritesAll path size tree_old tree_new old new (Ok None) = SeesNone path tree_old tree_new
WritesAll path size tree_old tree_new old new (Err fault) = Unit {0}

-- ---- what storing a path answers

-- what stands there is a file, or a link
abbrev pub IsFlag : Bool → Kind → Type 0
IsFlag link kind = ((kind ≡ a_kind.File) × (link ≡ false)) ⊎ ((kind ≡ a_kind.Link) × (link ≡ true))

-- a text is kept: it was taken, the answer is its SHA-1 and not the null identifier, the bytes stand under it, and no other bytes stood there
pub record IsKept (path text : List ℕ) (size : ℕ) (tree_old tree_new : History) (old new : Course) (id : List ℕ) : Type 0 where
  pub taken : IsTaken path text size tree_old tree_new
  pub id_is : id ≡ sha1 text
  pub known : bytes_eq (sha1 text) (replicate 20 0) ≡ false
  pub stored : IsAlone old new → IsStored (contents_name (sha1 text)) text old new
  pub fits : IsAlone old new → clashes (sha1 text) ((last_scene old).files (contents_name (sha1 text))) text ≡ false

-- a text is refused: it was taken, its SHA-1 is named, it can't be stored under that, and no new file is left
pub record IsRefused (path text : List ℕ) (size : ℕ) (tree_old tree_new : History) (old new : Course) (id : List ℕ) : Type 0 where
  pub taken : IsTaken path text size tree_old tree_new
  pub id_is : id ≡ sha1 text
  pub clash : IsAlone old new → clashes (sha1 text) ((last_scene old).files (contents_name (sha1 text))) text ≡ true
  pub cleared : IsAlone old new → (last_scene new).files new_name ≡ None

-- a fault of a device alone
abbrev pub IsDevice : StoreFault → Type 0
IsDevice a_fault.TreeFailed = Unit {0}
IsDevice a_fault.ShelfFailed = Unit {0}
IsDevice a_fault.OutOfMemory = ⊥
IsDevice (a_fault.Gone path) = ⊥
IsDevice (a_fault.StoreClash id) = ⊥
IsDevice (a_fault.ManifestTooLarge size) = ⊥

-- of the files below `.hg` at most the new one was touched
abbrev pub LeavesPlain : Course → Course → Type 0
LeavesPlain old new = IsAlone old new → Leads ButNew old new

-- what storing so many bytes of a path answers, by the text that was read; a shelf that failed may have stored it by then
abbrev pub AnswersSized : List ℕ → List ℕ → ℕ → History → History → Course → Course → Result Id20 StoreFault → Type 0
AnswersSized path text size tree_old tree_new old new (Ok id) = IsKept path text size tree_old tree_new old new id.0
AnswersSized path text size tree_old tree_new old new (Err a_fault.OutOfMemory) = LeavesPlain old new
AnswersSized path text size tree_old tree_new old new (Err (a_fault.Gone gone)) = (gone ≡ path) × SeesNone path tree_old tree_new × LeavesPlain old new
AnswersSized path text size tree_old tree_new old new (Err (a_fault.StoreClash id)) = IsRefused path text size tree_old tree_new old new id.0
AnswersSized path text size tree_old tree_new old new (Err (a_fault.ManifestTooLarge most)) = ⊥
AnswersSized path text size tree_old tree_new old new (Err a_fault.TreeFailed) = LeavesPlain old new
AnswersSized path text size tree_old tree_new old new (Err a_fault.ShelfFailed) = LeavesPlain old new ⊎ IsTaken path text size tree_old tree_new

-- of the files below `.hg` only the new one and the plain file of what was read were touched
abbrev pub LeadsFile : List ℕ → Course → Course → Type 0
LeadsFile text old new = IsAlone old new → Leads (Keeps ((last_scene old).files (contents_name (sha1 text))) (contents_name (sha1 text)) text) old new

pub record StoresSized (path : List ℕ) (size : ℕ) (tree_old tree_new : History) (old new : Course) (result : Result Id20 StoreFault) : Type 0 where
  pub text : List ℕ
  pub answer : AnswersSized path text size tree_old tree_new old new result
  pub leads : LeadsFile text old new

-- a path is stored: the row's flag is that of a look, and as many bytes are kept as it stated
pub record IsRow (path text : List ℕ) (tree_old tree_new : History) (old new : Course) (row : FileRow) : Type 0 where
  pub stat : Stat
  pub looked : Shows tree_old tree_new (λ moment. stat_at moment path ≡ Some stat)
  pub flag : IsFlag row.link stat.kind
  pub exec : row.exec ≡ stat.exec
  pub kept : IsKept path text stat.size tree_old tree_new old new row.id.0

-- a path clashed, by as many bytes as a look stated
pub record IsClash (path text : List ℕ) (tree_old tree_new : History) (old new : Course) (id : List ℕ) : Type 0 where
  pub stat : Stat
  pub looked : Shows tree_old tree_new (λ moment. stat_at moment path ≡ Some stat)
  pub refused : IsRefused path text stat.size tree_old tree_new old new id

-- a path was read, as many bytes as a look stated
pub record IsRead (path text : List ℕ) (tree_old tree_new : History) : Type 0 where
  pub stat : Stat
  pub looked : Shows tree_old tree_new (λ moment. stat_at moment path ≡ Some stat)
  pub taken : IsTaken path text stat.size tree_old tree_new

-- what storing a path answers, by the text that it read. Want of memory, a path that is gone and a working copy that failed come before a plain file is
-- touched; a shelf that failed may have stored the text by then
abbrev pub Answers : List ℕ → List ℕ → History → History → Course → Course → Result FileRow StoreFault → Type 0
Answers path text tree_old tree_new old new (Ok row) = IsRow path text tree_old tree_new old new row
Answers path text tree_old tree_new old new (Err a_fault.OutOfMemory) = LeavesPlain old new
Answers path text tree_old tree_new old new (Err (a_fault.Gone gone)) = (gone ≡ path) × Shows tree_old tree_new (λ moment. bytes_at moment path ≡ None) × LeavesPlain old new
Answers path text tree_old tree_new old new (Err (a_fault.StoreClash id)) = IsClash path text tree_old tree_new old new id.0
Answers path text tree_old tree_new old new (Err (a_fault.ManifestTooLarge size)) = ⊥
Answers path text tree_old tree_new old new (Err a_fault.TreeFailed) = LeavesPlain old new
Answers path text tree_old tree_new old new (Err a_fault.ShelfFailed) = LeavesPlain old new ⊎ IsRead path text tree_old tree_new

-- a path was stored, or wasn't
pub record StoresFile (path : List ℕ) (tree_old tree_new : History) (old new : Course) (result : Result FileRow StoreFault) : Type 0 where
  pub text : List ℕ
  pub answer : Answers path text tree_old tree_new old new result
  pub leads : LeadsFile text old new

-- the count of the working copy's failures rose where it is named as what failed, and stands as it stood with every other answer
abbrev pub CountsTree : {A : Type 0} → ℕ → ℕ → Result A StoreFault → Type 0
CountsTree before now (Ok answer) = now ≡ before
CountsTree before now (Err a_fault.TreeFailed) = Rose before now
CountsTree before now (Err (a_fault.StoreClash named)) = now ≡ before
CountsTree before now (Err a_fault.OutOfMemory) = now ≡ before
CountsTree before now (Err (a_fault.Gone path)) = now ≡ before
CountsTree before now (Err (a_fault.ManifestTooLarge size)) = now ≡ before
CountsTree before now (Err a_fault.ShelfFailed) = now ≡ before
