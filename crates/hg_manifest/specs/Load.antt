-- What a load answers, by the moments of the shelf during the call.
use Rattle.std.specs.Prelude.{ℕ, ◌≡◌, ◌≤◌, ◌<◌, if◌then◌else◌, List, [], ◌∷◌, length, take, Option, Some, None, Result, Ok, Err, IsTrue, nat_lt}
use Rattle.hg_base.specs.Fault.{Rose}
use Rattle.hg_base.specs.declared.id.Id20.{Id20}
use Rattle.hg_shelf.specs.Asks.{AsksInOrder}
use Rattle.hg_shelf.specs.History.{History}
use Rattle.hg_shelf.specs.Reads.{size_of}
use Rattle.hg_shelf.specs.declared.asked.Asked.{Asked}
use Rattle.hg_shelf.specs.declared.asked.Asked.TheVariants as an_ask
use Rattle.hg_manifest.specs.Plain.{is_null, most, plain_name}
use Rattle.hg_manifest.specs.Rows.{Rows, manifest_of}
use Rattle.hg_manifest.specs.declared.fault.ManifestFault.{ManifestFault}
use Rattle.hg_manifest.specs.declared.fault.ManifestFault.TheVariants as a_fault

-- a moment of a call
pub record During (old new : History) (k : ℕ) : Type 0 where
  pub from : old.last ≤ k
  pub to : k ≤ new.last

-- the file of a name at a moment
abbrev pub file_at : History → List ℕ → ℕ → Option (List ℕ)
file_at h name k = (h.at k).files name

-- at a moment of the call a file was so; a shelf that tells no moments says nothing of it
pub record Was (old new : History) (name : List ℕ) (P : Option (List ℕ) → Type 0) : Type 0 where
  pub at : ℕ
  pub during : IsTrue old.told → During old new at
  pub so : IsTrue old.told → P (file_at new name at)

-- so many bytes of a file, or all where it is shorter
abbrev pub IsFrontOf : ℕ → List ℕ → Option (List ℕ) → Type 0
IsFrontOf size bytes None = ⊥
IsFrontOf size bytes (Some file) = bytes ≡ take size file

-- the bytes that a load took of a file: as many as it had at one moment of the call, at the last one
pub record Took (old new : History) (name bytes : List ℕ) : Type 0 where
  pub size : ℕ
  pub few : size ≤ most
  pub short : length bytes ≤ size
  pub sized : Was old new name (λ file. size_of file ≡ Some size)
  pub front : IsTrue old.told → IsFrontOf size bytes (file_at new name new.last)

-- an answer that is the manifest of what was taken
pub record Reads (old new : History) (name : List ℕ) (answer : Result Rows ManifestFault) : Type 0 where
  pub bytes : List ℕ
  pub took : Took old new name bytes
  pub found : manifest_of bytes ≡ answer

-- what a load answers of a parent that isn't null; want of memory and a failing shelf say nothing of the file
abbrev pub Finds : History → History → List ℕ → Id20 → Result Rows ManifestFault → Type 0
Finds old new name id (Ok rows) = Reads old new name (Ok rows)
Finds old new name id (Err a_fault.OutOfMemory) = Unit {0}
Finds old new name id (Err a_fault.Failed) = Unit {0}
Finds old new name id (Err (a_fault.NoManifest gone)) = (gone ≡ id) × Was old new name (λ file. file ≡ None)
Finds old new name id (Err (a_fault.ManifestTooLarge size)) = (most < size) × Was old new name (λ file. size_of file ≡ Some size)
Finds old new name id (Err (a_fault.ManifestLine line)) = Reads old new name (Err (a_fault.ManifestLine line))
Finds old new name id (Err (a_fault.ManifestOrder line)) = Reads old new name (Err (a_fault.ManifestOrder line))

-- the count of failures rose where the shelf failed, and stands as it stood with every other answer
abbrev pub IsCounted : ℕ → ℕ → Result Rows ManifestFault → Type 0
IsCounted before now (Ok rows) = now ≡ before
IsCounted before now (Err a_fault.OutOfMemory) = now ≡ before
IsCounted before now (Err a_fault.Failed) = Rose before now
IsCounted before now (Err (a_fault.NoManifest id)) = now ≡ before
IsCounted before now (Err (a_fault.ManifestTooLarge size)) = now ≡ before
IsCounted before now (Err (a_fault.ManifestLine line)) = now ≡ before
IsCounted before now (Err (a_fault.ManifestOrder line)) = now ≡ before

-- the manifest of a file that may be absent or too large
abbrev pub file_manifest : Id20 → Option (List ℕ) → Result Rows ManifestFault
file_manifest id None = Err (a_fault.NoManifest id)
file_manifest id (Some bytes) = if nat_lt most (length bytes) then Err (a_fault.ManifestTooLarge (length bytes)) else manifest_of bytes

-- the manifest of an identifier, by its file; the null parent has no file and no rows
abbrev pub manifest_in : Id20 → Option (List ℕ) → Result Rows ManifestFault
manifest_in id file = if is_null id.0 then Ok [] else file_manifest id file

-- a file is the same at every moment of a call
abbrev pub Stays : History → History → List ℕ → Option (List ℕ) → Type 0
Stays old new name file = (k : ℕ) → During old new k → file_at new name k ≡ file

-- what is asked for behind the size of a file: all its bytes by one read, none where it is absent or too large
abbrev pub bytes_asks : List ℕ → Option ℕ → List Asked
bytes_asks name None = []
bytes_asks name (Some size) = if nat_lt most size then [] else an_ask.Read name 0 size ∷ []

-- what the load of a file asks for, as this is at one moment: its size, then its bytes
abbrev pub file_asks : List ℕ → Option (List ℕ) → List Asked
file_asks name file = an_ask.Size name ∷ bytes_asks name (size_of file)

-- what the load of an identifier's manifest asks for, by its file at one moment; the null parent needs no file
abbrev pub asks_of : Id20 → Option (List ℕ) → List Asked
asks_of id file = if is_null id.0 then [] else file_asks (plain_name id.0) file

-- a call asks for what the file of a name is to be asked for as it was at a moment of the call
pub record AsksByFile {T E : Type 0} (name : List ℕ) (asks_by : Option (List ℕ) → List Asked) (old new : History) (result : Result T E) : Type 0 where
  pub file : Option (List ℕ)
  pub was : Was old new name (λ f. f ≡ file)
  pub asks : AsksInOrder (asks_by file) old new result
