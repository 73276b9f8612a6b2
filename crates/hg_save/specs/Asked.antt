-- What a load asks the shelf for: the docket, then the data file that it names.
use Rattle.std.specs.Prelude.{ℕ, ◌≡◌, ◌≤◌, ◌==◌, if◌then◌else◌, List, [], ◌∷◌, length, min, Option, Some, None, Result, Ok, Err, codes}
use Rattle.hg_docket.specs.Docket.{Contents, docket_of, docket_refusal}
use Rattle.hg_docket.specs.declared.fault.DocketFault.{DocketFault}
use Rattle.hg_shelf.specs.Asks.{AsksInOrder}
use Rattle.hg_shelf.specs.History.{Files, History}
use Rattle.hg_shelf.specs.declared.asked.Asked.{Asked}
use Rattle.hg_shelf.specs.declared.asked.Asked.TheVariants as an_ask
use Rattle.hg_save.specs.Loads.{During, files_at}
use Rattle.hg_save.specs.Record.{data_name, docket_in}
use Rattle.hg_save.specs.declared.load_fault.LoadFault.{LoadFault}
use Rattle.hg_save.specs.declared.load_fault.LoadFault.TheVariants as a_fault
use Rattle.hg_save.specs.declared.loaded.Loaded.{Loaded}

-- the bytes of the docket
abbrev pub docket_ask : Asked
docket_ask = an_ask.Read (codes "dirstate") 0 512

-- the used bytes of a data file from its start on, all where it has fewer; none of one that is absent
abbrev pub used_asks : List ℕ → ℕ → Option (List ℕ) → List Asked
used_asks id used None = []
used_asks id used (Some bytes) = an_ask.Read (data_name id) 0 (min (length bytes) used) ∷ []

-- the size and the used bytes of a data file, as it is at one moment
abbrev pub file_asks : List ℕ → ℕ → Files → List Asked
file_asks id used files = an_ask.Size (data_name id) ∷ used_asks id used (files (data_name id))

-- those of the data file that a docket names, where it uses any
abbrev pub data_asks : Contents → Files → List Asked
data_asks docket files = if docket.used == 0 then [] else file_asks docket.id docket.used files

-- those of a load by a docket's bytes: none where the docket is refused
abbrev pub asks_by : Option DocketFault → Contents → Files → List Asked
asks_by (Some fault) docket files = []
asks_by None docket files = data_asks docket files

abbrev pub named_asks : List ℕ → Files → List Asked
named_asks bytes files = asks_by (docket_refusal bytes) (docket_of bytes) files

-- a call asks for what the files lead to, as they were at a moment of the call
pub record AsksByFiles {T E : Type 0} (asks_of : Files → List Asked) (old new : History) (result : Result T E) : Type 0 where
  pub at : ℕ
  pub during : During old new at
  pub asks : AsksInOrder (asks_of (files_at new at)) old new result

-- what an answer tells of the docket that was read: its bytes, its fault, or the identifier of the data file that is gone; want of memory and a
-- failing shelf tell nothing
abbrev pub TellsDocket : Result Loaded LoadFault → List ℕ → Type 0
TellsDocket (Ok loaded) docket = loaded.docket.items ≡ docket
TellsDocket (Err (a_fault.Docket fault)) docket = docket_refusal docket ≡ Some fault
TellsDocket (Err (a_fault.DataGone ids)) docket = ids ≡ (docket_of docket).id ∷ []
TellsDocket (Err a_fault.OutOfMemory) docket = Unit {0}
TellsDocket (Err a_fault.Failed) docket = Unit {0}

-- a load asks for the docket as it stood at a moment of the call and then, where this one isn't refused, for the data file that it names, each once, and of
-- this one for no more bytes than are used, nor than it had at that moment or a later one
pub record AsksAsOf (old new : History) (result : Result Loaded LoadFault) : Type 0 where
  pub at : ℕ
  pub during : During old new at
  pub seen : ℕ
  pub later : at ≤ seen
  pub upto : seen ≤ new.last
  pub asks : AsksInOrder (docket_ask ∷ named_asks (docket_in (files_at new at)) (files_at new seen)) old new result
  pub docket : TellsDocket result (docket_in (files_at new at))
