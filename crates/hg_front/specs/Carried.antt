-- A command that is carried from its words to `run`.
use Rattle.std.specs.Prelude.{ℕ, ◌≡◌, ◌⊎◌, false, is_some, List, Option, Result, Ok, Err, codes}
use Rattle.hg_report.specs.Fault.{line_of}
use Rattle.hg_report.specs.declared.fault.Fault.{Fault}
use Rattle.hg_report.specs.declared.fault.Fault.TheVariants as a_fault
use Rattle.hg_front.specs.Further.{ArePut, TellsFault}
use Rattle.hg_front.specs.Placed.{HasFiles, IsPlaced}
use Rattle.hg_front.specs.Start.{BeginsAt, IsStopped}
use Rattle.hg_front.specs.declared.carrying.Ran.{Ran}
use Rattle.hg_front.specs.declared.placing.Placed.{Placed}
use Rattle.hg_front.specs.declared.start.Here.{Here}

-- nothing refuses it where it is started; the words that are run are the given ones in the folder, and what run answers of them, from where the error stream then
-- is, is what is answered
pub record IsCarried {E : Type 0} (bytes : E → Option (List ℕ)) (faults : E → ℕ) (folder : Option (List ℕ)) (here : Here) (words : List (List ℕ)) (old : E) (Runs : List (List ℕ) → E → ℕ → Option Fault → Type 0) (ran : Ran) : Type 0 where
  pub placed : IsPlaced folder words ran.placed
  pub begun : E
  pub begins : BeginsAt here ran.placed (bytes old) (bytes begun) (faults old) (faults begun)
  pub run : Runs ran.placed.words begun ran.outcome.status ran.outcome.fault

-- the words in the folder are stopped where the command is started
pub record IsStoppedAs (folder : Option (List ℕ)) (here : Here) (words : List (List ℕ)) (old new : Option (List ℕ)) (before after : ℕ) : Type 0 where
  pub placed : Placed
  pub is : IsPlaced folder words placed
  pub stopped : IsStopped here placed old new before after

-- file words are no paths where the folder can't be told
pub record HasNoFolder (folder : Option (List ℕ)) (words : List (List ℕ)) (old new : Option (List ℕ)) (before after : ℕ) : Type 0 where
  pub none : is_some folder ≡ false
  pub files : HasFiles words
  pub told : TellsFault old new before after a_fault.TreeFailed (codes ".: no path to the current folder")

-- it isn't run: it is stopped, its file words can't be told as paths, or there is no memory for its words; which was told
abbrev pub IsNotBegun : Option (List ℕ) → Here → List (List ℕ) → Option (List ℕ) → Option (List ℕ) → ℕ → ℕ → Type 0
IsNotBegun folder here words old new before after =
    IsStoppedAs folder here words old new before after ⊎ HasNoFolder folder words old new before after ⊎ ArePut old new before after (line_of a_fault.OutOfMemory)

-- the program ends with the status of the command that was run, or of the one that wasn't
abbrev pub status_of : Result Ran ℕ → ℕ
status_of (Ok ran) = ran.outcome.status
status_of (Err status) = status
