-- What a further line says behind those of a command.
use Rattle.std.specs.Prelude.{ℕ, if◌then◌else◌, List, [], ◌∷◌, Option, Some, None, Result, Ok, Err, codes, ◌==◌}
use Rattle.std.specs.List.{find}
use Rattle.std.specs.Option.{option_and_then}
use Rattle.hg_docket.specs.declared.fault.DocketFault.TheVariants as a_docket
use Rattle.hg_report.specs.declared.fault.Fault.{Fault}
use Rattle.hg_report.specs.declared.fault.Fault.TheVariants as a_fault
use Rattle.hg_front.specs.Flags.{listed, usage_advice}
use Rattle.hg_front.specs.Marks.{has}
use Rattle.hg_front.specs.Placed.{refusable}
use Rattle.hg_front.specs.declared.carrying.Ran.{Ran}
use Rattle.hg_front.specs.declared.marks.Mark.{Mark}
use Rattle.hg_front.specs.declared.marks.Mark.TheVariants as a_mark

-- the two commands that convert a dirstate of the older kind, and back
abbrev pub convert : List ℕ
convert = codes "to convert the dirstate: hg debugupgraderepo --run --config format.use-dirstate-v2=yes; and back: hg debugupgraderepo --run --config format.use-dirstate-v2=no; an hg without Rust wants dirstate-v2.slow-path=allow below [storage] in its configuration, now and later"

abbrev pub parents : List ℕ
parents = codes "hgtrack-parents brings the parents of the working copy to .hg/plain"

abbrev pub regexps : List ℕ
regexps = codes "a regexp is read without look-ahead, look-behind and back references"

-- what to do about a fault: these have an answer, the others none
abbrev pub advice : Fault → Option (List ℕ)
advice (a_fault.Docket (a_docket.Marker at)) = Some convert
advice (a_fault.NoManifest id) = Some parents
advice (a_fault.ManifestLine line) = Some parents
advice (a_fault.ManifestOrder line) = Some parents
advice (a_fault.NoContents id) = Some parents
advice (a_fault.BadRegexp line) = Some regexps
advice a_fault.NoCommand = Some listed
advice a_fault.UnknownCommand = Some listed
advice fault = None

-- what the devices say of themselves: the name and the reason of the first failure of each, and of the lock that was refused
pub record Sayings : Type 0 where
  pub tree : Option (List ℕ)
  pub shelf : Option (List ℕ)
  pub lock : Option (List ℕ)

-- behind the line of a fault: what the device says of it, and else what to do
abbrev pub behind_fault : Fault → Sayings → Option (List ℕ)
behind_fault a_fault.TreeFailed told = told.tree
behind_fault a_fault.ShelfFailed told = told.shelf
behind_fault a_fault.Held told = told.lock
behind_fault fault told = advice fault

-- by which marks a word is no path, and what is said of that
abbrev pub path_advice : Mark → Option (List ℕ)
path_advice a_mark.Nothing = Some (codes "an empty word is no path")
path_advice a_mark.Absolute = Some (codes "a path is told from the current folder, without a slash in front")
path_advice a_mark.Outside = Some (codes "a path outside the working copy can't be tracked")
path_advice a_mark.Directory = Some (codes "a directory isn't tracked, its files are: without a slash at the end")
path_advice a_mark.LineBreak = None

-- behind the lines of refused words, where one of those that may be refused as no paths has the mark
abbrev pub behind_words : List (List ℕ) → Mark → Option (List ℕ)
behind_words refusable mark = option_and_then (λ word. path_advice mark) (find (has mark) refusable)

-- behind the lines of a command: of its fault, or else of the words that it refused, once for each kind of words that are no paths
abbrev pub behind_status : ℕ → List (List ℕ) → List (Option (List ℕ))
behind_status status words =
    if status == 1
    then behind_words words a_mark.Nothing ∷ behind_words words a_mark.Absolute ∷ behind_words words a_mark.Outside ∷ behind_words words a_mark.Directory ∷ []
    else []

-- of wrong arguments by the words that were given, of another fault by what it is
abbrev pub behind_given : Fault → List (List ℕ) → Sayings → Option (List ℕ)
behind_given a_fault.Usage given told = Some (usage_advice given)
behind_given fault given told = behind_fault fault told

abbrev pub behind_outcome : ℕ → Option Fault → List (List ℕ) → List (List ℕ) → Sayings → List (Option (List ℕ))
behind_outcome status (Some fault) given words told = behind_given fault given told ∷ []
behind_outcome status None given words told = behind_status status words

abbrev pub behind : Ran → Sayings → List (Option (List ℕ))
behind ran told = behind_outcome ran.outcome.status ran.outcome.fault ran.placed.words (refusable ran.placed) told

-- behind those of a command that was run; where none was, all was said before
abbrev pub behind_carried : Result Ran ℕ → Sayings → List (Option (List ℕ))
behind_carried (Ok ran) told = behind ran told
behind_carried (Err status) told = []
