-- The laws of good records: what each command makes of them, and that a call keeps them.
use Rattle.std.specs.Prelude.{ℕ, Bool, Option, IsTrue}
use Rattle.hg_entry.specs.Table.{Table}
use Rattle.hg_nodes.specs.Edits.{IsSame}
use Rattle.hg_report.specs.declared.fault.Fault.{Fault}
use Rattle.hg_session.specs.Acts.{makes_of}
use Rattle.hg_session.specs.Answered.{IsAnswered}
use Rattle.hg_session.specs.Call.{Count, Looked, Saved, Sink, Watched, saved_by}
use Rattle.hg_session.specs.Good.{IsGoodIn, KeepsGood}
use Rattle.hg_session.specs.Told.{Told}
use Rattle.hg_shelf.specs.History as shelf
use Rattle.hg_shelf.specs.Images.{Images}
use Rattle.hg_shelf.specs.Polite.{StaysPlain}
use Rattle.hg_tree.specs.History as tree
use Rattle.hg_walk.specs.Notes.{AreEarned, NotesData, applied}
use Rattle.hg_walk.specs.Walking.{rows_in}
use Rattle.hg_words.specs.declared.given.Command.{Command}

-- what a command that changes the record makes of a good one is good, by each store whose bytes the files of the plain store have wherever they are there
abbrev pub MadeIsGood : Type 0
MadeIsGood =
    (command : Command) (copy : Watched tree.History) (files : Watched shelf.History) (store : shelf.Files) → shelf.Extends files.old files.new → IsTrue files.old.told → StaysPlain store files.new files.old.last
    → (h : tree.History) (loaded made : Table) (said : Told) (changed : Bool) → (makes_of command copy files).does loaded made said changed
    → IsGoodIn store loaded h → IsGoodIn store made h

-- and so is a good one with notes that are earned by a later moment of the working copy
abbrev pub NotedIsGood : Type 0
NotedIsGood =
    (files : shelf.Files) (t loaded made : Table) (notes : NotesData) (h later : tree.History) → tree.Extends h later → IsSame loaded t → IsSame made (applied notes t)
    → AreEarned (rows_in t files) t later notes → IsGoodIn files loaded h → IsGoodIn files made later

-- however a call ended, it keeps what is good
abbrev pub AnsweredKeepsGood : {S : Type 0} → (S → shelf.History) → (S → ℕ → Images) → Type 0
AnsweredKeepsGood {S = S} history images =
    (command : Command) (copy : Watched tree.History) (old new : S) (before after : ℕ) (oversize locks : Count) (out err : Sink) (code : ℕ) (fault : Option Fault) →
    let looked : Looked = record { tree = copy; shelf = record { old = history old; new = history new; before = before; after = after }; oversize = oversize } in
    let saved : Saved = saved_by history images old new in
    IsAnswered (record { command = command; looked = looked; saved = saved; locks = locks; out = out; err = err }) code fault → KeepsGood looked saved
