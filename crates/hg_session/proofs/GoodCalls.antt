-- Each command leads from good records to good ones.
use Rattle.std.proofs.Common.{ℕ, ◌≡◌, ◌≤◌, Bool, List, [], ◌∷◌, Option, Some, None, Ok, sym, ◌∙◌, subst, arith, inl, inr}
use Rattle.std.specs.Prelude.{IfSome, IsSomeAnd, IsTrue}
use Rattle.hg_compare.specs.Tracked.{ParentRow}
use Rattle.hg_entry.specs.Steps.{seen_clean}
use Rattle.hg_entry.specs.Table.{Table}
use Rattle.hg_ops.specs.declared.refusal.Refusal.{Refusal}
use Rattle.hg_report.specs.declared.fault.Fault.{Fault}
use Rattle.hg_save.proofs.Others.{last_record}
use Rattle.hg_save.specs.Others.{HasData, KeepData}
use Rattle.hg_save.specs.Record.{reading}
use Rattle.hg_flat.proofs.Arriving.{there_stays}
use Rattle.hg_session.proofs.Longer.{right_by_end}
use Rattle.hg_session.specs.Acts.{AllSteps, ChangesTree, Deed, Stepping, TakesAway, makes_nothing, makes_of, span_of, steps_of}
use Rattle.hg_session.specs.Answered.{IsAnswered, Ran, made_by}
use Rattle.hg_session.specs.Call.{Call, Count, IsLeftAlone, Looked, Saved, Sink, Watched}
use Rattle.hg_session.specs.Change.{ChangesBehind, Come, IsUnwritten, NoneOurs, come_so, up_to}
use Rattle.hg_session.specs.Good.{IsFair, IsGoodGround, IsGoodIn, KeepsGood, OthersKeepStood, ReadsRight, StaysGood}
use Rattle.hg_session.specs.Status.{AreEarnedFor, noted_in}
use Rattle.hg_session.specs.Told.{Told}
use Rattle.hg_session.specs.declared.acting.Changing.TheVariants as a_change
use Rattle.hg_session.proofs.Crashes.{crash_unwritten}
use Rattle.hg_session.proofs.Firm.{IsFirmGround, IsSafeUpon, answered_upon}
use Rattle.hg_session.proofs.GoodParents.{reparented_good}
use Rattle.hg_session.proofs.GoodStays.{before, good_by, good_stays, one_table}
use Rattle.hg_session.proofs.GoodParts.{stood_upto}
use Rattle.hg_session.proofs.Makers.{asks_none, may_note_nothing, may_nothing}
use Rattle.hg_session.proofs.GoodTables.{KeepsTable, added_keeps, copied_keeps, forgotten_keeps, noted_good, table_good, table_same, table_through}
use Rattle.hg_shelf.specs.History as shelf
use Rattle.hg_shelf.specs.Images.{Goes, Images, course, last_scene}
use Rattle.hg_shelf.specs.Polite.{KeepsThere, StaysPlain, Undisturbed}
use Rattle.hg_tree.proofs.Histories.{extends_same}
use Rattle.hg_tree.specs.History as tree
use Rattle.hg_tree.specs.Honest.{IsHonest}
use Rattle.hg_walk.proofs.Growing.{dir_on, earned_on}
use Rattle.hg_walk.proofs.Parts.{trusted_are_right}
use Rattle.hg_walk.specs.Notes.{AreEarned, NotesData, with_hash}
use Rattle.hg_walk.specs.Trust.{IsTrusted}
use Rattle.hg_walk.specs.Walking.{rows_in}
use Rattle.hg_words.specs.declared.given.Command.{Command}
use Rattle.hg_words.specs.declared.given.Command.TheVariants as a_command

-- ---- what a command makes

abbrev KeepsEach : Stepping → Type 0
KeepsEach Steps = (before after : tree.History) (word : List ℕ) (old : Table) (refused : Option Refusal) (new : Table) → Steps before after word old refused new → KeepsTable old new

steps_keep : (Steps : Stepping) → KeepsEach Steps → (before after : tree.History) (deeds : List Deed) (old new : Table) → AllSteps Steps before after deeds old new → KeepsTable old new
steps_keep Steps each before after [] old new is = table_same old new is.1
steps_keep Steps each before after (deed ∷ more) old new is =
    table_through old is.1 new (each before is.0 deed.word old deed.refused is.1 is.2.made) (steps_keep Steps each is.0 after more is.1 new is.3)

each_add : KeepsEach (steps_of a_change.Add)
each_add before after word old refused new is = added_keeps word refused old new is.0.step.table

each_forget : KeepsEach (steps_of a_change.Forget)
each_forget before after word old refused new is = forgotten_keeps word refused old new is.0.table

each_taken : (gone : Bool) (t : Table) (from to : shelf.History) → KeepsEach (TakesAway gone (span_of t from to))
each_taken gone t from to before after word old refused new is = forgotten_keeps word refused old new is.removes.table

module _ (copy : Watched tree.History) (files : Watched shelf.History) (store : shelf.Files) (past : shelf.Extends files.old files.new) (told : IsTrue files.old.told) (plain : StaysPlain store files.new files.old.last) where
  -- what a command makes of a good record is good
  pub made_good : (command : Command) (h : tree.History) (loaded made : Table) (said : Told) (changed : Bool) → (makes_of command copy files).does loaded made said changed → IsGoodIn store loaded h → IsGoodIn store made h
  made_good (a_command.Add words) h loaded made said changed does =
      table_good store loaded made h (steps_keep (steps_of a_change.Add) each_add copy.old copy.new does.lines.deeds loaded made does.lines.steps)
  made_good (a_command.Forget words) h loaded made said changed does =
      table_good store loaded made h (steps_keep (steps_of a_change.Forget) each_forget copy.old copy.new does.lines.deeds loaded made does.lines.steps)
  made_good (a_command.Remove gone words) h loaded made said changed does =
      table_good store loaded made h
      (steps_keep (TakesAway gone (span_of loaded does.lines.start files.new)) (each_taken gone loaded does.lines.start files.new) copy.old copy.new does.lines.acted.deeds loaded made does.lines.acted.steps)
  made_good (a_command.Copy source target) h loaded made said changed does = table_good store loaded made h (copied_keeps source target does.lines.refused loaded made does.lines.copies.table)
  made_good (a_command.SetParents p1 p2) h loaded made said changed does = reparented_good files store told plain p1 p2 h loaded made said.refused changed does.lines
  made_good command h loaded made said changed does = table_good store loaded made h (table_same loaded made does.lines.table)

-- ---- what a status makes

noted_fair : (files : Watched shelf.History) (table : Option Table) (notes : NotesData) (h : shelf.History) (from : ℕ) → KeepData (up_to from h) files.old.last → (noted_in files table notes).fair h from
noted_fair files None notes h from keeps = tt
noted_fair files (Some t) notes h from keeps = keeps

-- what was earned is, over a longer history
earned_later : (rows : List ℕ → Option ParentRow) (t : Table) (h later : tree.History) (notes : NotesData) → tree.Extends h later → AreEarned rows t h notes → AreEarned rows t later notes
earned_later rows t h later notes past earned = record {
  clean = λ note has entry is. earned_on rows h later past note.path (seen_clean entry note.stat note.stamp) note.stamp (earned.clean note has entry is);
  seen = λ note has. dir_on h later past note.dir note.cache (with_hash notes.hash t.hash) t.nodes (earned.seen note has);
  renewed = earned.renewed;
}

noted_does : (looked : Looked) (table : Option Table) (notes : NotesData) (by : tree.History) → tree.Extends looked.tree.new by → IfSome table (λ t. AreEarnedFor looked t notes)
    → IsHonest looked.tree.new → IsTrue looked.tree.old.told → KeepsThere looked.shelf.new looked.shelf.old.last
    → (loaded made : Table) (said : Told) (changed : Bool) → (noted_in looked.shelf table notes).does loaded made said changed
    → IsGoodIn (shelf.now looked.shelf.new).files loaded by → IsGoodIn (shelf.now looked.shelf.new).files made by
noted_does looked None notes by past earned honest told plain loaded made said changed does good = absurd does
noted_does looked (Some t) notes by past earned honest told plain loaded made said changed does good =
    let store = (shelf.now looked.shelf.new).files in
    noted_good store t loaded made notes by by (extends_same by) does.0 does.1 (earned_later (rows_in t store) t looked.tree.new by notes past (earned store honest told (there_stays looked.shelf.new looked.shelf.old.last plain))) good

-- ---- the working copy

pub alone_past : (copy : Watched tree.History) → IsLeftAlone copy → tree.Extends copy.old copy.new
alone_past copy alone = subst (λ (h : tree.History). tree.Extends copy.old h) (sym alone.history) (extends_same copy.old)

changes_past : (command : Command) (loaded : Table) (copy : Watched tree.History) → ChangesTree command loaded copy → tree.Extends copy.old copy.new
changes_past (a_command.Add words) loaded copy is = is.passes.past
changes_past (a_command.Remove gone words) loaded copy is = is.past
changes_past (a_command.Copy source target) loaded copy is = is.past
changes_past command loaded copy is = alone_past copy is

read_past : (command : Command) (copy : Watched tree.History) (read : Option Table) → IsSomeAnd read (λ t. ChangesTree command t copy) → tree.Extends copy.old copy.new
read_past command copy None is = absurd is
read_past command copy (Some loaded) is = changes_past command loaded copy is

behind_past : (command : Command) (copy : Watched tree.History) (read : Option Table) → ChangesBehind command copy read → tree.Extends copy.old copy.new
behind_past command copy read (inl alone) = alone_past copy alone
behind_past command copy read (inr is) = read_past command copy read is

-- ---- a call

-- up to the caller's first step others alone keep the data that dockets name
pub kept_fair : (saved : Saved) → Goes saved.old saved.new → Undisturbed saved.old saved.new → OthersKeepStood saved.new.history saved.old.history.last → HasData (last_scene saved.old).files
    → (k : ℕ) → saved.old.history.last ≤ k → k ≤ saved.new.history.last → NoneOurs saved.new.history saved.old.history.last k → KeepData (up_to k saved.new.history) saved.old.history.last
kept_fair saved goes calm keep there =
    stood_upto saved.new saved.old.history.last (goes.past.told ∙ calm.told) calm.others keep (subst HasData (sym (goes.kept saved.old.history.last (omega arith)).shown) there)

-- what is good is firm ground, where others keep the data that dockets name
pub firm_by : (looked : Looked) (saved : Saved) (by : tree.History) → Goes saved.old saved.new → IsFair by looked saved → IsGoodGround by (last_scene saved.old) → IsFirmGround saved
firm_by looked saved by goes fair ground = record {
  sound = λ f left. let there = ground.good f left in (there.0, there.1);
  kept = kept_fair saved goes fair.calm fair.kept ground.there;
}

-- a call that writes nothing
pub unwritten_good : (looked : Looked) (saved : Saved) → Goes saved.old saved.new → IsUnwritten saved.old.history saved.new.history → StaysGood looked saved
unwritten_good looked saved goes none by past fair ground =
    good_by saved.old saved.new goes fair.calm fair.keep fair.plain fair.parent by fair.published ground.good None (λ r own. absurd own)
    (crash_unwritten saved.old saved.new goes fair.calm fair.keep none ground.latest)

module _ (copy : Watched tree.History) (files : Watched shelf.History) (oversize locks : Count) (was now : ℕ → Images) (out err : Sink) (code : ℕ) (fault : Option Fault)
    -- reads show one of what a crash may leave
    (shown : IsTrue files.new.told → (k : ℕ) → k ≤ files.new.last → (now k).leaves (files.new.at k).files) where
  abbrev looked : Looked
  looked = record { tree = copy; shelf = files; oversize = oversize }

  abbrev saved : Saved
  saved = record { old = course files.old was; new = course files.new now }

  abbrev call : Command → Call
  call command = record { command = command; looked = looked; saved = saved; locks = locks; out = out; err = err }

  change_stays : (command : Command) (come : Come (makes_of command copy files) files) → Goes saved.old saved.new → IsSafeUpon (come_so come) saved → StaysGood looked saved
  change_stays command come goes crash by past fair ground =
      good_stays saved.old saved.new goes fair.calm fair.keep fair.plain fair.parent by fair.published ground.good (shown (goes.past.told ∙ fair.calm.told)) (come_so come) (may_nothing command copy files)
      (λ from after within none. asks_none command copy files files.new from)
      (λ loaded made said changed does there. made_good copy files (shelf.now files.new).files goes.past fair.calm.told (there_stays files.new files.old.last fair.plain) command by loaded made said changed does.2 there)
      (crash fair.calm fair.keep ground.latest (firm_by looked saved by goes fair ground))

  status_stays : (table : Option Table) (notes : NotesData) → IfSome table (λ t. AreEarnedFor looked t notes) → Goes saved.old saved.new → IsSafeUpon (noted_in files table notes) saved → StaysGood looked saved
  status_stays table notes earned goes crash by past fair ground =
      good_stays saved.old saved.new goes fair.calm fair.keep fair.plain fair.parent by fair.published ground.good (shown (goes.past.told ∙ fair.calm.told)) (noted_in files table notes) (may_note_nothing files table notes)
      (λ from after within none. noted_fair files table notes files.new from (kept_fair saved goes fair.calm fair.kept ground.there from after within none))
      (noted_does looked table notes by past earned fair.honest fair.told fair.plain)
      (crash fair.calm fair.keep ground.latest (firm_by looked saved by goes fair ground))

  -- nothing is made of the record
  look_stays : Goes saved.old saved.new → IsSafeUpon makes_nothing saved → StaysGood looked saved
  look_stays goes crash by past fair ground =
      good_stays saved.old saved.new goes fair.calm fair.keep fair.plain fair.parent by fair.published ground.good (shown (goes.past.told ∙ fair.calm.told)) makes_nothing (λ from to may. may)
      (λ from after within none. tt) (λ loaded made said changed does there. absurd does) (crash fair.calm fair.keep ground.latest (firm_by looked saved by goes fair ground))

  reads_right : tree.Extends copy.old copy.new → Goes saved.old saved.new → ReadsRight looked saved
  reads_right past goes fair apart ground t read =
      let start = files.old.last in
      let keeps : KeepData (up_to read.upto files.new) start = kept_fair saved goes fair.calm fair.kept ground.there read.upto read.later read.within read.none in
      let was = last_record files.old (up_to read.upto files.new) read.read.tries (Ok t) keeps read.read.tried read.read.found in
      let within : was.at ≤ files.new.last = omega (arith, was.during.to, read.within) in
      let stood =
      before saved.old saved.new goes fair.calm fair.keep fair.plain fair.parent copy.old fair.published ground.good was.at was.during.from within
      (λ j after below. read.none j after (omega (arith, below, was.during.to))) (files.new.at was.at).files (shown (goes.past.told ∙ fair.calm.told) was.at within) in
      let same : stood.0 ≡ t = one_table (reading (files.new.at was.at).files) stood.0 t stood.1 was.reading in
      let store = (shelf.now files.new).files in
      let trusted : IsTrusted (rows_in t store) t copy.old = subst (λ (t : Table). IsTrusted (rows_in t store) t copy.old) same stood.2.trusted in
      let right = trusted_are_right (rows_in t store) t copy.old copy.new past fair.honest apart trusted in
      record { end = right; each = λ keeps. right_by_end looked t goes.past.later keeps right }

  change_good : (command : Command) (come : Come (makes_of command copy files) files) → ChangesBehind command copy come.read → Goes saved.old saved.new → IsSafeUpon (come_so come) saved → KeepsGood looked saved
  change_good command come changes goes crash =
      let past = behind_past command copy come.read changes in
      record { past = past; stays = change_stays command come goes crash; right = reads_right past goes }

  look_good : IsLeftAlone copy → Goes saved.old saved.new → IsSafeUpon makes_nothing saved → KeepsGood looked saved
  look_good alone goes crash = record { past = alone_past copy alone; stays = look_stays goes crash; right = reads_right (alone_past copy alone) goes }

  -- what a command did keeps what is good
  ran_good : (command : Command) (ran : Ran command (call command) code fault) → Goes saved.old saved.new → IsSafeUpon (made_by command (call command) code fault ran) saved → KeepsGood looked saved
  ran_good (a_command.Status flags) ran goes crash = record { past = ran.tree.past; stays = status_stays ran.table ran.notes ran.earned goes crash; right = reads_right ran.tree.past goes }
  ran_good (a_command.Add words) ran goes crash = change_good (a_command.Add words) ran.come ran.copy goes crash
  ran_good (a_command.Forget words) ran goes crash = change_good (a_command.Forget words) ran.come ran.copy goes crash
  ran_good (a_command.Remove gone words) ran goes crash = change_good (a_command.Remove gone words) ran.come ran.copy goes crash
  ran_good (a_command.Copy source target) ran goes crash = change_good (a_command.Copy source target) ran.come ran.copy goes crash
  ran_good (a_command.SetParents p1 p2) ran goes crash = change_good (a_command.SetParents p1 p2) ran.come ran.copy goes crash
  ran_good a_command.DebugDirstate ran goes crash = look_good ran.alone goes crash
  ran_good a_command.DebugScript ran goes crash = look_good ran.idle.copy goes crash
  ran_good (a_command.DebugLoad n) ran goes crash = look_good ran.idle.copy goes crash

  -- however a call ended
  pub answered_good : (command : Command) → IsAnswered (call command) code fault → KeepsGood looked saved
  answered_good command is = ran_good command is.ran is.kept (answered_upon (call command) code fault is)
