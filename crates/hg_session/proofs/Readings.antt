-- What reading the record finds, from what a load found and what its nodes lead to.
use Rattle.std.proofs.Common.{ℕ, ◌≡◌, ◌≤◌, List, [], ◌∷◌, map, Option, Some, None, Result, Ok, Err, IfOk, IsTrue, refl, sym, ap, ◌∙◌, subst, arith, inl, inr, true≢false}
use Rattle.std.specs.List.{AllByRecursion}
use Rattle.std.proofs.lemmas.Bool.{cases_Bool}
use Rattle.hg_session.specs.SavingNotes.{IsOpenedSince}
use Rattle.hg_base.proofs.Faults.{steady_not_rose}
use Rattle.hg_base.specs.Fault.{HasCause}
use Rattle.hg_docket.specs.Docket.{docket_of, docket_refusal}
use Rattle.hg_docket.specs.declared.fault.DocketFault.{DocketFault}
use Rattle.hg_entry.specs.Table.{Table}
use Rattle.hg_image.specs.Reading.{RecordFault, data_reading, docket_reading, of_data, reading_of}
use Rattle.hg_image.specs.declared.fault.NodeFault.{NodeFault}
use Rattle.hg_nodes.specs.Edits.{IsSame}
use Rattle.hg_mixed.specs.Held.{Held, table}
use Rattle.hg_save.proofs.Loads.{found_longer, same_ids, tries_longer, unstepped_found}
use Rattle.hg_save.specs.Loads.{Loads, Try, found_by, id_by}
use Rattle.hg_save.specs.Record.{id_in, record_in}
use Rattle.hg_save.specs.declared.load_fault.LoadFault.{LoadFault}
use Rattle.hg_save.specs.declared.load_fault.LoadFault.TheVariants as a_load
use Rattle.hg_save.specs.declared.loaded.Loaded.{Loaded}
use Rattle.hg_session.proofs.SameTables.{one_table}
use Rattle.hg_session.specs.Reading.{IsOpened, LoadsOrRefuses, by_load, Answers, NodesFind, Reads}
use Rattle.hg_session.specs.Call.{Fails, Serves, Watched}
use Rattle.hg_session.specs.Change.{IsReadFirst, up_to}
use Rattle.hg_session.specs.Load.{of_read}
use Rattle.hg_session.specs.Loaded.{IsLoaded, IsRead, IsRefused, IsUnreadable, LoadMet, MetReading, Refuses, WasLoaded}
use Rattle.hg_session.specs.declared.read_fault.ReadFault.{ReadFault}
use Rattle.hg_session.specs.declared.read_fault.ReadFault.TheVariants as a_fault
use Rattle.hg_shelf.specs.History.{Extends, Files, History, now}

-- an answer that says nothing of the shelf, behind a call in which its count stood still
pub cause_still : {X : Type 0} (IsOf : Table → X → Type 0) (before now : ℕ) (result : Result X ReadFault) (found : Result Table NodeFault) → now ≡ before → NodesFind IsOf result found → HasCause before now result (λ e. e ≡ a_fault.Failed)
cause_still IsOf before now (Ok flat) found still finds = record { later = omega (arith, still); quiet = still; rose = tt }
cause_still IsOf before now (Err a_fault.OutOfMemory) found still finds = record { later = omega (arith, still); quiet = tt; rose = λ failed. absurd (cc (failed)) }
cause_still IsOf before now (Err (a_fault.Node fault)) found still finds = record { later = omega (arith, still); quiet = tt; rose = λ failed. absurd (cc (failed)) }
cause_still IsOf before now (Err (a_fault.Docket fault)) found still finds = absurd finds
cause_still IsOf before now (Err (a_fault.DataGone ids)) found still finds = absurd finds
cause_still IsOf before now (Err a_fault.Failed) found still finds = absurd finds

-- what was made was made of some table
pub some_found : {X : Type 0} (IsOf : Table → X → Type 0) (result : Result X ReadFault) (found : Result Table NodeFault) → NodesFind IsOf result found → IfOk result (λ made. (table : Table) × IsOf table made)
some_found IsOf (Ok made) found finds = (finds.0, finds.2)
some_found IsOf (Err fault) found finds = tt

by_nodes : {X : Type 0} (IsOf : Table → X → Type 0) (result : Result X ReadFault) (ids : List (List ℕ)) (found : Result Table NodeFault) → NodesFind IsOf result found → Answers IsOf result ids (Some (of_data found))
by_nodes IsOf (Ok made) ids found finds = (finds.0, ap (λ (r : Result Table NodeFault). Some (of_data r)) finds.1, finds.2)
by_nodes IsOf (Err (a_fault.Node fault)) ids found finds = ap (λ (r : Result Table NodeFault). Some (of_data r)) finds
by_nodes IsOf (Err a_fault.OutOfMemory) ids found finds = tt
by_nodes IsOf (Err (a_fault.Docket fault)) ids found finds = absurd finds
by_nodes IsOf (Err (a_fault.DataGone gone)) ids found finds = absurd finds
by_nodes IsOf (Err a_fault.Failed) ids found finds = absurd finds

-- a reading whose docket is sound is that of its nodes
pub sound_reading : (docket nodes : List ℕ) → docket_refusal docket ≡ None → reading_of docket nodes ≡ of_data (data_reading (docket_of docket) nodes)
sound_reading docket nodes sound = ap (λ (r : Option DocketFault). docket_reading r (data_reading (docket_of docket) nodes)) sound

-- what the nodes lead to, behind a load
pub read_by : {X : Type 0} (IsOf : Table → X → Type 0) (old new : History) (tried : Try) (loaded : Loaded) (result : Result X ReadFault) → docket_refusal loaded.shown.items ≡ None
    → NodesFind IsOf result (data_reading (docket_of loaded.shown.items) loaded.nodes.items) → Loads old new (tried ∷ []) (Ok loaded) → Reads IsOf old new (tried ∷ []) result
read_by IsOf old new tried loaded result sound finds loads = record {
  tried = loads.tried;
  answer =
      subst (Answers IsOf result (map (id_by new) (tried ∷ [])))
      (sym (loads.answer.reading ∙ ap (λ (r : Result Table RecordFault). Some r) (sound_reading loaded.shown.items loaded.nodes.items sound)))
      (by_nodes IsOf result (map (id_by new) (tried ∷ [])) (data_reading (docket_of loaded.shown.items) loaded.nodes.items) finds);
}

pub refused_by : (fault : LoadFault) (old new : History) (tries : List Try) (loads : Loads old new tries (Err fault)) → IsRefused (by_load fault) (map (id_by new) tries) (found_by new loads.tried.last)
refused_by a_load.OutOfMemory old new tries loads = tt
refused_by (a_load.Docket fault) old new tries loads = loads.answer
refused_by (a_load.DataGone ids) old new tries loads = loads.answer
refused_by a_load.Failed old new tries loads = tt

-- a load that was refused
pub unread : {X : Type 0} (IsOf : Table → X → Type 0) (old new : History) (tried : Try) (fault : LoadFault) → Loads old new (tried ∷ []) (Err fault) → Reads IsOf old new (tried ∷ []) (Err (by_load fault))
unread IsOf old new tried fault loads = record { tried = loads.tried; answer = refused_by fault old new (tried ∷ []) loads }

-- what was found before the shelf was asked more
abbrev pub read_longer : (old mid new : History) (table : Table) → Extends mid new → IsRead old mid table → IsRead old new table
read_longer old mid new table second r = record {
  tries = r.tries;
  tried = tries_longer old mid new r.tries second r.tried;
  found = found_longer old mid new r.tries second r.tried ∙ r.found;
}

-- the table that was loaded, which something was made of
pub loaded_as : {X : Type 0} (IsOf : Table → X → Type 0) (files : Watched History) (mid : History) (made : X) → Extends mid files.new
    → (IsTrue files.old.told → (tried : Try) × Reads IsOf files.old mid (tried ∷ []) (Ok made)) → ((table : Table) × IsOf table made) → (table : Table) × IsLoaded files table × IsOf table made
loaded_as IsOf files mid made second found some = elim (cases_Bool files.old.told) [
  | inl told ↦
      let m = found told in
      (m.1.answer.0, (λ is. read_longer files.old mid files.new m.1.answer.0 second (record { tries = m.0 ∷ []; tried = m.1.tried; found = m.1.answer.1 })), m.1.answer.2)
  | inr not ↦ (some.0, (λ told. absurd (true≢false (sym told ∙ not))), some.1)
]

-- what was made of the nodes was made of some table
pub found_some : {X : Type 0} (IsOf : Table → X → Type 0) (result : Result X ReadFault) (found : Result Table NodeFault) → NodesFind IsOf result found → IfOk result (λ made. (t : Table) × IsOf t made)
found_some IsOf (Ok made) found is = (is.0, is.2)
found_some IsOf (Err fault) found is = tt

-- ---- a record that was loaded and opened

pub opened_as : (old new : History) (loaded : Loaded) (result : Result Held ReadFault) → docket_refusal loaded.shown.items ≡ None
    → NodesFind (IsOpened loaded) result (data_reading (docket_of loaded.shown.items) loaded.nodes.items)
    → (IsTrue old.told → (tried : Try) × LoadsOrRefuses old new (tried ∷ []) (Ok loaded)) → IsTrue old.told → (tried : Try) × Reads (IsOpened loaded) old new (tried ∷ []) result
opened_as old new loaded result sound finds found told =
    let m = found told in (m.0, read_by (IsOpened loaded) old new m.0 loaded result sound finds m.1)

-- the nodes that were opened are those of the table that was opened
pub opened_nodes : (all : Loaded) (found : Result Table NodeFault) (opened : Held) → (t : Table) × (found ≡ Ok t) × IsOpened all t opened → found ≡ Ok (table opened)
opened_nodes all found opened is = is.1 ∙ ap (λ (t : Table). Ok t) (sym (one_table (table opened) is.0 is.2.same))

pub same_as : (t : Table) → IsSame t t
same_as t = record { p1 = refl; p2 = refl; hash = refl; entries = λ at. refl; sources = λ at. refl; nodes = λ at. refl; caches = λ at. refl }

-- the table that was opened is the one that was loaded
pub loaded_table : (files : Watched History) (mid : History) (all : Loaded) (opened : Held) → Extends mid files.new
    → (IsTrue files.old.told → (tried : Try) × Reads (IsOpened all) files.old mid (tried ∷ []) (Ok opened)) → ((t : Table) × IsOpened all t opened) → IsLoaded files (table opened)
loaded_table files mid all opened second found some =
    let l = loaded_as (IsOpened all) files mid opened second found some in
    subst (IsLoaded files) (sym (one_table (table opened) l.0 l.2.same)) l.1

-- the record from which a table in memory was opened was read by its own try
abbrev pub loaded_since : (start now : History) (all : Loaded) (recorded : Table) (opened : Held) → docket_refusal all.shown.items ≡ None → IsOpenedSince start now all recorded opened
    → IsTrue start.told → IsRead start now recorded
loaded_since start now all recorded opened sound since told = read_longer start since.mid now recorded since.past (record {
  tries = (since.loads told).0 ∷ [];
  tried = (since.loads told).1.tried;
  found =
      (since.loads told).1.answer.reading
      ∙ ap (λ (r : Result Table RecordFault). Some r) (sound_reading all.shown.items all.nodes.items sound ∙ ap (λ (r : Result Table NodeFault). of_data r) since.nodes);
})

-- what was read before the caller made a step was read
extends_up_to : (h : History) (upto : ℕ) → upto ≤ h.last → Extends (up_to upto h) h
extends_up_to h upto within = record { told = refl; later = within; who = λ k less. refl; stay = λ k less. record { shown = refl } }

pub first_read : (files : Watched History) (table : Table) → (IsTrue files.old.told → IsReadFirst files.old files.new table) → IsLoaded files table
first_read files table first told =
    let is = first told in read_longer files.old (up_to is.upto files.new) files.new table (extends_up_to files.new is.upto is.within) is.read

pub was_loaded : (files : Watched History) → (IsTrue files.old.told → (loaded : Table) × IsReadFirst files.old files.new loaded) → WasLoaded files
was_loaded files some told =
    let s = some told in (s.0, read_longer files.old (up_to s.1.upto files.new) files.new s.0 (extends_up_to files.new s.1.upto s.1.within) s.1.read)

-- why a reading was refused
pub met_reading : {X : Type 0} (IsOf : Table → X → Type 0) (files : Watched History) (fault : ReadFault) → (IsTrue files.old.told → (tried : Try) × Reads IsOf files.old files.new (tried ∷ []) (Err fault))
    → (fault ≡ a_fault.Failed → Fails files) → MetReading files fault
met_reading IsOf files a_fault.OutOfMemory met failed = tt
met_reading IsOf files (a_fault.Docket fault) met failed = λ told. let m = met told in (m.0 ∷ [], record { tried = m.1.tried; answer = m.1.answer })
met_reading IsOf files (a_fault.Node fault) met failed = λ told. let m = met told in (m.0 ∷ [], record { tried = m.1.tried; answer = m.1.answer })
met_reading IsOf files (a_fault.DataGone ids) met failed = λ told. let m = met told in (m.0 ∷ [], record { tried = m.1.tried; answer = m.1.answer })
met_reading IsOf files a_fault.Failed met failed = failed refl

-- so it is where a load was refused
pub met_refused : (files : Watched History) (fault : ReadFault) → (IsTrue files.old.told → (tried : Try) × Refuses files.old files.new (tried ∷ []) fault) → (fault ≡ a_fault.Failed → Fails files)
    → MetReading files fault
met_refused files a_fault.OutOfMemory met failed = tt
met_refused files (a_fault.Docket fault) met failed = λ told. let m = met told in (m.0 ∷ [], m.1)
met_refused files (a_fault.Node fault) met failed = λ told. let m = met told in (m.0 ∷ [], m.1)
met_refused files (a_fault.DataGone ids) met failed = λ told. let m = met told in (m.0 ∷ [], m.1)
met_refused files a_fault.Failed met failed = failed refl

-- where the shelf made no step, the record is refused as it stands there, whatever the tries: each names the same identifier
pub unstepped_refuses : (old new : History) (tries : List Try) (fault : ReadFault) → Extends old new → new.last ≡ old.last → Refuses old new tries fault
    → IsRefused fault (map (λ tried. id_in (now old).files) tries) (record_in (now old).files (now old).files)
unstepped_refuses old new tries fault past none refuses =
    subst (λ (ids : List (List ℕ)). IsRefused fault ids (record_in (now old).files (now old).files)) (same_ids old new tries past none refuses.tried.within)
    (subst (IsRefused fault (map (id_by new) tries)) (unstepped_found old new tries past none refuses.tried) refuses.answer)

-- ---- where nobody else steps

module _ (files : Watched History) (past : Extends files.old files.new) (still : files.new.last ≡ files.old.last) (told : IsTrue files.old.told) where
  abbrev there : Files
  there = (now files.old).files

  pub read_now : (table : Table) → IsRead files.old files.new table → record_in there there ≡ Some (Ok table)
  read_now table read = sym (unstepped_found files.old files.new read.tries past still read.tried) ∙ read.found

  met_now : (fault : ReadFault) → LoadMet fault files → (tries : List Try) × IsRefused fault (map (λ tried. id_in there) tries) (record_in there there)
  met_now fault met = let m = met told in (m.0, unstepped_refuses files.old files.new m.0 fault past still m.1)

  all_same : (id : List ℕ) (tries : List Try) → AllByRecursion (λ other. other ≡ id) (map (λ tried. id) tries)
  all_same id [] = tt
  all_same id (one ∷ more) = (refl, all_same id more)

  -- why the record wasn't read stands there
  pub unreadable_now : (fault : ReadFault) → MetReading files fault → Serves files → IsUnreadable there (of_read fault)
  unreadable_now a_fault.OutOfMemory met p = tt
  unreadable_now (a_fault.Docket fault) met p = (met_now (a_fault.Docket fault) met).1
  unreadable_now (a_fault.Node fault) met p = (met_now (a_fault.Node fault) met).1
  unreadable_now (a_fault.DataGone ids) met p =
      let m = met_now (a_fault.DataGone ids) met in
      (m.1.0, subst (AllByRecursion (λ id. id ≡ id_in there)) (sym m.1.1) (all_same (id_in there) m.0))
  unreadable_now a_fault.Failed met p = absurd (steady_not_rose files.before files.after p met)
