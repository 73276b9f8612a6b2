-- The nodes that were loaded of a sound record are those that its docket uses.
use Rattle.std.proofs.Common.{ℕ, ◌≡◌, ◌<◌, ◌≤◌, ◌==◌, List, [], length, option_map, Option, Some, None, Result, Ok, refl, sym, ap, ◌∙◌, subst, arith, inl, inr}
use Rattle.hg_docket.specs.Docket.{Contents, docket_of, docket_refusal}
use Rattle.hg_docket.proofs.Branches.{chosen, not_zero}
use Rattle.hg_entry.specs.Table.{Table}
use Rattle.hg_image.specs.Reading.{RecordFault, data_reading, of_data, reading_of}
use Rattle.hg_image.specs.declared.fault.NodeFault.{NodeFault}
use Rattle.hg_save.proofs.Long.{front_sound}
use Rattle.hg_save.proofs.Solid.{named_is}
use Rattle.hg_save.specs.Loads.{Loads, ReadsAsOf, ReadsUsed, Try, files_at, found_by}
use Rattle.hg_save.specs.Others.{IsFrontOf, UsesData, named_file}
use Rattle.hg_save.specs.Record.{data_in, data_name, shown_in, named_reading}
use Rattle.hg_save.specs.declared.loaded.Loaded.{Loaded}
use Rattle.hg_session.proofs.Readings.{sound_reading}
use Rattle.hg_shelf.specs.History.{Files, History}

-- a data file that is read whole has all that is used
front_by : (h : History) (at : ℕ) (bytes nodes : List ℕ) → UsesData bytes → (t : Table) (file : Option (List ℕ)) → option_map (reading_of bytes) file ≡ Some (Ok t)
    → ReadsUsed h at (docket_of bytes) nodes file → IsFrontOf file (docket_of bytes).used nodes
front_by h at bytes nodes uses t None is reads = absurd reads
front_by h at bytes nodes uses t (Some found) is (inl same) = same
front_by h at bytes nodes uses t (Some found) is (inr short) =
    let has : (docket_of bytes).used ≤ length found = front_sound bytes (Some found) t uses is in
    absurd (omega (arith, has, short.short))

some_in : (d : Contents) (files : Files) → 0 < d.used → data_in d files ≡ files (data_name d.id)
some_in d files some = chosen (d.used == 0) (Some []) (files (data_name d.id)) (files (data_name d.id)) (not_zero d.used some) refl

pub nodes_by : (old new : History) (tries : List Try) (loaded : Loaded) (recorded : Table) (loads : Loads old new tries (Ok loaded)) → docket_refusal loaded.shown.items ≡ None
    → data_reading (docket_of loaded.shown.items) loaded.nodes.items ≡ Ok recorded → 0 < (docket_of loaded.shown.items).used
    → IsFrontOf (named_file loaded.shown.items (files_at new loads.tried.last.file)) (docket_of loaded.shown.items).used loaded.nodes.items
nodes_by old new tries loaded recorded loads sound nodes uses =
    let bytes : List ℕ = loaded.shown.items in
    let file : Files = files_at new loads.tried.last.file in
    let same : shown_in (files_at new loads.tried.last.docket) ≡ bytes = sym loads.answer.shown in
    let using : UsesData bytes = record { sound = sound; uses = uses } in
    let found : found_by new loads.tried.last ≡ Some (Ok recorded) =
    loads.answer.reading ∙ ap (λ (r : Result Table RecordFault). Some r) (sound_reading bytes loaded.nodes.items sound ∙ ap (λ (r : Result Table NodeFault). of_data r) nodes) in
    front_by new loads.tried.last.file bytes loaded.nodes.items using recorded (named_file bytes file)
    (sym (named_is bytes file using) ∙ sym (ap (λ (l : List ℕ). named_reading l file) same) ∙ found)
    (subst (ReadsUsed new loads.tried.last.file (docket_of bytes) loaded.nodes.items) (some_in (docket_of bytes) file uses)
    (subst (λ (l : List ℕ). ReadsAsOf new loads.tried.last.file (docket_of l) loaded.nodes.items) same loads.nodes))
