-- What a load found where others keep the data that dockets name.
use Rattle.std.proofs.Common.{ℕ, ◌≡◌, ◌<◌, ◌==◌, cond, List, [], Option, Some, None, option_map, Result, Ok, Err, refl, sym, ap, ◌∙◌, subst, inl, inr, ◌⊎◌, arith}
use Rattle.std.proofs.lemmas.Bool.{cases_eq}
use Rattle.hg_docket.specs.Docket.{Contents, docket_of, docket_refusal}
use Rattle.hg_docket.specs.declared.fault.DocketFault.{DocketFault}
use Rattle.hg_docket.proofs.Branches.{chosen, not_zero}
use Rattle.hg_entry.specs.Table.{Table}
use Rattle.hg_image.specs.Reading.{RecordFault, data_reading, of_data, reading_of}
use Rattle.hg_image.specs.Reading as a_record_fault
use Rattle.hg_image.specs.declared.fault.NodeFault.{NodeFault}
use Rattle.hg_shelf.specs.History.{Files, History}
use Rattle.hg_save.proofs.Loads.{last_within, named_refused, named_sound}
use Rattle.hg_save.proofs.Tails.{front_same}
use Rattle.hg_save.specs.Loads.{IsTry, Loads, ReadsUsed, Tries, Try, files_at, found_by}
use Rattle.hg_save.specs.Others.{HasFront, IsFrontOf, KeepData, KeepsFront, UsesData, WasLoaded, WasRecorded, named_file}
use Rattle.hg_save.specs.Record.{data_in, data_name, shown_in, named_reading}
use Rattle.hg_save.specs.declared.load_fault.LoadFault.{LoadFault}
use Rattle.hg_save.specs.declared.load_fault.LoadFault.TheVariants as a_fault
use Rattle.hg_save.specs.declared.loaded.Loaded.{Loaded}

-- ---- the data file

-- the reading of a data file that may be absent
abbrev read_in : Contents → Option (List ℕ) → Option (Result Table RecordFault)
read_in d file = option_map (λ nodes. of_data (data_reading d nodes)) file

-- a file that keeps the bytes that are used has led to the same
kept_same : (d : Contents) (old now : Option (List ℕ)) (recorded : Result Table RecordFault) → KeepsFront d.used old now → read_in d now ≡ Some recorded → read_in d old ≡ Some recorded
kept_same d old None recorded keeps is = absurd (cc is)
kept_same d None (Some now) recorded keeps is = absurd keeps
kept_same d (Some old) (Some now) recorded keeps is =
    ap (λ (r : Result Table NodeFault). Some (of_data r)) (sym (front_same d old) ∙ ap (data_reading d) (sym keeps.2) ∙ front_same d now) ∙ is

-- where no byte is used no file is read
unused_in : (d : Contents) (files : Files) → d.used ≡ 0 → data_in d files ≡ Some []
unused_in d files none = ap (λ (n : ℕ). cond (n == 0) (Some []) (files (data_name d.id))) none

used_in : (d : Contents) (files : Files) → 0 < d.used → data_in d files ≡ files (data_name d.id)
used_in d files some = chosen (d.used == 0) (Some []) (files (data_name d.id)) (files (data_name d.id)) (not_zero d.used some) refl

data_kept : (d : Contents) (early late : Files) (recorded : Result Table RecordFault) → (0 < d.used → KeepsFront d.used (early (data_name d.id)) (late (data_name d.id)))
    → (d.used ≡ 0) ⊎ (d.used ≡ 0 → ⊥) → read_in d (data_in d late) ≡ Some recorded → read_in d (data_in d early) ≡ Some recorded
data_kept d early late recorded keeps (inl none) is = ap (read_in d) (unused_in d early none ∙ sym (unused_in d late none)) ∙ is
data_kept d early late recorded keeps (inr some) is =
    let uses : 0 < d.used = omega (arith, some) in
    ap (read_in d) (used_in d early uses)
    ∙ kept_same d (early (data_name d.id)) (late (data_name d.id)) recorded (keeps uses) (ap (read_in d) (sym (used_in d late uses)) ∙ is)

-- ---- the record

kept_by : (bytes : List ℕ) (early late : Files) (recorded : Result Table RecordFault) → (UsesData bytes → KeepsFront (docket_of bytes).used (named_file bytes early) (named_file bytes late))
    → (refusal : Option DocketFault) → docket_refusal bytes ≡ refusal → named_reading bytes late ≡ Some recorded → named_reading bytes early ≡ Some recorded
kept_by bytes early late recorded keeps (Some fault) refused is = named_refused bytes early fault refused ∙ sym (named_refused bytes late fault refused) ∙ is
kept_by bytes early late recorded keeps None sound is =
    named_sound bytes early (docket_of bytes) sound refl
    ∙ data_kept (docket_of bytes) early late recorded (λ uses. keeps (record { sound = sound; uses = uses })) (cases_eq (docket_of bytes).used 0)
    (sym (named_sound bytes late (docket_of bytes) sound refl) ∙ is)

-- what a try found was recorded at the moment of its docket
pub tried_record : (old new : History) (tried : Try) (recorded : Result Table RecordFault) → KeepData new old.last → IsTry old new tried → found_by new tried ≡ Some recorded → WasRecorded old new recorded
tried_record old new tried recorded keep within is =
    let bytes : List ℕ = shown_in (files_at new tried.docket) in
    record {
      at = tried.docket;
      during = within.docket;
      reading = kept_by bytes (files_at new tried.docket) (files_at new tried.file) recorded (keep.kept tried.docket tried.file within.docket.from within.order within.file.to) (docket_refusal bytes) refl is;
    }

-- so was what the last of some tries found
pub last_record : (old new : History) (tries : List Try) (recorded : Result Table RecordFault) → KeepData new old.last → (t : Tries old new tries) → found_by new t.last ≡ Some recorded → WasRecorded old new recorded
last_record old new tries recorded keep t is = tried_record old new t.last recorded keep (last_within old new tries t) is

pub was_recorded : (old new : History) (tries : List Try) (result : Result Loaded LoadFault) (recorded : Result Table RecordFault) → KeepData new old.last → (load : Loads old new tries result)
    → found_by new load.tried.last ≡ Some recorded → WasRecorded old new recorded
was_recorded old new tries result recorded keep load is = last_record old new tries recorded keep load.tried is

-- a load found the record of one moment
pub one_record : (old new : History) (tries : List Try) (loaded : Loaded) → KeepData new old.last → Loads old new tries (Ok loaded) → WasRecorded old new (reading_of loaded.shown.items loaded.nodes.items)
one_record old new tries loaded keep load = was_recorded old new tries (Ok loaded) (reading_of loaded.shown.items loaded.nodes.items) keep load load.answer.reading

-- ---- the bytes

-- where a file keeps the bytes that are used, those that were read stood at its front before
exact_kept : (h : History) (at : ℕ) (d : Contents) (nodes : List ℕ) (old now : Option (List ℕ)) → HasFront d.used old → KeepsFront d.used old now → ReadsUsed h at d nodes now → IsFrontOf old d.used nodes
exact_kept h at d nodes old None has keeps reads = absurd reads
exact_kept h at d nodes None (Some now) has keeps reads = absurd has
exact_kept h at d nodes (Some old) (Some now) has keeps (inl is) = is ∙ keeps.2
exact_kept h at d nodes (Some old) (Some now) has keeps (inr cut) = absurd (omega (arith, cut.short, keeps.1))

exact_none : (h : History) (at : ℕ) (d : Contents) (nodes : List ℕ) → d.used ≡ 0 → ReadsUsed h at d nodes (Some []) → IsFrontOf (Some []) d.used nodes
exact_none h at d nodes none (inl is) = is
exact_none h at d nodes none (inr cut) = absurd (omega (arith, cut.short, none))

exact_by : (h : History) (at : ℕ) (d : Contents) (nodes : List ℕ) (early late : Files) → (0 < d.used → HasFront d.used (early (data_name d.id))) → (0 < d.used → KeepsFront d.used (early (data_name d.id)) (late (data_name d.id)))
    → (d.used ≡ 0) ⊎ (d.used ≡ 0 → ⊥) → ReadsUsed h at d nodes (data_in d late) → IsFrontOf (data_in d early) d.used nodes
exact_by h at d nodes early late has keeps (inl none) reads =
    subst (λ (file : Option (List ℕ)). IsFrontOf file d.used nodes) (sym (unused_in d early none)) (exact_none h at d nodes none (subst (ReadsUsed h at d nodes) (unused_in d late none) reads))
exact_by h at d nodes early late has keeps (inr some) reads =
    let uses : 0 < d.used = omega (arith, some) in
    subst (λ (file : Option (List ℕ)). IsFrontOf file d.used nodes) (sym (used_in d early uses))
    (exact_kept h at d nodes (early (data_name d.id)) (late (data_name d.id)) (has uses) (keeps uses) (subst (ReadsUsed h at d nodes) (used_in d late uses) reads))

-- a load found the bytes of one moment
pub one_load : (old new : History) (tries : List Try) (loaded : Loaded) → KeepData new old.last → Loads old new tries (Ok loaded) → docket_refusal loaded.shown.items ≡ None → WasLoaded old new loaded
one_load old new tries loaded keep load sound =
    let tried : Try = load.tried.last in
    let within = last_within old new tries load.tried in
    let bytes : List ℕ = shown_in (files_at new tried.docket) in
    let whole : docket_refusal bytes ≡ None = ap docket_refusal (sym load.answer.shown) ∙ sound in
    record {
      at = tried.docket;
      during = within.docket;
      docket = sym load.answer.shown;
      nodes =
          subst (λ (l : List ℕ). IsFrontOf (data_in (docket_of l) (files_at new tried.docket)) (docket_of l).used loaded.nodes.items) (sym load.answer.shown)
          (exact_by new tried.file (docket_of bytes) loaded.nodes.items (files_at new tried.docket) (files_at new tried.file)
          (λ uses. keep.there tried.docket within.docket.from within.docket.to (record { sound = whole; uses = uses }))
          (λ uses. keep.kept tried.docket tried.file within.docket.from within.order within.file.to (record { sound = whole; uses = uses })) (cases_eq (docket_of bytes).used 0) load.nodes);
    }

-- ---- a docket's fault

-- a fault of the docket doesn't come from the data
not_data : (file : Option (List ℕ)) (d : Contents) (fault : DocketFault) → read_in d file ≡ Some (Err (a_record_fault.Docket fault)) → ⊥
not_data None d fault is = cc is
not_data (Some bytes) d fault is = of_nodes (data_reading d bytes) is
  where
    of_nodes : (r : Result Table NodeFault) → Some (of_data r) ≡ Some (Err (a_record_fault.Docket fault)) → ⊥
    of_nodes (Ok table) same = cc same
    of_nodes (Err node) same = cc same

fault_by : (bytes : List ℕ) (early late : Files) (fault : DocketFault) (refusal : Option DocketFault) → docket_refusal bytes ≡ refusal → named_reading bytes late ≡ Some (Err (a_record_fault.Docket fault))
    → named_reading bytes early ≡ Some (Err (a_record_fault.Docket fault))
fault_by bytes early late fault (Some first) refused is = named_refused bytes early first refused ∙ sym (named_refused bytes late first refused) ∙ is
fault_by bytes early late fault None sound is =
    absurd (not_data (data_in (docket_of bytes) late) (docket_of bytes) fault (sym (named_sound bytes late (docket_of bytes) sound refl) ∙ is))

-- the docket has a fault that its reading tells
pub fault_of : (bytes : List ℕ) (files : Files) (fault : DocketFault) (refusal : Option DocketFault) → docket_refusal bytes ≡ refusal → named_reading bytes files ≡ Some (Err (a_record_fault.Docket fault)) → docket_refusal bytes ≡ Some fault
fault_of bytes files fault (Some first) refused is =
    let same : first ≡ fault = cc (sym (named_refused bytes files first refused) ∙ is) in
    refused ∙ ap (λ (f : DocketFault). Some f) same
fault_of bytes files fault None sound is =
    absurd (not_data (data_in (docket_of bytes) files) (docket_of bytes) fault (sym (named_sound bytes files (docket_of bytes) sound refl) ∙ is))

-- a docket's fault that a load told stood at one moment, whatever others do
pub one_fault : (old new : History) (tries : List Try) (fault : DocketFault) → Loads old new tries (Err (a_fault.Docket fault)) → WasRecorded old new (Err (a_record_fault.Docket fault))
one_fault old new tries fault load =
    let tried : Try = load.tried.last in
    let within = last_within old new tries load.tried in
    let bytes : List ℕ = shown_in (files_at new tried.docket) in
    record {
      at = tried.docket;
      during = within.docket;
      reading = fault_by bytes (files_at new tried.docket) (files_at new tried.file) fault (docket_refusal bytes) refl load.answer;
    }
