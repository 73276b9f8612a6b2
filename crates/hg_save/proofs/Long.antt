-- A data file that reads as one with all used bytes has them: only one that is shorter is told as short.
use Rattle.std.proofs.Common.{◌≡◌, ℕ, ◌≤◌, Bool, true, false, cond, List, length, take, refl, sym, ap, ◌∙◌, arith, Option, Some, None, option_map, Result, Ok, Err, nat_lt}
use Rattle.std.proofs.lemmas.Bool.Decides.{nat_tests}
use Rattle.hg_docket.specs.Docket.{Contents, docket_of, docket_refusal}
use Rattle.hg_docket.specs.declared.fault.DocketFault.{DocketFault}
use Rattle.hg_entry.specs.Table.{Table}
use Rattle.hg_image.specs.Reading as a_record_fault
use Rattle.hg_image.specs.Reading.{RecordFault, data_reading, docket_reading, of_data, reading_of, sound_reading, table_of}
use Rattle.hg_image.specs.Rows.{rows_of}
use Rattle.hg_image.specs.Walk.{image_fault, levels, list_fault}
use Rattle.hg_image.specs.declared.fault.NodeFault.{NodeFault}
use Rattle.hg_image.specs.declared.fault.NodeFault.TheVariants as a_fault
use Rattle.hg_save.specs.Others.{HasFront, UsesData}

-- a data file is told as short
abbrev is_short : Option NodeFault → Bool
is_short (Some (a_fault.DataShort have used)) = true
is_short fault = false

abbrev reads_short : Result Table RecordFault → Bool
reads_short (Err (a_record_fault.Node fault)) = is_short (Some fault)
reads_short read = false

-- ---- readings

as_fault : (fault : Option NodeFault) (t : Table) → reads_short (of_data (sound_reading fault t)) ≡ is_short fault
as_fault None t = refl
as_fault (Some fault) t = refl

as_data : (docket bytes : List ℕ) → docket_refusal docket ≡ None → reads_short (reading_of docket bytes) ≡ is_short (image_fault (docket_of docket) bytes)
as_data docket bytes sound =
    ap (λ (r : Option DocketFault). reads_short (docket_reading r (data_reading (docket_of docket) bytes))) sound
    ∙ as_fault (image_fault (docket_of docket) bytes) (table_of (docket_of docket) (rows_of (docket_of docket) bytes))

long_by : (d : Contents) (bytes : List ℕ) (t : Bool) → nat_lt (length bytes) d.used ≡ t → is_short (image_fault d bytes) ≡ false → d.used ≤ length bytes
long_by d bytes true less is =
    absurd (cc (ap (λ (t : Bool). is_short (cond t (Some (a_fault.DataShort (length bytes) d.used)) (list_fault levels (take d.used bytes) None d.root_start d.root_count))) less, is))
long_by d bytes false less is = grind (arith, nat_tests, less)

pub front_sound : (docket : List ℕ) (file : Option (List ℕ)) (t : Table) → UsesData docket → option_map (reading_of docket) file ≡ Some (Ok t) → HasFront (docket_of docket).used file
front_sound docket None t uses is = absurd (cc is)
front_sound docket (Some file) t uses is =
    let read : reading_of docket file ≡ Ok t = cc is in
    long_by (docket_of docket) file (nat_lt (length file) (docket_of docket).used) refl (sym (as_data docket file uses.sound) ∙ ap reads_short read)
