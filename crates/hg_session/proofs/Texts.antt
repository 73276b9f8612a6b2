-- What is printed is one text: the reading is a function, and there is one full listing.
use Rattle.std.proofs.Common.{◌≡◌, List, Option, Some, None, Result, Ok, Err, sym, ap, ◌∙◌, subst}
use Rattle.hg_entry.specs.Table.{Table, flat_of}
use Rattle.hg_listing.specs.Full.{IsFull}
use Rattle.hg_flat.specs.Parent.{parent_rows}
use Rattle.hg_flat.specs.Patterns.{ignored_at}
use Rattle.hg_listing.specs.declared.row.Row.{Row}
use Rattle.hg_flat.proofs.Alone.{alone}
use Rattle.hg_image.specs.Reading.{RecordFault}
use Rattle.hg_report.proofs.Recorded.{one_text}
use Rattle.hg_report.specs.Debug.{IsDebugText}
use Rattle.hg_report.specs.Status.{text_of}
use Rattle.hg_session.specs.Debug.{OneRecord}
use Rattle.hg_session.specs.Flags.{style_of, wanted_of}
use Rattle.hg_session.specs.Listed.{first_parent}
use Rattle.hg_session.specs.Status.{OneText}
use Rattle.hg_save.specs.Record.{record_in}

table_or : Table → Option (Result Table RecordFault) → Table
table_or other None = other
table_or other (Some (Ok table)) = table
table_or other (Some (Err fault)) = other

same_table : (found : Option (Result Table RecordFault)) (a b : Table) → found ≡ Some (Ok a) → found ≡ Some (Ok b) → a ≡ b
unfolding table_or
same_table found a b is_a is_b = ap (table_or a) (sym is_a ∙ is_b)

pub same_text : OneText
same_text flags files moment a b is_a is_b =
    let first = is_a.listing in
    let second = is_b.listing in
    let table : first.table ≡ second.table = same_table (record_in files files) first.table second.table first.recorded second.recorded in
    let full : IsFull (flat_of second.table) moment (parent_rows files (first_parent second.table)) (ignored_at moment) (wanted_of flags) is_a.rows =
    subst (λ (t : Table). IsFull (flat_of t) moment (parent_rows files (first_parent t)) (ignored_at moment) (wanted_of flags) is_a.rows) table first.full in
    let rows : is_a.rows ≡ is_b.rows =
    alone (ignored_at moment) (flat_of second.table) moment (parent_rows files (first_parent second.table)) (wanted_of flags) is_a.rows is_b.rows full second.full in
    is_a.is ∙ ap (λ (r : List Row). text_of (style_of flags) r) rows ∙ sym is_b.is

pub same_record : OneRecord
same_record files a b is_a is_b =
    let table : is_a.table ≡ is_b.table = same_table (record_in files files) is_a.table is_b.table is_a.recorded is_b.recorded in
    one_text is_b.table a b (subst (λ (t : Table). IsDebugText t a) table is_a.is) is_b.is
