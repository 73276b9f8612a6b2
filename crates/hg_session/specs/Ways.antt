-- How a changed record is written: anew, or behind the data file that stands.
use Rattle.std.specs.Prelude.{ℕ, ◌≡◌, ◌<◌, true, List, Option, Some, option_map}
use Rattle.std.specs.Option.{option_and_then}
use Rattle.hg_append.specs.declared.encoding.Encoded.{Encoded}
use Rattle.hg_append.specs.declared.fault.EncodeFault.{EncodeFault}
use Rattle.hg_append.specs.declared.way.Way.{Way}
use Rattle.hg_append.specs.declared.way.Way.TheVariants as a_way
use Rattle.hg_append.specs.Either.{HasCauseBy}
use Rattle.hg_append.specs.Loss.{plan_of}
use Rattle.hg_docket.specs.Docket.{Contents, docket_of}
use Rattle.hg_docket.specs.Number.{next_name}
use Rattle.hg_entry.specs.Table.{Table}
use Rattle.hg_nodes.specs.Edits.{IsSame}
use Rattle.hg_image.specs.Reading.{row_at}
use Rattle.hg_image.specs.Rows.{rows_of}
use Rattle.hg_mixed.specs.Held.{Held, has_list, image_table, is_lent, source_at, table, text_at}
use Rattle.hg_mixed.specs.Opened.{source_place}
use Rattle.hg_mixed.specs.Shown.{ArePlacesOfImage, list_place}
use Rattle.hg_save.specs.Over.{IsEncoded}
use Rattle.hg_save.specs.Loads.{Try, files_at}
use Rattle.hg_save.specs.Others.{IsFrontOf, named_file, nodes_in}
use Rattle.hg_save.specs.Record.{shown_in, id_in}
use Rattle.hg_save.specs.Saved.{KeepsOthers}
use Rattle.hg_save.specs.Behind.{KeepsUsedBytes}
use Rattle.hg_session.specs.Kept.{IsSameBelow}
use Rattle.hg_shelf.specs.History.{Files, History}
use Rattle.hg_shelf.specs.Rules.{content}

-- ---- over which record

-- the bytes of a docket, and the data file that it names
pub record Stood : Type 0 where
  pub docket : List ℕ
  pub file : Option (List ℕ)

-- those in files
abbrev pub stood_in : Files → Stood
stood_in files = record { docket = shown_in files; file = nodes_in files }

-- those that a try of a load read: the docket as it stood at one moment, and the data file at that or a later one
abbrev pub stood_by : History → Try → Stood
stood_by h tried = record { docket = shown_in (files_at h tried.docket); file = named_file (shown_in (files_at h tried.docket)) (files_at h tried.file) }

-- a table in memory has the list of a directory lent from the image that it was opened over exactly where the image has one and nothing differs below; and the
-- text of a path, or of its copy source, exactly where the image has it too, and where the image has that of the same path
pub record LendsUnchanged (held : Held) : Type 0 where
  pub kept : (dir : Option (List ℕ)) → IsSameBelow dir (image_table held) (table held) → is_lent held dir ≡ has_list (rows_of held.docket held.bytes) dir
  pub ended : (dir : Option (List ℕ)) → is_lent held dir ≡ true → IsSameBelow dir (image_table held) (table held)
  pub places : ArePlacesOfImage held
  pub texts : (at : List ℕ) → (image_table held).nodes at ≡ true → (table held).nodes at ≡ true
      → text_at held at ≡ option_map (λ row. row.rec.path_start) (row_at (rows_of held.docket held.bytes) at)
  pub sources : (at source : List ℕ) → (image_table held).sources at ≡ Some source → (table held).sources at ≡ Some source
      → source_at held at ≡ option_and_then source_place (row_at (rows_of held.docket held.bytes) at)

-- a table in memory is this one, made of the record of these: over its docket, and over as many bytes of the data file as that uses
pub record IsMadeOver (stood : Stood) (made : Table) (held : Held) : Type 0 where
  pub docket : held.docket ≡ docket_of stood.docket
  pub nodes : 0 < held.docket.used → IsFrontOf stood.file held.docket.used held.bytes
  pub same : IsSame (table held) made
  pub lends : LendsUnchanged held

-- files have the data file of the image that a table was opened over, and in it each list of the image below which nothing differs lies where it lay, with as
-- many nodes, that of the root among them
pub record KeepsUnchanged (held : Held) (files : Files) : Type 0 where
  pub same : id_in files ≡ held.docket.id
  pub lists : (dir : Option (List ℕ)) → has_list (rows_of held.docket held.bytes) dir ≡ true → IsSameBelow dir (image_table held) (table held)
      → list_place (docket_of (shown_in files)) (rows_of (docket_of (shown_in files)) (content (nodes_in files))) dir ≡ list_place held.docket (rows_of held.docket held.bytes) dir

-- ---- by which way

-- a table in memory can be encoded by the better way
pub record CanWrite (held : Held) : Type 0 where
  pub new : Encoded
  pub found : Table
  pub is : IsEncoded held new found

-- a table that was made of a record can be written over it
pub record Fits (stood : Stood) (made : Table) : Type 0 where
  pub held : Held
  pub over : IsMadeOver stood made held
  pub can : CanWrite held

-- or it can't be, for this: its data file would be too large, or it is to be written anew and no identifier is left; or there is no memory
pub record IsUnfit (stood : Stood) (made : Table) (fault : EncodeFault) : Type 0 where
  pub held : Held
  pub over : IsMadeOver stood made held
  pub cause : HasCauseBy held (plan_of held) fault

-- which files a way leaves as they are, over a docket. Anew: all but the docket, the one that is written first, the data file with the identifier that
-- follows, and that of the docket, which may go. Behind: all but those two dockets and the data file, of which the used bytes stay
abbrev pub KeepsBy : Way → Contents → Files → Files → Type 0
KeepsBy a_way.Rewrite docket old new = (id : List ℕ) × (next_name docket.id ≡ Some id) × KeepsOthers docket.id id old new
KeepsBy a_way.Append docket old new = KeepsUsedBytes docket.id docket.used old new
