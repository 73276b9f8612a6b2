-- What a docket and its data file say as a whole: the table of all that is recorded, or the first fault.
use Rattle.std.specs.Prelude.{ℕ, if◌then◌else◌, List, [], ◌∷◌, Option, Some, None, Result, Ok, Err, is_some}
use Rattle.std.specs.Option.{option_and_then}
use Rattle.std.specs.Str.{bytes_eq}
use Rattle.hg_docket.specs.Docket.{Contents, docket_of, docket_refusal, view}
use Rattle.hg_docket.specs.declared.fault.DocketFault.{DocketFault}
use Rattle.hg_entry.specs.Entry.{entry_of, cache_of}
use Rattle.hg_entry.specs.Table.{Table}
use Rattle.hg_image.specs.Node.{fields_of}
use Rattle.hg_image.specs.Rows.{Row, rows_of}
use Rattle.hg_image.specs.View.{rows}
use Rattle.hg_image.specs.Walk.{image_fault}
use Rattle.hg_image.specs.declared.fault.NodeFault.{NodeFault}
use Rattle.hg_image.specs.declared.opened.Image.{Image}

-- the row of a path, where it has one
abbrev pub row_at : List Row → List ℕ → Option Row
row_at [] path = None
row_at (row ∷ rows) path = if bytes_eq row.path path then Some row else row_at rows path

-- all that is recorded: the docket's parents and hash, and by path what the node there says
abbrev pub table_of : Contents → List Row → Table
table_of docket rows =
    record {
      p1 = docket.p1;
      p2 = docket.p2;
      hash = docket.hash;
      entries = λ path. option_and_then (λ row. entry_of (fields_of row.rec)) (row_at rows path);
      sources = λ path. option_and_then (λ row. row.source) (row_at rows path);
      nodes = λ path. is_some (row_at rows path);
      caches = λ path. option_and_then (λ row. cache_of (fields_of row.rec)) (row_at rows path);
    }

-- the table of an image
abbrev pub table_in : Image → Table
table_in image = table_of (view image.docket) (rows image)

-- what is wrong with a record: with its docket, or with the data file
pub data RecordFault : Type 0 where
  Docket : DocketFault → RecordFault
  Node : NodeFault → RecordFault

-- a table, unless there is a fault
abbrev pub sound_reading : Option NodeFault → Table → Result Table NodeFault
sound_reading (Some fault) table = Err fault
sound_reading None table = Ok table

-- the reading of a data file by what its docket says: the first fault of its nodes, or the table
abbrev pub data_reading : Contents → List ℕ → Result Table NodeFault
data_reading docket bytes = sound_reading (image_fault docket bytes) (table_of docket (rows_of docket bytes))

-- a fault of the data is one of the record
abbrev pub of_data : Result Table NodeFault → Result Table RecordFault
of_data (Err fault) = Err (Node fault)
of_data (Ok table) = Ok table

-- the docket's own fault comes first
abbrev pub docket_reading : Option DocketFault → Result Table NodeFault → Result Table RecordFault
docket_reading (Some fault) nodes = Err (Docket fault)
docket_reading None nodes = of_data nodes

-- the reading of a record: from the bytes of the docket and of the data file the first fault, or the table of all that is recorded
abbrev pub reading_of : List ℕ → List ℕ → Result Table RecordFault
reading_of docket bytes = docket_reading (docket_refusal docket) (data_reading (docket_of docket) bytes)
