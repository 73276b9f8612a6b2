-- What is taken from the rows of an image.
use Rattle.std.specs.Prelude.{ℕ, Option, Some}
use Rattle.std.specs.Option.{option_map}
use Rattle.hg_entry.specs.Entry.{entry_of}
use Rattle.hg_image.specs.Node.{fields_of}
use Rattle.hg_image.specs.Rows.{Row}
use Rattle.hg_nodes.specs.Node.{NodeData}

-- the place of the text of a row's copy source, where it has one
abbrev pub source_place : Row → Option ℕ
source_place row = option_map (λ source. row.rec.copy_start) row.source

-- the node of a row, of which all texts are lent
abbrev pub node_of : Row → NodeData
node_of row =
    record {
      entry = entry_of (fields_of row.rec);
      source = row.source;
      text_at = Some row.rec.path_start;
      source_at = source_place row;
    }
