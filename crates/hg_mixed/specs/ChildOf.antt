-- A child, read from the nodes and the times.
use Rattle.std.specs.Prelude.{ℕ, not, ◌||◌, ◌==◌, List, Option, None, Some, Bool, false}
use Rattle.std.specs.List.{list_any}
use Rattle.hg_base.specs.PathText.{is_below}
use Rattle.hg_entry.specs.Entry.{cache_of, entry_of}
use Rattle.hg_image.specs.Node.{fields_of}
use Rattle.hg_image.specs.Rows.{Row}
use Rattle.hg_nodes.specs.Children.{ChildData}
use Rattle.hg_mixed.specs.Lent.{lent_at}
use Rattle.hg_mixed.specs.Opened.{source_place}

-- a list that is lent has a row below a path
abbrev pub has_below : List ℕ → Option (List Row) → Bool
has_below path None = false
has_below path (Some rows) = list_any (λ row. is_below path row.path) rows

-- the image has something below a path whose list is lent
abbrev pub lends : List (List ℕ × List Row) → List ℕ → Bool
lends left path = has_below path (lent_at left path)

-- a child in memory, with what the image has below it
abbrev pub with_lent : List (List ℕ × List Row) → ChildData → ChildData
with_lent left child = record child { has_kids = child.has_kids || lends left child.path }

-- a child in the image
abbrev pub row_child : Row → ChildData
row_child row =
    record {
      path = row.path;
      entry = entry_of (fields_of row.rec);
      source = row.source;
      cache = cache_of (fields_of row.rec);
      has_kids = not (row.rec.kids_count == 0);
      text_at = Some row.rec.path_start;
      source_at = source_place row;
    }
