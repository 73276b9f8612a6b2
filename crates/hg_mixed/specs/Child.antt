-- A child as contracts see it.
use Rattle.std.specs.Prelude.{option_map}
use Rattle.hg_entry.specs.Entry.{cache_view, view}
use Rattle.hg_nodes.specs.Children.{ChildData}
use Rattle.hg_mixed.specs.declared.child.Child.{Child}

abbrev pub shown_child : Child → ChildData
shown_child c =
    record {
      path = c.path.text.now;
      entry = option_map view c.entry;
      source = option_map (λ s. s.text.now) c.source;
      cache = option_map cache_view c.cache;
      has_kids = c.has_kids;
      text_at = c.text_at;
      source_at = c.source_at;
    }
