-- The names so far and those of the paths that are left are the names of all paths, and the paths that are left are paths.
use Rattle.std.proofs.Common.{◌≡◌, true, ◌++◌}
use Rattle.std.specs.Prelude.{option_map}
use Rattle.std.specs.BTreeMap.{keys}
use Rattle.std.specs.List.{filter_map, list_all}
use Rattle.hg_base.specs.PathText.{is_path, child_of}
use Rattle.hg_tree.proofs.Children.{texts}
use Rattle.hg_tree.proofs.listing.names_in.Given as goal

abbrev pub invariant-loop-key : goal.invariant-loop-key
invariant-loop-key l = record {
  names : l.names.items ++ filter_map (child_of (option_map (λ d. d.text.now) l.dir)) (texts l.key-iterator) ≡ filter_map (child_of (option_map (λ d. d.text.now) l.dir)) (texts (keys l.things));
  paths : list_all is_path (texts l.key-iterator) ≡ true;
}
