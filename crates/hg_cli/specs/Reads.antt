-- The set of paths by which it is counted of how many the bytes were asked.
use Rattle.std.specs.Prelude.{ℕ, ◌≡◌, List, String}
use Rattle.std.specs.BTreeSet.{BTreeSet, btree_set_len, contains_text}
use Rattle.std.specs.Set.{is_member}
use Rattle.std.specs.Str.{bytes_eq}
use Rattle.hg_cli.specs.Reading.{count_read, paths_read}
use Rattle.hg_tree.specs.declared.asked.Asked.{Asked}

-- a set has these paths, and no others
pub record AreRead {Y : Type 0} (asked : List Asked) (paths : BTreeSet (String Y)) : Type 0 where
  pub each : (path : List ℕ) → contains_text paths path ≡ is_member bytes_eq (paths_read asked) path
  pub count : btree_set_len paths ≡ count_read asked
