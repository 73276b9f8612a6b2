-- The paths of which a working copy was asked the bytes.
use Rattle.std.specs.Prelude.{ℕ, List, [], ◌∷◌}
use Rattle.std.specs.Set.{distinct_count}
use Rattle.std.specs.Str.{bytes_eq}
use Rattle.hg_tree.specs.declared.asked.Asked.{Asked}
use Rattle.hg_tree.specs.declared.asked.Asked.TheVariants as an_ask

abbrev pub paths_read : List Asked → List (List ℕ)
paths_read [] = []
paths_read (an_ask.Read path ∷ asked) = path ∷ paths_read asked
paths_read (an_ask.List dir ∷ asked) = paths_read asked

-- how many different paths there are among them
abbrev pub count_read : List Asked → ℕ
count_read asked = distinct_count bytes_eq (paths_read asked)
