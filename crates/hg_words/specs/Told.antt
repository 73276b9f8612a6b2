-- A file word, told from the folder where a user stands: the path from the root of the working copy. The root is the empty text.
use Rattle.std.specs.Prelude.{ℕ, Bool, true, if◌then◌else◌, List, [], ◌∷◌, length, Option, Some, None, codes, ◌==◌}
use Rattle.std.specs.Option.{option_and_then, option_map, unwrap_or}
use Rattle.std.specs.Str.{bytes_eq}
use Rattle.hg_base.specs.PathText.{components, joined, joined_pieces, parent_of}

-- the folder in which a folder stands; the root stands in none
abbrev pub upper : List ℕ → Option (List ℕ)
upper folder = if length folder == 0 then None else Some (unwrap_or (parent_of folder) [])

-- what stands in a folder
abbrev pub in_folder : List ℕ → List ℕ → List ℕ
in_folder folder rest = joined (if length folder == 0 then None else Some folder) rest

-- where the pieces of a word lead from a folder: before a slash `.` leads to the folder itself and `..` to the one in which it stands,
-- and from the first other piece on the word stands in the folder; none where it leads out of the root
abbrev pub led : List ℕ → List (List ℕ) → Option (List ℕ)
led folder [] = None
led folder (piece ∷ []) = Some (in_folder folder piece)
led folder (piece ∷ next ∷ pieces) =
    if bytes_eq piece (codes ".")
    then led folder (next ∷ pieces)
    else (
    if bytes_eq piece (codes "..")
    then option_and_then (λ up. led up (next ∷ pieces)) (upper folder)
    else option_map (in_folder folder) (joined_pieces (piece ∷ next ∷ pieces))
    )

-- an empty word, or one that begins with a slash: it isn't told from a folder
abbrev pub stands_alone : List ℕ → Bool
stands_alone [] = true
stands_alone (b ∷ word) = b == 47

-- the path that a word tells from a folder; a word that tells none there stays as it is, and is no path
abbrev pub from_folder : List ℕ → List ℕ → List ℕ
from_folder folder word = if stands_alone word then word else unwrap_or (led folder (components word)) word
