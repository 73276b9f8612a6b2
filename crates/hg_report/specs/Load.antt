-- The text of two statuses over a working copy that was made from a number.
use Rattle.std.specs.Prelude.{ℕ, List, ◌++◌, codes}
use Rattle.std.specs.Fmt.{decimal}
use Rattle.hg_report.specs.declared.load.Counts.{Counts}

-- how many rows there are of what is tracked and isn't as the parent has it
abbrev pub changed_text : Counts → List ℕ
changed_text c = codes "M " ++ (decimal c.modified ++ (codes " A " ++ (decimal c.added ++ (codes " R " ++ (decimal c.removed ++ (codes " ! " ++ decimal c.deleted))))))

-- how many others, and how many paths were read
abbrev pub rest_text : Counts → List ℕ
rest_text c = codes "? " ++ (decimal c.unknown ++ (codes " I " ++ (decimal c.ignored ++ (codes " C " ++ (decimal c.clean ++ (codes " read " ++ decimal c.read))))))

-- all of them, in the order of a status
abbrev pub counts_text : Counts → List ℕ
counts_text c = changed_text c ++ (codes " " ++ rest_text c)

-- a line with the number of directories, and one of each status
abbrev pub load_text : ℕ → Counts → Counts → List ℕ
load_text dirs first second =
    codes "load " ++ (decimal dirs ++ (codes "\nfirst " ++ (counts_text first ++ (codes "\nsecond " ++ (counts_text second ++ codes "\n")))))
