-- What is told of each command in the program's help.
use Rattle.std.specs.Prelude.{ℕ, Bool, true, false, List, [], ◌∷◌, codes}
use Rattle.hg_words.specs.declared.help.HelpRow.{HelpRow}

-- a command: its name, the words behind it, what it does, and whether it is built
pub record Help : Type 0 where
  pub name : List ℕ
  pub words : List ℕ
  pub line : List ℕ
  pub is_built : Bool

abbrev pub help_of : HelpRow → Help
help_of row = record { name = row.name.now; words = row.words.now; line = row.line.now; is_built = row.is_built }

-- the commands in the order of the table
abbrev pub help_table : List Help
help_table =
    record {
      name = codes "status";
      words = codes "[FLAG ..]";
      line = codes "list what is tracked and what is not, from any folder of a working copy";
      is_built = true;
    }
    ∷ record { name = codes "add"; words = codes "FILE .."; line = codes "track files and links, from the next commit on"; is_built = true }
    ∷ record { name = codes "forget"; words = codes "FILE .."; line = codes "track them no longer; the files stay"; is_built = true }
    ∷ record { name = codes "remove"; words = codes "[-A] FILE .."; line = codes "track them no longer, and take the files away"; is_built = true }
    ∷ record { name = codes "copy"; words = codes "SOURCE TARGET"; line = codes "copy a file, and record its source"; is_built = true }
    ∷ record { name = codes "debugsetparents"; words = codes "NODE [NODE]"; line = codes "set the parents"; is_built = true }
    ∷ record { name = codes "debugdirstate"; words = []; line = codes "print what the dirstate records of each path"; is_built = true }
    ∷ record { name = codes "debugscript"; words = []; line = codes "run commands from standard input"; is_built = true }
    ∷ record { name = codes "debugload"; words = codes "N"; line = codes "make a working copy of N folders in memory, and count the letters of its status"; is_built = true }
    ∷ []
