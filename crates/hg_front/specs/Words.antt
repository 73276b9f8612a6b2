-- The words that ask of the program itself or of one of its commands, and what it says then.
use Rattle.std.specs.Prelude.{ℕ, if◌then◌else◌, List, [], ◌∷◌, ◌++◌, Option, Some, None, codes, length, option_map, ◌==◌}
use Rattle.std.specs.List.{flat_map}
use Rattle.std.specs.Str.{bytes_eq}
use Rattle.hg_words.specs.Help.{Help, help_table}
use Rattle.hg_front.specs.Pages.{page_of}

-- the line of a command, where it is built
abbrev pub row_text : Help → List ℕ
row_text help =
    if help.is_built
    then codes "  hgtrack " ++ help.name ++ (if length help.words == 0 then [] else codes " " ++ help.words) ++ codes "  " ++ help.line ++ codes "\n"
    else []

abbrev pub help_head : List ℕ
help_head = codes "hgtrack: the record of a Mercurial working copy (its dirstate-v2), and the status from it\n\nUsage:\n"

abbrev pub help_tail : List ℕ
help_tail = codes "  hgtrack COMMAND --help  print what a command does, what it takes, and an example\n  hgtrack --help  print this help\n  hgtrack --version  print the version\n\nIt runs in any folder of a working copy, whose root is the nearest folder with a folder `.hg`. Paths are told from the root; a FILE,\nSOURCE or TARGET is told from the current folder, and stands behind `--` where its name begins with a dash.\n\nExit status:\n  0    all was done\n  1    a file was refused, in a line of its own; the others were done\n  255  a fault, in a line `abort: ...`; a line `hgtrack: ...` behind it says why, or what to do\n\nFiles:\n  .hgignore     the patterns of what is ignored\n  .hg/dirstate  the record's docket, which names the data file beside it\n  .hg/requires  what the repository asks of a program\n  .hg/plain     the manifests and files of the parents, as hgtrack-parents brings them\n  .hg/wlock     the lock of the working copy, while the record is changed\n  .hg/probe     a file that is written to ask the file system's clock\n\nEnvironment:\n  no variable is read\n"

-- the help: the lines of the commands that are built, between what is said of the program
abbrev pub help_text : List ℕ
help_text = help_head ++ flat_map row_text help_table ++ help_tail

abbrev pub version_text : List ℕ
version_text = codes "hgtrack 0.1.0\n"

-- the line of a command, where that has the name
abbrev pub row_of : List ℕ → Help → List ℕ
row_of name help = if bytes_eq help.name name then row_text help else []

-- the help of a command: how it is called, and what is said of it
abbrev pub page_text : List ℕ → List ℕ → List ℕ
page_text name said = codes "Usage:\n" ++ flat_map (row_of name) help_table ++ said

abbrev pub command_text : List ℕ → Option (List ℕ)
command_text name = option_map (page_text name) (page_of name)

-- what one word alone asks for: the help, or the version
abbrev pub alone : List ℕ → Option (List ℕ)
alone word = if bytes_eq word (codes "--help") then Some help_text else (if bytes_eq word (codes "--version") then Some version_text else None)

-- what the name of a command and a word ask for: its help
abbrev pub beside : List ℕ → List ℕ → Option (List ℕ)
beside name word = if bytes_eq word (codes "--help") then command_text name else None

-- the text that words ask for, of the program itself or of a command; other words ask for none
abbrev pub own_text : List (List ℕ) → Option (List ℕ)
own_text [] = None
own_text (word ∷ []) = alone word
own_text (name ∷ word ∷ []) = beside name word
own_text (name ∷ word ∷ next ∷ words) = None
