-- What the help says of each command.
use Rattle.std.specs.Prelude.{ℕ, if◌then◌else◌, List, Option, Some, None, codes}
use Rattle.std.specs.Str.{bytes_eq}

unfoldable pub status_page : List ℕ
status_page = codes "\nM is changed, A added, R removed, ! missing, ? not tracked, I ignored, C unchanged. Where no letter is asked for, M A R ! ? are.\n\nFlags, in any order, joined or apart; they end at a word `--`:\n  -m --modified   M: changed              -A --all         all letters, and copies\n  -a --added      A: added                -n --no-status   names without letters\n  -r --removed    R: removed              -0 --print0      NUL at the end of each line\n  -d --deleted    !: missing              -C --copies      what was copied, and from where\n  -c --clean      C: unchanged\n  -u --unknown    ?: not tracked\n  -i --ignored    I: ignored\n\nExample:\n  hgtrack status -m -a -C  list what is changed or added, and what it was copied from\n\nExit status: 0, or 255 after a line `abort: ...`.\n"

unfoldable pub add_page : List ℕ
add_page = codes "\nA FILE is a file or a link; one that is tracked already stays so. There are no flags; behind a word `--` each word is a FILE.\n\nExample:\n  hgtrack add parse.c src/scan.c  track these two\n\nExit status: 0, 1 where a FILE was refused, in a line of its own (the others are done), or 255 after a line `abort: ...`.\n"

unfoldable pub forget_page : List ℕ
forget_page = codes "\nA FILE is tracked, whatever stands there. There are no flags; behind a word `--` each word is a FILE.\n\nExample:\n  hgtrack forget main.o  track it no longer, and leave it in its place\n\nExit status: 0, 1 where a FILE was refused, in a line of its own (the others are done), or 255 after a line `abort: ...`.\n"

unfoldable pub remove_page : List ℕ
remove_page = codes "\nA FILE is tracked and in a parent, and isn't changed; one that is gone already is tracked no longer.\n\nFlags; they end at a word `--`:\n  -A --after      take no file away: each FILE has to be gone already\n\nExample:\n  hgtrack remove src/old.c  take it away, and track it no longer\n\nExit status: 0, 1 where a FILE was refused, in a line of its own (the others are done), or 255 after a line `abort: ...`.\n"

unfoldable pub copy_page : List ℕ
copy_page = codes "\nSOURCE is a tracked file or link. At TARGET nothing stands, and nothing is tracked; folders above it are made. There are no flags;\nbehind a word `--` each word is a path.\n\nExample:\n  hgtrack copy main.c src/other.c  copy it, track the copy, and record where it comes from\n\nExit status: 0, 1 where a word was refused, in a line of its own, or 255 after a line `abort: ...`.\n"

unfoldable pub debugsetparents_page : List ℕ
debugsetparents_page = codes "\nA NODE is a commit by its 40 hexadecimal digits; the second is the null one where it isn't given. What the commits have is read in\n`.hg/plain`, where hgtrack-parents brings it. There are no flags.\n\nExample:\n  hgtrack debugsetparents 0000000000000000000000000000000000000000  set no parent\n\nExit status: 0, or 255 after a line `abort: ...`.\n"

unfoldable pub debugdirstate_page : List ℕ
debugdirstate_page = codes "\nIt prints the parents; a line for each path with its state, kind, size in bytes and time in seconds since 1970, UTC; and a line for\neach copy. The working copy isn't looked at. There are no flags.\n\nExample:\n  hgtrack debugdirstate  print the record\n\nExit status: 0, or 255 after a line `abort: ...`.\n"

unfoldable pub debugscript_page : List ℕ
debugscript_page = codes "\nEach line is a command and its words, parted by single spaces, with paths from the root. It ends at its first fault; what the lines\nbefore did stays. There are no flags.\n\nExample:\n  hgtrack debugscript < commands  run the lines of a file\n\nExit status: 0, 1 where a word of a line was refused, or 255 after a line `abort: ...`.\n"

unfoldable pub debugload_page : List ℕ
debugload_page = codes "\nN is from 1 to 2000, and a folder has 16 paths. `status -A` runs twice; it prints how many lines each letter has, and how many files\nwere read. There are no flags.\n\nExample:\n  hgtrack debugload 100  count over 1600 paths\n\nExit status: 0, or 255 after a line `abort: ...`.\n"

-- what is said behind a command's line: what its words and flags are, an example, and what it ends with
abbrev pub page_of : List ℕ → Option (List ℕ)
page_of name =
    if bytes_eq name (codes "status") then Some status_page else (
    if bytes_eq name (codes "add") then Some add_page else (
    if bytes_eq name (codes "forget") then Some forget_page else (
    if bytes_eq name (codes "remove") then Some remove_page else (
    if bytes_eq name (codes "copy") then Some copy_page else (
    if bytes_eq name (codes "debugsetparents") then Some debugsetparents_page else (
    if bytes_eq name (codes "debugdirstate") then Some debugdirstate_page else (
    if bytes_eq name (codes "debugscript") then Some debugscript_page else (
    if bytes_eq name (codes "debugload") then Some debugload_page else None))))))))
