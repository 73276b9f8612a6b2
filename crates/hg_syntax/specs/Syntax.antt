-- The syntaxes of the lines of an ignore text, and the words that name them (Mercurial's `hg help hgignore` and `hg help patterns`); texts are bytes.
use Rattle.std.specs.Prelude.{ℕ, if◌then◌else◌, ◌||◌, List, Option, Some, None, codes}
use Rattle.std.specs.Str.{bytes_eq}
use Rattle.hg_syntax.specs.declared.syntax.Syntax.{Syntax}
use Rattle.hg_syntax.specs.declared.syntax.Syntax.TheVariants as a_syntax
use Rattle.hg_syntax.specs.declared.syntax.Form.{Form}
use Rattle.hg_syntax.specs.declared.syntax.Form.TheVariants as a_form

-- the syntax of that name
abbrev pub syntax_named : List ℕ → Option Syntax
syntax_named name =
    if bytes_eq name (codes "glob")
    then Some a_syntax.Glob
    else (
    if bytes_eq name (codes "rootglob")
    then Some a_syntax.RootGlob
    else (if bytes_eq name (codes "regexp") || bytes_eq name (codes "re") then Some a_syntax.Regexp else None)
    )

-- what the word in front of a line's first colon makes of the line: it names the syntax of the lines that follow, it names another
-- file by its path from the root or from the directory of the file that holds the line, it is the line's own syntax, or it is part of a pattern
abbrev pub form_of : List ℕ → Form
form_of word =
    if bytes_eq word (codes "syntax")
    then a_form.Naming
    else (
    if bytes_eq word (codes "include")
    then a_form.Include
    else (
    if bytes_eq word (codes "subinclude")
    then a_form.SubInclude
    else (
    if bytes_eq word (codes "glob") || bytes_eq word (codes "relglob")
    then a_form.Own a_syntax.Glob
    else (
    if bytes_eq word (codes "rootglob")
    then a_form.Own a_syntax.RootGlob
    else (
    if bytes_eq word (codes "re") || bytes_eq word (codes "regexp") || bytes_eq word (codes "relre") then a_form.Own a_syntax.Regexp else a_form.Plain
    )
    )
    )
    )
    )
