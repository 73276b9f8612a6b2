-- What is looked for in the file words of a command, which are told from the root.
use Rattle.std.specs.Prelude.{ℕ, Bool, ◌||◌, List, codes, length, take, ◌==◌, nat_eq}
use Rattle.std.specs.List.{ends_with, list_any, starts_with}
use Rattle.std.specs.Str.{bytes_eq}
use Rattle.hg_front.specs.declared.marks.Mark.{Mark}
use Rattle.hg_front.specs.declared.marks.Mark.TheVariants as a_mark

-- a word that begins with this byte
abbrev pub begins : List ℕ → List ℕ → Bool
begins byte word = bytes_eq (take 1 word) byte

-- a line feed or a carriage return stands in a word
abbrev pub has_break : List ℕ → Bool
has_break word = list_any (λ b. b == 10) word || list_any (λ b. b == 13) word

-- a word that leads up from the root stays as it is, so it begins with `..`, or with `./` before that
abbrev pub leads_out : List ℕ → Bool
leads_out word = bytes_eq word (codes "..") || starts_with nat_eq word (codes "../") || starts_with nat_eq word (codes "./")

abbrev pub ends_in_slash : List ℕ → Bool
ends_in_slash word = ends_with nat_eq word (codes "/")

abbrev pub has : Mark → List ℕ → Bool
has a_mark.LineBreak word = has_break word
has a_mark.Nothing word = length word == 0
has a_mark.Absolute word = begins (codes "/") word
has a_mark.Outside word = leads_out word
has a_mark.Directory word = ends_in_slash word
