-- Regexps: what the crate `regex` reads in a text, and where it finds that.
use Rattle.std.specs.Prelude.{ℕ, ◌≡◌, ◌<◌, Bool, false, nat_le, List, All, Option, Some, None, is_some, chars}
use Rattle.regex.specs.Patterns.{Re, find_str, default_config}
use Rattle.regex.specs.Strings.{regex_source, regex_config, regex_pattern, IsReadFromSource}
use Rattle.regex.specs.declared.string.regex.Regex.{Regex}
use Rattle.regex_syntax.specs.Grammar.{Names, read}
use Rattle.regex_syntax.specs.Brackets.{Nested}

-- what was read is nested no deeper than it may be
abbrev pub is_shallow : Option (Nested Re × Names) → Bool
is_shallow None = false
is_shallow (Some (re, names)) = nat_le re.depth default_config.nest_limit

-- the text is a regexp: the grammar reads it, and it isn't nested too deep
abbrev pub is_regexp : List ℕ → Bool
is_regexp text = is_shallow (read default_config (chars text))

-- what was read is found somewhere in the path
abbrev pub found_in : Option (Nested Re × Names) → List ℕ → Bool
found_in None path = false
found_in (Some (re, names)) path = is_some (find_str re.value path 0)

-- the regexp of that text is found somewhere in the path, as `regex` defines a search
abbrev pub finds : List ℕ → List ℕ → Bool
finds text path = found_in (read default_config (chars text)) path

-- a compiled regexp is found somewhere in the path
abbrev pub found_by : List ℕ → Regex → Bool
found_by path regex = is_some (find_str (regex_pattern regex) path 0)

-- bytes
abbrev pub AreBytes : List ℕ → Type 0
AreBytes text = All (λ b. b < 256) text

-- a compiled regexp is what the grammar reads of the text
pub record IsBuiltFrom (text : List ℕ) (regex : Regex) : Type 0 where
  pub source : regex_source regex ≡ text
  pub plain : regex_config regex ≡ default_config
  pub is_read : IsReadFromSource regex
