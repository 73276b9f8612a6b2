-- What an ignore state keeps compiled, and what is asked of it.
use Rattle.std.specs.Prelude.{ℕ, ◌≡◌, ◌⊎◌, ◌↔◌, Bool, true, false, IsTrue, List, map, is_some, Option, Some, None}
use Rattle.regex.specs.Patterns.{Re, find_str}
use Rattle.regex.specs.Sets.{matches_of}
use Rattle.regex.specs.Strings.{set_matcher_patterns, set_patterns}
use Rattle.regex.specs.declared.string.set.RegexSet.{RegexSet}
use Rattle.regex.specs.declared.string.set.SetMatcher.{SetMatcher}
use Rattle.std.specs.List.{flat_map, list_any}
use Rattle.std.specs.BTreeSet.{contains_text}
use Rattle.hg_base.specs.PathText.{is_path, parent_of}
use Rattle.hg_glob.specs.Many.{SomeStands}
use Rattle.hg_glob.specs.declared.globs.GlobLine.{GlobLine}
use Rattle.hg_ignore.specs.Regexp.{AreBytes, finds}
use Rattle.hg_ignore.specs.State.{Piece, items_of, Hash, Ignored, Matches}
use Rattle.hg_ignore.specs.Taking.{globs_of, regexps_of, warnings_of}
use Rattle.hg_ignore.specs.declared.distinct.Seen.{Seen}
use Rattle.hg_ignore.specs.declared.warnings.Warning.{Warning}

-- the text of a glob was seen, of one that holds from the root alone or of another
abbrev pub has : Seen → Bool → List ℕ → Bool
has seen true text = contains_text seen.rooted text
has seen false text = contains_text seen.free text

-- patterns are found where the regexps of the state are, each
abbrev pub FindsAll : List Re → List Piece → Type 0
FindsAll patterns state = (path : List ℕ) → AreBytes path → map (λ re. is_some (find_str re path 0)) patterns ≡ map (λ text. finds text path) (regexps_of (items_of state))

-- the patterns of sets, one set behind another
abbrev pub patterns_kept : List RegexSet → List Re
patterns_kept sets = flat_map set_patterns sets

-- those that are asked
abbrev pub patterns_asked : List SetMatcher → List Re
patterns_asked sets = flat_map (λ patterns. patterns) (map set_matcher_patterns sets)

-- some pattern is found in the text
abbrev pub some_in : List Re → List ℕ → Bool
some_in patterns text = list_any (λ b. b) (matches_of true patterns text 0)

-- what is kept of a state
pub record IsKept (state : List Piece) (globs : List GlobLine) (sets : List RegexSet) (hash : List ℕ) (warnings : List Warning) : Type 0 where
  pub globs_stand : (path : List ℕ) → SomeStands globs path ↔ SomeStands (globs_of (items_of state)) path
  pub finds_are : FindsAll (patterns_kept sets) state
  pub hash_is : hash ≡ Hash state
  pub warnings_are : warnings ≡ warnings_of (items_of state)

-- a directory is ignored, where no directory is the root
abbrev pub DirIgnored : List Piece → Option (List ℕ) → Type 0
DirIgnored state None = ⊥
DirIgnored state (Some dir) = Ignored state dir

-- the law of a listing: a path is ignored where its directory is, or where a line matches the path itself
abbrev pub LawOfIgnored : Type 0
LawOfIgnored = (state : List Piece) (path : List ℕ) → IsTrue (is_path path) → Ignored state path ↔ (DirIgnored state (parent_of path) ⊎ Matches state path)
