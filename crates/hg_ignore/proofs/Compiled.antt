-- What `regex` builds of a text, or why it refuses one.
use Rattle.std.proofs.Common.{◌≡◌, ◌≢◌, ℕ, ◌<◌, ◌≤◌, true, false, List, length, Option, Some, None, is_some, chars, inl, inr, refl, sym, subst, ap, ◌∙◌, le-leb}
use Rattle.std.specs.Option.{IfSome, IsSomeAnd}
use Rattle.std.proofs.lemmas.Bool.{lt-leb}
use Rattle.regex.specs.Patterns.{Re, find_str, default_config, Reads, Refuses, SameCaptures}
use Rattle.regex.specs.Strings.{regex_pattern}
use Rattle.regex.specs.Sources.{IsRefusal}
use Rattle.regex.specs.Failures.{IsRightKind}
use Rattle.regex.specs.declared.error.Error.{Error}
use Rattle.regex.specs.declared.error.Error.TheVariants.{Syntax}
use Rattle.regex_syntax.specs.declared.error.Error as parser
use Rattle.regex.specs.declared.string.regex.Regex.{Regex}
use Rattle.regex_syntax.specs.Grammar.{Names, read, group_count}
use Rattle.regex_syntax.specs.Brackets.{Nested}
use Rattle.regex_syntax.specs.declared.error.ErrorKind.{ErrorKind}
use Rattle.regex_syntax.specs.declared.error.ErrorKind.TheVariants as kind
use Rattle.regex_syntax.proofs.CapturesLemmas.{spans, find_str_alike}
use Rattle.regex_syntax.proofs.Written.{is_some-option_map}
use Rattle.hg_ignore.specs.Regexp.{is_shallow, is_regexp, found_in, finds, found_by, AreBytes, IsBuiltFrom}

deep_is : (o : Option (Nested Re × Names)) → IfSome o (λ (re, found). default_config.nest_limit < re.depth) → is_shallow o ≡ false
deep_is None deep = refl
deep_is (Some (re, names)) deep = lt-leb re.depth default_config.nest_limit deep

-- a text that the grammar refuses is no regexp
pub refused_is : (text : List ℕ) (why : ErrorKind) → Refuses default_config text why → why ≢ kind.OutOfMemory → is_regexp text ≡ false
unfolding Refuses
refused_is text why (inl memory) other = absurd (other memory)
refused_is text why (inr (inl none)) other = ap is_shallow none
refused_is text why (inr (inr (limit, deep))) other = deep_is (read default_config (chars text)) deep

pub refused_by : (text : List ℕ) (error : Error) (e : parser.Error) → error ≡ Syntax e → IsRefusal default_config text error → IsRightKind default_config text error → is_regexp text ≡ false
refused_by text error e is refusal right =
    let P : Error → Type 0 = λ v. IsRightKind default_config text v in
    refused_is text e.kind (refusal e is) (subst P is right)

shallow_is : (o : Option (Nested Re × Names)) (a : Re) (names : Names) → IsSomeAnd o (λ (re, found). (re.depth ≤ default_config.nest_limit) × SameCaptures a re.value × (names ≡ found) × (group_count a ≤ length names)) → is_shallow o ≡ true
shallow_is None a names h = absurd h
shallow_is (Some (re, found)) a names h = le-leb re.depth default_config.nest_limit h.0

-- what was built of a text shows that it is a regexp
pub built_is : (text : List ℕ) (r : Regex) → IsBuiltFrom text r → is_regexp text ≡ true
unfolding Reads
built_is text r built = shallow_is (read default_config (chars text)) _ _ (rw (built.source, built.plain) at built.is_read)

alike_is : (o : Option (Nested Re × Names)) (a : Re) (names : Names) (path : List ℕ) → IsSomeAnd o (λ (re, found). (re.depth ≤ default_config.nest_limit) × SameCaptures a re.value × (names ≡ found) × (group_count a ≤ length names)) → AreBytes path → is_some (find_str a path 0) ≡ found_in o path
alike_is None a names path h bytes = absurd h
alike_is (Some (re, found)) a names path h bytes =
    sym (is_some-option_map spans (find_str a path 0)) ∙ ap is_some (find_str_alike a re.value h.1 path bytes 0) ∙ is_some-option_map spans (find_str re.value path 0)

-- and it is found where the text says
pub found_is : (text path : List ℕ) (r : Regex) → IsBuiltFrom text r → AreBytes path → found_by path r ≡ finds text path
unfolding Reads
found_is text path r built bytes = alike_is (read default_config (chars text)) (regex_pattern r) _ path (rw (built.source, built.plain) at built.is_read) bytes
