-- The regexps of sets, one set behind another.
use Rattle.std.proofs.Common.{◌≡◌, ℕ, ◌↔◌, Bool, true, false, ◌||◌, is_some, List, [], ◌∷◌, ◌++◌, ◌<◌, map, length, take, get_or, set, IsTrue, arith, refl, sym, ap, ◌∙◌, append-nil}
use Rattle.std.specs.List.{Any, flat_map, list_any}
use Rattle.std.proofs.lemmas.Grind.{flat_map-append}
use Rattle.std.proofs.Math.Seq.{map-set_same, take-length}
use Rattle.std.proofs.lemmas.List.{append_assoc, get_or-map, map-append}
use Rattle.std.proofs.lemmas.List.Concat.{flat_map-cons}
use Rattle.std.proofs.lemmas.List.Folds.{Any-from_list_any, list_any-append, list_any-from_Any, list_any_at}
use Rattle.regex.specs.Patterns.{Re, find_str}
use Rattle.regex.specs.Sets.{matches_of}
use Rattle.regex.specs.Strings.{regex_pattern, set_matcher_patterns, set_patterns}
use Rattle.regex.specs.declared.string.regex.Regex.{Regex}
use Rattle.regex.specs.declared.string.set.RegexSet.{RegexSet}
use Rattle.regex.specs.declared.string.set.SetMatcher.{SetMatcher}
use Rattle.hg_ignore.specs.Kept.{patterns_kept, some_in}

-- one regexp more in the part
pub part_more : (sets : List RegexSet) (part yielded all : List Regex) (regex : Regex) → patterns_kept sets ++ map regex_pattern part ≡ map regex_pattern yielded → all ≡ part ++ regex ∷ [] → patterns_kept sets ++ map regex_pattern all ≡ map regex_pattern (yielded ++ regex ∷ [])
part_more sets part yielded all regex so_far is =
    ap (λ (l : List Regex). patterns_kept sets ++ map regex_pattern l) is ∙ ap (λ (l : List Re). patterns_kept sets ++ l) (map-append regex_pattern part (regex ∷ []))
    ∙ sym (append_assoc (patterns_kept sets) (map regex_pattern part) (map regex_pattern (regex ∷ []))) ∙ ap (λ (l : List Re). l ++ map regex_pattern (regex ∷ [])) so_far
    ∙ sym (map-append regex_pattern yielded (regex ∷ []))

-- the part becomes a set
pub set_more : (sets more : List RegexSet) (set : RegexSet) (part yielded : List Regex) → patterns_kept sets ++ map regex_pattern part ≡ map regex_pattern yielded → more ≡ sets ++ set ∷ [] → set_patterns set ≡ map regex_pattern part
    → patterns_kept more ≡ map regex_pattern yielded
set_more sets more set part yielded so_far is patterns =
    ap patterns_kept is ∙ flat_map-append set_patterns sets (set ∷ []) ∙ ap (λ (l : List Re). patterns_kept sets ++ l) (append-nil (set_patterns set) ∙ patterns) ∙ so_far

-- a set finds what some pattern of it does
same_truth : (a b : Bool) → (IsTrue a → IsTrue b) → (IsTrue b → IsTrue a) → a ≡ b
same_truth true b there back = sym (there refl)
same_truth false true there back = back refl
same_truth false false there back = refl

pub found_is : (patterns : List Re) (text : List ℕ) (result : Bool) → (IsTrue result ↔ Any IsTrue (matches_of true patterns text 0)) → result ≡ some_in patterns text
found_is patterns text result found =
    same_truth result (some_in patterns text) (λ h. list_any-from_Any (λ b. b) (matches_of true patterns text 0) (found.0 h)) (λ h. found.1 (Any-from_list_any (λ b. b) (matches_of true patterns text 0) h))

in_either : (first more : List Re) (text : List ℕ) → some_in (first ++ more) text ≡ (some_in first text || some_in more text)
in_either first more text =
    ap (list_any (λ b. b)) (map-append (λ (re : Re). is_some (find_str re text 0)) first more) ∙ list_any-append (λ b. b) (matches_of true first text 0) (matches_of true more text 0)

-- the patterns of all sets find what those of some set do
pub in_some : (text : List ℕ) (sets : List (List Re)) → some_in (flat_map (λ patterns. patterns) sets) text ≡ list_any (λ patterns. some_in patterns text) sets
in_some text [] = refl
in_some text (patterns ∷ sets) =
    ap (λ (l : List Re). some_in l text) (flat_map-cons (λ (l : List Re). l) patterns sets) ∙ in_either patterns (flat_map (λ (l : List Re). l) sets) text
    ∙ ap (λ b. some_in patterns text || b) (in_some text sets)

-- the set at a place finds the text
pub found_there : (text : List ℕ) (sets asked : List (List Re)) (i : ℕ) → asked ≡ sets → i < length sets → true ≡ some_in (get_or asked i []) text → true ≡ some_in (flat_map (λ patterns. patterns) sets) text
found_there text sets asked i same within found =
    sym (ap (λ (l : List (List Re)). list_any (λ patterns. some_in patterns text) l) (sym same) ∙ list_any_at (λ patterns. some_in patterns text) asked i [] (omega (arith, within, ap length same)) (sym found)) ∙ sym (in_some text sets)

-- and none does
pub none_in : (text : List ℕ) (sets : List (List Re)) (i : ℕ) → i ≡ length sets → list_any (λ patterns. some_in patterns text) (take i sets) ≡ false → false ≡ some_in (flat_map (λ patterns. patterns) sets) text
none_in text sets i all none =
    sym none ∙ ap (λ n. list_any (λ patterns. some_in patterns text) (take n sets)) all ∙ ap (list_any (λ patterns. some_in patterns text)) (take-length sets) ∙ sym (in_some text sets)

-- the set at a place, and what stays where it is replaced by one that asks the same
module _ (all : List SetMatcher) (i : ℕ) (old : SetMatcher) (within : i < length all) (read : old ≡ get_or all i old) where
  pub set_at : (text : List ℕ) → some_in (get_or (map set_matcher_patterns all) i []) text ≡ some_in (set_matcher_patterns old) text
  set_at text = ap (λ (l : List Re). some_in l text) (get_or-map set_matcher_patterns all i old [] within ∙ ap set_matcher_patterns (sym read))

  pub sets_stay : (new : SetMatcher) → set_matcher_patterns new ≡ set_matcher_patterns old → map set_matcher_patterns (set all i new) ≡ map set_matcher_patterns all
  sets_stay new same = map-set_same set_matcher_patterns all i new old (same ∙ ap set_matcher_patterns read)
