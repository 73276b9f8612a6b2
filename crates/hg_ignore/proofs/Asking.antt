-- What is asked of an ignore state.
use Rattle.std.proofs.Common.{◌≡◌, ℕ, ◌<◌, Bool, true, false, ◌||◌, ◌⊎◌, ◌↔◌, inl, inr, List, [], ◌∷◌, map, length, Option, Some, None, is_some, IsTrue, chars, refl, sym, subst, ap, ◌∙◌, arith, append-nil, length-append}
use Rattle.std.specs.List.{list_any}
use Rattle.std.proofs.lemmas.Bool.{both_ways}
use Rattle.regex.specs.Patterns.{Re, find_str}
use Rattle.regex.specs.Sets.{matches_of}
use Rattle.regex.specs.Strings.{regex_pattern}
use Rattle.regex.specs.declared.string.regex.Regex.{Regex}
use Rattle.regex.specs.declared.string.set.RegexSet.{RegexSet}
use Rattle.hg_base.specs.PathText.{is_path, is_below, parent_of, joined, base_of}
use Rattle.hg_base.specs.Within.{is_within}
use Rattle.hg_base.proofs.Within.{within_itself, within_below, within_split, within_trans, above_is, above_none}
use Rattle.hg_glob.specs.Part.{glob_of}
use Rattle.hg_glob.specs.Line.{Stands}
use Rattle.hg_glob.specs.Many.{SomeStands}
use Rattle.hg_glob.specs.declared.globs.GlobLine.{GlobLine}
use Rattle.hg_ignore.specs.Line.{Item, glob, regexp, unknown, included, lines_of}
use Rattle.hg_ignore.specs.Regexp.{AreBytes, finds, found_by}
use Rattle.hg_ignore.specs.State.{Piece, state_of, items_of, SomeMatches, Matches, Ignored, Hash}
use Rattle.hg_ignore.specs.Taking.{globs_of, regexps_of, warnings_of, Reaches}
use Rattle.hg_ignore.specs.Kept.{FindsAll, IsKept, DirIgnored, LawOfIgnored, patterns_kept, some_in}
use Rattle.hg_ignore.specs.declared.reading.Reading.{Reading}

-- the regexps of a set, as they are searched for
by_set : (path : List ℕ) (regexes : List Regex) → map (λ re. is_some (find_str re path 0)) (map regex_pattern regexes) ≡ map (found_by path) regexes
by_set path [] = refl
by_set path (r ∷ regexes) = ap (λ v. found_by path r ∷ v) (by_set path regexes)

-- what was read of a text is kept of its state
pub kept_of : (text kept : List ℕ) (reading : Reading) (globs : List GlobLine) (sets : List RegexSet) (hash : List ℕ) → kept ≡ text → Reaches (lines_of text) [] reading
    → ((path : List ℕ) → SomeStands globs path ↔ SomeStands reading.globs.items path) → patterns_kept sets ≡ map regex_pattern reading.regexes.items → hash ≡ Hash (state_of (Some text))
    → IsKept (state_of (Some kept)) globs sets hash reading.warnings
kept_of text kept reading globs sets hash same reaches stand patterns hashed =
    let P : List ℕ → Type 0 = λ v. IsKept (state_of (Some v)) globs sets hash reading.warnings in
    let all : items_of (state_of (Some text)) ≡ lines_of text = append-nil (lines_of text) in
    subst P (sym same) (record {
      globs_stand = λ path.
          let Q : List GlobLine → Type 0 = λ v. SomeStands globs path ↔ SomeStands v path in
          subst Q (sym (append-nil reading.globs.items) ∙ reaches.globs ∙ ap globs_of (sym all)) (stand path);
      finds_are = λ path bytes.
          ap (map (λ re. is_some (find_str re path 0))) patterns ∙ by_set path reading.regexes.items ∙ sym (append-nil (map (found_by path) reading.regexes.items)) ∙ reaches.found path bytes
          ∙ ap (λ items. map (λ text. finds text path) (regexps_of items)) (sym all);
      hash_is = hashed;
      warnings_are = sym (append-nil reading.warnings) ∙ reaches.warnings ∙ ap warnings_of (sym all);
    })

-- some regexp among what lines say is found
abbrev pub some_found : List Item → List ℕ → Bool
some_found items path = list_any (λ b. b) (map (λ text. finds text path) (regexps_of items))

or_first : (a b : Bool) → a ≡ true → (a || b) ≡ true
or_first a b h = ap (λ v. v || b) h

or_second : (a b : Bool) → b ≡ true → (a || b) ≡ true
or_second true b h = refl
or_second false b h = h

or_split : (a b : Bool) → (a || b) ≡ true → (a ≡ true) ⊎ (b ≡ true)
or_split true b h = inl refl
or_split false b h = inr h

later_found : (a b : Bool) (S : Type 0) → S ⊎ (b ≡ true) → S ⊎ ((a || b) ≡ true)
later_found a b S (inl s) = inl s
later_found a b S (inr h) = inr (or_second a b h)

later_stands : (A S : Type 0) (b : Bool) → S ⊎ (b ≡ true) → (A ⊎ S) ⊎ (b ≡ true)
later_stands A S b (inl s) = inl (inr s)
later_stands A S b (inr h) = inr h

pub match_stands : (items : List Item) (path : List ℕ) → SomeMatches items path → SomeStands (globs_of items) path ⊎ (some_found items path ≡ true)
match_stands [] path m = absurd m
match_stands (glob n rooted text ∷ items) path (inl m) = inl (inl m)
match_stands (glob n rooted text ∷ items) path (inr m) = later_stands (Stands false rooted (glob_of (chars text)) (chars path)) (SomeStands (globs_of items) path) (some_found items path) (match_stands items path m)
match_stands (regexp n text ∷ items) path (inl m) = inr (or_first (finds text path) (some_found items path) m)
match_stands (regexp n text ∷ items) path (inr m) = later_found (finds text path) (some_found items path) (SomeStands (globs_of items) path) (match_stands items path m)
match_stands (unknown n name ∷ items) path (inl m) = absurd m
match_stands (unknown n name ∷ items) path (inr m) = match_stands items path m
match_stands (included n ∷ items) path (inl m) = absurd m
match_stands (included n ∷ items) path (inr m) = match_stands items path m

pub stands_match : (items : List Item) (path : List ℕ) → SomeStands (globs_of items) path → SomeMatches items path
stands_match [] path s = absurd s
stands_match (glob n rooted text ∷ items) path (inl s) = inl s
stands_match (glob n rooted text ∷ items) path (inr s) = inr (stands_match items path s)
stands_match (regexp n text ∷ items) path s = inr (stands_match items path s)
stands_match (unknown n name ∷ items) path s = inr (stands_match items path s)
stands_match (included n ∷ items) path s = inr (stands_match items path s)

either_match : (text path : List ℕ) (b : Bool) (M : Type 0) → (b ≡ true → M) → (finds text path || b) ≡ true → IsTrue (finds text path) ⊎ M
either_match text path b M later h = elim (or_split (finds text path) b h) [ inl e ↦ inl e | inr e ↦ inr (later e) ]

pub found_match : (items : List Item) (path : List ℕ) → some_found items path ≡ true → SomeMatches items path
found_match [] path h = absurd (cc h)
found_match (glob n rooted text ∷ items) path h = inr (found_match items path h)
found_match (regexp n text ∷ items) path h = either_match text path (some_found items path) (SomeMatches items path) (found_match items path) h
found_match (unknown n name ∷ items) path h = inr (found_match items path h)
found_match (included n ∷ items) path h = inr (found_match items path h)

-- what a set of patterns answers, in the words of the lines
set_found : (state : List Piece) (patterns : List Re) (path : List ℕ) → FindsAll patterns state → AreBytes path → list_any (λ b. b) (matches_of true patterns path 0) ≡ some_found (items_of state) path
set_found state patterns path all bytes = ap (list_any (λ b. b)) (all path bytes)

-- where no glob stands in the path, the set decides
pub set_decides : (state : List Piece) (patterns : List Re) (path : List ℕ) (stands result : Bool) → FindsAll patterns state → AreBytes path → (IsTrue stands ↔ SomeStands (globs_of (items_of state)) path) → stands ≡ false
    → result ≡ some_in patterns path → IsTrue result ↔ Matches state path
set_decides state patterns path stands result all bytes globs none found = (
  λ h. found_match (items_of state) path (sym (set_found state patterns path all bytes) ∙ sym found ∙ h),
  λ m. elim (match_stands (items_of state) path m) [
    | inl s ↦ absurd (both_ways stands none (globs.1 s))
    | inr h ↦ found ∙ set_found state patterns path all bytes ∙ h
  ],
)

-- where one does, a line matches
pub glob_decides : (state : List Piece) (path : List ℕ) (stands : Bool) → (IsTrue stands ↔ SomeStands (globs_of (items_of state)) path) → stands ≡ true → IsTrue true ↔ Matches state path
glob_decides state path stands globs some = (λ _. stands_match (items_of state) path (globs.0 some), λ _. refl)

-- of what is on the way to a path, what matches is on the way to what is left of it
pub record AsksLeft (state : List Piece) (path left : List ℕ) : Type 0 where
  pub within : is_within left path ≡ true
  pub only : (at : List ℕ) → is_within at path ≡ true → Matches state at → is_within at left ≡ true

pub asks_first : (state : List Piece) (path : List ℕ) → AsksLeft state path path
asks_first state path = record { within = within_itself path; only = λ at w m. w }

up_from : (state : List Piece) (left at : List ℕ) → (Matches state left → ⊥) → is_within at left ≡ true → Matches state at → is_below at left ≡ true
up_from state left at none w m = elim (within_split at left w) [
  | inl e ↦ let P : List ℕ → Type 0 = λ v. Matches state v in absurd (none (subst P (sym e) m))
  | inr below ↦ below
]

-- one directory up
pub asks_more : (state : List Piece) (path left dir : List ℕ) → is_path left ≡ true → parent_of left ≡ Some dir → (Matches state left → ⊥) → AsksLeft state path left → AsksLeft state path dir
asks_more state path left dir good parent none asks =
    let above : is_within dir left ≡ true = within_below dir left (above_is dir left good parent dir ∙ within_itself dir) in
    record {
      within = within_trans dir left path above asks.within;
      only = λ at w m. sym (above_is dir left good parent at) ∙ up_from state left at none (asks.only at w m) m;
    }

-- at the root's names nothing is left
pub asks_last : (state : List Piece) (path left : List ℕ) → is_path left ≡ true → parent_of left ≡ None → (Matches state left → ⊥) → AsksLeft state path left → Ignored state path → ⊥
asks_last state path left good parent none asks (at, within, m) =
    both_ways (is_below at left) (above_none left good parent at) (up_from state left at none (asks.only at within m) m)

-- a parent is shorter
pub parent_shorter : (left dir : List ℕ) → joined (Some dir) (base_of left) ≡ left → length dir < length left
parent_shorter left dir e = omega (arith, ap length e, length-append dir (47 ∷ base_of left))

-- the law of a listing, by the path's directory
law_by : (state : List Piece) (path : List ℕ) (parent : Option (List ℕ)) → is_path path ≡ true → parent_of path ≡ parent → Ignored state path ↔ (DirIgnored state parent ⊎ Matches state path)
law_by state path None good e = (
  λ i. elim (within_split i.0 path i.1) [
    | inl same ↦ let P : List ℕ → Type 0 = λ v. Matches state v in inr (subst P (sym same) i.2)
    | inr below ↦ absurd (both_ways (is_below i.0 path) (above_none path good e i.0) below)
  ],
  λ d. elim d [ inl no_dir ↦ absurd no_dir | inr m ↦ (path, within_itself path, m) ],
)
law_by state path (Some dir) good e = (
  λ i. elim (within_split i.0 path i.1) [
    | inl same ↦ let P : List ℕ → Type 0 = λ v. Matches state v in inr (subst P (sym same) i.2)
    | inr below ↦ inl (i.0, sym (above_is dir path good e i.0) ∙ below, i.2)
  ],
  λ d. elim d [
    | inl i ↦ (i.0, within_below i.0 path (above_is dir path good e i.0 ∙ i.1), i.2)
    | inr m ↦ (path, within_itself path, m)
  ],
)

pub law_of_ignored : LawOfIgnored
law_of_ignored state path good = law_by state path (parent_of path) good refl

-- no line matches what was asked
pub no_match : (state asked : List Piece) (path : List ℕ) (b : Bool) → asked ≡ state → (IsTrue b ↔ Matches asked path) → b ≡ false → Matches state path → ⊥
no_match state asked path b same answer none m =
    let P : List Piece → Type 0 = λ v. Matches v path in
    both_ways b none (answer.1 (subst P (sym same) m))
