-- Lines that are taken in, one behind another.
use Rattle.std.proofs.Common.{◌≡◌, ℕ, ◌+◌, Bool, true, false, not, cond, List, [], ◌∷◌, ◌++◌, map, Option, Some, None, is_some, refl, sym, subst, ap, ◌∙◌, append_assoc, append-nil, ◌&&◌, ◌||◌}
use Rattle.std.proofs.lemmas.List.{map-append}
use Rattle.regex.specs.declared.string.regex.Regex.{Regex}
use Rattle.hg_syntax.specs.Text.{has, pieces, text_of}
use Rattle.hg_ignore.specs.Line.{Item, glob, regexp, unknown, included, Said, said, lines_from, lines_of}
use Rattle.hg_ignore.specs.Regexp.{finds, found_by, IsBuiltFrom}
use Rattle.hg_ignore.specs.Taking.{globs_of, regexps_of, warnings_of, fault_at, or_else, first_fault, is_regexp_at, comes_to, HasLineCause, Taken, Reaches}
use Rattle.hg_ignore.specs.declared.reading.Reading.{Reading}
use Rattle.hg_syntax.specs.declared.syntax.Syntax.{Syntax}
use Rattle.hg_syntax.specs.declared.syntax.Syntax.TheVariants as a_syntax
use Rattle.hg_ignore.specs.declared.fault.IgnoreFault.{IgnoreFault}
use Rattle.hg_ignore.specs.declared.fault.IgnoreFault.TheVariants as a_fault
use Rattle.hg_ignore.proofs.Compiled.{built_is, found_is}
use Rattle.hg_syntax.proofs.Texts.{cut_pieces, plain_pieces}

-- a regexp that was built is taken in
pub taken_regexp : (n : ℕ) (text : List ℕ) (old new : Reading) (regex : Regex) → new.regexes.items ≡ old.regexes.items ++ regex ∷ [] → new.globs.items ≡ old.globs.items → new.warnings ≡ old.warnings → new.syntax ≡ old.syntax → IsBuiltFrom text regex
    → Taken (record { items = regexp n text ∷ []; syntax = old.syntax }) old new
taken_regexp n text old new regex put globs warned same built = record {
  syntax = same;
  globs = globs ∙ sym (append-nil old.globs.items);
  found = λ path bytes.
      ap (map (found_by path)) put ∙ map-append (found_by path) old.regexes.items (regex ∷ []) ∙ ap (λ b. map (found_by path) old.regexes.items ++ b ∷ []) (found_is text path regex built bytes);
  warnings = warned ∙ sym (append-nil old.warnings);
  faultless = ap (λ t. or_else (cond t None (Some (a_fault.BadRegexp n))) None) (built_is text regex built);
}

globs_join : (a b : List Item) → globs_of (a ++ b) ≡ globs_of a ++ globs_of b
globs_join [] b = refl
globs_join (glob n rooted text ∷ a) b = ap (λ v. record { rooted = rooted; glob = text } ∷ v) (globs_join a b)
globs_join (regexp n text ∷ a) b = globs_join a b
globs_join (unknown n name ∷ a) b = globs_join a b
globs_join (included n ∷ a) b = globs_join a b

regexps_join : (a b : List Item) → regexps_of (a ++ b) ≡ regexps_of a ++ regexps_of b
regexps_join [] b = refl
regexps_join (glob n rooted text ∷ a) b = regexps_join a b
regexps_join (regexp n text ∷ a) b = ap (λ v. text ∷ v) (regexps_join a b)
regexps_join (unknown n name ∷ a) b = regexps_join a b
regexps_join (included n ∷ a) b = regexps_join a b

warnings_join : (a b : List Item) → warnings_of (a ++ b) ≡ warnings_of a ++ warnings_of b
warnings_join [] b = refl
warnings_join (glob n rooted text ∷ a) b = warnings_join a b
warnings_join (regexp n text ∷ a) b = warnings_join a b
warnings_join (unknown n name ∷ a) b = ap (λ v. record { line = n; name = name } ∷ v) (warnings_join a b)
warnings_join (included n ∷ a) b = warnings_join a b

or_none : (a b : Option IgnoreFault) → or_else a b ≡ None → (a ≡ None) × (b ≡ None)
or_none None b e = (refl, e)
or_none (Some f) b e = absurd (cc e)

-- the first fault of lines of which the first ones have none, and where they have one
fault_behind : (a b : List Item) → first_fault a ≡ None → first_fault (a ++ b) ≡ first_fault b
fault_behind [] b none = refl
fault_behind (item ∷ a) b none =
    let (here, later) = or_none (fault_at item) (first_fault a) none in
    ap (λ o. or_else o (first_fault (a ++ b))) here ∙ fault_behind a b later

or_some : (a b c : Option IgnoreFault) (f : IgnoreFault) → or_else a b ≡ Some f → (b ≡ Some f → c ≡ Some f) → or_else a c ≡ Some f
or_some None b c f e more = more e
or_some (Some g) b c f e more = e

fault_among : (a b : List Item) (f : IgnoreFault) → first_fault a ≡ Some f → first_fault (a ++ b) ≡ Some f
fault_among [] b f e = absurd (cc e)
fault_among (item ∷ a) b f e = or_some (fault_at item) (first_fault a) (first_fault (a ++ b)) f e (fault_among a b f)

tests_more : (p q x y : Bool) → (x ≡ true → y ≡ true) → (p || (q && x)) ≡ true → (p || (q && y)) ≡ true
tests_more true q x y more h = refl
tests_more false true x y more h = more h
tests_more false false x y more h = h

comes_among : (line : ℕ) (a b : List Item) → comes_to line a ≡ true → comes_to line (a ++ b) ≡ true
comes_among line [] b e = absurd (cc e)
comes_among line (item ∷ a) b e = tests_more (is_regexp_at line item) (not (is_some (fault_at item))) (comes_to line a) (comes_to line (a ++ b)) (comes_among line a b) e

passed : (p : Bool) (o : Option IgnoreFault) (x y : Bool) → o ≡ None → (x ≡ y) → y ≡ true → (p || (not (is_some o) && x)) ≡ true
passed true o x y none same h = refl
passed false o x y none same h = ap (λ v. not (is_some v) && x) none ∙ same ∙ h

comes_behind : (line : ℕ) (a b : List Item) → first_fault a ≡ None → comes_to line b ≡ true → comes_to line (a ++ b) ≡ true
comes_behind line [] b none h = h
comes_behind line (item ∷ a) b none h =
    let (here, later) = or_none (fault_at item) (first_fault a) none in
    passed (is_regexp_at line item) (fault_at item) (comes_to line (a ++ b)) true here (comes_behind line a b later h) refl

-- a reading that took in what stands in front of the rest
pub reach_more : (all rest : List Item) (s : Said) (old new : Reading) → Reaches all (s.items ++ rest) old → Taken s old new → Reaches all rest new
reach_more all rest s old new reaches taken = record {
  globs =
      ap (λ v. v ++ globs_of rest) taken.globs ∙ append_assoc old.globs.items (globs_of s.items) (globs_of rest) ∙ ap (λ v. old.globs.items ++ v) (sym (globs_join s.items rest)) ∙ reaches.globs;
  found = λ path bytes.
      let by : List ℕ → Bool = λ text. finds text path in
      ap (λ v. v ++ map by (regexps_of rest)) (taken.found path bytes) ∙ append_assoc (map (found_by path) old.regexes.items) (map by (regexps_of s.items)) (map by (regexps_of rest))
      ∙ ap (λ v. map (found_by path) old.regexes.items ++ v) (sym (map-append by (regexps_of s.items) (regexps_of rest)) ∙ ap (map by) (sym (regexps_join s.items rest))) ∙ reaches.found path bytes;
  warnings =
      ap (λ v. v ++ warnings_of rest) taken.warnings ∙ append_assoc old.warnings (warnings_of s.items) (warnings_of rest) ∙ ap (λ v. old.warnings ++ v) (sym (warnings_join s.items rest)) ∙ reaches.warnings;
  fault = sym (fault_behind s.items rest taken.faultless) ∙ reaches.fault;
  comes = λ line h. reaches.comes line (comes_behind line s.items rest taken.faultless h);
}

-- why a line is refused is why all lines are
pub cause_more : (all items rest : List Item) (old : Reading) (f : IgnoreFault) → Reaches all (items ++ rest) old → HasLineCause items f → HasLineCause all f
cause_more all items rest old a_fault.OutOfMemory reaches cause = tt
cause_more all items rest old a_fault.Failed reaches cause = absurd cause
cause_more all items rest old (a_fault.IgnoreTooLarge size) reaches cause = absurd cause
cause_more all items rest old (a_fault.IgnoreText at) reaches cause = absurd cause
cause_more all items rest old (a_fault.BadGlob line) reaches cause = sym reaches.fault ∙ fault_among items rest _ cause
cause_more all items rest old (a_fault.BadRegexp line) reaches cause = sym reaches.fault ∙ fault_among items rest _ cause
cause_more all items rest old (a_fault.RegexpTooBig line) reaches cause = reaches.comes line (comes_among line items rest cause)
cause_more all items rest old (a_fault.BadInclude line) reaches cause = sym reaches.fault ∙ fault_among items rest _ cause

-- nothing was read
pub reach_first : (all : List Item) (reading : Reading) → reading.globs.items ≡ [] → reading.regexes.items ≡ [] → reading.warnings ≡ [] → Reaches all all reading
reach_first all reading globs regexes warned = record {
  globs = ap (λ v. v ++ globs_of all) globs;
  found = λ path bytes. ap (λ v. map (found_by path) v ++ map (λ text. finds text path) (regexps_of all)) regexes;
  warnings = ap (λ v. v ++ warnings_of all) warned;
  fault = refl;
  comes = λ line h. h;
}

-- what is left of a text from that line on
abbrev pub left_from : ℕ → Syntax → List ℕ → List Item
left_from n syntax text = lines_from n syntax (pieces 10 text)

pub left_more : (n : ℕ) (syntax : Syntax) (text line rest : List ℕ) → text ≡ line ++ 10 ∷ rest → has 10 line ≡ false
    → left_from n syntax text ≡ (said n syntax (text_of line)).items ++ left_from (n + 1) (said n syntax (text_of line)).syntax rest
left_more n syntax text line rest e plain = ap (lines_from n syntax) (cut_pieces 10 text line rest e plain)

pub left_last : (n : ℕ) (syntax : Syntax) (text : List ℕ) → has 10 text ≡ false → left_from n syntax text ≡ (said n syntax (text_of text)).items ++ []
left_last n syntax text plain = ap (lines_from n syntax) (plain_pieces 10 text plain)

-- a line more, as the loop has it
pub taken_more : (all : List Item) (n : ℕ) (text line rest : List ℕ) (old new : Reading) → text ≡ line ++ 10 ∷ rest → has 10 line ≡ false
    → Reaches all (left_from n old.syntax text) old → Taken (said n old.syntax (text_of line)) old new → Reaches all (left_from (n + 1) new.syntax rest) new
taken_more all n text line rest old new e plain reaches taken =
    let s = said n old.syntax (text_of line) in
    let whole : Reaches all (s.items ++ left_from (n + 1) s.syntax rest) old = rw (sym (left_more n old.syntax text line rest e plain)) reaches in
    let P : Syntax → Type 0 = λ syntax. Reaches all (left_from (n + 1) syntax rest) new in
    subst P (sym taken.syntax) (reach_more all (left_from (n + 1) s.syntax rest) s old new whole taken)

pub caused_more : (all : List Item) (n : ℕ) (text line rest : List ℕ) (old : Reading) (f : IgnoreFault) → text ≡ line ++ 10 ∷ rest → has 10 line ≡ false
    → Reaches all (left_from n old.syntax text) old → HasLineCause (said n old.syntax (text_of line)).items f → HasLineCause all f
caused_more all n text line rest old f e plain reaches cause =
    let s = said n old.syntax (text_of line) in
    let whole : Reaches all (s.items ++ left_from (n + 1) s.syntax rest) old = rw (sym (left_more n old.syntax text line rest e plain)) reaches in
    cause_more all s.items (left_from (n + 1) s.syntax rest) old f whole cause

-- the last line
pub taken_last : (all : List Item) (n : ℕ) (text : List ℕ) (old new : Reading) → has 10 text ≡ false → Reaches all (left_from n old.syntax text) old → Taken (said n old.syntax (text_of text)) old new → Reaches all [] new
taken_last all n text old new plain reaches taken =
    let s = said n old.syntax (text_of text) in
    let whole : Reaches all (s.items ++ []) old = rw (sym (left_last n old.syntax text plain)) reaches in
    reach_more all [] s old new whole taken

pub caused_last : (all : List Item) (n : ℕ) (text : List ℕ) (old : Reading) (f : IgnoreFault) → has 10 text ≡ false → Reaches all (left_from n old.syntax text) old → HasLineCause (said n old.syntax (text_of text)).items f → HasLineCause all f
caused_last all n text old f plain reaches cause =
    let s = said n old.syntax (text_of text) in
    let whole : Reaches all (s.items ++ []) old = rw (sym (left_last n old.syntax text plain)) reaches in
    cause_more all s.items [] old f whole cause

-- before the first line, which has the number 1
pub read_first : (text : List ℕ) (n : ℕ) (reading : Reading) → n ≡ 1 → reading.syntax ≡ a_syntax.Regexp → reading.globs.items ≡ [] → reading.regexes.items ≡ [] → reading.warnings ≡ [] → Reaches (lines_of text) (left_from n reading.syntax text) reading
read_first text n reading first syntax globs regexes warned =
    let P : Syntax → Type 0 = λ s. Reaches (lines_of text) (left_from n s text) reading in
    let Q : ℕ → Type 0 = λ k. Reaches (lines_of text) (left_from k a_syntax.Regexp text) reading in
    subst P (sym syntax) (subst Q (sym first) (reach_first (lines_of text) reading globs regexes warned))
