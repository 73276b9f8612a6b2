-- The front of a line, from its parts.
use Rattle.std.proofs.Common.{◌≡◌, ℕ, ◌<◌, Bool, true, false, cond, List, length, take, drop, Option, Some, None, option_map, is_some, refl, sym, ap, ◌∙◌, subst, arith}
use Rattle.std.specs.List.{before_first, after_first}
use Rattle.std.proofs.lemmas.List.{length-take}
use Rattle.hg_base.specs.declared.id.Id20.{Id20}
use Rattle.hg_manifest.specs.Line.{Ending, Line, ending, id_of, is_file_path, is_nul, line_behind, line_from, line_of}
use Rattle.hg_manifest.specs.Front.{IsFront, rest_behind, rest_from}
use Rattle.hg_manifest.specs.declared.line.Front.{Front}
use Rattle.hg_manifest.proofs.Digits.{other_length}

none_from : (id : Option Id20) (end : Option Ending) → is_some id ≡ false → rest_from id end ≡ None
none_from None end none = refl
none_from (Some id) end none = absurd (cc none)

some_from : (id : Option Id20) (end : Option Ending) → is_some id ≡ true → rest_from id end ≡ option_map (λ end. end.rest) end
some_from None end some = absurd (cc some)
some_from (Some id) None some = refl
some_from (Some id) (Some end) some = refl

pub short_tail : (behind : List ℕ) → length behind < 40 → rest_behind behind ≡ None
short_tail behind short =
    none_from (id_of (take 40 behind)) (ending (drop 40 behind)) (other_length (take 40 behind) (λ len. omega (arith, len, length-take 40 behind, short)))

pub no_digits : (behind : List ℕ) → is_some (id_of (take 40 behind)) ≡ false → rest_behind behind ≡ None
no_digits behind none = none_from (id_of (take 40 behind)) (ending (drop 40 behind)) none

pub digits_tail : (behind : List ℕ) → is_some (id_of (take 40 behind)) ≡ true → rest_behind behind ≡ option_map (λ end. end.rest) (ending (drop 40 behind))
digits_tail behind some = some_from (id_of (take 40 behind)) (ending (drop 40 behind)) some

-- the line of a text, by its parts
pub cut_line : (text path behind : List ℕ) → path ≡ before_first is_nul text → behind ≡ after_first is_nul text → line_behind path behind ≡ line_of text
cut_line text path behind before after = ap (λ (p : List ℕ). line_behind p behind) before ∙ ap (line_behind (before_first is_nul text)) after

no_line : (t : Bool) (path : List ℕ) (id : Option Id20) (end : Option Ending) → cond t (Some path) None ≡ None → IsFront (cond t (line_from path id end) None) None
no_line true path id end none = absurd (cc none)
no_line false path id end none = tt

no_rest : (t : Bool) (path : List ℕ) (id : Option Id20) (end : Option Ending) → rest_from id end ≡ None → IsFront (cond t (line_from path id end) None) None
no_rest true path None end none = tt
no_rest true path (Some id) None none = tt
no_rest true path (Some id) (Some end) none = absurd (cc none)
no_rest false path id end none = tt

a_line : (t : Bool) (path : List ℕ) (id : Option Id20) (end : Option Ending) (front : Front) → cond t (Some path) None ≡ Some front.path.text.now → rest_from id end ≡ Some front.rest.now → IsFront (cond t (line_from path id end) None) (Some front)
a_line true path None end front some rest = absurd (cc rest)
a_line true path (Some id) None front some rest = absurd (cc rest)
a_line true path (Some id) (Some end) front some rest = (sym (cc some), sym (cc rest))
a_line false path id end front some rest = absurd (cc some)

pub front_no_path : (text path behind : List ℕ) → path ≡ before_first is_nul text → behind ≡ after_first is_nul text → cond (is_file_path path) (Some path) None ≡ None → IsFront (line_of text) None
front_no_path text path behind before after none =
    subst (λ (l : Option Line). IsFront l None) (cut_line text path behind before after) (no_line (is_file_path path) path (id_of (take 40 behind)) (ending (drop 40 behind)) none)

pub front_no_rest : (text path behind : List ℕ) → path ≡ before_first is_nul text → behind ≡ after_first is_nul text → rest_behind behind ≡ None → IsFront (line_of text) None
front_no_rest text path behind before after none =
    subst (λ (l : Option Line). IsFront l None) (cut_line text path behind before after) (no_rest (is_file_path path) path (id_of (take 40 behind)) (ending (drop 40 behind)) none)

pub front_of : (text path behind : List ℕ) (front : Front) → path ≡ before_first is_nul text → behind ≡ after_first is_nul text → cond (is_file_path path) (Some path) None ≡ Some front.path.text.now
    → rest_behind behind ≡ Some front.rest.now → IsFront (line_of text) (Some front)
front_of text path behind front before after some rest =
    subst (λ (l : Option Line). IsFront l (Some front)) (cut_line text path behind before after) (a_line (is_file_path path) path (id_of (take 40 behind)) (ending (drop 40 behind)) front some rest)
