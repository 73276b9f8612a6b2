-- What parts in front make of what is read behind them, by the rules of a text that spells a glob.
use Rattle.std.proofs.Common.{◌≡◌, ℕ, suc, ◌+◌, ◌≤◌, Bool, false, cond, inl, inr, ◌==◌, List, [], ◌∷◌, ◌++◌, drop, Option, Some, None, refl, sym, ap, subst, ◌∙◌, arith}
use Rattle.std.proofs.lemmas.Bool.{le-ltb, ne_eqb}
use Rattle.hg_glob.specs.Pattern.{Pattern, Choices, Span, empty, literal, one, listed, star, any, slashes, braces, last, choice}
use Rattle.hg_glob.specs.Part.{Reading, before, reading, ranges, ranges_from, range_high, range_more, parts_from, with_choice}
use Rattle.hg_glob.specs.Refusal.{closers, closers_at, unclosed, unclosed_at, reversed, reversed_at, or_else}
use Rattle.hg_glob.specs.Syntax.{AreMembers, Spells, SpellsChoices}
use Rattle.hg_glob.specs.declared.part.Part.{Part}
use Rattle.hg_glob.specs.declared.part.Part.TheVariants as a_part
use Rattle.hg_glob.proofs.Classes.{class_parts, place_of}
use Rattle.hg_glob.proofs.Constructs.{Begun, any_parts, close_parts, comma_parts, inside, itself_parts, one_parts, open_parts, slashes_parts, star_parts}
use Rattle.hg_glob.proofs.Spelled.{ranges_end, ranges_step}

-- a part that is no brace and no reversed range
pub record IsQuiet (part : Part) : Type 0 where
  pub closes : (n : ℕ) → closers_at part n ≡ n
  pub opens : (n : ℕ) (behind : Option ℕ) → unclosed_at part n behind ≡ behind
  pub ordered : reversed_at part ≡ None

-- parts make a reading, and have the faults of those behind
pub record Grown (parts : List Part) (r : Reading) (behind : List Part) : Type 0 where
  pub is : reading parts ≡ r
  pub closers_are : closers parts ≡ closers behind
  pub unclosed_is : unclosed parts ≡ unclosed behind
  pub reversed_is : reversed parts ≡ reversed behind

-- a quiet part in front
grown_on : (part : Part) (all parts behind : List Part) (r : Reading) → IsQuiet part → all ≡ part ∷ parts → Grown parts r behind → Grown all (before part r) behind
grown_on part all parts behind r quiet is grown = record {
  is = ap reading is ∙ ap (before part) grown.is;
  closers_are = ap closers is ∙ quiet.closes (closers parts) ∙ grown.closers_are;
  unclosed_is = ap unclosed is ∙ quiet.opens (closers parts) (unclosed parts) ∙ grown.unclosed_is;
  reversed_is = ap reversed is ∙ ap (λ v. or_else v (reversed parts)) quiet.ordered ∙ grown.reversed_is;
}

-- ---- what a class lists

pub no_range : (low : ℕ) (rest : List ℕ) → ((high : ℕ) (more : List ℕ) → rest ≡ 45 ∷ high ∷ more → ⊥) → (range_high low rest ≡ low) × (range_more rest ≡ 0)
no_range low [] none = (refl, refl)
no_range low (dash ∷ []) none = (refl, refl)
no_range low (dash ∷ high ∷ more) none =
    let apart : (dash == 45) ≡ false = ne_eqb dash 45 (λ same. none high more (ap (λ v. v ∷ high ∷ more) same)) in
    (ap (λ b. cond b high low) apart, ap (λ b. cond b 2 0) apart)

pub range_quiet : (at low high : ℕ) → low ≤ high → IsQuiet (a_part.Range at low high)
range_quiet at low high ordered = record { closes = λ n. refl; opens = λ n behind. refl; ordered = ap (λ b. cond b (Some at) None) (le-ltb high low ordered) }

members_grown : (spans : List Span) (place : ℕ) (members : List ℕ) (behind : List Part) → AreMembers members spans → (reading behind).spans ≡ []
    → Grown (ranges_from 0 place members ++ behind) (record (reading behind) { spans = spans }) behind
members_grown [] place members behind none quiet =
    let same : ranges_from 0 place members ++ behind ≡ behind = ap (λ v. ranges_from 0 place v ++ behind) none ∙ ap (λ v. v ++ behind) (ranges_end place) in
    record {
      is = ap reading same ∙ ap (λ v. record (reading behind) { spans = v }) quiet;
      closers_are = ap closers same;
      unclosed_is = ap unclosed same;
      reversed_is = ap reversed same;
    }
members_grown (span ∷ spans) place members behind (rest, inl (is, ordered), are) quiet =
    let to : ℕ = place + (1 + 2) in
    let parts : List Part = ranges_from 0 to rest ++ behind in
    let part : Part = a_part.Range place span.low span.high in
    let split : ranges_from 0 place members ++ behind ≡ part ∷ parts =
    ap (λ v. ranges_from 0 place v ++ behind) is ∙ ap (λ v. v ++ behind) (ranges_step place span.low (45 ∷ span.high ∷ rest)) in
    grown_on part (ranges_from 0 place members ++ behind) parts behind (record (reading behind) { spans = spans }) (range_quiet place span.low span.high ordered) split (members_grown spans to rest behind are quiet)
members_grown (span ∷ spans) place members behind (rest, inr (is, alone, none), are) quiet =
    let to : ℕ = place + (1 + 0) in
    let parts : List Part = ranges_from 0 to rest ++ behind in
    let part : Part = a_part.Range place span.low span.high in
    let (high, more) = no_range span.low rest none in
    let split : ranges_from 0 place members ++ behind ≡ part ∷ parts =
    ap (λ v. ranges_from 0 place v ++ behind) is
    ∙ ap (λ v. v ++ behind) (ranges_step place span.low rest ∙ ap (λ h. a_part.Range place span.low h ∷ ranges_from 0 (place + (1 + range_more rest)) (drop (range_more rest) rest)) (high ∙ sym alone)
    ∙ ap (λ n. part ∷ ranges_from 0 (place + (1 + n)) (drop n rest)) more) in
    grown_on part (ranges_from 0 place members ++ behind) parts behind (record (reading behind) { spans = spans }) (range_quiet place span.low span.high (omega (arith, alone))) split (members_grown spans to rest behind are quiet)

-- ---- what a glob spells

-- at what is left a glob ends
pub record Ends (depth : ℕ) (left : List ℕ) : Type 0 where
  pub pattern : (to : ℕ) → (reading (parts_from 0 depth to left)).pattern ≡ empty
  pub spans : (to : ℕ) → (reading (parts_from 0 depth to left)).spans ≡ []

-- the parts of the text make the glob in front of what is left
pub record Made (depth at : ℕ) (text : List ℕ) (g : Pattern) (left : List ℕ) : Type 0 where
  pub to : ℕ
  pub grown : Grown (parts_from 0 depth at text) (record (reading (parts_from 0 depth to left)) { pattern = g }) (parts_from 0 depth to left)

made_spans : (depth at : ℕ) (text : List ℕ) (g : Pattern) (left : List ℕ) → Ends depth left → Made depth at text g left → (reading (parts_from 0 depth at text)).spans ≡ []
made_spans depth at text g left ends made = ap (λ (r : Reading). r.spans) made.grown.is ∙ ends.spans made.to

made_on : (depth at : ℕ) (text rest left : List ℕ) (part : Part) (g : Pattern) (put : Pattern → Pattern) → IsQuiet part → ((r : Reading) → before part r ≡ record r { pattern = put r.pattern })
    → (begun : Begun depth at text part depth rest) → Made depth begun.to rest g left → Made depth at text (put g) left
made_on depth at text rest left part g put quiet same begun made =
    let r : Reading = record (reading (parts_from 0 depth made.to left)) { pattern = g } in
    let P : Reading → Type 0 = λ v. Grown (parts_from 0 depth at text) v (parts_from 0 depth made.to left) in
    record { to = made.to; grown = subst P (same r) (grown_on part (parts_from 0 depth at text) (parts_from 0 depth begun.to rest) (parts_from 0 depth made.to left) r quiet begun.is made.grown) }

made_class : (negated : Bool) (spans : List Span) (depth at : ℕ) (text members rest : List ℕ) (g : Pattern) (left : List ℕ) (to : ℕ)
    → parts_from 0 depth at text ≡ a_part.Class negated ∷ (ranges (place_of negated at) members ++ parts_from 0 depth to rest) → AreMembers members spans → Ends depth left → Made depth to rest g left → Made depth at text (listed negated spans g) left
made_class negated spans depth at text members rest g left to is are ends made =
    let behind : List Part = parts_from 0 depth to rest in
    let list : List Part = ranges (place_of negated at) members ++ behind in
    let end : List Part = parts_from 0 depth made.to left in
    let r : Reading = record (reading end) { pattern = g } in
    let class = members_grown spans (place_of negated at) members behind are (made_spans depth to rest g left ends made) in
    let all : Grown list (record r { spans = spans }) end = record {
      is = class.is ∙ ap (λ (v : Reading). record v { spans = spans }) made.grown.is;
      closers_are = class.closers_are ∙ made.grown.closers_are;
      unclosed_is = class.unclosed_is ∙ made.grown.unclosed_is;
      reversed_is = class.reversed_is ∙ made.grown.reversed_is;
    } in
    let P : Reading → Type 0 = λ v. Grown (parts_from 0 depth at text) v end in
    let quiet : IsQuiet (a_part.Class negated) = record { closes = λ n. refl; opens = λ n b. refl; ordered = refl } in
    record { to = made.to; grown = subst P (ap (λ v. record r { pattern = listed negated spans g; spans = v }) (sym (ends.spans made.to))) (grown_on (a_part.Class negated) (parts_from 0 depth at text) list end (record r { spans = spans }) quiet is all) }

-- the parts of the text make the choices up to what stands behind their `}`
pub record Chosen (depth at : ℕ) (text : List ℕ) (choices : Choices) (rest : List ℕ) : Type 0 where
  to : ℕ
  first : Pattern
  more : Option Choices
  are : with_choice first more ≡ choices
  is : reading (parts_from 0 (suc depth) at text)
      ≡ record { pattern = first; spans = []; frames = record { choices = more; behind = (reading (parts_from 0 depth to rest)).pattern } ∷ (reading (parts_from 0 depth to rest)).frames }
  closers_are : closers (parts_from 0 (suc depth) at text) ≡ closers (parts_from 0 depth to rest) + 1
  unclosed_is : unclosed (parts_from 0 (suc depth) at text) ≡ unclosed (parts_from 0 depth to rest)
  reversed_is : reversed (parts_from 0 (suc depth) at text) ≡ reversed (parts_from 0 depth to rest)

-- where the choices end
ends_close : (depth : ℕ) (rest : List ℕ) → ((to : ℕ) → (reading (parts_from 0 depth to rest)).spans ≡ []) → Ends (suc depth) (125 ∷ rest)
ends_close depth rest none = record {
  pattern = λ to. ap (λ ps. (reading ps).pattern) (close_parts depth to (125 ∷ rest) rest refl).is;
  spans = λ to.
      let begun = close_parts depth to (125 ∷ rest) rest refl in
      ap (λ ps. (reading ps).spans) begun.is ∙ none begun.to;
}

chosen_last : (depth at : ℕ) (text : List ℕ) (g : Pattern) (rest : List ℕ) → ((to : ℕ) → (reading (parts_from 0 depth to rest)).spans ≡ []) → Made (suc depth) at text g (125 ∷ rest) → Chosen depth at text (last g) rest
chosen_last depth at text g rest none made =
    let begun = close_parts depth made.to (125 ∷ rest) rest refl in
    let behind : Reading = reading (parts_from 0 depth begun.to rest) in
    record {
      to = begun.to;
      first = g;
      more = None;
      are = refl;
      is = made.grown.is ∙ ap (λ ps. record (reading ps) { pattern = g }) begun.is ∙ ap (λ v. record { pattern = g; spans = v; frames = record { choices = None; behind = behind.pattern } ∷ behind.frames }) (none begun.to);
      closers_are = made.grown.closers_are ∙ ap closers begun.is;
      unclosed_is = made.grown.unclosed_is ∙ ap unclosed begun.is;
      reversed_is = made.grown.reversed_is ∙ ap reversed begun.is;
    }

-- and where one choice ends before another
comma_read : (depth to : ℕ) (more : List ℕ) (choices : Choices) (rest : List ℕ) → (begun : Begun (suc depth) to (44 ∷ more) a_part.Comma (suc depth) more) → (chosen : Chosen depth begun.to more choices rest)
    → reading (parts_from 0 (suc depth) to (44 ∷ more))
    ≡ record { pattern = empty; spans = []; frames = record { choices = Some choices; behind = (reading (parts_from 0 depth chosen.to rest)).pattern } ∷ (reading (parts_from 0 depth chosen.to rest)).frames }
comma_read depth to more choices rest begun chosen =
    let behind : Reading = reading (parts_from 0 depth chosen.to rest) in
    ap reading begun.is ∙ ap (before a_part.Comma) chosen.is ∙ ap (λ cs. record { pattern = empty; spans = []; frames = record { choices = Some cs; behind = behind.pattern } ∷ behind.frames }) chosen.are

ends_comma : (depth : ℕ) (more : List ℕ) (choices : Choices) (rest : List ℕ) → ((at : ℕ) → Chosen depth at more choices rest) → Ends (suc depth) (44 ∷ more)
ends_comma depth more choices rest chosen = record {
  pattern = λ to.
      let begun = comma_parts depth to (44 ∷ more) more refl in
      ap (λ (r : Reading). r.pattern) (comma_read depth to more choices rest begun (chosen begun.to));
  spans = λ to.
      let begun = comma_parts depth to (44 ∷ more) more refl in
      ap (λ (r : Reading). r.spans) (comma_read depth to more choices rest begun (chosen begun.to));
}

chosen_more : (depth at : ℕ) (text : List ℕ) (g : Pattern) (more : List ℕ) (choices : Choices) (rest : List ℕ) → ((at : ℕ) → Chosen depth at more choices rest) → Made (suc depth) at text g (44 ∷ more) → Chosen depth at text (choice g choices) rest
chosen_more depth at text g more choices rest chosen made =
    let begun = comma_parts depth made.to (44 ∷ more) more refl in
    let behind = chosen begun.to in
    record {
      to = behind.to;
      first = g;
      more = Some choices;
      are = refl;
      is = made.grown.is ∙ ap (λ (v : Reading). record v { pattern = g }) (comma_read depth made.to more choices rest begun behind);
      closers_are = made.grown.closers_are ∙ ap closers begun.is ∙ behind.closers_are;
      unclosed_is = made.grown.unclosed_is ∙ ap unclosed begun.is ∙ behind.unclosed_is;
      reversed_is = made.grown.reversed_is ∙ ap reversed begun.is ∙ behind.reversed_is;
    }

-- braces in front
made_braces : (depth at : ℕ) (text within : List ℕ) (choices : Choices) (rest : List ℕ) (g : Pattern) (left : List ℕ) → (begun : Begun depth at text (a_part.Open at) (suc depth) within) → (chosen : Chosen depth begun.to within choices rest)
    → Ends depth left → Made depth chosen.to rest g left → Made depth at text (braces choices g) left
made_braces depth at text within choices rest g left begun chosen ends made =
    let end : Reading = reading (parts_from 0 depth made.to left) in
    let behind : Reading = reading (parts_from 0 depth chosen.to rest) in
    let some : (closers (parts_from 0 (suc depth) begun.to within) == 0) ≡ false = ne_eqb (closers (parts_from 0 (suc depth) begun.to within)) 0 (λ none. omega (arith, none, chosen.closers_are)) in
    record {
      to = made.to;
      grown = record {
        is = ap reading begun.is ∙ ap (before (a_part.Open at)) chosen.is ∙ ap (λ cs. record { pattern = braces cs behind.pattern; spans = []; frames = behind.frames }) chosen.are
            ∙ ap (λ (r : Reading). record { pattern = braces choices r.pattern; spans = []; frames = r.frames }) made.grown.is
            ∙ ap (λ v. record { pattern = braces choices g; spans = v; frames = end.frames }) (sym (ends.spans made.to));
        closers_are = ap closers begun.is ∙ omega (arith, chosen.closers_are, made.grown.closers_are);
        unclosed_is = ap unclosed begun.is ∙ ap (λ b. cond b (Some at) (unclosed (parts_from 0 (suc depth) begun.to within))) some ∙ chosen.unclosed_is ∙ made.grown.unclosed_is;
        reversed_is = ap reversed begun.is ∙ chosen.reversed_is ∙ made.grown.reversed_is;
      };
    }

pub literal_quiet : (c : ℕ) → IsQuiet (a_part.Literal c)
literal_quiet c = record { closes = λ n. refl; opens = λ n b. refl; ordered = refl }

mutual
  pub glob_made : (g : Pattern) (depth at : ℕ) (text left : List ℕ) → Spells (inside depth) text g left → Ends depth left → Made depth at text g left
  glob_made empty depth at text left is ends =
      let same : parts_from 0 depth at text ≡ parts_from 0 depth at left = ap (parts_from 0 depth at) is in
      record {
        to = at;
        grown = record {
          is = ap reading same ∙ ap (λ v. record (reading (parts_from 0 depth at left)) { pattern = v }) (ends.pattern at);
          closers_are = ap closers same;
          unclosed_is = ap unclosed same;
          reversed_is = ap reversed same;
        };
      }
  glob_made (literal c g) depth at text left (rest, is, s) ends =
      let begun = itself_parts depth at c text rest is in
      made_on depth at text rest left (a_part.Literal c) g (literal c) (literal_quiet c) (λ r. refl) begun (glob_made g depth begun.to rest left s ends)
  glob_made (one g) depth at text left (rest, is, s) ends =
      let begun = one_parts depth at text rest is in
      made_on depth at text rest left a_part.One g one (record { closes = λ n. refl; opens = λ n b. refl; ordered = refl }) (λ r. refl) begun (glob_made g depth begun.to rest left s ends)
  glob_made (listed negated spans g) depth at text left (members, rest, class, are, s) ends =
      let (to, is) = class_parts negated depth at text members rest class in
      made_class negated spans depth at text members rest g left to is are ends (glob_made g depth to rest left s ends)
  glob_made (star g) depth at text left (rest, is, other, s) ends =
      let begun = star_parts depth at text rest is other in
      made_on depth at text rest left a_part.Star g star (record { closes = λ n. refl; opens = λ n b. refl; ordered = refl }) (λ r. refl) begun (glob_made g depth begun.to rest left s ends)
  glob_made (any g) depth at text left (rest, is, other, s) ends =
      let begun = any_parts depth at text rest is other in
      made_on depth at text rest left a_part.Any g any (record { closes = λ n. refl; opens = λ n b. refl; ordered = refl }) (λ r. refl) begun (glob_made g depth begun.to rest left s ends)
  glob_made (slashes g) depth at text left (rest, is, s) ends =
      let begun = slashes_parts depth at text rest is in
      made_on depth at text rest left a_part.Slashes g slashes (record { closes = λ n. refl; opens = λ n b. refl; ordered = refl }) (λ r. refl) begun (glob_made g depth begun.to rest left s ends)
  glob_made (braces choices g) depth at text left (within, rest, is, c, s) ends =
      let begun = open_parts depth at text within is in
      let chosen = choices_made choices depth begun.to within rest c (λ to. made_spans depth to rest g left ends (glob_made g depth to rest left s ends)) in
      made_braces depth at text within choices rest g left begun chosen ends (glob_made g depth chosen.to rest left s ends)

  choices_made : (choices : Choices) (depth at : ℕ) (text rest : List ℕ) → SpellsChoices text choices rest → ((to : ℕ) → (reading (parts_from 0 depth to rest)).spans ≡ []) → Chosen depth at text choices rest
  choices_made (last g) depth at text rest s none = chosen_last depth at text g rest none (glob_made g (suc depth) at text (125 ∷ rest) s (ends_close depth rest none))
  choices_made (choice g choices) depth at text rest (more, s, c) none =
      let chosen : (at : ℕ) → Chosen depth at more choices rest = λ to. choices_made choices depth to more rest c none in
      chosen_more depth at text g more choices rest chosen (glob_made g (suc depth) at text (44 ∷ more) s (ends_comma depth more choices rest chosen))
