-- The first fault of some parts.
use Rattle.std.proofs.Common.{◌≡◌, ℕ, ◌+◌, ◌<◌, ◌≤◌, List, [], ◌∷◌, length, get_or, drop, take, chars, cond, Option, Some, None, encode_utf8, encode_utf8_all, sym, ap, ◌∙◌, length-append, append-nil}
use Rattle.std.proofs.lemmas.List.{take_more}
use Rattle.std.proofs.lemmas.Str.{encodes-append}
use Rattle.std.proofs.lemmas.Bool.{le-ltb}
use Rattle.hg_glob.specs.Refusal.{closers, unclosed, reversed, first_fault, refusal, Refuses}
use Rattle.hg_glob.specs.Part.{parts_of}
use Rattle.hg_glob.specs.declared.fault.GlobFault.{GlobFault}
use Rattle.hg_glob.specs.declared.fault.GlobFault.TheVariants as a_fault
use Rattle.hg_glob.specs.declared.part.Part.{Part}

-- the parts from place k on were looked at
pub record LookedAt (parts : List Part) (k spare : ℕ) (found : Option ℕ) : Type 0 where
  pub place : k ≤ length parts
  pub spare_is : spare ≡ closers (drop k parts)
  pub found_is : found ≡ unclosed (drop k parts)
  pub few : spare + k ≤ length parts

-- one character more
pub bytes_more : (text : List ℕ) (i c d : ℕ) → i < length text → c ≡ get_or text i d → length (encode_utf8_all (take (i + 1) text)) ≡ length (encode_utf8_all (take i text)) + length (encode_utf8 c)
bytes_more text i c d within same =
    ap (λ v. length (encode_utf8_all v)) (take_more text i d within) ∙ ap length (encodes-append (take i text) (get_or text i d ∷ []))
    ∙ length-append (encode_utf8_all (take i text)) (encode_utf8_all (get_or text i d ∷ [])) ∙ ap (λ v. length (encode_utf8_all (take i text)) + length v) (append-nil (encode_utf8 (get_or text i d)))
    ∙ ap (λ v. length (encode_utf8_all (take i text)) + length (encode_utf8 v)) (sym same)

-- a fault that is the expected one refuses as it should
pub refuses_same : (fault answer : Option GlobFault) → answer ≡ fault → Refuses fault answer
refuses_same fault None same = same
refuses_same fault (Some a_fault.OutOfMemory) same = tt
refuses_same fault (Some (a_fault.TooLong len)) same = same
refuses_same fault (Some (a_fault.Unbalanced at)) same = same
refuses_same fault (Some (a_fault.Range at)) same = same

-- a text within the length is refused with the first fault of its parts
pub refusal_within : (text : List ℕ) → length text ≤ 4095 → refusal text ≡ first_fault (chars text) (unclosed (parts_of (chars text))) (reversed (parts_of (chars text)))
refusal_within text few = ap (λ b. cond b (Some (a_fault.TooLong (length text))) (first_fault (chars text) (unclosed (parts_of (chars text))) (reversed (parts_of (chars text))))) (le-ltb 4095 (length text) few)

pub refuses_first : (text cs : List ℕ) (parts : List Part) (answer : Option GlobFault) → length text ≤ 4095 → cs ≡ chars text → parts ≡ parts_of cs → answer ≡ first_fault cs (unclosed parts) (reversed parts) → Refuses (refusal text) answer
refuses_first text cs parts answer few cs_are parts_are answer_is =
    refuses_same (refusal text) answer
    (answer_is ∙ ap (λ ps. first_fault cs (unclosed ps) (reversed ps)) parts_are ∙ ap (λ v. first_fault v (unclosed (parts_of v)) (reversed (parts_of v))) cs_are ∙ sym (refusal_within text few))
