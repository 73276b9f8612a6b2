-- The literal text that parts begin and end with.
use Rattle.std.proofs.Common.{◌≡◌, ℕ, ◌+◌, ◌<◌, List, [], ◌∷◌, ◌++◌, length, get_or, take, Option, Some, encode_utf8, encode_utf8_all, refl, sym, ap, ◌∙◌, append-nil}
use Rattle.std.proofs.lemmas.List.{take_more}
use Rattle.std.proofs.lemmas.Str.{encodes-append}
use Rattle.hg_glob.specs.Part.{tail_from, literal_of, ended}
use Rattle.hg_glob.specs.declared.part.Part.{Part}

-- one character more
pub ended_bytes : (text : List ℕ) (o : Option ℕ) (c : ℕ) (old new : List ℕ) → o ≡ Some c → old ≡ encode_utf8_all text → new ≡ old ++ encode_utf8 c → new ≡ encode_utf8_all (ended text o)
ended_bytes text o c old new some old_is new_is =
    new_is ∙ ap (λ v. v ++ encode_utf8 c) old_is ∙ sym (encodes-append text (c ∷ []) ∙ ap (λ v. encode_utf8_all text ++ v) (append-nil (encode_utf8 c))) ∙ ap (λ v. encode_utf8_all (ended text v)) (sym some)

tail_append : (text : List ℕ) (parts more : List Part) → tail_from text (parts ++ more) ≡ tail_from (tail_from text parts) more
tail_append text [] more = refl
tail_append text (p ∷ parts) more = tail_append (ended text (literal_of p)) parts more

pub tail_more : (parts : List Part) (i : ℕ) (part other : Part) → i < length parts → part ≡ get_or parts i other → tail_from [] (take (i + 1) parts) ≡ ended (tail_from [] (take i parts)) (literal_of part)
tail_more parts i part other within same =
    ap (tail_from []) (take_more parts i other within) ∙ tail_append [] (take i parts) (get_or parts i other ∷ []) ∙ ap (λ p. ended (tail_from [] (take i parts)) (literal_of p)) (sym same)
