-- What a line of an ignore text is without its comment and the white space at its end (Mercurial's `hg help hgignore`); texts are bytes.
use Rattle.std.specs.Prelude.{ℕ, ◌-◌, if◌then◌else◌, Bool, false, not, ◌&&◌, ◌||◌, List, [], ◌∷◌, ◌++◌, length, take, drop, Option, Some, None, MatchOption, option_map, ◌==◌, ◌≡◌}
use Rattle.std.specs.Borrow.{Bor}
use Rattle.std.specs.List.{slice_split, list_any, prefix_len, suffix_len}

-- the byte stands in the text
abbrev pub has : ℕ → List ℕ → Bool
has at text = list_any (λ b. b == at) text

-- the pieces between the bytes of that value
abbrev pub pieces : ℕ → List ℕ → List (List ℕ)
pieces at text = slice_split (λ b. b == at) text

-- what is before and behind the first byte of that value
abbrev pub cut_at : ℕ → List ℕ → Option (List ℕ × List ℕ)
cut_at at [] = None
cut_at at (b ∷ text) = if b == at then Some ([], text) else option_map (λ p. (b ∷ p.0, p.1)) (cut_at at text)

-- the text at its first byte of that value, where it has one
abbrev pub IsCut : ℕ → List ℕ → Option (Bor (List ℕ) × Bor (List ℕ)) → Type 0
IsCut at text parts = MatchOption parts (has at text ≡ false) (λ p. (text ≡ p.0.now ++ at ∷ p.1.now) × (has at p.0.now ≡ false))

-- whether an odd number of backslashes stands at the end of the text, where `odd` says whether one stands in front of it: each
-- backslash changes that, and any other byte ends the row
abbrev pub odd_from : Bool → List ℕ → Bool
odd_from odd [] = odd
odd_from odd (b ∷ text) = odd_from (b == 92 && not odd) text

-- an odd number of backslashes stands at the end of the text
abbrev pub is_escaping : List ℕ → Bool
is_escaping text = odd_from false text

-- a text without its last byte
abbrev pub without_last : List ℕ → List ℕ
without_last text = take (length text - 1) text

-- the pieces between the `#`s of a line, put together up to the comment: a `#` with an odd number of backslashes before it stands
-- for itself, without the last of them; any other begins the comment
abbrev pub kept : List (List ℕ) → List ℕ
kept [] = []
kept (piece ∷ []) = piece
kept (piece ∷ next ∷ more) = if is_escaping piece then without_last piece ++ 35 ∷ kept (next ∷ more) else piece

-- a line without its comment
abbrev pub uncommented : List ℕ → List ℕ
uncommented line = kept (pieces 35 line)

-- space, tab, carriage return, vertical tab and form feed
abbrev pub is_white : ℕ → Bool
is_white b = b == 32 || b == 9 || b == 13 || b == 11 || b == 12

-- a text without the white space at its end
abbrev pub without_end : List ℕ → List ℕ
without_end text = take (length text - suffix_len is_white text) text

-- a text without the white space at its beginning
abbrev pub without_start : List ℕ → List ℕ
without_start text = drop (prefix_len is_white text) text

-- a text without the white space round it
abbrev pub trimmed : List ℕ → List ℕ
trimmed text = without_start (without_end text)

-- what a line says: no comment, and no white space at its end
abbrev pub text_of : List ℕ → List ℕ
text_of line = without_end (uncommented line)

-- the text without its last byte, where an odd number of backslashes stands at its end
abbrev pub escaped : List ℕ → Option (List ℕ)
escaped text = if is_escaping text then Some (without_last text) else None
