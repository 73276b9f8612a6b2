-- Identifiers as numbers: the next one is one above, in sixteen hexadecimal digits.
use Rattle.std.specs.Prelude.{ℕ, zero, suc, ◌+◌, ◌-◌, ◌*◌, ◌/◌, ◌%◌, ◌^◌, Bool, ◌&&◌, ◌||◌, if◌then◌else◌, List, [], ◌∷◌, ◌++◌, length, Option, Some, None, ◌==◌, nat_lt, nat_le}
use Rattle.std.specs.List.{list_all}

-- a hexadecimal digit, of either case
abbrev pub is_digit : ℕ → Bool
is_digit b = (nat_le 48 b && nat_le b 57) || (nat_le 65 b && nat_le b 70) || (nat_le 97 b && nat_le b 102)

-- what a digit is worth
abbrev pub digit_value : ℕ → ℕ
digit_value b = if nat_le b 57 then b - 48 else (if nat_le b 70 then b - 55 else b - 87)

-- what digits are worth, the first one most
abbrev pub hex_value : List ℕ → ℕ
hex_value [] = 0
hex_value (b ∷ digits) = digit_value b * 16 ^ length digits + hex_value digits

-- an identifier counts as a number where it is 1 to 16 digits
abbrev pub is_number : List ℕ → Bool
is_number text = nat_lt 0 (length text) && nat_le (length text) 16 && list_all is_digit text

-- the number that an identifier is
abbrev pub number_of : List ℕ → Option ℕ
number_of text = if is_number text then Some (hex_value text) else None

-- the digit of lower case for a number below 16
abbrev pub digit_of : ℕ → ℕ
digit_of n = if nat_lt n 10 then 48 + n else 87 + n

-- a number in so many digits
unfoldable pub hex_text : ℕ → ℕ → List ℕ
hex_text zero n = []
hex_text (suc count) n = hex_text count (n / 16) ++ digit_of (n % 16) ∷ []

-- the number of the next identifier: one above, or zero after what is no number
abbrev pub number_after : Option ℕ → ℕ
number_after None = 0
number_after (Some n) = n + 1

-- the next identifier; none is left after the greatest number of 16 digits
abbrev pub next_name : List ℕ → Option (List ℕ)
next_name text = if number_after (number_of text) == 2 ^ 64 then None else Some (hex_text 16 (number_after (number_of text)))
