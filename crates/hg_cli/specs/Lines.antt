-- The lines of a text by the letters that they begin with.
use Rattle.std.specs.Prelude.{ℕ, suc, ◌==◌, if◌then◌else◌, Bool, false, List, [], ◌∷◌}
use Rattle.std.specs.List.{slice_split}

abbrev pub begins_with : ℕ → List ℕ → Bool
begins_with letter [] = false
begins_with letter (b ∷ line) = b == letter

-- how many of some lines begin with a letter
abbrev pub count_lines : ℕ → List (List ℕ) → ℕ
count_lines letter [] = 0
count_lines letter (line ∷ lines) = if begins_with letter line then suc (count_lines letter lines) else count_lines letter lines

-- how many lines of a text do
abbrev pub lines_with : ℕ → List ℕ → ℕ
lines_with letter text = count_lines letter (slice_split (λ b. b == 10) text)
