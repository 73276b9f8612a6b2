-- The steps by which a glob is normalized.
use Rattle.std.specs.Prelude.{ℕ, ◌≡◌, ◌⊎◌, List, [], ◌∷◌}
use Rattle.std.specs.List.{filter}
use Rattle.hg_syntax.specs.Text.{pieces}
use Rattle.hg_ignore.specs.Line.{is_step, slashed}

-- the components of a glob that say where to look, with a slash before each
abbrev pub steps_of : List ℕ → List ℕ
steps_of text = slashed (filter is_step (pieces 47 text))

-- a text is empty or begins with a slash
abbrev pub IsSlashed : List ℕ → Type 0
IsSlashed text = (text ≡ []) ⊎ ((rest : List ℕ) × (text ≡ 47 ∷ rest))
