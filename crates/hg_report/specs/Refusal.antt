-- The line of a word that was refused.
use Rattle.std.specs.Prelude.{ℕ, List, [], ◌∷◌, ◌++◌, codes}
use Rattle.hg_ops.specs.declared.refusal.Refusal.{Refusal}
use Rattle.hg_ops.specs.declared.refusal.Refusal.TheVariants as a_refusal

-- why it was refused
abbrev pub refusal_words : Refusal → List ℕ
refusal_words a_refusal.BadPath = codes "bad path"
refusal_words a_refusal.NotThere = codes "no such file"
refusal_words a_refusal.NotTracked = codes "not tracked"
refusal_words a_refusal.Special = codes "not a file"
refusal_words (a_refusal.Clash other) = codes "clashes with " ++ other
refusal_words a_refusal.Changed = codes "modified"
refusal_words a_refusal.Added = codes "marked for add"
refusal_words a_refusal.StillThere = codes "still there"
refusal_words a_refusal.Exists = codes "exists"

-- the whole line: the command, the word, and why
abbrev pub refusal_line : List ℕ → List ℕ → Refusal → List ℕ
refusal_line command word refusal = command ++ 32 ∷ word ++ codes ": " ++ refusal_words refusal ++ 10 ∷ []
