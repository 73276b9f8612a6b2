use Rattle.std.proofs.Common.{lit<, Bor, List, ℕ, ◌≡◌, ◌≢◌, ◌∷◌, Option, None, Some}
use Rattle.std.specs.Option.{MatchOption}
use Rattle.std.proofs.lemmas.Str.Pattern.{strip_prefix_char}
use Rattle.hg_ignore.proofs.Steps.{unslashed}
use Rattle.hg_ignore.proofs.normal.without_slash.Goals as goal

none_of : (text : List ℕ) (r : Option (Bor (List ℕ))) → MatchOption r ((rest : List ℕ) → text ≢ 47 ∷ rest) (λ x. text ≡ 47 ∷ x.now) → r ≡ None → (rest : List ℕ) → text ≢ 47 ∷ rest
none_of text None h e = h
none_of text (Some x) h e = absurd (cc e)

pub returns-in-None : goal.returns-in-None
returns-in-None c = unslashed c.args.text.now c.requires (none_of c.args.text.now _ (strip_prefix_char 47 c.args.text.now _ c.strip_prefix.ensures.cases (lit< tt)) c.in-None.is)
