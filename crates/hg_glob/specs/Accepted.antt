-- Which texts are accepted from a part on, by what was read behind it; for the private functions alone.
use Rattle.std.specs.Prelude.{ℕ, zero, suc, ◌≡◌, ◌≤◌, Bool, ◌&&◌, List, [], ◌∷◌, ◌++◌, length, slice_index_or, Option, Some, None, IsTrue, ◌==◌}
use Rattle.std.specs.Bool.{Decides}
use Rattle.hg_glob.specs.Pattern.{Pattern, Choices, Span, in_spans, InGlob, InChoices}
use Rattle.hg_glob.specs.Part.{Frame, Reading}
use Rattle.hg_glob.specs.Column.{bit, going_at}
use Rattle.hg_glob.specs.declared.mark.Brace.{Brace}
use Rattle.hg_glob.specs.declared.fork.Fork.{Fork}

-- a front in the glob, and behind it what is to follow
abbrev pub Then : Pattern → (List ℕ → Type 0) → List ℕ → Type 0
Then g K t = (front : List ℕ) × (rest : List ℕ) × (t ≡ front ++ rest) × InGlob g front × K rest

-- a front in one of the choices
abbrev pub Chosen : Choices → (List ℕ → Type 0) → List ℕ → Type 0
Chosen choices K t = (front : List ℕ) × (rest : List ℕ) × (t ≡ front ++ rest) × InChoices choices front × K rest

-- a match may end: at the text's end, or, where ends before a slash count, before a slash
abbrev pub Ends : Bool → List ℕ → Type 0
Ends inner [] = Unit {0}
Ends inner (c ∷ t) = IsTrue (inner && c == 47)

-- what may follow inside the braces: what stands behind them
abbrev pub Follows : Bool → List Frame → List ℕ → Type 0
Follows inner [] t = Ends inner t
Follows inner (f ∷ frames) t = Then f.behind (Follows inner frames) t

-- the text is accepted from what was read on
abbrev pub Accepts : Bool → Reading → List ℕ → Type 0
Accepts inner r t = Then r.pattern (Follows inner r.frames) t

abbrev pub ChosenSoFar : Option Choices → (List ℕ → Type 0) → List ℕ → Type 0
ChosenSoFar None K t = ⊥
ChosenSoFar (Some choices) K t = Chosen choices K t

abbrev pub BracesAre : Bool → List Frame → List Brace → List ℕ → Type 0
BracesAre inner [] [] t = Unit {0}
BracesAre inner [] (b ∷ bs) t = ⊥
BracesAre inner (f ∷ frames) [] t = ⊥
BracesAre inner (f ∷ frames) (b ∷ bs) t = Decides b.after (Follows inner (f ∷ frames) t) × Decides b.found (ChosenSoFar f.choices (Follows inner (f ∷ frames)) t) × BracesAre inner frames bs t

abbrev pub HitIs : Option ℕ → List Span → Bool → Type 0
HitIs None spans hit = Unit {0}
HitIs (Some c) spans hit = hit ≡ in_spans c spans

-- the character that the end of i characters begins with
abbrev pub char_at : List ℕ → ℕ → Option ℕ
char_at xs zero = None
char_at xs (suc i) = Some (slice_index_or xs i 0)

-- the end of i characters
abbrev pub end_at : List ℕ → ℕ → List ℕ
end_at xs zero = []
end_at xs (suc i) = slice_index_or xs i 0 ∷ end_at xs i

-- the words say of each end whether it is accepted from what was read on
pub record ColumnIs (inner : Bool) (xs : List ℕ) (r : Reading) (now hit : ℕ) (forks : List Fork) : Type 0 where
  pub now_is : (i : ℕ) → i ≤ length xs → Decides (bit now i) (Accepts inner r (end_at xs i))
  pub hit_is : (i : ℕ) → i ≤ length xs → HitIs (char_at xs i) r.spans (bit hit i)
  pub braces_are : (i : ℕ) → i ≤ length xs → BracesAre inner r.frames (going_at hit forks i).braces (end_at xs i)
