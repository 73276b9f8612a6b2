-- The parts of a text by the construct that it begins with.
use Rattle.std.proofs.Common.{◌≡◌, ℕ, zero, suc, ◌+◌, ◌-◌, Bool, true, false, cond, ◌&&◌, ◌||◌, ◌⊎◌, inl, inr, ◌==◌, List, [], ◌∷◌, ◌++◌, drop, nat_lt, refl, sym, ap, subst, ◌∙◌, arith, eqb-true, add-one}
use Rattle.std.proofs.lemmas.Bool.{cases_Bool, lt-ltb, false≢true}
use Rattle.hg_glob.specs.Part.{Spelled, single, begins, parts_from, spelled, depth_after}
use Rattle.hg_glob.specs.Syntax.{BeginsClass, BeginsWith, IsBracket, IsItself, IsLastEscape, is_sign}
use Rattle.hg_glob.specs.declared.part.Part.{Part}
use Rattle.hg_glob.specs.declared.part.Part.TheVariants as a_part
use Rattle.hg_glob.proofs.Classes.{bracket_cases, or_none}
use Rattle.hg_glob.proofs.Spelled.{parts_step}

-- so many braces are open
abbrev pub inside : ℕ → Bool
inside zero = false
inside (suc depth) = true

-- a part, and then the parts of the rest in so many open braces
pub record Begun (depth at : ℕ) (text : List ℕ) (part : Part) (below : ℕ) (rest : List ℕ) : Type 0 where
  pub to : ℕ
  pub is : parts_from 0 depth at text ≡ part ∷ parts_from 0 below to rest

begun_by : (depth at c below n : ℕ) (text rest : List ℕ) (part : Part) → text ≡ c ∷ rest → spelled depth at c rest ≡ record { parts = part ∷ []; more = n } → depth_after depth c ≡ below → Begun depth at text part below (drop n rest)
begun_by depth at c below n text rest part is read after = record {
  to = at + (1 + n);
  is = ap (parts_from 0 depth at) is ∙ parts_step depth at c rest ∙ ap (λ (s : Spelled). s.parts ++ parts_from 0 (depth_after depth c) (at + (1 + s.more)) (drop s.more rest)) read
      ∙ ap (λ d. part ∷ parts_from 0 d (at + (1 + n)) (drop n rest)) after;
}

not_begun : (x : ℕ) (text : List ℕ) → (BeginsWith x text → ⊥) → begins x text ≡ false
not_begun x [] other = refl
not_begun x (c ∷ text) other = elim (cases_Bool (c == x)) [
  | inl same ↦ absurd (other (text, ap (λ v. v ∷ text) (eqb-true c x same)))
  | inr apart ↦ apart
]

pub one_parts : (depth at : ℕ) (text rest : List ℕ) → text ≡ 63 ∷ rest → Begun depth at text a_part.One depth rest
one_parts depth at text rest is = begun_by depth at 63 depth 0 text rest a_part.One is refl refl

pub star_parts : (depth at : ℕ) (text rest : List ℕ) → text ≡ 42 ∷ rest → (BeginsWith 42 rest → ⊥) → Begun depth at text a_part.Star depth rest
star_parts depth at text rest is other =
    let two : Spelled = cond (begins 47 (drop 1 rest)) (record { parts = a_part.Slashes ∷ []; more = 2 }) (record { parts = a_part.Any ∷ []; more = 1 }) in
    begun_by depth at 42 depth 0 text rest a_part.Star is (ap (λ b. cond b two (single a_part.Star)) (not_begun 42 rest other)) refl

pub any_parts : (depth at : ℕ) (text rest : List ℕ) → text ≡ 42 ∷ 42 ∷ rest → (BeginsWith 47 rest → ⊥) → Begun depth at text a_part.Any depth rest
any_parts depth at text rest is other =
    let two : Bool → Spelled = λ b. cond b (record { parts = a_part.Slashes ∷ []; more = 2 }) (record { parts = a_part.Any ∷ []; more = 1 }) in
    begun_by depth at 42 depth 1 text (42 ∷ rest) a_part.Any is (ap two (not_begun 47 rest other)) refl

pub slashes_parts : (depth at : ℕ) (text rest : List ℕ) → text ≡ 42 ∷ 42 ∷ 47 ∷ rest → Begun depth at text a_part.Slashes depth rest
slashes_parts depth at text rest is = begun_by depth at 42 depth 2 text (42 ∷ 47 ∷ rest) a_part.Slashes is refl refl

pub open_parts : (depth at : ℕ) (text rest : List ℕ) → text ≡ 123 ∷ rest → Begun depth at text (a_part.Open at) (suc depth) rest
open_parts depth at text rest is = begun_by depth at 123 (suc depth) 0 text rest (a_part.Open at) is refl (add-one depth)

some_open : (depth : ℕ) → nat_lt 0 (suc depth) ≡ true
some_open depth = lt-ltb 0 (suc depth) (omega arith)

pub comma_parts : (depth at : ℕ) (text rest : List ℕ) → text ≡ 44 ∷ rest → Begun (suc depth) at text a_part.Comma (suc depth) rest
comma_parts depth at text rest is = begun_by (suc depth) at 44 (suc depth) 0 text rest a_part.Comma is (ap (λ b. cond b (single a_part.Comma) (single (a_part.Literal 44))) (some_open depth)) refl

pub close_parts : (depth at : ℕ) (text rest : List ℕ) → text ≡ 125 ∷ rest → Begun (suc depth) at text a_part.Close depth rest
close_parts depth at text rest is = begun_by (suc depth) at 125 depth 0 text rest a_part.Close is (ap (λ b. cond b (single a_part.Close) (single (a_part.Literal 125))) (some_open depth)) (omega arith)

-- a character that stands for nothing else
pub plain_parts : (depth at c : ℕ) (text rest : List ℕ) → is_sign c ≡ false → text ≡ c ∷ rest → Begun depth at text (a_part.Literal c) depth rest
plain_parts depth at c text rest none is =
    let (none, close) = or_none (c == 92 || c == 42 || c == 63 || c == 91 || c == 123 || c == 44) (c == 125) none in
    let (none, comma) = or_none (c == 92 || c == 42 || c == 63 || c == 91 || c == 123) (c == 44) none in
    let (none, brace) = or_none (c == 92 || c == 42 || c == 63 || c == 91) (c == 123) none in
    let (none, bracket) = or_none (c == 92 || c == 42 || c == 63) (c == 91) none in
    let (none, mark) = or_none (c == 92 || c == 42) (c == 63) none in
    let (slash, star) = or_none (c == 92) (c == 42) none in
    begun_by depth at c depth 0 text rest (a_part.Literal c) is
    (past (c == 92) _ _ _ slash (past (c == 42) _ _ _ star (past (c == 63) _ _ _ mark (past (c == 91) _ _ _ bracket (past (c == 123) _ _ _ brace
    (past (c == 44 && nat_lt 0 depth) _ _ _ (ap (λ b. b && nat_lt 0 depth) comma) (past (c == 125 && nat_lt 0 depth) _ _ _ (ap (λ b. b && nat_lt 0 depth) close) refl)))))))
    (same_depth (c == 123) (c == 125) brace close)
  where
    past : (b : Bool) (x y z : Spelled) → b ≡ false → y ≡ z → cond b x y ≡ z
    past b x y z h same = ap (λ v. cond v x y) h ∙ same

    same_depth : (opens closes : Bool) → opens ≡ false → closes ≡ false → cond opens (depth + 1) (cond closes (depth - 1) depth) ≡ depth
    same_depth opens closes h k = ap (λ v. cond v (depth + 1) (cond closes (depth - 1) depth)) h ∙ ap (λ v. cond v (depth - 1) depth) k

outside_parts : (depth at c : ℕ) (text rest : List ℕ) → inside depth ≡ false → (c ≡ 44) ⊎ (c ≡ 125) → text ≡ c ∷ rest → Begun depth at text (a_part.Literal c) depth rest
outside_parts (suc depth) at c text rest out which is = absurd (false≢true (sym out))
outside_parts zero at c text rest out (inl same) is =
    let P : ℕ → Type 0 = λ v. Begun 0 at text (a_part.Literal v) 0 rest in
    subst P (sym same) (begun_by 0 at 44 0 0 text rest (a_part.Literal 44) (is ∙ ap (λ v. v ∷ rest) same) refl refl)
outside_parts zero at c text rest out (inr same) is =
    let P : ℕ → Type 0 = λ v. Begun 0 at text (a_part.Literal v) 0 rest in
    subst P (sym same) (begun_by 0 at 125 0 0 text rest (a_part.Literal 125) (is ∙ ap (λ v. v ∷ rest) same) refl refl)

bracket_parts : (depth at c : ℕ) (text rest : List ℕ) → IsBracket c text rest → Begun depth at text (a_part.Literal c) depth rest
bracket_parts depth at c text rest (same, is, none) =
    let P : ℕ → Type 0 = λ v. Begun depth at text (a_part.Literal v) depth rest in
    subst P (sym same) (elim (bracket_cases at rest) [
      | inl class ↦ absurd (none (subst BeginsClass (sym is) class))
      | inr alone ↦ begun_by depth at 91 depth 0 text rest (a_part.Literal 91) is alone refl
    ])

last_parts : (depth at c : ℕ) (text rest : List ℕ) → IsLastEscape c text rest → Begun depth at text (a_part.Literal c) depth rest
last_parts depth at c text rest (same, is, end) =
    let P : ℕ → Type 0 = λ v. Begun depth at text (a_part.Literal v) depth rest in
    let Q : List ℕ → Type 0 = λ v. Begun depth at text (a_part.Literal 92) depth v in
    subst P (sym same) (subst Q (sym end) (begun_by depth at 92 depth 0 text [] (a_part.Literal 92) is refl refl))

pub itself_parts : (depth at c : ℕ) (text rest : List ℕ) → IsItself (inside depth) c text rest → Begun depth at text (a_part.Literal c) depth rest
itself_parts depth at c text rest (inl is) = begun_by depth at 92 depth 1 text (c ∷ rest) (a_part.Literal c) is refl refl
itself_parts depth at c text rest (inr (inl is)) = last_parts depth at c text rest is
itself_parts depth at c text rest (inr (inr (inl is))) = bracket_parts depth at c text rest is
itself_parts depth at c text rest (inr (inr (inr (inl (out, which, is))))) = outside_parts depth at c text rest out which is
itself_parts depth at c text rest (inr (inr (inr (inr (none, is))))) = plain_parts depth at c text rest none is
