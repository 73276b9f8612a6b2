-- A glob and then something: how it is accepted at no text, and at a text by its first character.
use Rattle.std.proofs.Common.{◌≡◌, ℕ, Bool, true, false, ◌||◌, ◌==◌, ◌⊎◌, inl, inr, List, [], ◌∷◌, ◌++◌, IsTrue, refl, sym, ap, subst, ◌∙◌, append_assoc}
use Rattle.std.proofs.lemmas.Bool.{false≢true}
use Rattle.hg_base.specs.PathText.{has_slash}
use Rattle.hg_glob.specs.Accepted.{Then, Chosen}
use Rattle.hg_glob.specs.Pattern.{Pattern, Choices, Span, empty, literal, one, listed, star, any, slashes, braces, last, choice, in_class, InGlob}

-- behind a slash
abbrev pub Past : (List ℕ → Type 0) → List ℕ → Type 0
Past P t = (front : List ℕ) × (rest : List ℕ) × (t ≡ front ++ 47 ∷ rest) × P rest

pub empty_then : (K : List ℕ → Type 0) (t : List ℕ) → Then empty K t → K t
empty_then K t (front, rest, e, i, k) = subst K (sym (e ∙ ap (λ v. v ++ rest) i)) k

pub then_empty : (K : List ℕ → Type 0) (t : List ℕ) → K t → Then empty K t
then_empty K t k = ([], t, refl, refl, k)

-- a part of one character
pub literal_head : (x c : ℕ) (g : Pattern) (K : List ℕ → Type 0) (t : List ℕ) → Then (literal x g) K (c ∷ t) → (c ≡ x) × Then g K t
literal_head x c g K t (front, rest, e, (r, f, i), k) =
    let h : c ∷ t ≡ x ∷ (r ++ rest) = e ∙ ap (λ v. v ++ rest) f in
    (cc h, (r, rest, cc h, i, k))

pub head_literal : (x c : ℕ) (g : Pattern) (K : List ℕ → Type 0) (t : List ℕ) → (c ≡ x) × Then g K t → Then (literal x g) K (c ∷ t)
head_literal x c g K t (same, (front, rest, e, i, k)) = (x ∷ front, rest, cc (same, e), (front, refl, i), k)

pub literal_none : (x : ℕ) (g : Pattern) (K : List ℕ → Type 0) → Then (literal x g) K [] → ⊥
literal_none x g K (front, rest, e, (r, f, i), k) =
    let h : [] ≡ x ∷ (r ++ rest) = e ∙ ap (λ v. v ++ rest) f in
    cc h

pub one_head : (c : ℕ) (g : Pattern) (K : List ℕ → Type 0) (t : List ℕ) → Then (one g) K (c ∷ t) → Then g K t
one_head c g K t (front, rest, e, (x, r, f, i), k) =
    let h : c ∷ t ≡ x ∷ (r ++ rest) = e ∙ ap (λ v. v ++ rest) f in
    (r, rest, cc h, i, k)

pub head_one : (c : ℕ) (g : Pattern) (K : List ℕ → Type 0) (t : List ℕ) → Then g K t → Then (one g) K (c ∷ t)
head_one c g K t (front, rest, e, i, k) = (c ∷ front, rest, cc e, (c, front, refl, i), k)

pub one_none : (g : Pattern) (K : List ℕ → Type 0) → Then (one g) K [] → ⊥
one_none g K (front, rest, e, (x, r, f, i), k) =
    let h : [] ≡ x ∷ (r ++ rest) = e ∙ ap (λ v. v ++ rest) f in
    cc h

pub listed_head : (negated : Bool) (spans : List Span) (c : ℕ) (g : Pattern) (K : List ℕ → Type 0) (t : List ℕ) → Then (listed negated spans g) K (c ∷ t) → IsTrue (in_class negated spans c) × Then g K t
listed_head negated spans c g K t (front, rest, e, (x, r, f, member, i), k) =
    let h : c ∷ t ≡ x ∷ (r ++ rest) = e ∙ ap (λ v. v ++ rest) f in
    let same : x ≡ c = cc h in
    (subst (λ v. IsTrue (in_class negated spans v)) same member, (r, rest, cc h, i, k))

pub head_listed : (negated : Bool) (spans : List Span) (c : ℕ) (g : Pattern) (K : List ℕ → Type 0) (t : List ℕ) → IsTrue (in_class negated spans c) × Then g K t → Then (listed negated spans g) K (c ∷ t)
head_listed negated spans c g K t (member, (front, rest, e, i, k)) = (c ∷ front, rest, cc e, (c, front, refl, member, i), k)

pub listed_none : (negated : Bool) (spans : List Span) (g : Pattern) (K : List ℕ → Type 0) → Then (listed negated spans g) K [] → ⊥
listed_none negated spans g K (front, rest, e, (x, r, f, member, i), k) =
    let h : [] ≡ x ∷ (r ++ rest) = e ∙ ap (λ v. v ++ rest) f in
    cc h

pub or_false : (a b : Bool) → (a || b) ≡ false → (a ≡ false) × (b ≡ false)
or_false false b h = (refl, h)
or_false true b h = absurd (false≢true (sym h))

-- a star takes nothing, or a character that is no slash and then on
star_from : (c : ℕ) (g : Pattern) (K : List ℕ → Type 0) (t front rest f r : List ℕ) → c ∷ t ≡ front ++ rest → front ≡ f ++ r → has_slash f ≡ false → InGlob g r → K rest → Then g K (c ∷ t) ⊎ (((c == 47) ≡ false) × Then (star g) K t)
star_from c g K t front rest [] r e split quiet i k = inl (r, rest, e ∙ ap (λ v. v ++ rest) split, i, k)
star_from c g K t front rest (d ∷ f) r e split quiet i k =
    let h : c ∷ t ≡ d ∷ ((f ++ r) ++ rest) = e ∙ ap (λ v. v ++ rest) split in
    let same : d ≡ c = cc h in
    inr (subst (λ v. (v == 47) ≡ false) same (or_false (d == 47) (has_slash f) quiet).0, (f ++ r, rest, cc h, (f, r, refl, (or_false (d == 47) (has_slash f) quiet).1, i), k))

pub star_head : (c : ℕ) (g : Pattern) (K : List ℕ → Type 0) (t : List ℕ) → Then (star g) K (c ∷ t) → Then g K (c ∷ t) ⊎ (((c == 47) ≡ false) × Then (star g) K t)
star_head c g K t (front, rest, e, (f, r, split, quiet, i), k) = star_from c g K t front rest f r e split quiet i k

pub star_nothing : (g : Pattern) (K : List ℕ → Type 0) (t : List ℕ) → Then g K t → Then (star g) K t
star_nothing g K t (front, rest, e, i, k) = (front, rest, e, ([], front, refl, refl, i), k)

pub star_more : (c : ℕ) (g : Pattern) (K : List ℕ → Type 0) (t : List ℕ) → (c == 47) ≡ false → Then (star g) K t → Then (star g) K (c ∷ t)
star_more c g K t other (front, rest, e, (f, r, split, quiet, i), k) = (c ∷ front, rest, cc e, (c ∷ f, r, cc split, ap (λ v. v || has_slash f) other ∙ quiet, i), k)

star_none_from : (g : Pattern) (K : List ℕ → Type 0) (front rest f r : List ℕ) → [] ≡ front ++ rest → front ≡ f ++ r → InGlob g r → K rest → Then g K []
star_none_from g K front rest [] r e split i k = (r, rest, e ∙ ap (λ v. v ++ rest) split, i, k)
star_none_from g K front rest (d ∷ f) r e split i k =
    let h : [] ≡ d ∷ ((f ++ r) ++ rest) = e ∙ ap (λ v. v ++ rest) split in
    absurd (cc h)

pub star_none : (g : Pattern) (K : List ℕ → Type 0) → Then (star g) K [] → Then g K []
star_none g K (front, rest, e, (f, r, split, quiet, i), k) = star_none_from g K front rest f r e split i k

-- any text takes nothing, or a character and then on
any_from : (c : ℕ) (g : Pattern) (K : List ℕ → Type 0) (t front rest f r : List ℕ) → c ∷ t ≡ front ++ rest → front ≡ f ++ r → InGlob g r → K rest → Then g K (c ∷ t) ⊎ Then (any g) K t
any_from c g K t front rest [] r e split i k = inl (r, rest, e ∙ ap (λ v. v ++ rest) split, i, k)
any_from c g K t front rest (d ∷ f) r e split i k =
    let h : c ∷ t ≡ d ∷ ((f ++ r) ++ rest) = e ∙ ap (λ v. v ++ rest) split in
    inr (f ++ r, rest, cc h, (f, r, refl, i), k)

pub any_head : (c : ℕ) (g : Pattern) (K : List ℕ → Type 0) (t : List ℕ) → Then (any g) K (c ∷ t) → Then g K (c ∷ t) ⊎ Then (any g) K t
any_head c g K t (front, rest, e, (f, r, split, i), k) = any_from c g K t front rest f r e split i k

pub any_nothing : (g : Pattern) (K : List ℕ → Type 0) (t : List ℕ) → Then g K t → Then (any g) K t
any_nothing g K t (front, rest, e, i, k) = (front, rest, e, ([], front, refl, i), k)

pub any_more : (c : ℕ) (g : Pattern) (K : List ℕ → Type 0) (t : List ℕ) → Then (any g) K t → Then (any g) K (c ∷ t)
any_more c g K t (front, rest, e, (f, r, split, i), k) = (c ∷ front, rest, cc e, (c ∷ f, r, cc split, i), k)

pub any_none : (g : Pattern) (K : List ℕ → Type 0) → Then (any g) K [] → Then g K []
any_none g K (front, rest, e, (f, r, split, i), k) = star_none_from g K front rest f r e split i k

-- directories: nothing, or past a slash
pub slashes_then : (g : Pattern) (K : List ℕ → Type 0) (t : List ℕ) → Then (slashes g) K t → Then g K t ⊎ Past (Then g K) t
slashes_then g K t (front, rest, e, inl i, k) = inl (front, rest, e, i, k)
slashes_then g K t (front, rest, e, inr (f, r, split, i), k) =
    inr (f, r ++ rest, e ∙ ap (λ v. v ++ rest) split ∙ append_assoc f (47 ∷ r) rest, (r, rest, refl, i, k))

pub then_slashes : (g : Pattern) (K : List ℕ → Type 0) (t : List ℕ) → Then g K t ⊎ Past (Then g K) t → Then (slashes g) K t
then_slashes g K t (inl (front, rest, e, i, k)) = (front, rest, e, inl i, k)
then_slashes g K t (inr (f, after, e, (r, rest, split, i, k))) =
    (f ++ 47 ∷ r, rest, e ∙ ap (λ v. f ++ 47 ∷ v) split ∙ sym (append_assoc f (47 ∷ r) rest), inr (f, r, refl, i), k)

past_from : (P : List ℕ → Type 0) (c : ℕ) (t front rest : List ℕ) → c ∷ t ≡ front ++ 47 ∷ rest → P rest → ((c ≡ 47) × P t) ⊎ Past P t
past_from P c t [] rest e p = inl (cc e, (let same : rest ≡ t = cc e in subst P same p))
past_from P c t (d ∷ front) rest e p = inr (front, rest, cc e, p)

pub past_head : (P : List ℕ → Type 0) (c : ℕ) (t : List ℕ) → Past P (c ∷ t) → ((c ≡ 47) × P t) ⊎ Past P t
past_head P c t (front, rest, e, p) = past_from P c t front rest e p

pub head_past : (P : List ℕ → Type 0) (c : ℕ) (t : List ℕ) → ((c ≡ 47) × P t) ⊎ Past P t → Past P (c ∷ t)
head_past P c t (inl (same, p)) = ([], t, ap (λ v. v ∷ t) same, p)
head_past P c t (inr (front, rest, e, p)) = (c ∷ front, rest, cc e, p)

past_none_from : (P : List ℕ → Type 0) (front rest : List ℕ) → [] ≡ front ++ 47 ∷ rest → ⊥
past_none_from P [] rest e = cc e
past_none_from P (d ∷ front) rest e = cc e

pub past_none : (P : List ℕ → Type 0) → Past P [] → ⊥
past_none P (front, rest, e, p) = past_none_from P front rest e

-- braces: one of the choices, and then on
pub braces_then : (choices : Choices) (g : Pattern) (K : List ℕ → Type 0) (t : List ℕ) → Then (braces choices g) K t → Chosen choices (Then g K) t
braces_then choices g K t (front, rest, e, (f, r, split, i, j), k) =
    (f, r ++ rest, e ∙ ap (λ v. v ++ rest) split ∙ append_assoc f r rest, i, (r, rest, refl, j, k))

pub then_braces : (choices : Choices) (g : Pattern) (K : List ℕ → Type 0) (t : List ℕ) → Chosen choices (Then g K) t → Then (braces choices g) K t
then_braces choices g K t (f, after, e, i, (r, rest, split, j, k)) =
    (f ++ r, rest, e ∙ ap (λ v. f ++ v) split ∙ sym (append_assoc f r rest), (f, r, refl, i, j), k)

pub last_chosen : (g : Pattern) (K : List ℕ → Type 0) (t : List ℕ) → Chosen (last g) K t → Then g K t
last_chosen g K t chosen = chosen

pub chosen_last : (g : Pattern) (K : List ℕ → Type 0) (t : List ℕ) → Then g K t → Chosen (last g) K t
chosen_last g K t chosen = chosen

pub choice_chosen : (g : Pattern) (choices : Choices) (K : List ℕ → Type 0) (t : List ℕ) → Chosen (choice g choices) K t → Then g K t ⊎ Chosen choices K t
choice_chosen g choices K t (front, rest, e, inl i, k) = inl (front, rest, e, i, k)
choice_chosen g choices K t (front, rest, e, inr i, k) = inr (front, rest, e, i, k)

pub chosen_choice : (g : Pattern) (choices : Choices) (K : List ℕ → Type 0) (t : List ℕ) → Then g K t ⊎ Chosen choices K t → Chosen (choice g choices) K t
chosen_choice g choices K t (inl (front, rest, e, i, k)) = (front, rest, e, inl i, k)
chosen_choice g choices K t (inr (front, rest, e, i, k)) = (front, rest, e, inr i, k)
