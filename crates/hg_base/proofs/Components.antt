-- The pieces of a text: joined, cut, its directory and its name there.
use Rattle.std.proofs.Common.{◌≡◌, ℕ, ◌<◌, Bool, true, false, cond, not, List, [], ◌∷◌, ◌++◌, length, Option, Some, None, refl, sym, ap, ◌∙◌, append_assoc, arith, eqb, eqb-true}
use Rattle.std.specs.List.{onto_first, list_all}
use Rattle.std.proofs.lemmas.Bool.{or_parts}
use Rattle.std.proofs.lemmas.List.Splits.{slice_split-cons_no, length-slice_split}
use Rattle.hg_base.specs.PathText.{components, has_slash, joined, last_piece, before_rest, joined_pieces, all_but_last, base_of, parent_of}

-- every text has a piece
pub components_some : (text : List ℕ) → 0 < length (components text)
components_some text = omega (arith, length-slice_split (λ b. eqb b 47) text)

cond_append : (t : Bool) (x : ℕ) (parts more : List (List ℕ)) → 0 < length parts → cond t ([] ∷ (parts ++ more)) (onto_first x (parts ++ more)) ≡ cond t ([] ∷ parts) (onto_first x parts) ++ more
cond_append t x [] more h = absurd (omega arith)
cond_append true x (part ∷ parts) more h = refl
cond_append false x (part ∷ parts) more h = refl

-- the pieces of two texts with a slash between
pub components_joined : (a b : List ℕ) → components (a ++ 47 ∷ b) ≡ components a ++ components b
components_joined [] b = refl
components_joined (x ∷ a) b =
    ap (λ (parts : List (List ℕ)). cond (eqb x 47) ([] ∷ parts) (onto_first x parts)) (components_joined a b)
    ∙ cond_append (eqb x 47) x (components a) (components b) (components_some a)

-- a text without a slash is one piece
pub components_name : (name : List ℕ) → has_slash name ≡ false → components name ≡ name ∷ []
components_name [] h = refl
components_name (x ∷ name) h =
    let parts = or_parts (eqb x 47) (has_slash name) h in
    slice_split-cons_no (λ b. eqb b 47) x name parts.0 ∙ ap (onto_first x) (components_name name parts.1)

-- a directory and a name have one piece more than the directory
pub components_more : (dir name : List ℕ) → has_slash name ≡ false → components (dir ++ 47 ∷ name) ≡ components dir ++ name ∷ []
components_more dir name plain = components_joined dir name ∙ ap (λ (l : List (List ℕ)). components dir ++ l) (components_name name plain)

onto_rest : (x : ℕ) (part : List ℕ) (rest : Option (List ℕ)) → before_rest (x ∷ part) rest ≡ x ∷ before_rest part rest
onto_rest x part None = refl
onto_rest x part (Some rest) = refl

some_same : (a b : List ℕ) → Some a ≡ Some b → a ≡ b
some_same a b e = cc

cond_joined : (t : Bool) (x : ℕ) (parts : List (List ℕ)) (rest : List ℕ) → eqb x 47 ≡ t → joined_pieces parts ≡ Some rest → joined_pieces (cond t ([] ∷ parts) (onto_first x parts)) ≡ Some (x ∷ rest)
cond_joined true x parts rest t e = ap (λ (o : Option (List ℕ)). Some (before_rest [] o)) e ∙ ap (λ (y : ℕ). Some (y ∷ rest)) (sym (eqb-true x 47 t))
cond_joined false x [] rest t e = absurd (cc)
cond_joined false x (part ∷ parts) rest t e =
    ap Some (onto_rest x part (joined_pieces parts)) ∙ ap (λ (l : List ℕ). Some (x ∷ l)) (some_same (before_rest part (joined_pieces parts)) rest e)

-- the pieces, joined, are the text
pub joined_components : (text : List ℕ) → joined_pieces (components text) ≡ Some text
joined_components [] = refl
joined_components (x ∷ text) = cond_joined (eqb x 47) x (components text) text refl (joined_components text)

pub last_push : (parts : List (List ℕ)) (part : List ℕ) → last_piece (parts ++ part ∷ []) ≡ part
last_push [] part = refl
last_push (a ∷ []) part = refl
last_push (a ∷ b ∷ parts) part = last_push (b ∷ parts) part

pub front_push : (parts : List (List ℕ)) (part : List ℕ) → all_but_last (parts ++ part ∷ []) ≡ parts
front_push [] part = refl
front_push (a ∷ []) part = refl
front_push (a ∷ b ∷ parts) part = ap (λ (l : List (List ℕ)). a ∷ l) (front_push (b ∷ parts) part)

-- the name and the directory of a joined text
pub base_joined : (dir : Option (List ℕ)) (name : List ℕ) → has_slash name ≡ false → base_of (joined dir name) ≡ name
base_joined None name plain = ap last_piece (components_name name plain)
base_joined (Some dir) name plain = ap last_piece (components_more dir name plain) ∙ last_push (components dir) name

pub parent_joined : (dir : Option (List ℕ)) (name : List ℕ) → has_slash name ≡ false → parent_of (joined dir name) ≡ dir
parent_joined None name plain = ap (λ (l : List (List ℕ)). joined_pieces (all_but_last l)) (components_name name plain)
parent_joined (Some dir) name plain =
    ap (λ (l : List (List ℕ)). joined_pieces (all_but_last l)) (components_more dir name plain)
    ∙ ap joined_pieces (front_push (components dir) name) ∙ joined_components dir

-- two joined texts are one only where the directories and the names are
pub joined_same : (a : Option (List ℕ)) (m : List ℕ) (b : Option (List ℕ)) (n : List ℕ) → has_slash m ≡ false → has_slash n ≡ false → joined a m ≡ joined b n → (a ≡ b) × (m ≡ n)
joined_same a m b n p q e =
    (sym (parent_joined a m p) ∙ ap parent_of e ∙ parent_joined b n q, sym (base_joined a m p) ∙ ap base_of e ∙ base_joined b n q)

before_more : (part last : List ℕ) (front : Option (List ℕ)) → joined (Some (before_rest part front)) last ≡ before_rest part (Some (joined front last))
before_more part last None = refl
before_more part last (Some front) = append_assoc part (47 ∷ front) (47 ∷ last)

joined_parts : (parts : List (List ℕ)) → 0 < length parts → Some (joined (joined_pieces (all_but_last parts)) (last_piece parts)) ≡ joined_pieces parts
joined_parts [] h = absurd (omega arith)
joined_parts (part ∷ []) h = refl
joined_parts (part ∷ next ∷ parts) h =
    ap Some (before_more part (last_piece (next ∷ parts)) (joined_pieces (all_but_last (next ∷ parts))))
    ∙ ap (λ (o : Option (List ℕ)). Some (before_rest part o)) (joined_parts (next ∷ parts) (omega arith))

-- each text is its name in its directory
pub joined_parent : (text : List ℕ) → joined (parent_of text) (base_of text) ≡ text
joined_parent text = some_same _ _ (joined_parts (components text) (components_some text) ∙ joined_components text)

-- no piece has a slash
pub are_plain : List (List ℕ) → Bool
are_plain parts = list_all (λ part. not (has_slash part)) parts
