-- Where a text is cut at a slash, and what its pieces are then.
use Rattle.std.proofs.Common.{◌≡◌, ◌≢◌, ℕ, suc, ◌+◌, ◌<◌, ◌≤◌, Bool, true, false, cond, List, [], ◌∷◌, ◌++◌, length, get_or, take, drop, Option, Some, None, refl, sym, ap, ◌∙◌, arith, eqb, lit<, Bor, take-append-drop}
use Rattle.std.specs.Option.{MatchOption}
use Rattle.std.specs.Str.Pattern.{RFindsChar}
use Rattle.std.specs.Prelude.{codes}
use Rattle.std.specs.Str.{bytes_eq}
use Rattle.std.specs.Prelude.{count_by, ◌==◌}
use Rattle.std.proofs.lemmas.List.{length-append}
use Rattle.std.proofs.lemmas.List.Splits.{length-slice_split}
use Rattle.std.proofs.lemmas.Bool.{or_from, ne_eqb}
use Rattle.std.proofs.lemmas.Str.Pattern.{IsSplitOnceResult, split_parts, NoCharPasses-char, drop_at_char}
use Rattle.hg_base.specs.PathText.{has_slash, components, is_component, is_reserved, base_of, parent_of, is_same_dir, child_of}
use Rattle.hg_base.specs.PathRefusal.{bad_place}
use Rattle.hg_base.specs.Cut.{IsCut, IsLastCut}
use Rattle.hg_base.proofs.Components.{components_joined, components_name, base_joined, parent_joined}

-- no byte is a slash
pub plain_from : (text : List ℕ) → ((i : ℕ) → i < length text → get_or text i 0 ≢ 47) → has_slash text ≡ false
plain_from [] h = refl
plain_from (b ∷ text) h = or_from (eqb b 47) (has_slash text) (ne_eqb b 47 (h 0 (omega arith))) (plain_from text (λ i l. h (suc i) (omega arith)))

cut_of_parts : (text : List ℕ) (r : Option (Bor (List ℕ) × Bor (List ℕ)))
    → MatchOption r ((i : ℕ) → i < length text → get_or text i 0 ≢ 47) (λ x. (text ≡ x.0.now ++ (47 ∷ x.1.now)) × ((i : ℕ) → i < length x.0.now → get_or x.0.now i 0 ≢ 47))
    → IsCut text r
cut_of_parts text None h = plain_from text h
cut_of_parts text (Some x) h = (h.0, plain_from x.0.now h.1)

-- what `split_once` at a slash gives
pub is_cut : (text : List ℕ) (r : Option (Bor (List ℕ) × Bor (List ℕ))) → IsSplitOnceResult 47 text r → IsCut text r
is_cut text r h = cut_of_parts text r (split_parts 47 text r h (lit< tt))

-- what `rsplit_once` at a slash gives
pub is_last_cut : (text : List ℕ) (r : Option (Bor (List ℕ) × Bor (List ℕ)))
    → MatchOption r (RFindsChar 47 text None) (λ x. (i : ℕ) × (j : ℕ) × RFindsChar 47 text (Some (i, j)) × (x.0.now ≡ take i text) × (x.1.now ≡ drop j text) × (i ≤ j) × (length x.0.now ≡ i) × (length x.1.now + j ≡ length text))
    → IsLastCut text r
is_last_cut text None h = plain_from text (λ i l. NoCharPasses-char 47 text i h (lit< tt) l)
is_last_cut text (Some x) h =
    let rest : drop h.0 text ≡ 47 ∷ drop h.1 text = drop_at_char 47 text h.0 h.1 h.2.1 (lit< tt) in
    let whole : text ≡ x.0.now ++ 47 ∷ x.1.now =
    sym (take-append-drop h.0 text) ∙ ap (λ (l : List ℕ). take h.0 text ++ l) rest ∙ ap (λ (l : List ℕ). l ++ 47 ∷ drop h.1 text) (sym h.3)
    ∙ ap (λ (l : List ℕ). x.0.now ++ 47 ∷ l) (sym h.4) in
    (whole, ap has_slash h.4 ∙ plain_from (drop h.1 text) (λ k l. NoCharPasses-char 47 (drop h.1 text) k h.2.0 (lit< tt) l))

-- the pieces of a text that is cut at its first slash
pub cut_pieces : (text front rest : List ℕ) → text ≡ front ++ 47 ∷ rest → has_slash front ≡ false → components text ≡ front ∷ components rest
cut_pieces text front rest e plain = ap components e ∙ components_joined front rest ∙ ap (λ (l : List (List ℕ)). l ++ components rest) (components_name front plain)

-- the name and the directory of a text that is cut at its last slash
pub base_cut : (text dir name : List ℕ) → text ≡ dir ++ 47 ∷ name → has_slash name ≡ false → base_of text ≡ name
base_cut text dir name e plain = ap base_of e ∙ base_joined (Some dir) name plain

pub parent_cut : (text dir name : List ℕ) → text ≡ dir ++ 47 ∷ name → has_slash name ≡ false → parent_of text ≡ Some dir
parent_cut text dir name e plain = ap parent_of e ∙ parent_joined (Some dir) name plain

-- and of one without a slash
pub base_plain : (name : List ℕ) → has_slash name ≡ false → base_of name ≡ name
base_plain name plain = base_joined None name plain

pub parent_plain : (name : List ℕ) → has_slash name ≡ false → parent_of name ≡ None
parent_plain name plain = parent_joined None name plain

-- the name of a path in the directory, and where it has none
pub child_found : (dir parent : Option (List ℕ)) (path name : List ℕ) → parent_of path ≡ parent → base_of path ≡ name → is_same_dir dir parent ≡ true → Some name ≡ child_of dir path
child_found dir parent path name p b same =
    sym (ap (λ (o : Option (List ℕ)). cond (is_same_dir dir o) (Some (base_of path)) None) p ∙ ap (λ (t : Bool). cond t (Some (base_of path)) None) same ∙ ap Some b)

pub child_missing : (dir parent : Option (List ℕ)) (path : List ℕ) → parent_of path ≡ parent → is_same_dir dir parent ≡ false → None ≡ child_of dir path
child_missing dir parent path p same =
    sym (ap (λ (o : Option (List ℕ)). cond (is_same_dir dir o) (Some (base_of path)) None) p ∙ ap (λ (t : Bool). cond t (Some (base_of path)) None) same)

-- whether the first piece is reserved
pub reserved_cut : (text front rest : List ℕ) → text ≡ front ++ 47 ∷ rest → has_slash front ≡ false → is_reserved (components text) ≡ bytes_eq front (codes ".hg")
reserved_cut text front rest e plain = ap is_reserved (cut_pieces text front rest e plain)

pub reserved_plain : (text : List ℕ) → has_slash text ≡ false → is_reserved (components text) ≡ bytes_eq text (codes ".hg")
reserved_plain text plain = ap is_reserved (components_name text plain)

-- a search for the first bad piece: one good piece on, at a bad one, at the last
pub bad_more : (at next : ℕ) (text front rest : List ℕ) → next ≡ at + length front + 1 → text ≡ front ++ 47 ∷ rest → has_slash front ≡ false → is_component front ≡ true → bad_place next (components rest) ≡ bad_place at (components text)
bad_more at next text front rest on e plain good =
    ap (λ (n : ℕ). bad_place n (components rest)) on
    ∙ sym (ap (bad_place at) (cut_pieces text front rest e plain) ∙ ap (λ (t : Bool). cond t (bad_place (at + length front + 1) (components rest)) (Some at)) good)

pub bad_found : (at : ℕ) (text front rest : List ℕ) → text ≡ front ++ 47 ∷ rest → has_slash front ≡ false → is_component front ≡ false → bad_place at (components text) ≡ Some at
bad_found at text front rest e plain bad =
    ap (bad_place at) (cut_pieces text front rest e plain) ∙ ap (λ (t : Bool). cond t (bad_place (at + length front + 1) (components rest)) (Some at)) bad

pub bad_last : (at : ℕ) (text : List ℕ) → has_slash text ≡ false → bad_place at (components text) ≡ cond (is_component text) None (Some at)
bad_last at text plain = ap (bad_place at) (components_name text plain)

-- the pieces are one more than the slashes
pub one_more_than_slashes : (text : List ℕ) → length (components text) ≡ count_by (λ b. b == 47) text + 1
one_more_than_slashes text = length-slice_split (λ b. b == 47) text

-- what is behind a slash is shorter
pub cut_length : (text front rest : List ℕ) → text ≡ front ++ 47 ∷ rest → length text ≡ length front + 1 + length rest
cut_length text front rest e = ap length e ∙ length-append front (47 ∷ rest) ∙ omega arith
