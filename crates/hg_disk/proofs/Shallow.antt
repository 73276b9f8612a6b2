-- A short path isn't deep.
use Rattle.std.proofs.Common.{◌≡◌, ℕ, ◌+◌, ◌*◌, ◌<◌, ◌≤◌, true, true≢false, List, [], ◌∷◌, ◌++◌, length, Option, Some, None, refl, sym, ap, arith}
use Rattle.std.specs.List.{list_all}
use Rattle.std.proofs.lemmas.Bool.{and_parts}
use Rattle.std.proofs.lemmas.List.{length-append}
use Rattle.hg_base.specs.PathText.{before_rest, components, is_component, is_path, joined_pieces}
use Rattle.hg_base.proofs.Components.{joined_components}
use Rattle.hg_base.proofs.Paths.{joined_path, path_parts}

component_some : (name : List ℕ) → is_component name ≡ true → 0 < length name
component_some [] h = absurd (true≢false (sym h))
component_some (b ∷ name) h = omega arith

-- each piece takes a byte, and a slash stands between two
pieces_long : (parts : List (List ℕ)) (text : List ℕ) → joined_pieces parts ≡ Some text → list_all is_component parts ≡ true → 2 * length parts ≤ length text + 1
pieces_long [] text is all = absurd (cc)
pieces_long (part ∷ []) text is all =
    let some : 0 < length part = component_some part (and_parts (is_component part) true all).0 in
    let same : part ≡ text = cc in
    let long : length part ≡ length text = ap length same in
    omega (arith, some, long)
pieces_long (part ∷ (next ∷ parts)) text is all = more (pieces_long (next ∷ parts)) (joined_pieces (next ∷ parts)) refl is
  where
    both : (is_component part ≡ true) × (list_all is_component (next ∷ parts) ≡ true)
    both = and_parts (is_component part) (list_all is_component (next ∷ parts)) all

    more : ((rest : List ℕ) → joined_pieces (next ∷ parts) ≡ Some rest → list_all is_component (next ∷ parts) ≡ true → 2 * length (next ∷ parts) ≤ length rest + 1)
        → (rest : Option (List ℕ)) → joined_pieces (next ∷ parts) ≡ rest → Some (before_rest part rest) ≡ Some text → 2 * length (part ∷ (next ∷ parts)) ≤ length text + 1
    more below None e is = absurd (cc)
    more below (Some rest) e is =
        let some : 0 < length part = component_some part both.0 in
        let under : 2 * length (next ∷ parts) ≤ length rest + 1 = below rest e both.1 in
        let same : part ++ 47 ∷ rest ≡ text = cc in
        let long : length (part ++ 47 ∷ rest) ≡ length text = ap length same in
        let sum : length (part ++ 47 ∷ rest) ≡ length part + length (47 ∷ rest) = length-append part (47 ∷ rest) in
        omega (arith, some, under, long, sum)

shallow : (dir : List ℕ) → is_path dir ≡ true → length dir < 4095 → length (components dir) < 2048
shallow dir good short =
    let long : 2 * length (components dir) ≤ length dir + 1 = pieces_long (components dir) dir (joined_components dir) (path_parts dir good).pieces in
    omega (arith, long, short)

-- below a short directory each short component makes a path
pub fits_below : (dir name : List ℕ) → is_path dir ≡ true → length dir < 4095 → length name < 4095 → is_component name ≡ true → true ≡ is_path (dir ++ 47 ∷ name)
fits_below dir name good short few component = sym (joined_path dir name good component (omega (arith, short, few)) (shallow dir good short))
