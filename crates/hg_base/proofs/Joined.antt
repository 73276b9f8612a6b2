-- Which names make a path in a directory.
use Rattle.std.proofs.Common.{◌≡◌, ℕ, ◌+◌, ◌-◌, ◌<◌, ◌≤◌, Bool, true, false, ◌||◌, not, List, [], ◌∷◌, ◌++◌, length, refl, sym, ap, ◌∙◌, arith, ltb, leb, ltb-false, le-ltb}
use Rattle.std.specs.Prelude.{codes}
use Rattle.std.specs.Str.{bytes_eq}
use Rattle.std.proofs.lemmas.Bool.{leb-false, lt-leb, or_parts, or_from, not-true, not_from_false}
use Rattle.std.proofs.lemmas.List.{length-append}
use Rattle.hg_base.specs.PathText.{components, is_component, is_path, is_reserved}
use Rattle.hg_base.proofs.Components.{components_more, components_name}
use Rattle.hg_base.proofs.Paths.{component_path, component_plain, joined_path, path_parts}

-- two tests of which each follows from the other are equal
same_test : (a b : Bool) → (a ≡ true → b ≡ true) → (b ≡ true → a ≡ true) → a ≡ b
same_test true b there back = sym (there refl)
same_test false true there back = back refl
same_test false false there back = refl

-- a component is a path at the root unless it is `.hg` or too long
pub path_at_root : (name : List ℕ) → is_component name ≡ true → not (bytes_eq name (codes ".hg") || ltb 65535 (length name)) ≡ is_path name
path_at_root name component =
    same_test (not (bytes_eq name (codes ".hg") || ltb 65535 (length name))) (is_path name)
    (λ h.
    let both = or_parts (bytes_eq name (codes ".hg")) (ltb 65535 (length name)) (not-true _ h) in
    component_path name component (ltb-false 65535 (length name) both.1) both.0)
    (λ h.
    let p = path_parts name h in
    let parts = components_name name (component_plain name component) in
    not_from_false _ (or_from (bytes_eq name (codes ".hg")) (ltb 65535 (length name)) (sym (ap is_reserved parts) ∙ p.own) (le-ltb 65535 (length name) p.short)))

-- and below a directory unless that makes it too long or too deep
pub path_below : (dir name : List ℕ) → is_path dir ≡ true → is_component name ≡ true
    → not (leb (65535 - length dir) (length name) || leb 2048 (length (components dir))) ≡ is_path (dir ++ 47 ∷ name)
path_below dir name path component =
    same_test (not (leb (65535 - length dir) (length name) || leb 2048 (length (components dir)))) (is_path (dir ++ 47 ∷ name))
    (λ h.
    let both = or_parts (leb (65535 - length dir) (length name)) (leb 2048 (length (components dir))) (not-true _ h) in
    let short : length dir + length name + 1 ≤ 65535 = omega (arith, leb-false (65535 - length dir) (length name) both.0) in
    joined_path dir name path component short (leb-false 2048 (length (components dir)) both.1))
    (λ h.
    let p = path_parts (dir ++ 47 ∷ name) h in
    let parts = components_more dir name (component_plain name component) in
    let short : length name < 65535 - length dir = omega (arith, length-append dir (47 ∷ name), p.short) in
    let shallow : length (components dir) < 2048 = omega (arith, ap length parts, length-append (components dir) (name ∷ []), p.shallow) in
    not_from_false _
    (or_from (leb (65535 - length dir) (length name)) (leb 2048 (length (components dir))) (lt-leb (65535 - length dir) (length name) short) (lt-leb 2048 (length (components dir)) shallow)))
