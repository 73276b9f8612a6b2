-- Words that are paths, from a folder.
use Rattle.std.proofs.Common.{◌≡◌, ℕ, ◌+◌, ◌<◌, ◌≤◌, Bool, true, false, cond, ◌||◌, List, [], ◌∷◌, ◌++◌, length, Option, Some, None, refl, sym, ap, ◌∙◌, arith, eqb, ne_eqb, true≢false}
use Rattle.std.specs.Prelude.{codes}
use Rattle.std.specs.List.{list_all, onto_first}
use Rattle.std.specs.Option.{option_map, unwrap_or}
use Rattle.std.specs.Str.{bytes_eq}
use Rattle.std.proofs.lemmas.Bool.{and_parts, and_from, or_parts, not-true}
use Rattle.std.proofs.lemmas.List.{length-append}
use Rattle.std.proofs.lemmas.List.Folds.{list_all-append}
use Rattle.hg_base.specs.PathText.{components, has_nul, has_slash, is_component, is_path, is_reserved, joined, joined_pieces}
use Rattle.hg_base.proofs.Components.{components_joined, components_some, joined_components}
use Rattle.hg_base.proofs.Paths.{path_from, path_parts, path_some}
use Rattle.hg_words.specs.Told.{from_folder, in_folder, led, stands_alone}

-- a component is neither `.` nor `..`
is_no_step : (name : List ℕ) → is_component name ≡ true → (bytes_eq name (codes ".") ≡ false) × (bytes_eq name (codes "..") ≡ false)
is_no_step name h =
    let a = or_parts (eqb (length name) 0 || bytes_eq name (codes ".") || bytes_eq name (codes "..") || has_nul name) (has_slash name) (not-true _ h) in
    let b = or_parts (eqb (length name) 0 || bytes_eq name (codes ".") || bytes_eq name (codes "..")) (has_nul name) a.0 in
    let c = or_parts (eqb (length name) 0 || bytes_eq name (codes ".")) (bytes_eq name (codes "..")) b.0 in
    ((or_parts (eqb (length name) 0) (bytes_eq name (codes ".")) c.0).1, c.1)

-- components lead nowhere: they stand in the folder
led_components : (folder : List ℕ) (parts : List (List ℕ)) → 0 < length parts → list_all is_component parts ≡ true → led folder parts ≡ option_map (in_folder folder) (joined_pieces parts)
led_components folder [] some h = absurd (omega arith)
led_components folder (piece ∷ []) some h = refl
led_components folder (piece ∷ next ∷ pieces) some h =
    let named = is_no_step piece (and_parts (is_component piece) (list_all is_component (next ∷ pieces)) h).0 in
    rw (named.0, named.1) refl

slash_first : (b : ℕ) (word : List ℕ) (t : Bool) → eqb b 47 ≡ t → list_all is_component (components (b ∷ word)) ≡ true → t ≡ false
slash_first b word false e h = refl
slash_first b word true e h =
    absurd (true≢false (sym h ∙ ap (λ (t : Bool). list_all is_component (cond t ([] ∷ components word) (onto_first b (components word)))) e))

-- a path doesn't stand alone
path_is_told : (word : List ℕ) → is_path word ≡ true → stands_alone word ≡ false
path_is_told [] h = absurd (omega (arith, path_some [] h))
path_is_told (b ∷ word) h = slash_first b word (eqb b 47) refl (path_parts (b ∷ word) h).pieces

-- a path leads into the folder
led_path : (folder word : List ℕ) → is_path word ≡ true → led folder (components word) ≡ Some (in_folder folder word)
led_path folder word h = led_components folder (components word) (components_some word) (path_parts word h).pieces ∙ ap (option_map (in_folder folder)) (joined_components word)

path_told : (folder word : List ℕ) → is_path word ≡ true → from_folder folder word ≡ in_folder folder word
path_told folder word h =
    ap (λ (t : Bool). cond t word (unwrap_or (led folder (components word)) word)) (path_is_told word h) ∙ ap (λ (o : Option (List ℕ)). unwrap_or o word) (led_path folder word h)

leads : (folder word : List ℕ) (place : Option (List ℕ)) → led folder (components word) ≡ place → is_path (unwrap_or place word) ≡ true → place ≡ Some (unwrap_or place word)
leads folder word None e h = absurd (none_some (sym e ∙ led_path folder word h))
  where
    none_some : None ≡ Some (in_folder folder word) → ⊥
    none_some e = cc
leads folder word (Some path) e h = refl

told_or_alone : (folder word : List ℕ) (alone : Bool) → stands_alone word ≡ alone → is_path (cond alone word (unwrap_or (led folder (components word)) word)) ≡ true
    → led folder (components word) ≡ Some (cond alone word (unwrap_or (led folder (components word)) word))
told_or_alone folder word true e h = absurd (true≢false (sym e ∙ path_is_told word h))
told_or_alone folder word false e h = leads folder word (led folder (components word)) refl h

-- what is answered and is a path is where the word leads
pub path_leads : (folder word : List ℕ) → is_path (from_folder folder word) ≡ true → led folder (components word) ≡ Some (from_folder folder word)
path_leads folder word h = told_or_alone folder word (stands_alone word) refl h

-- at the root that is the path itself
pub told_at_root : (word : List ℕ) → is_path word ≡ true → from_folder [] word ≡ word
told_at_root word h = path_told [] word h

-- and below it the folder's path stands before it
pub told_in_folder : (folder word : List ℕ) → is_path folder ≡ true → is_path word ≡ true → from_folder folder word ≡ folder ++ 47 ∷ word
told_in_folder folder word f h =
    let some : 0 < length folder = path_some folder f in
    path_told folder word h ∙ ap (λ (t : Bool). joined (cond t None (Some folder)) word) (ne_eqb (length folder) 0 (λ e. omega arith))

reserved_first : (parts more : List (List ℕ)) → 0 < length parts → is_reserved (parts ++ more) ≡ is_reserved parts
reserved_first [] more h = absurd (omega arith)
reserved_first (part ∷ parts) more h = refl

-- which is a path within the limits
pub told_path : (folder word : List ℕ) → is_path folder ≡ true → is_path word ≡ true → length folder + length word + 1 ≤ 65535 → length (components folder) + length (components word) ≤ 2048
    → is_path (from_folder folder word) ≡ true
told_path folder word f h short shallow =
    let p = path_parts folder f in
    let q = path_parts word h in
    let parts = components_joined folder word in
    rw (told_in_folder folder word f h)
    (path_from (folder ++ 47 ∷ word) (record {
      short = omega (arith, length-append folder (47 ∷ word));
      pieces = ap (list_all is_component) parts ∙ list_all-append is_component (components folder) (components word)
          ∙ and_from (list_all is_component (components folder)) (list_all is_component (components word)) p.pieces q.pieces;
      own = ap is_reserved parts ∙ reserved_first (components folder) (components word) (components_some folder) ∙ p.own;
      shallow = omega (arith, ap length parts, length-append (components folder) (components word));
    }))
