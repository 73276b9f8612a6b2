-- Texts that are paths, and what their directories and names are.
use Rattle.std.proofs.Common.{◌≡◌, ℕ, ◌+◌, ◌<◌, ◌≤◌, Bool, true, false, cond, ◌&&◌, ◌||◌, not, List, [], ◌∷◌, ◌++◌, length, Option, Some, None, refl, sym, ap, ◌∙◌, arith, eqb, ltb, leb, ltb-false, le-leb, leb-true, le-ltb, ne_eqb, true≢false}
use Rattle.std.specs.Prelude.{◌==◌, codes}
use Rattle.std.specs.List.{list_all}
use Rattle.std.specs.Str.{bytes_eq}
use Rattle.std.proofs.lemmas.Bool.{and_parts, and_from, or_parts, not-true, not_from_false}
use Rattle.std.proofs.lemmas.List.{length-append}
use Rattle.std.proofs.lemmas.List.Folds.{list_all-append}
use Rattle.hg_base.specs.PathText.{components, is_component, is_reserved, is_path, has_slash, has_nul, last_piece, base_of, is_below}
use Rattle.hg_base.specs.PathRefusal.{bad_place, component_refusal, refusal}
use Rattle.hg_base.specs.declared.path.PathFault.{PathFault}
use Rattle.hg_base.specs.declared.path.PathFault.TheVariants as a_fault
use Rattle.hg_base.proofs.Components.{components_some, components_joined, components_name, components_more}
use Rattle.hg_base.proofs.Below.{below_split}

-- what a path is, fact by fact
pub record Path (text : List ℕ) : Type 0 where
  pub short : length text ≤ 65535
  pub pieces : list_all is_component (components text) ≡ true
  pub own : is_reserved (components text) ≡ false
  pub shallow : length (components text) ≤ 2048

pub path_parts : (text : List ℕ) → is_path text ≡ true → Path text
path_parts text h =
    let pieces = list_all is_component (components text) in
    let first = and_parts (leb (length text) 65535 && pieces && not (is_reserved (components text))) (leb (length (components text)) 2048) h in
    let second = and_parts (leb (length text) 65535 && pieces) (not (is_reserved (components text))) first.0 in
    let third = and_parts (leb (length text) 65535) pieces second.0 in
    record {
      short = leb-true (length text) 65535 third.0;
      pieces = third.1;
      own = not-true (is_reserved (components text)) second.1;
      shallow = leb-true (length (components text)) 2048 first.1;
    }

pub path_from : (text : List ℕ) → Path text → is_path text ≡ true
path_from text p =
    let pieces = list_all is_component (components text) in
    and_from (leb (length text) 65535 && pieces && not (is_reserved (components text))) (leb (length (components text)) 2048)
    (and_from (leb (length text) 65535 && pieces) (not (is_reserved (components text)))
    (and_from (leb (length text) 65535) pieces (le-leb (length text) 65535 p.short) p.pieces)
    (not_from_false (is_reserved (components text)) p.own))
    (le-leb (length (components text)) 2048 p.shallow)

bad_none : (at : ℕ) (parts : List (List ℕ)) → bad_place at parts ≡ None → list_all is_component parts ≡ true
bad_none at [] h = refl
bad_none at (part ∷ parts) h = bad_step at part parts (is_component part) refl (bad_none (at + length part + 1) parts) h
  where
    bad_step : (at : ℕ) (part : List ℕ) (parts : List (List ℕ)) (t : Bool) → is_component part ≡ t
        → (bad_place (at + length part + 1) parts ≡ None → list_all is_component parts ≡ true)
        → cond t (bad_place (at + length part + 1) parts) (Some at) ≡ None → (is_component part && list_all is_component parts) ≡ true
    bad_step at part parts true is more h = and_from (is_component part) (list_all is_component parts) is (more h)
    bad_step at part parts false is more h = absurd (cc)

row : (t : Bool) (fault : PathFault) (more : Option PathFault) → cond t (Some fault) more ≡ None → (t ≡ false) × (more ≡ None)
row true fault more h = absurd (cc)
row false fault more h = (refl, h)

component_rows : (place : Option ℕ) (parts : List (List ℕ)) → component_refusal place parts ≡ None → (place ≡ None) × (is_reserved parts ≡ false) × (ltb 2048 (length parts) ≡ false)
component_rows (Some at) parts h = absurd (cc)
component_rows None parts h =
    let first = row (is_reserved parts) a_fault.Reserved _ h in
    let second = row (ltb 2048 (length parts)) (a_fault.TooDeep (length parts)) None first.1 in
    (refl, first.0, second.0)

-- a text that isn't refused is a path
pub path_of : (text : List ℕ) → refusal text ≡ None → is_path text ≡ true
path_of text h =
    let first = row (eqb (length text) 0) a_fault.Empty _ h in
    let second = row (ltb 65535 (length text)) (a_fault.TooLong (length text)) _ first.1 in
    let third = component_rows (bad_place 0 (components text)) (components text) second.1 in
    path_from text (record {
      short = ltb-false 65535 (length text) second.0;
      pieces = bad_none 0 (components text) third.0;
      own = third.1;
      shallow = ltb-false 2048 (length (components text)) third.2;
    })

all_good : (at : ℕ) (parts : List (List ℕ)) → list_all is_component parts ≡ true → bad_place at parts ≡ None
all_good at [] h = refl
all_good at (part ∷ parts) h =
    let both = and_parts (is_component part) (list_all is_component parts) h in
    ap (λ (t : Bool). cond t (bad_place (at + length part + 1) parts) (Some at)) both.0 ∙ all_good (at + length part + 1) parts both.1

-- a path isn't empty
pub path_some : (text : List ℕ) → is_path text ≡ true → 0 < length text
path_some [] h = absurd (true≢false (sym (path_parts [] h).pieces))
path_some (b ∷ text) h = omega arith

-- a path isn't refused
pub path_not_refused : (text : List ℕ) → is_path text ≡ true → refusal text ≡ None
path_not_refused text h =
    let p = path_parts text h in
    let some : 0 < length text = path_some text h in
    let empty : eqb (length text) 0 ≡ false = ne_eqb (length text) 0 (λ e. omega arith) in
    let long : ltb 65535 (length text) ≡ false = le-ltb 65535 (length text) p.short in
    let deep : ltb 2048 (length (components text)) ≡ false = le-ltb 2048 (length (components text)) p.shallow in
    simp (empty, long, all_good 0 (components text) p.pieces, p.own, deep)

own_append : (parts more : List (List ℕ)) → 0 < length parts → is_reserved (parts ++ more) ≡ is_reserved parts
own_append [] more h = absurd (omega arith)
own_append (part ∷ parts) more h = refl

-- what a path begins with before a slash is a path
pub path_front : (front rest : List ℕ) → is_path (front ++ 47 ∷ rest) ≡ true → is_path front ≡ true
path_front front rest h =
    let p = path_parts (front ++ 47 ∷ rest) h in
    let parts = components_joined front rest in
    let pieces = and_parts (list_all is_component (components front)) (list_all is_component (components rest))
    (sym (list_all-append is_component (components front) (components rest)) ∙ sym (ap (list_all is_component) parts) ∙ p.pieces) in
    let many : length (components (front ++ 47 ∷ rest)) ≡ length (components front) + length (components rest) = ap length parts ∙ length-append (components front) (components rest) in
    let short : length front ≤ 65535 = omega (arith, length-append front (47 ∷ rest), p.short) in
    let shallow : length (components front) ≤ 2048 = omega (arith, many, p.shallow) in
    path_from front (record {
      short = short;
      pieces = pieces.0;
      own = sym (own_append (components front) (components rest) (components_some front)) ∙ sym (ap is_reserved parts) ∙ p.own;
      shallow = shallow;
    })

pub path_cut : (text dir name : List ℕ) → text ≡ dir ++ 47 ∷ name → is_path text ≡ true → is_path dir ≡ true
path_cut text dir name e h = path_front dir name (sym (ap is_path e) ∙ h)

-- a directory above a path is a path
pub path_above : (dir path : List ℕ) → is_below dir path ≡ true → is_path path ≡ true → is_path dir ≡ true
path_above dir path below h =
    let split = below_split dir path below in
    path_front dir split.0 (sym (ap is_path split.1) ∙ h)

last_component : (parts : List (List ℕ)) → 0 < length parts → list_all is_component parts ≡ true → is_component (last_piece parts) ≡ true
last_component [] some h = absurd (omega arith)
last_component (part ∷ []) some h = (and_parts (is_component part) true h).0
last_component (part ∷ next ∷ parts) some h = last_component (next ∷ parts) (omega arith) (and_parts (is_component part) (list_all is_component (next ∷ parts)) h).1

-- the name of a path is a component
pub path_base : (text : List ℕ) → is_path text ≡ true → is_component (base_of text) ≡ true
path_base text h = last_component (components text) (components_some text) (path_parts text h).pieces

-- a component has no slash
pub component_plain : (name : List ℕ) → is_component name ≡ true → has_slash name ≡ false
component_plain name h =
    (or_parts (length name == 0 || bytes_eq name (codes ".") || bytes_eq name (codes "..") || has_nul name) (has_slash name) (not-true _ h)).1

-- the name of a path has no slash
pub path_base_plain : (text : List ℕ) → is_path text ≡ true → has_slash (base_of text) ≡ false
path_base_plain text h = component_plain (base_of text) (path_base text h)

-- a component is a path, unless it is `.hg`, where it isn't too long
pub component_path : (name : List ℕ) → is_component name ≡ true → length name ≤ 65535 → bytes_eq name (codes ".hg") ≡ false → is_path name ≡ true
component_path name h short own =
    let parts = components_name name (component_plain name h) in
    path_from name (record {
      short = short;
      pieces = ap (list_all is_component) parts ∙ and_from (is_component name) true h refl;
      own = ap is_reserved parts ∙ own;
      shallow = rw parts (omega arith);
    })

-- a component of a directory that is a path makes a path within the limits
pub joined_path : (dir name : List ℕ) → is_path dir ≡ true → is_component name ≡ true → length dir + length name + 1 ≤ 65535 → length (components dir) < 2048 → is_path (dir ++ 47 ∷ name) ≡ true
joined_path dir name h component short shallow =
    let p = path_parts dir h in
    let parts = components_more dir name (component_plain name component) in
    path_from (dir ++ 47 ∷ name) (record {
      short = omega (arith, length-append dir (47 ∷ name));
      pieces = ap (list_all is_component) parts ∙ list_all-append is_component (components dir) (name ∷ [])
          ∙ and_from (list_all is_component (components dir)) (list_all is_component (name ∷ [])) p.pieces (and_from (is_component name) true component refl);
      own = ap is_reserved parts ∙ own_append (components dir) (name ∷ []) (components_some dir) ∙ p.own;
      shallow = omega (arith, ap length parts, length-append (components dir) (name ∷ []));
    })
