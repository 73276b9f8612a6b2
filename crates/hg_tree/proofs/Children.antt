-- The names of a directory are found by going over all paths.
use Rattle.std.proofs.Common.{ℕ, ◌≡◌, Bool, true, false, not, ◌&&◌, ◌||◌, cond, List, [], ◌∷◌, ◌++◌, map, Option, Some, None, String, inl, inr, refl, sym, ◌∙◌, ap, subst, append_assoc, append-nil}
use Rattle.std.specs.Prelude.{is_some}
use Rattle.std.specs.BTreeMap.{is_at}
use Rattle.std.specs.List.{list_all, filter_map, cons_option, IsDistinct, AllByRecursion, All}
use Rattle.std.specs.Map.{lookup, keys_of}
use Rattle.std.specs.Ordering.{eq_by_cmp}
use Rattle.std.specs.Str.{bytes_eq}
use Rattle.std.specs.String.{string_bytes, string_cmp}
use Rattle.std.proofs.lemmas.Bool.{cases_Bool, both_ways, and_parts, and_from, and_right, or_left, or_right, false_from_ne_true, not-true, not_from_false}
use Rattle.std.proofs.lemmas.List.Elements.{All-nil, All-cons}
use Rattle.std.proofs.lemmas.Map.Keys.{IsDistinct-cons, IsDistinct-head, IsDistinct-tail}
use Rattle.std.proofs.lemmas.Map.Text.{text_cmp, is_eq-slice_cmp}
use Rattle.hg_base.specs.PathText.{is_path, is_component, has_slash, joined, child_of}
use Rattle.hg_base.proofs.Children.{child_component, child_is, child_joined}
use Rattle.hg_base.proofs.Components.{base_joined, joined_same}
use Rattle.hg_base.proofs.Paths.{path_base, component_plain}
use Rattle.hg_tree.specs.declared.thing.Placed.{Placed}
use Rattle.hg_tree.specs.Moment.{Moment, Things, is_among, AreNames, AreFit, IsFit, AreAtPaths}
use Rattle.hg_tree.specs.Children.{AreChildren}
use Rattle.hg_tree.proofs.Planting.{same_bytes, equal_bytes}

-- one path more among those of which the names are looked for
one_more : (dir : Option (List ℕ)) (name path : List ℕ) (found : Option (List ℕ)) → is_path path ≡ true → child_of dir path ≡ found
    → (names : List (List ℕ)) → is_among name (cons_option found names) ≡ ((not (has_slash name) && bytes_eq (joined dir name) path) || is_among name names)
one_more dir name path (Some other) is found names = ap (λ (t : Bool). t || is_among name names) same
  where
    whole : path ≡ joined dir other
    whole = child_is dir path other found

    component : is_component other ≡ true
    component = child_component dir path other is found

    same : bytes_eq name other ≡ (not (has_slash name) && bytes_eq (joined dir name) path)
    same = elim (cases_Bool (bytes_eq name other)) [
      | inl e ↦
          let equal = same_bytes name other e in
          let plain : has_slash name ≡ false = ap has_slash equal ∙ component_plain other component in
          e ∙ sym (and_from (not (has_slash name)) (bytes_eq (joined dir name) path) (not_from_false (has_slash name) plain)
          (ap (λ (n : List ℕ). bytes_eq (joined dir n) path) equal ∙ sym (ap (bytes_eq (joined dir other)) (sym whole)) ∙ equal_bytes (joined dir other)))
      | inr e ↦ e ∙ sym (false_from_ne_true (not (has_slash name) && bytes_eq (joined dir name) path) (λ both.
          let parts = and_parts (not (has_slash name)) (bytes_eq (joined dir name) path) both in
          let equal = joined_same dir name dir other (not-true (has_slash name) parts.0) (component_plain other component) (same_bytes (joined dir name) path parts.1 ∙ whole) in
          both_ways (bytes_eq name other) e (ap (λ (n : List ℕ). bytes_eq n other) equal.1 ∙ equal_bytes other)))
    ]
one_more dir name path None is found names = ap (λ (t : Bool). t || is_among name names) (sym (false_from_ne_true (not (has_slash name) && bytes_eq (joined dir name) path) (λ both.
    let parts = and_parts (not (has_slash name)) (bytes_eq (joined dir name) path) both in
    let there : child_of dir path ≡ Some name = sym (ap (child_of dir) (same_bytes (joined dir name) path parts.1)) ∙ child_joined dir name (not-true (has_slash name) parts.0) in
    absurd (cc))))

spread : (a b c : Bool) → ((a && b) || (a && c)) ≡ (a && (b || c))
spread true b c = refl
spread false b c = refl

-- a name is found exactly where its path is one of them
found_among : (dir : Option (List ℕ)) (name : List ℕ) (paths : List (List ℕ)) → list_all is_path paths ≡ true
    → is_among name (filter_map (child_of dir) paths) ≡ (not (has_slash name) && is_among (joined dir name) paths)
found_among dir name [] are = sym (and_right (not (has_slash name)) false refl)
found_among dir name (path ∷ paths) are =
    let parts = and_parts (is_path path) (list_all is_path paths) are in
    one_more dir name path (child_of dir path) parts.0 refl (filter_map (child_of dir) paths)
    ∙ ap (λ (t : Bool). (not (has_slash name) && bytes_eq (joined dir name) path) || t) (found_among dir name paths parts.1)
    ∙ spread (not (has_slash name)) (bytes_eq (joined dir name) path) (is_among (joined dir name) paths)

-- names of different paths differ
apart_from : (dir : Option (List ℕ)) (path name : List ℕ) → path ≡ joined dir name → (paths : List (List ℕ)) → list_all is_path paths ≡ true
    → AllByRecursion (λ other. bytes_eq path other ≡ false) paths → AllByRecursion (λ other. bytes_eq name other ≡ false) (filter_map (child_of dir) paths)
apart_from dir path name whole [] are apart = tt
apart_from dir path name whole (next ∷ paths) are apart =
    let parts = and_parts (is_path next) (list_all is_path paths) are in
    with_found (child_of dir next) parts.0 refl (apart_from dir path name whole paths parts.1 apart.1)
  where
    with_found : (found : Option (List ℕ)) → is_path next ≡ true → child_of dir next ≡ found
        → AllByRecursion (λ other. bytes_eq name other ≡ false) (filter_map (child_of dir) paths)
        → AllByRecursion (λ other. bytes_eq name other ≡ false) (cons_option found (filter_map (child_of dir) paths))
    with_found None is found rest = rest
    with_found (Some other) is found rest = (
      false_from_ne_true (bytes_eq name other) (λ e.
          let same : path ≡ next = whole ∙ ap (joined dir) (same_bytes name other e) ∙ sym (child_is dir next other found) in
          both_ways (bytes_eq path next) apart.0 (ap (bytes_eq path) (sym same) ∙ equal_bytes path)),
      rest,
    )

none_distinct : IsDistinct bytes_eq []
unfolding IsDistinct
none_distinct = tt

-- so they are distinct
pub distinct_names : (dir : Option (List ℕ)) (paths : List (List ℕ)) → list_all is_path paths ≡ true → IsDistinct bytes_eq paths
    → IsDistinct bytes_eq (filter_map (child_of dir) paths)
distinct_names dir [] are distinct = none_distinct
distinct_names dir (path ∷ paths) are distinct =
    let parts = and_parts (is_path path) (list_all is_path paths) are in
    with_found (child_of dir path) parts.0 parts.1 refl (distinct_names dir paths parts.1 (IsDistinct-tail bytes_eq path paths distinct))
  where
    with_found : (found : Option (List ℕ)) → is_path path ≡ true → list_all is_path paths ≡ true → child_of dir path ≡ found → IsDistinct bytes_eq (filter_map (child_of dir) paths)
        → IsDistinct bytes_eq (cons_option found (filter_map (child_of dir) paths))
    with_found None is are found rest = rest
    with_found (Some name) is are found rest =
        IsDistinct-cons bytes_eq name (filter_map (child_of dir) paths)
        (apart_from dir path name (child_is dir path name found) paths are (IsDistinct-head bytes_eq path paths distinct)) rest

-- the bytes of the keys of a map
abbrev pub texts : {Y : Type 0} → List (String Y) → List (List ℕ)
texts keys = map string_bytes keys

one_key : (t : Bool) (placed : Placed) (o : Option Placed) → (t || is_some o) ≡ is_some (cond t (Some placed) o)
one_key true placed o = refl
one_key false placed o = refl

-- a path is among the keys exactly where the map has something there
pub among_keys : {Y : Type 0} (path : List ℕ) (entries : List (String Y × Placed)) → is_among path (texts (keys_of entries)) ≡ is_some (lookup (is_at (text_cmp path)) entries)
among_keys path [] = refl
among_keys path (entry ∷ entries) =
    ap (λ (t : Bool). t || is_among path (texts (keys_of entries))) (sym (is_eq-slice_cmp path (string_bytes entry.0)))
    ∙ ap (λ (t : Bool). is_at (text_cmp path) entry.0 || t) (among_keys path entries)
    ∙ one_key (is_at (text_cmp path) entry.0) entry.1 (lookup (is_at (text_cmp path)) entries)

apart_texts : {Y : Type 0} (key : String Y) (keys : List (String Y)) → AllByRecursion (λ other. eq_by_cmp string_cmp key other ≡ false) keys
    → AllByRecursion (λ other. bytes_eq (string_bytes key) other ≡ false) (texts keys)
apart_texts key [] apart = tt
apart_texts key (next ∷ keys) apart = (sym (is_eq-slice_cmp (string_bytes key) (string_bytes next)) ∙ apart.0, apart_texts key keys apart.1)

pub distinct_texts : {Y : Type 0} (keys : List (String Y)) → IsDistinct (eq_by_cmp string_cmp) keys → IsDistinct bytes_eq (texts keys)
distinct_texts [] distinct = none_distinct
distinct_texts (key ∷ keys) distinct =
    IsDistinct-cons bytes_eq (string_bytes key) (texts keys) (apart_texts key keys (IsDistinct-head (eq_by_cmp string_cmp) key keys distinct))
    (distinct_texts keys (IsDistinct-tail (eq_by_cmp string_cmp) key keys distinct))

-- what holds of all that is among some texts holds of each
pub all_from_among : (P : List ℕ → Type 0) (names : List (List ℕ)) → ((name : List ℕ) → is_among name names ≡ true → P name) → All P names
all_from_among P [] each = All-nil P
all_from_among P (name ∷ names) each =
    All-cons P name names (each name (or_left (bytes_eq name name) (is_among name names) (equal_bytes name)))
    (all_from_among P names (λ other among. each other (or_right (bytes_eq other name) (is_among other names) among)))

pub paths_from_among : (paths : List (List ℕ)) → ((path : List ℕ) → is_among path paths ≡ true → is_path path ≡ true) → list_all is_path paths ≡ true
paths_from_among [] each = refl
paths_from_among (path ∷ paths) each =
    and_from (is_path path) (list_all is_path paths) (each path (or_left (bytes_eq path path) (is_among path paths) (equal_bytes path)))
    (paths_from_among paths (λ other among. each other (or_right (bytes_eq other path) (is_among other paths) among)))

-- the keys of a map whose things stand at paths are paths
pub keys_are_paths : {Y : Type 0} (entries : List (String Y × Placed)) → AreAtPaths (λ path. lookup (is_at (text_cmp path)) entries) → list_all is_path (texts (keys_of entries)) ≡ true
keys_are_paths entries paths = paths_from_among (texts (keys_of entries)) (λ path among. paths path (sym (among_keys path entries) ∙ among))

-- the children's names of all keys are the names of the directory
pub children_of_keys : {Y : Type 0} (dir : Option (List ℕ)) (entries : List (String Y × Placed)) (names : List (List ℕ)) → AreAtPaths (λ path. lookup (is_at (text_cmp path)) entries)
    → IsDistinct (eq_by_cmp string_cmp) (keys_of entries) → names ≡ filter_map (child_of dir) (texts (keys_of entries)) → AreChildren (λ path. lookup (is_at (text_cmp path)) entries) dir names
children_of_keys dir entries names paths distinct names_are =
    let are = keys_are_paths entries paths in
    record {
      among = λ name.
          ap (is_among name) names_are ∙ found_among dir name (texts (keys_of entries)) are
          ∙ ap (λ (t : Bool). not (has_slash name) && t) (among_keys (joined dir name) entries);
      distinct = subst (IsDistinct bytes_eq) (sym names_are) (distinct_names dir (texts (keys_of entries)) are (distinct_texts (keys_of entries) distinct));
    }

module _ (things : Things) (dir : Option (List ℕ)) (names : List (List ℕ)) (paths : AreAtPaths things) (children : AreChildren things dir names) where
  child_parts : (name : List ℕ) → is_among name names ≡ true → (not (has_slash name) ≡ true) × (is_some (things (joined dir name)) ≡ true)
  child_parts name among = and_parts (not (has_slash name)) (is_some (things (joined dir name))) (sym (children.among name) ∙ among)

  child_fits : (name : List ℕ) → is_among name names ≡ true → IsFit dir name
  child_fits name among =
      let parts = child_parts name among in
      let path = paths (joined dir name) parts.1 in
      record {
        component = sym (ap is_component (base_joined dir name (not-true (has_slash name) parts.0))) ∙ path_base (joined dir name) path;
        path = path;
      }

  pub children_fit : AreFit dir names
  children_fit = record { distinct = children.distinct; each = all_from_among (IsFit dir) names child_fits }

  pub children_names : (moment : Moment) → moment.things ≡ things → AreNames moment dir names
  children_names moment same = record {
    stand = λ name among.
        and_from (is_component name) (is_some (moment.things (joined dir name))) (child_fits name among).component
        (ap (λ (f : Things). is_some (f (joined dir name))) same ∙ (child_parts name among).1);
    all = λ name component some.
        children.among name ∙ and_from (not (has_slash name)) (is_some (things (joined dir name))) (not_from_false (has_slash name) (component_plain name component))
        (sym (ap (λ (f : Things). is_some (f (joined dir name))) same) ∙ some);
  }

-- one turn of the walk over the keys that are left
pub key_is_path : {Y : Type 0} (key : String Y) (left rest : List (String Y)) → left ≡ key ∷ rest → list_all is_path (texts left) ≡ true
    → (is_path (string_bytes key) ≡ true) × (list_all is_path (texts rest) ≡ true)
key_is_path key left rest is are =
    and_parts (is_path (string_bytes key)) (list_all is_path (texts rest)) (sym (ap (λ ks. list_all is_path (texts ks)) is) ∙ are)

pub name_kept : {Y : Type 0} (dir : Option (List ℕ)) (names longer all : List (List ℕ)) (name : List ℕ) (key : String Y) (left rest : List (String Y)) → left ≡ key ∷ rest
    → Some name ≡ child_of dir (string_bytes key) → longer ≡ names ++ name ∷ [] → names ++ filter_map (child_of dir) (texts left) ≡ all
    → longer ++ filter_map (child_of dir) (texts rest) ≡ all
name_kept dir names longer all name key left rest is found push so_far =
    let front : List (List ℕ) = filter_map (child_of dir) (texts rest) in
    ap (λ ns. ns ++ front) push
    ∙ append_assoc names (name ∷ []) front
    ∙ ap (λ (o : Option (List ℕ)). names ++ cons_option o front) found
    ∙ sym (ap (λ ks. names ++ filter_map (child_of dir) (texts ks)) is)
    ∙ so_far

pub none_kept : {Y : Type 0} (dir : Option (List ℕ)) (names all : List (List ℕ)) (key : String Y) (left rest : List (String Y)) → left ≡ key ∷ rest
    → None ≡ child_of dir (string_bytes key) → names ++ filter_map (child_of dir) (texts left) ≡ all → names ++ filter_map (child_of dir) (texts rest) ≡ all
none_kept dir names all key left rest is found so_far =
    ap (λ (o : Option (List ℕ)). names ++ cons_option o (filter_map (child_of dir) (texts rest))) found
    ∙ sym (ap (λ ks. names ++ filter_map (child_of dir) (texts ks)) is)
    ∙ so_far

pub none_left : {Y : Type 0} (dir : Option (List ℕ)) (names all : List (List ℕ)) (left : List (String Y)) → left ≡ []
    → names ++ filter_map (child_of dir) (texts left) ≡ all → names ≡ all
none_left dir names all left is so_far =
    sym (append-nil names) ∙ sym (ap (λ ks. names ++ filter_map (child_of dir) (texts ks)) is) ∙ so_far
