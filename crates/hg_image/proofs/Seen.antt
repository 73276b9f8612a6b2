-- A path that is seen by its name: a component behind a directory that is one.
use Rattle.std.proofs.Common.{◌≡◌, ℕ, ◌+◌, ◌<◌, ◌≤◌, Bool, true, false, cond, List, [], ◌∷◌, ◌++◌, length, Option, Some, None, refl, sym, ap, ◌∙◌, arith, leb, le-leb}
use Rattle.std.specs.Prelude.{codes, option_map, IfSome}
use Rattle.std.specs.Str.{IsUtf8, is_utf8, bytes_eq}
use Rattle.std.proofs.lemmas.Bool.{and_from}
use Rattle.std.proofs.lemmas.List.{length-append}
use Rattle.std.proofs.lemmas.Str.{IsUtf8-append, IsUtf8-from_is_utf8, is_utf8-from_IsUtf8}
use Rattle.hg_base.specs.PathText.{components, is_component, is_path, joined, base_of, parent_of, is_same_dir}
use Rattle.hg_base.specs.PathRefusal.{refusal}
use Rattle.hg_base.proofs.Children.{same_dir_itself}
use Rattle.hg_base.proofs.Components.{base_joined, parent_joined}
use Rattle.hg_base.proofs.Paths.{component_path, component_plain, joined_path, path_not_refused}
use Rattle.hg_docket.proofs.Ascii.{text_of_ascii}
use Rattle.hg_node.specs.declared.record.Rec.{Rec}
use Rattle.hg_image.specs.Node.{path_of, name_of, is_text, path_fault}
use Rattle.hg_image.specs.Walk.{levels}

-- a name makes a path below a directory where a level is left behind the next
pub seen_below : (dir name : List ℕ) (depth : ℕ) → is_path dir ≡ true → is_component name ≡ true → length (dir ++ 47 ∷ name) ≤ 65535 → length (components dir) + depth ≤ levels → 2 ≤ depth
    → is_path (dir ++ 47 ∷ name) ≡ true
unfolding levels
seen_below dir name depth path component short deep more =
    let room : length dir + length name + 1 ≤ 65535 = omega (arith, short, length-append dir (47 ∷ name)) in
    let shallow : length (components dir) < 2048 = omega (arith, deep, more) in
    joined_path dir name path component room shallow

-- and at the root where it isn't `.hg`
pub seen_at_root : (dir : Option (List ℕ)) (name : List ℕ) → dir ≡ None → is_component name ≡ true → length (joined dir name) ≤ 65535 → bytes_eq name (codes ".hg") ≡ false → is_path (joined dir name) ≡ true
seen_at_root None name none component short own = component_path name component short own
seen_at_root (Some dir) name none component short own = absurd (cc)

-- what holds where bytes are a text holds of the text that was made of them
pub where_text : {A : Type 0} (f : A → List ℕ) (made : Option A) (bytes : List ℕ) (P : Type 0) → option_map f made ≡ cond (is_utf8 bytes) (Some bytes) None → (is_utf8 bytes ≡ true → P) → IfSome made (λ it. P)
where_text f None bytes P e holds = tt
where_text f (Some it) bytes P e holds = made (is_utf8 bytes) e holds
  where
    made : (t : Bool) → Some (f it) ≡ cond t (Some bytes) None → (t ≡ true → P) → P
    made true e holds = holds refl
    made false e holds = absurd (cc)

-- a text behind a directory and a slash makes a text
pub utf8_below : (dir name : List ℕ) → IsUtf8 dir → is_utf8 name ≡ true → is_utf8 (dir ++ 47 ∷ name) ≡ true
utf8_below dir name first h =
    is_utf8-from_IsUtf8 (dir ++ 47 ∷ name) (IsUtf8-append dir (47 ∷ name) first (IsUtf8-append (47 ∷ []) name (text_of_ascii (47 ∷ []) refl) (IsUtf8-from_is_utf8 name h)))

-- what was found of a node that is seen by its name
pub record Seen (bytes : List ℕ) (dir : Option (List ℕ)) (rec : Rec) (name : List ℕ) : Type 0 where
  pub text : is_text bytes rec.path_start rec.path_len ≡ true
  pub path : is_path (path_of bytes rec) ≡ true
  pub fault : path_fault bytes rec ≡ None
  pub is_name : name ≡ name_of bytes rec
  pub stands : true ≡ is_same_dir dir (parent_of (path_of bytes rec))

pub seen : (bytes : List ℕ) (dir : Option (List ℕ)) (rec : Rec) (name : List ℕ) → rec.path_start + rec.path_len ≤ length bytes → is_utf8 (path_of bytes rec) ≡ true → path_of bytes rec ≡ joined dir name
    → is_component name ≡ true → is_path (joined dir name) ≡ true → Seen bytes dir rec name
unfolding is_text
seen bytes dir rec name room utf8 whole component path =
    let text : is_text bytes rec.path_start rec.path_len ≡ true = and_from (leb (rec.path_start + rec.path_len) (length bytes)) (is_utf8 (path_of bytes rec)) (le-leb _ _ room) utf8 in
    let good : is_path (path_of bytes rec) ≡ true = ap is_path whole ∙ path in
    let none : refusal (path_of bytes rec) ≡ None = path_not_refused (path_of bytes rec) good in
    let plain = component_plain name component in
    record {
      text = text;
      path = good;
      fault = simp (text, none);
      is_name = sym (ap base_of whole ∙ base_joined dir name plain);
      stands = sym (ap (is_same_dir dir) (ap parent_of whole ∙ parent_joined dir name plain) ∙ same_dir_itself dir);
    }
