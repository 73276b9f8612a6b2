-- What stands right in a directory.
use Rattle.std.proofs.Common.{◌≡◌, ℕ, ◌<◌, Bool, true, false, cond, ◌⊎◌, inl, inr, List, [], ◌∷◌, ◌++◌, length, Option, Some, None, refl, sym, ap, ◌∙◌, subst, eqb, eqb-true, true≢false}
use Rattle.std.proofs.lemmas.Bool.{or_from}
use Rattle.std.proofs.lemmas.List.{append_assoc}
use Rattle.std.proofs.lemmas.Slice.Eq.{bytes_eq-Decides}
use Rattle.hg_base.specs.PathText.{has_slash, is_component, is_path, joined, base_of, parent_of, is_same_dir, child_of, is_below}
use Rattle.hg_base.proofs.Below.{below_joined, below_split, below_of_joined, below_name, below_length}
use Rattle.hg_base.proofs.Components.{base_joined, parent_joined, joined_parent}
use Rattle.hg_base.proofs.Paths.{path_base, path_base_plain}

-- the test of directories is equality
pub same_dir : (a b : Option (List ℕ)) → is_same_dir a b ≡ true → a ≡ b
same_dir None None h = refl
same_dir None (Some b) h = absurd (true≢false (sym h))
same_dir (Some a) None h = absurd (true≢false (sym h))
same_dir (Some a) (Some b) h = ap Some ((bytes_eq-Decides a b).0 h)

pub same_dir_itself : (a : Option (List ℕ)) → is_same_dir a a ≡ true
same_dir_itself None = refl
same_dir_itself (Some a) = (bytes_eq-Decides a a).1 refl

taken : (t : Bool) (name other : List ℕ) → cond t (Some other) None ≡ Some name → (t ≡ true) × (other ≡ name)
taken true name other h = (refl, cc)
taken false name other h = absurd (cc)

-- a name in a directory is a child of it
pub child_joined : (dir : Option (List ℕ)) (name : List ℕ) → has_slash name ≡ false → child_of dir (joined dir name) ≡ Some name
child_joined dir name plain =
    ap (λ (o : Option (List ℕ)). cond (is_same_dir dir o) (Some (base_of (joined dir name))) None) (parent_joined dir name plain)
    ∙ ap (λ (t : Bool). cond t (Some (base_of (joined dir name))) None) (same_dir_itself dir)
    ∙ ap Some (base_joined dir name plain)

-- a child's directory and name
pub child_parent : (dir : Option (List ℕ)) (path name : List ℕ) → child_of dir path ≡ Some name → (parent_of path ≡ dir) × (base_of path ≡ name)
child_parent dir path name h =
    let parts = taken (is_same_dir dir (parent_of path)) name (base_of path) h in
    (sym (same_dir dir (parent_of path) parts.0), parts.1)

-- a child is its name in the directory
pub child_is : (dir : Option (List ℕ)) (path name : List ℕ) → child_of dir path ≡ Some name → path ≡ joined dir name
child_is dir path name h =
    let parts = child_parent dir path name h in
    sym (joined_parent path) ∙ ap (λ (o : Option (List ℕ)). joined o (base_of path)) parts.0 ∙ ap (joined dir) parts.1

-- one name, one child
pub child_one : (dir : Option (List ℕ)) (a b name : List ℕ) → child_of dir a ≡ Some name → child_of dir b ≡ Some name → a ≡ b
child_one dir a b name p q = child_is dir a name p ∙ sym (child_is dir b name q)

-- the name of a path that is a child
pub child_component : (dir : Option (List ℕ)) (path name : List ℕ) → is_path path ≡ true → child_of dir path ≡ Some name → is_component name ≡ true
child_component dir path name h child = subst (λ (n : List ℕ). is_component n ≡ true) (child_parent dir path name child).1 (path_base path h)

-- a child makes a path with its directory
pub child_path : (dir : Option (List ℕ)) (path name : List ℕ) → is_path path ≡ true → child_of dir path ≡ Some name → is_path (joined dir name) ≡ true
child_path dir path name h child = sym (ap is_path (child_is dir path name child)) ∙ h

-- each path is a child of its directory
pub child_itself : (path : List ℕ) → child_of (parent_of path) path ≡ Some (base_of path)
child_itself path = ap (λ (t : Bool). cond t (Some (base_of path)) None) (same_dir_itself (parent_of path))

-- what stands right in a directory stands below it
pub below_child : (dir path name : List ℕ) → child_of (Some dir) path ≡ Some name → is_below dir path ≡ true
below_child dir path name h = ap (is_below dir) (child_is (Some dir) path name h) ∙ below_joined dir name

pub below_parent : (dir path : List ℕ) → parent_of path ≡ Some dir → is_below dir path ≡ true
below_parent dir path h =
    ap (is_below dir) (sym (joined_parent path) ∙ ap (λ (o : Option (List ℕ)). joined o (base_of path)) h) ∙ below_joined dir (base_of path)

-- a directory is shorter than what stands in it
pub parent_length : (dir path : List ℕ) → parent_of path ≡ Some dir → length dir < length path
parent_length dir path h = below_length dir path (below_parent dir path h)

-- what a path stands below is its directory, or what its directory stands below
pub below_by_parent : (above dir path : List ℕ) → is_path path ≡ true → parent_of path ≡ Some dir → is_below above path ≡ true → (above ≡ dir) ⊎ (is_below above dir ≡ true)
below_by_parent above dir path good parent h =
    let whole : path ≡ dir ++ 47 ∷ base_of path = sym (joined_parent path) ∙ ap (λ (o : Option (List ℕ)). joined o (base_of path)) parent in
    below_of_joined above dir (base_of path) (path_base_plain path good) (sym (ap (is_below above) whole) ∙ h)

-- what stands below something has a directory
pub below_has_parent : (above path : List ℕ) → is_path path ≡ true → is_below above path ≡ true → (dir : List ℕ) × (parent_of path ≡ Some dir)
below_has_parent above path good h = has (parent_of path) refl
  where
    has : (o : Option (List ℕ)) → parent_of path ≡ o → (dir : List ℕ) × (parent_of path ≡ Some dir)
    has (Some dir) e = (dir, e)
    has None e =
        let whole : path ≡ base_of path = sym (joined_parent path) ∙ ap (λ (o : Option (List ℕ)). joined o (base_of path)) e in
        absurd (true≢false (sym h ∙ ap (is_below above) whole ∙ below_name above (base_of path) (path_base_plain path good)))

-- the first name of a text, and what is behind its slash
abbrev FirstName : List ℕ → Type 0
FirstName text = (name : List ℕ) × (has_slash name ≡ false) × ((text ≡ name) ⊎ ((more : List ℕ) × (text ≡ name ++ 47 ∷ more)))

first_name : (text : List ℕ) → FirstName text
first_name [] = ([], refl, inl refl)
first_name (b ∷ text) = longer (eqb b 47) refl (first_name text)
  where
    longer : (t : Bool) → eqb b 47 ≡ t → FirstName text → FirstName (b ∷ text)
    longer true is found = ([], refl, inr (text, ap (λ (x : ℕ). x ∷ text) (eqb-true b 47 is)))
    longer false is found = (
      b ∷ found.0,
      or_from (eqb b 47) (has_slash found.0) is found.1,
      elim found.2 [
        | inl e ↦ inl (ap (λ (l : List ℕ). b ∷ l) e)
        | inr more ↦ inr (more.0, ap (λ (l : List ℕ). b ∷ l) more.1)
      ],
    )

-- what stands below a directory is a child of it, or stands below one
pub below_through : (dir path : List ℕ) → is_below dir path ≡ true
    → (name : List ℕ) × (has_slash name ≡ false) × ((path ≡ joined (Some dir) name) ⊎ (is_below (joined (Some dir) name) path ≡ true))
below_through dir path h =
    let split = below_split dir path h in
    let found = first_name split.0 in
    through split.0 split.1 found
  where
    through : (rest : List ℕ) → path ≡ dir ++ 47 ∷ rest → FirstName rest
        → (name : List ℕ) × (has_slash name ≡ false) × ((path ≡ joined (Some dir) name) ⊎ (is_below (joined (Some dir) name) path ≡ true))
    through rest e found = (
      found.0,
      found.1,
      elim found.2 [
        | inl same ↦ inl (e ∙ ap (λ (l : List ℕ). dir ++ 47 ∷ l) same)
        | inr more ↦ inr (ap (is_below (dir ++ 47 ∷ found.0)) (e ∙ ap (λ (l : List ℕ). dir ++ 47 ∷ l) more.1 ∙ sym (append_assoc dir (47 ∷ found.0) (47 ∷ more.0))) ∙ below_joined (dir ++ 47 ∷ found.0) more.0)
      ],
    )

-- and a path is a name at the root, or stands below one
pub path_through : (path : List ℕ) → (name : List ℕ) × (has_slash name ≡ false) × ((path ≡ name) ⊎ (is_below name path ≡ true))
path_through path = through (first_name path)
  where
    through : FirstName path → (name : List ℕ) × (has_slash name ≡ false) × ((path ≡ name) ⊎ (is_below name path ≡ true))
    through found = (
      found.0,
      found.1,
      elim found.2 [
        | inl same ↦ inl same
        | inr more ↦ inr (ap (is_below found.0) more.1 ∙ below_joined found.0 more.0)
      ],
    )
