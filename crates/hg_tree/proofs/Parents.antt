-- The directory of a path is its parent: what stands above the path is that directory and what stands above it.
use Rattle.std.proofs.Common.{ℕ, ◌≡◌, Bool, true, false, ◌||◌, List, ◌∷◌, ◌++◌, inl, inr, sym, ◌∙◌, ap}
use Rattle.std.specs.Str.{bytes_eq}
use Rattle.std.proofs.lemmas.Bool.{cases_Bool, both_ways, or_left, or_right, or_from, false_from_ne_true}
use Rattle.hg_base.specs.PathText.{is_below, is_path, base_of, has_slash}
use Rattle.hg_base.proofs.Below.{below_joined, below_longer, below_of_joined, below_name}
use Rattle.hg_base.proofs.Paths.{path_base_plain}
use Rattle.hg_tree.specs.Moment.{Things, is_dir}
use Rattle.hg_tree.specs.Parents.{IsParent, AreDirsAbove, AreRootedAbove}
use Rattle.hg_tree.proofs.Planting.{same_bytes, equal_bytes}

parent_of_joined : (dir name : List ℕ) → has_slash name ≡ false → IsParent dir (dir ++ 47 ∷ name)
parent_of_joined dir name plain at = elim (cases_Bool (bytes_eq dir at)) [
  | inl same ↦
      ap (λ (p : List ℕ). is_below p (dir ++ 47 ∷ name)) (sym (same_bytes dir at same))
      ∙ below_joined dir name
      ∙ sym (or_left (bytes_eq dir at) (is_below at dir) same)
  | inr apart ↦ elim (cases_Bool (is_below at dir)) [
    | inl up ↦ below_longer at dir name up ∙ sym (or_right (bytes_eq dir at) (is_below at dir) up)
    | inr not_up ↦
        false_from_ne_true (is_below at (dir ++ 47 ∷ name)) (λ h. elim (below_of_joined at dir name plain h) [
          | inl e ↦ both_ways (bytes_eq dir at) apart (ap (bytes_eq dir) e ∙ equal_bytes dir)
          | inr e ↦ both_ways (is_below at dir) not_up e
        ])
        ∙ sym (or_from (bytes_eq dir at) (is_below at dir) apart not_up)
  ]
]

-- a path that is a name in a directory has that directory as its parent
pub parent_joined : (dir path : List ℕ) → is_path path ≡ true → dir ++ 47 ∷ base_of path ≡ path → IsParent dir path
parent_joined dir path is joined at =
    ap (is_below at) (sym joined) ∙ parent_of_joined dir (base_of path) (path_base_plain path is) at

-- a path of one component stands below nothing
pub no_parent : (path : List ℕ) → is_path path ≡ true → base_of path ≡ path → (at : List ℕ) → is_below at path ≡ false
no_parent path is whole at = below_name at path (sym (ap has_slash whole) ∙ path_base_plain path is)

-- above a directory whose ancestors are directories
pub dirs_above : (dir path : List ℕ) (things : Things) → IsParent dir path → AreRootedAbove path things → is_dir (things dir) ≡ true → AreDirsAbove path things
dirs_above dir path things parent rooted there at above = elim (cases_Bool (bytes_eq dir at)) [
  | inl same ↦ sym (ap (λ (p : List ℕ). is_dir (things p)) (same_bytes dir at same)) ∙ there
  | inr apart ↦
      let up : is_below at dir ≡ true = sym (ap (λ (t : Bool). t || is_below at dir) apart) ∙ sym (parent at) ∙ above in
      rooted at dir (parent dir ∙ or_left (bytes_eq dir dir) (is_below dir dir) (equal_bytes dir)) up there
]
