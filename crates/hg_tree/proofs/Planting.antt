-- A thing is put at a path, and directories above it, from the path upwards.
use Rattle.std.proofs.Common.{ℕ, ◌≡◌, ◌<◌, Bool, true, false, ◌||◌, cond, List, length, Option, Some, inl, inr, refl, sym, ◌∙◌, ap}
use Rattle.std.specs.Str.{bytes_eq}
use Rattle.std.specs.Map.{update}
use Rattle.std.proofs.lemmas.Bool.{cases_Bool, false_from_ne_true, both_ways, or_left, or_right, cond-true, cond-false}
use Rattle.std.proofs.lemmas.Slice.Eq.{bytes_eq-Decides}
use Rattle.hg_base.specs.PathText.{is_below}
use Rattle.hg_base.proofs.Below.{below_trans, below_length, below_itself, below_not_back}
use Rattle.hg_tree.specs.declared.thing.Placed.{Placed}
use Rattle.hg_tree.specs.Moment.{Things, is_dir}
use Rattle.hg_tree.specs.Change.{dir_of, with_parents}
use Rattle.hg_tree.specs.Parents.{IsParent, AreDirsAbove, AreRootedAbove}

-- what is equal by bytes is the same
pub same_bytes : (a b : List ℕ) → bytes_eq a b ≡ true → a ≡ b
same_bytes a b h = (bytes_eq-Decides a b).0 h

pub equal_bytes : (a : List ℕ) → bytes_eq a a ≡ true
equal_bytes a = (bytes_eq-Decides a a).1 refl

-- what stands below another is another
pub apart_below : (dir path : List ℕ) → is_below dir path ≡ true → bytes_eq dir path ≡ false
apart_below dir path below = false_from_ne_true (bytes_eq dir path)
    (λ h. both_ways (is_below path path) (below_itself path) (sym (ap (λ (p : List ℕ). is_below p path) (same_bytes dir path h)) ∙ below))

pub apart_above : (dir path : List ℕ) → is_below dir path ≡ true → bytes_eq path dir ≡ false
apart_above dir path below = false_from_ne_true (bytes_eq path dir)
    (λ h. both_ways (is_below path path) (below_itself path) (ap (λ (p : List ℕ). is_below p path) (same_bytes path dir h) ∙ below))

-- a parent stands above
pub parent_above : (dir path : List ℕ) → IsParent dir path → is_below dir path ≡ true
parent_above dir path parent = parent dir ∙ or_left (bytes_eq dir dir) (is_below dir dir) (equal_bytes dir)

-- so it is shorter
pub parent_shorter : (dir path : List ℕ) → IsParent dir path → length dir < length path
parent_shorter dir path parent = below_length dir path (parent_above dir path parent)

-- what stands above the parent stands above the path
pub above_parent : (dir path at : List ℕ) → IsParent dir path → is_below at dir ≡ true → is_below at path ≡ true
above_parent dir path at parent above = parent at ∙ or_right (bytes_eq dir at) (is_below at dir) above

module _ (path dir : List ℕ) (placed : Placed) (was put : Things) (parent : IsParent dir path)
    (as_put : (at : List ℕ) → put at ≡ update bytes_eq was path (Some placed) at) where
  put_other : (at : List ℕ) → is_below at path ≡ true → put at ≡ was at
  put_other at above = as_put at ∙ cond-false (bytes_eq path at) (Some placed) (was at) (apart_above at path above)

  -- the directories above the parent stay when the path is put
  pub rooted_above_parent : AreRootedAbove path was → AreRootedAbove dir put
  rooted_above_parent rooted above at at_above dir_above is =
      let at_path = above_parent dir path at parent at_above in
      let dir_path = below_trans above at path dir_above at_path in
      ap is_dir (put_other above dir_path) ∙ rooted above at at_path dir_above (sym (ap is_dir (put_other at at_path)) ∙ is)

  -- the parents of the parent, with it and the path, are the parents of the path
  pub planted : is_dir (was dir) ≡ false → (done : Things) → ((at : List ℕ) → done at ≡ with_parents dir (dir_of placed.mtime) put at)
      → (at : List ℕ) → done at ≡ with_parents path placed was at
  planted missing done as_done at = elim (cases_Bool (bytes_eq path at)) [
    | inl here ↦
        let same = same_bytes path at here in
        let up = parent_above dir path parent in
        let up_at : is_below dir at ≡ true = ap (λ (p : List ℕ). is_below dir p) (sym same) ∙ up in
        as_done at
        ∙ cond-false (bytes_eq dir at) (Some (dir_of placed.mtime)) _ (apart_below dir at up_at)
        ∙ cond-false (is_below at dir) _ (put at) (below_not_back dir at up_at)
        ∙ as_put at
        ∙ cond-true (bytes_eq path at) (Some placed) (was at) here
        ∙ sym (cond-true (bytes_eq path at) (Some placed) _ here)
    | inr apart ↦
        let kept : put at ≡ was at = as_put at ∙ cond-false (bytes_eq path at) (Some placed) (was at) apart in
        let right = cond-false (bytes_eq path at) (Some placed) (cond (is_below at path) (cond (is_dir (was at)) (was at) (Some (dir_of placed.mtime))) (was at)) apart in
        elim (cases_Bool (bytes_eq dir at)) [
          | inl first ↦
              let same = same_bytes dir at first in
              let up_at : is_below at path ≡ true = parent at ∙ or_left (bytes_eq dir at) (is_below at dir) first in
              let none : is_dir (was at) ≡ false = sym (ap (λ (p : List ℕ). is_dir (was p)) same) ∙ missing in
              as_done at
              ∙ cond-true (bytes_eq dir at) (Some (dir_of placed.mtime)) _ first
              ∙ sym (cond-false (is_dir (was at)) (was at) (Some (dir_of placed.mtime)) none)
              ∙ sym (cond-true (is_below at path) _ (was at) up_at)
              ∙ sym right
          | inr other ↦
              let alike : is_below at path ≡ is_below at dir = parent at ∙ ap (λ (t : Bool). t || is_below at dir) other in
              as_done at
              ∙ cond-false (bytes_eq dir at) (Some (dir_of placed.mtime)) _ other
              ∙ ap (λ (o : Option Placed). cond (is_below at dir) (cond (is_dir o) o (Some (dir_of placed.mtime))) o) kept
              ∙ sym (ap (λ (t : Bool). cond t (cond (is_dir (was at)) (was at) (Some (dir_of placed.mtime))) (was at)) alike)
              ∙ sym right
        ]
  ]

-- where each ancestor is a directory, none is made
pub planted_alone : (path : List ℕ) (placed : Placed) (was put : Things) → AreDirsAbove path was
    → ((at : List ℕ) → put at ≡ update bytes_eq was path (Some placed) at) → (at : List ℕ) → put at ≡ with_parents path placed was at
planted_alone path placed was put above as_put at =
    as_put at ∙ ap (λ (o : Option Placed). cond (bytes_eq path at) (Some placed) o) (elim (cases_Bool (is_below at path)) [
      | inl up ↦ sym (cond-true (is_dir (was at)) (was at) (Some (dir_of placed.mtime)) (above at up)) ∙ sym (cond-true (is_below at path) _ (was at) up)
      | inr not_up ↦ sym (cond-false (is_below at path) _ (was at) not_up)
    ])

-- what was put and then set back is as it was
pub unplanted : (path : List ℕ) (placed : Placed) (was put failed back : Things)
    → ((at : List ℕ) → put at ≡ update bytes_eq was path (Some placed) at) → ((at : List ℕ) → failed at ≡ put at)
    → ((at : List ℕ) → back at ≡ update bytes_eq failed path (was path) at) → (at : List ℕ) → back at ≡ was at
unplanted path placed was put failed back as_put as_failed as_back at = elim (cases_Bool (bytes_eq path at)) [
  | inl here ↦
      as_back at ∙ cond-true (bytes_eq path at) (was path) (failed at) here ∙ ap was (same_bytes path at here)
  | inr apart ↦
      as_back at
      ∙ cond-false (bytes_eq path at) (was path) (failed at) apart
      ∙ as_failed at
      ∙ as_put at
      ∙ cond-false (bytes_eq path at) (Some placed) (was at) apart
]
