-- A thing is made anew, and the directories above it that gain a name, from the path upwards; or it is taken away.
use Rattle.std.proofs.Common.{ℕ, ◌≡◌, Bool, true, false, ◌||◌, cond, List, ◌∷◌, ◌++◌, Option, Some, None, inl, inr, refl, sym, ◌∙◌, ap, true≢false}
use Rattle.std.specs.Prelude.{is_some, IsSome}
use Rattle.std.specs.Str.{bytes_eq}
use Rattle.std.specs.Map.{update}
use Rattle.std.proofs.lemmas.Bool.{cases_Bool, both_ways, or_left, or_right, or_from, cond-true, cond-false, false_from_ne_true}
use Rattle.hg_base.specs.PathText.{is_below, has_slash, is_same_dir, parent_of}
use Rattle.hg_base.proofs.Below.{below_trans, below_not_back}
use Rattle.hg_base.specs.declared.time.Time.{Time}
use Rattle.hg_tree.specs.declared.thing.Placed.{Placed}
use Rattle.hg_tree.specs.declared.thing.Thing.TheVariants as a_thing
use Rattle.hg_tree.specs.Moment.{Things, IsRooted, is_dir}
use Rattle.hg_tree.specs.Change.{dir_of}
use Rattle.hg_tree.specs.Own.{IsBarred, IsClear, after_made, after_unlink, extended, after_extended, toward}
use Rattle.hg_tree.specs.Parents.{IsParent, AreHeldAbove}
use Rattle.hg_tree.proofs.Planting.{same_bytes, equal_bytes, apart_below, apart_above, parent_above, above_parent}
use Rattle.hg_tree.proofs.Toward.{toward_child, toward_front, toward_reaches}

-- a directory is something
pub dir_is_some : (o : Option Placed) → is_dir o ≡ true → is_some o ≡ true
dir_is_some None h = h
dir_is_some (Some placed) h = refl

-- in a working copy something stands above each thing
pub held_of_rooted : (path : List ℕ) (things : Things) → IsRooted things → AreHeldAbove path things
held_of_rooted path things rooted at dir within below some = dir_is_some (things at) (rooted at dir below some)

-- above a path of which the directory is one stand directories
pub clear_by_parent : (dir path : List ℕ) (things : Things) → IsRooted things → IsParent dir path → is_dir (things dir) ≡ true → IsClear path things
clear_by_parent dir path things rooted parent is at above some = elim (cases_Bool (bytes_eq dir at)) [
  | inl same ↦ sym (ap (λ (p : List ℕ). is_dir (things p)) (same_bytes dir at same)) ∙ is
  | inr apart ↦
      let up : is_below at dir ≡ true = sym (ap (λ (t : Bool). t || is_below at dir) apart) ∙ sym (parent at) ∙ above in
      rooted at dir up (dir_is_some (things dir) is)
]

-- and where the directory isn't there, what is above it tells
pub clear_more : (dir path : List ℕ) (things : Things) → IsParent dir path → is_some (things dir) ≡ false → IsClear dir things → IsClear path things
clear_more dir path things parent none clear at above some = elim (cases_Bool (bytes_eq dir at)) [
  | inl same ↦ absurd (both_ways (is_some (things dir)) none (ap (λ (p : List ℕ). is_some (things p)) (same_bytes dir at same) ∙ some))
  | inr apart ↦ clear at (sym (ap (λ (t : Bool). t || is_below at dir) apart) ∙ sym (parent at) ∙ above) some
]

pub barred_more : (dir path : List ℕ) (things : Things) → IsParent dir path → IsBarred dir things → IsBarred path things
barred_more dir path things parent barred = record { at = barred.at; above = above_parent dir path barred.at parent barred.above; there = barred.there; other = barred.other }

pub clear_alone : (path : List ℕ) (things : Things) → ((at : List ℕ) → is_below at path ≡ false) → IsClear path things
clear_alone path things none at above some = absurd (both_ways (is_below at path) (none at) above)

module _ (path : List ℕ) (placed : Placed) (was put : Things) (as_put : (at : List ℕ) → put at ≡ update bytes_eq was path (Some placed) at) where
  abbrev made : Things
  made = after_made path placed.thing placed.mtime was

  -- on the way down to a thing something stands everywhere
  pub way_stands : AreHeldAbove path was → is_some (was path) ≡ true → (at : List ℕ) → is_below at path ≡ true → is_some (was (toward at path)) ≡ true
  way_stands held there at above = elim (toward_reaches at path above) [
    | inl same ↦ ap (λ (p : List ℕ). is_some (was p)) same ∙ there
    | inr up ↦ held (toward at path) path (or_left (bytes_eq path path) (is_below path path) (equal_bytes path)) up there
  ]

  else_is : (at : List ℕ) → (is_below at path ≡ true → is_some (was (toward at path)) ≡ true)
      → was at ≡ cond (is_below at path) (cond (is_some (was (toward at path))) (was at) (Some (dir_of placed.mtime))) (was at)
  else_is at stands = elim (cases_Bool (is_below at path)) [
    | inl up ↦
        sym (cond-true (is_some (was (toward at path))) (was at) (Some (dir_of placed.mtime)) (stands up))
        ∙ sym (cond-true (is_below at path) _ (was at) up)
    | inr not_up ↦ sym (cond-false (is_below at path) _ (was at) not_up)
  ]

  -- where something stood at the path no directory gains a name
  pub made_again : AreHeldAbove path was → is_some (was path) ≡ true → (at : List ℕ) → put at ≡ made at
  made_again held there at = as_put at ∙ ap (λ (o : Option Placed). cond (bytes_eq path at) (Some placed) o) (else_is at (way_stands held there at))

  -- nor in the root does one
  pub made_alone : ((at : List ℕ) → is_below at path ≡ false) → (at : List ℕ) → put at ≡ made at
  made_alone none at = as_put at ∙ ap (λ (o : Option Placed). cond (bytes_eq path at) (Some placed) o) (else_is at (λ up. absurd (both_ways (is_below at path) (none at) up)))

  module _ (dir name : List ℕ) (joined : dir ++ 47 ∷ name ≡ path) (plain : has_slash name ≡ false) (parent : IsParent dir path) where
    put_other : (at : List ℕ) → is_below at path ≡ true → put at ≡ was at
    put_other at above = as_put at ∙ cond-false (bytes_eq path at) (Some placed) (was at) (apart_above at path above)

    -- the directories above the directory are held when the path is put
    pub held_parent : AreHeldAbove path was → AreHeldAbove dir put
    held_parent held at above within below some =
        let up : is_below above path ≡ true = parent above ∙ within in
        ap is_some (put_other at (below_trans at above path below up))
        ∙ held at above (or_right (bytes_eq path above) (is_below above path) up) below (sym (ap is_some (put_other above up)) ∙ some)

    to_dir : (at : List ℕ) → is_below at dir ≡ true → toward at path ≡ toward at dir
    to_dir at up = ap (toward at) (sym joined) ∙ toward_front at dir name up

    toward_above : (at : List ℕ) → is_below at dir ≡ true → is_below (toward at dir) path ≡ true
    toward_above at up = parent (toward at dir) ∙ elim (toward_reaches at dir up) [
      | inl same ↦ or_left (bytes_eq dir (toward at dir)) (is_below (toward at dir) dir) (ap (bytes_eq dir) same ∙ equal_bytes dir)
      | inr more ↦ or_right (bytes_eq dir (toward at dir)) (is_below (toward at dir) dir) more
    ]

    -- the directory that gains a name, with it and the path, are what is made of the path
    pub made_more : is_some (was path) ≡ false → (done : Things) → ((at : List ℕ) → done at ≡ after_made dir a_thing.Dir placed.mtime put at)
        → (at : List ℕ) → done at ≡ made at
    made_more none done as_done at = elim (cases_Bool (bytes_eq path at)) [
      | inl here ↦
          let same = same_bytes path at here in
          let up_at : is_below dir at ≡ true = ap (is_below dir) (sym same) ∙ parent_above dir path parent in
          as_done at
          ∙ cond-false (bytes_eq dir at) (Some (dir_of placed.mtime)) _ (apart_below dir at up_at)
          ∙ cond-false (is_below at dir) _ (put at) (below_not_back dir at up_at)
          ∙ as_put at
          ∙ cond-true (bytes_eq path at) (Some placed) (was at) here
          ∙ sym (cond-true (bytes_eq path at) (Some placed) _ here)
      | inr apart ↦
          let kept : put at ≡ was at = as_put at ∙ cond-false (bytes_eq path at) (Some placed) (was at) apart in
          let right = cond-false (bytes_eq path at) (Some placed) (cond (is_below at path) (cond (is_some (was (toward at path))) (was at) (Some (dir_of placed.mtime))) (was at)) apart in
          elim (cases_Bool (bytes_eq dir at)) [
            | inl first ↦
                let same = same_bytes dir at first in
                let up_at : is_below at path ≡ true = parent at ∙ or_left (bytes_eq dir at) (is_below at dir) first in
                let way : toward at path ≡ path = ap (λ (d : List ℕ). toward d path) (sym same) ∙ ap (toward dir) (sym joined) ∙ toward_child dir name plain ∙ joined in
                as_done at
                ∙ cond-true (bytes_eq dir at) (Some (dir_of placed.mtime)) _ first
                ∙ sym (cond-false (is_some (was (toward at path))) (was at) (Some (dir_of placed.mtime)) (ap (λ (p : List ℕ). is_some (was p)) way ∙ none))
                ∙ sym (cond-true (is_below at path) _ (was at) up_at)
                ∙ sym right
            | inr other ↦
                as_done at
                ∙ cond-false (bytes_eq dir at) (Some (dir_of placed.mtime)) _ other
                ∙ elim (cases_Bool (is_below at dir)) [
                  | inl up ↦
                      let up_at : is_below at path ≡ true = parent at ∙ or_right (bytes_eq dir at) (is_below at dir) up in
                      let way : is_some (put (toward at dir)) ≡ is_some (was (toward at path)) =
                      ap is_some (put_other (toward at dir) (toward_above at up)) ∙ ap (λ (p : List ℕ). is_some (was p)) (sym (to_dir at up)) in
                      cond-true (is_below at dir) _ (put at) up
                      ∙ ap (λ (t : Bool). cond t (put at) (Some (dir_of placed.mtime))) way
                      ∙ ap (λ (o : Option Placed). cond (is_some (was (toward at path))) o (Some (dir_of placed.mtime))) kept
                      ∙ sym (cond-true (is_below at path) _ (was at) up_at)
                  | inr not_up ↦
                      cond-false (is_below at dir) _ (put at) not_up
                      ∙ kept
                      ∙ sym (cond-false (is_below at path) _ (was at) (parent at ∙ or_from (bytes_eq dir at) (is_below at dir) other not_up))
                ]
                ∙ sym right
          ]
    ]

-- a file with more bytes stands in the place of the one that it was made of
pub extended_here : (path more : List ℕ) (placed : Placed) (was done : Things) → extended more placed.mtime (was path) ≡ Some placed
    → ((at : List ℕ) → done at ≡ update bytes_eq was path (Some placed) at) → (at : List ℕ) → done at ≡ after_extended path more placed.mtime was at
extended_here path more placed was done is as_done at = as_done at ∙ ap (λ (o : Option Placed). cond (bytes_eq path at) o (was at)) (sym is)

module _ (path : List ℕ) (time : Time) (was gone : Things) (as_gone : (at : List ℕ) → gone at ≡ update bytes_eq was path None at) where
  -- what stood in the root leaves no directory with another time
  pub unlinked_alone : parent_of path ≡ None → (at : List ℕ) → gone at ≡ after_unlink path time was at
  unlinked_alone none at =
      as_gone at ∙ ap (λ (t : Bool). cond (bytes_eq path at) None (cond t (Some (dir_of time)) (was at))) (sym (ap (is_same_dir (Some at)) none))

  -- the directory that it stood in has the time
  pub unlinked : (dir : List ℕ) → parent_of path ≡ Some dir → IsParent dir path → (done : Things)
      → ((at : List ℕ) → done at ≡ update bytes_eq gone dir (Some (dir_of time)) at) → (at : List ℕ) → done at ≡ after_unlink path time was at
  unlinked dir is parent done as_done at =
      as_done at
      ∙ ap (λ (o : Option Placed). cond (bytes_eq dir at) (Some (dir_of time)) o) (as_gone at)
      ∙ swapped
      ∙ ap (λ (t : Bool). cond (bytes_eq path at) None (cond t (Some (dir_of time)) (was at))) (turned dir at ∙ sym (ap (is_same_dir (Some at)) is))
    where
      turned : (a b : List ℕ) → bytes_eq a b ≡ bytes_eq b a
      turned a b = elim (cases_Bool (bytes_eq a b)) [
        | inl same ↦ same ∙ sym (ap (λ (p : List ℕ). bytes_eq b p) (same_bytes a b same) ∙ equal_bytes b)
        | inr apart ↦ apart ∙ sym (false_from_ne_true (bytes_eq b a) (λ h. both_ways (bytes_eq a b) apart (ap (bytes_eq a) (same_bytes b a h) ∙ equal_bytes a)))
      ]

      swapped : cond (bytes_eq dir at) (Some (dir_of time)) (cond (bytes_eq path at) None (was at)) ≡ cond (bytes_eq path at) None (cond (bytes_eq dir at) (Some (dir_of time)) (was at))
      swapped = elim (cases_Bool (bytes_eq path at)) [
        | inl here ↦
            let apart : bytes_eq dir at ≡ false = ap (bytes_eq dir) (sym (same_bytes path at here)) ∙ apart_below dir path (parent_above dir path parent) in
            cond-false (bytes_eq dir at) (Some (dir_of time)) _ apart
            ∙ cond-true (bytes_eq path at) None (was at) here
            ∙ sym (cond-true (bytes_eq path at) None _ here)
        | inr apart ↦
            ap (λ (o : Option Placed). cond (bytes_eq dir at) (Some (dir_of time)) o) (cond-false (bytes_eq path at) None (was at) apart)
            ∙ sym (cond-false (bytes_eq path at) None _ apart)
      ]

  some_is : (o : Option Placed) → is_some o ≡ true → IsSome o
  some_is None h = absurd (true≢false (sym h))
  some_is (Some placed) h = refl

  -- something stands in the place of the directory
  pub stands_above : IsRooted was → is_some (was path) ≡ true → (dir : List ℕ) → IsParent dir path → IsSome (gone dir)
  stands_above rooted there dir parent =
      let up = parent_above dir path parent in
      some_is (gone dir) (ap is_some (as_gone dir ∙ cond-false (bytes_eq path dir) None (was dir) (apart_above dir path up)) ∙ dir_is_some (was dir) (rooted dir path up there))
