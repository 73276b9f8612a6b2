-- One file more in a working copy.
use Rattle.std.proofs.Common.{◌≡◌, ℕ, ◌+◌, ◌-◌, ◌/◌, ◌%◌, ◌^◌, ◌<◌, Bool, true, false, cond, List, [], ◌∷◌, ◌++◌, ◌⊎◌, inl, inr, Option, Some, None, refl, sym, ap, subst, ◌∙◌, arith, eqb, ◌||◌, not, true≢false}
use Rattle.std.specs.List.{AllByRecursion}
use Rattle.std.specs.Prelude.{is_some}
use Rattle.std.specs.Str.{bytes_eq}
use Rattle.std.proofs.lemmas.Bool.{both_ways, cases_Bool, cases_lt, cond-true, cond-false}
use Rattle.hg_base.specs.PathText.{is_below}
use Rattle.hg_base.specs.declared.time.Time.{Time}
use Rattle.hg_gen.specs.Copy.{AreFiles, IsGiven, bytes_of, dir_of, is_exec, is_on_disk, on_disk, path_of, placed, seconds}
use Rattle.hg_gen.proofs.Naming.{above_dir, dir_above, file_above, file_no_dir, files_differ, only_above, other_bytes}
use Rattle.hg_tree.proofs.After.{replayed_push}
use Rattle.hg_tree.proofs.Planting.{equal_bytes, same_bytes}
use Rattle.hg_tree.proofs.Shown.{now_is}
use Rattle.hg_tree.specs.Change.{after_place, by_others}
use Rattle.hg_tree.specs.History.{now, others}
use Rattle.hg_tree.specs.Memory.{Memory, history_of, maker}
use Rattle.hg_tree.specs.declared.asked.Change.{Change}
use Rattle.hg_tree.specs.declared.asked.Outside.{Outside}
use Rattle.hg_tree.specs.Moment.{Moment, Things, empty_at, is_dir, is_dir_thing}
use Rattle.hg_tree.specs.declared.asked.Outside.TheVariants as a_change
use Rattle.hg_tree.specs.declared.thing.Placed.{Placed}
use Rattle.hg_tree.specs.declared.thing.Thing.{Thing}
use Rattle.hg_tree.specs.declared.thing.Thing.TheVariants as a_thing

-- what a thing of others leaves
pub placed_now : (old new : Memory) (path : List ℕ) (thing : Thing) (time : Time)
    → new ≡ record old { changes = old.changes ++ by_others (a_change.Place path thing time) ∷ [] }
    → now (history_of new) ≡ record { clock = (now (history_of old)).clock; things = after_place path thing time (now (history_of old)).things }
placed_now old new path thing time is =
    ap (λ (m : Memory). now (history_of m)) is
    ∙ now_is (record old { changes = old.changes ++ by_others (a_change.Place path thing time) ∷ [] })
    ∙ replayed_push old.changes (by_others (a_change.Place path thing time)) (empty_at old.start)
    ∙ ap (λ (m : Moment). record { clock = m.clock; things = after_place path thing time m.things }) (sym (now_is old))

-- one change of others more
all_more : (changes : List Change) (what : Outside) → AllByRecursion (λ change. maker change ≡ others) changes → AllByRecursion (λ change. maker change ≡ others) (changes ++ by_others what ∷ [])
all_more [] what all = (refl, tt)
all_more (change ∷ changes) what all = (all.0, all_more changes what all.1)

pub given_more : (old new : Memory) (what : Outside) → new ≡ record old { changes = old.changes ++ by_others what ∷ [] } → IsGiven old → IsGiven new
given_more old new what is given = subst IsGiven (sym is) (record { due = given.due; failing = given.failing; changes = all_more old.changes what given.changes })

-- a working copy without files
pub none_placed : AreFiles 0 (λ path. None)
none_placed = record { file = λ i below. absurd (omega (arith, below)); dir = λ i below. absurd (omega (arith, below)); only = λ at there. absurd (true≢false (sym there)) }

module _ (i : ℕ) (was : Things) (upto : AreFiles i was) (small : i < 2 ^ 32) where
  -- nothing stood at the next file's path
  free : is_some (was (path_of i)) ≡ true → ⊥
  free there =
      let at = upto.only (path_of i) there in
      let less : at.0 < i = at.1 in
      elim at.2 [
        | inl file ↦ let same : i ≡ at.0 = files_differ i at.0 (omega arith) (omega arith) file in absurd (omega (arith, same, less))
        | inr dir ↦ file_no_dir i (at.0 / 16) (omega arith) dir
      ]

  none_free : (o : Option Placed) → (is_some o ≡ true → ⊥) → o ≡ None
  none_free None gone = refl
  none_free (Some placed) gone = absurd (gone refl)

  -- a directory stood where the next file's is, or nothing
  dir_so : (o : Option Placed) → (is_some o ≡ true → o ≡ Some (placed a_thing.Dir)) → cond (is_dir o) o (Some (placed a_thing.Dir)) ≡ Some (placed a_thing.Dir)
  dir_so None so = refl
  dir_so (Some there) so = either (is_dir (Some there))
    where
      either : (b : Bool) → cond b (Some there) (Some (placed a_thing.Dir)) ≡ Some (placed a_thing.Dir)
      either true = so refl
      either false = refl

  dir_there : is_some (was (dir_of (i / 16))) ≡ true → was (dir_of (i / 16)) ≡ Some (placed a_thing.Dir)
  dir_there there =
      let at = upto.only (dir_of (i / 16)) there in
      let less : at.0 < i = at.1 in
      elim at.2 [
        | inl file ↦ absurd (file_no_dir at.0 (i / 16) (omega arith) (sym file))
        | inr dir ↦ ap was dir ∙ upto.dir at.0 less
      ]

  -- the next file isn't on the disk
  module _ (gone : is_on_disk i ≡ false) where
    first_there : i % 16 ≡ 0 → ⊥
    first_there first = both_ways (is_on_disk i) gone (ap (λ (r : ℕ). not (eqb r 5 || eqb r 13)) first)

    gone_so : on_disk i ≡ None
    gone_so = cond-false (is_on_disk i) (Some (placed (a_thing.File (is_exec i) (bytes_of i)))) None gone

    gone_file : (j : ℕ) → j < i + 1 → was (path_of j) ≡ on_disk j
    gone_file j below = elim (cases_lt j i) [
      | inl less ↦ upto.file j less
      | inr last ↦
          let same : j ≡ i = omega arith in
          subst (λ (k : ℕ). was (path_of k) ≡ on_disk k) (sym same) (none_free (was (path_of i)) free ∙ sym gone_so)
    ]

    gone_dir : (j : ℕ) → j < i + 1 → was (dir_of (j / 16)) ≡ Some (placed a_thing.Dir)
    gone_dir j below = elim (cases_lt j i) [
      | inl less ↦ upto.dir j less
      | inr last ↦
          let later : (i % 16 ≡ 0 → ⊥) = first_there in
          let before : (j - 1) / 16 ≡ j / 16 = omega arith in
          ap (λ (k : ℕ). was (dir_of k)) (sym before) ∙ upto.dir (j - 1) (omega arith)
    ]

    pub gone_more : AreFiles (i + 1) was
    gone_more = record {
      file = gone_file;
      dir = gone_dir;
      only = λ at there. let h = upto.only at there in let less : h.0 < i = h.1 in (h.0, omega arith, h.2);
    }

  -- the next file is placed
  module _ (thing : Thing) (is : on_disk i ≡ Some (placed thing)) (file : is_dir_thing thing ≡ false) where
    abbrev put : Things
    put = after_place (path_of i) thing (seconds 1000) was

    abbrev under : List ℕ → Option Placed
    under at = cond (is_dir_thing thing) (was at) None

    abbrev above : List ℕ → Option Placed
    above at = cond (is_dir (was at)) (was at) (Some (placed a_thing.Dir))

    at_path : put (path_of i) ≡ Some (placed thing)
    at_path = cond-true (bytes_eq (path_of i) (path_of i)) (Some (placed thing)) _ (equal_bytes (path_of i))

    at_under : (at : List ℕ) → bytes_eq (path_of i) at ≡ false → is_below (path_of i) at ≡ true → put at ≡ None
    at_under at apart below =
        cond-false (bytes_eq (path_of i) at) (Some (placed thing)) _ apart ∙ cond-true (is_below (path_of i) at) (under at) _ below ∙ cond-false (is_dir_thing thing) (was at) None file

    at_above : (at : List ℕ) → bytes_eq (path_of i) at ≡ false → is_below (path_of i) at ≡ false → is_below at (path_of i) ≡ true → put at ≡ above at
    at_above at apart not_under below =
        cond-false (bytes_eq (path_of i) at) (Some (placed thing)) _ apart
        ∙ cond-false (is_below (path_of i) at) (under at) _ not_under
        ∙ cond-true (is_below at (path_of i)) (above at) (was at) below

    at_other : (at : List ℕ) → bytes_eq (path_of i) at ≡ false → is_below (path_of i) at ≡ false → is_below at (path_of i) ≡ false → put at ≡ was at
    at_other at apart not_under not_above =
        cond-false (bytes_eq (path_of i) at) (Some (placed thing)) _ apart
        ∙ cond-false (is_below (path_of i) at) (under at) _ not_under
        ∙ cond-false (is_below at (path_of i)) (above at) (was at) not_above

    put_file : (j : ℕ) → j < i + 1 → put (path_of j) ≡ on_disk j
    put_file j below = elim (cases_lt j i) [
      | inl less ↦
          at_other (path_of j) (other_bytes (path_of i) (path_of j) (λ same. let e : i ≡ j = files_differ i j (omega arith) (omega arith) same in absurd (omega (arith, e, less))))
          (file_above i j (omega arith)) (file_above j i (omega arith))
          ∙ upto.file j less
      | inr last ↦ let same : j ≡ i = omega arith in subst (λ (k : ℕ). put (path_of k) ≡ on_disk k) (sym same) (at_path ∙ sym is)
    ]

    put_dir : (j : ℕ) → j < i + 1 → put (dir_of (j / 16)) ≡ Some (placed a_thing.Dir)
    put_dir j below = by (is_below (dir_of (j / 16)) (path_of i)) refl
      where
        few : j / 16 < 2 ^ 64
        few = omega arith

        apart : bytes_eq (path_of i) (dir_of (j / 16)) ≡ false
        apart = other_bytes (path_of i) (dir_of (j / 16)) (file_no_dir i (j / 16) few)

        by : (t : Bool) → is_below (dir_of (j / 16)) (path_of i) ≡ t → put (dir_of (j / 16)) ≡ Some (placed a_thing.Dir)
        by false not_above = elim (cases_lt j i) [
          | inl less ↦ at_other (dir_of (j / 16)) apart (above_dir (path_of i) (j / 16) few) not_above ∙ upto.dir j less
          | inr last ↦
              let same : j ≡ i = omega arith in
              absurd (both_ways (is_below (dir_of (j / 16)) (path_of i)) not_above (ap (λ (k : ℕ). is_below (dir_of (k / 16)) (path_of i)) same ∙ dir_above i))
        ]
        by true is_above =
            let same : dir_of (j / 16) ≡ dir_of (i / 16) = only_above (dir_of (j / 16)) i (omega arith) is_above in
            at_above (dir_of (j / 16)) apart (above_dir (path_of i) (j / 16) few) is_above ∙ ap above same ∙ dir_so (was (dir_of (i / 16))) dir_there

    put_only : (at : List ℕ) → is_some (put at) ≡ true → (j : ℕ) × (j < i + 1) × ((at ≡ path_of j) ⊎ (at ≡ dir_of (j / 16)))
    put_only at there = elim (cases_Bool (bytes_eq (path_of i) at)) [
      | inl same ↦ (i, omega arith, inl (sym (same_bytes (path_of i) at same)))
      | inr apart ↦ elim (cases_Bool (is_below (path_of i) at)) [
        | inl below ↦ absurd (true≢false (sym there ∙ ap is_some (at_under at apart below)))
        | inr not_under ↦ elim (cases_Bool (is_below at (path_of i))) [
          | inl up ↦ (i, omega arith, inr (only_above at i (omega arith) up))
          | inr not_above ↦
              let h = upto.only at (ap is_some (sym (at_other at apart not_under not_above)) ∙ there) in
              let less : h.0 < i = h.1 in
              (h.0, omega arith, h.2)
        ]
      ]
    ]

    pub put_more : AreFiles (i + 1) put
    put_more = record { file = put_file; dir = put_dir; only = put_only }
