-- A change of a well formed working copy leaves it well formed.
use Rattle.std.proofs.Common.{ℕ, ◌≡◌, Bool, true, false, ◌||◌, ◌&&◌, not, ◌⊎◌, cond, List, Option, Some, None, inl, inr, refl, sym, ◌∙◌, ap, true≢false}
use Rattle.std.specs.Prelude.{is_some}
use Rattle.std.specs.Str.{bytes_eq}
use Rattle.std.specs.Map.{update}
use Rattle.std.proofs.lemmas.Bool.{cases_Bool, false_from_ne_true, both_ways, or_right, or_parts, or_from, and_parts, and_cases, not-true, not-false, cond-true, cond-false}
use Rattle.hg_base.specs.PathText.{is_below, is_path}
use Rattle.hg_base.specs.declared.time.Time.{Time}
use Rattle.hg_base.proofs.Below.{below_trans, below_not_back, below_compared}
use Rattle.hg_base.proofs.Paths.{path_above}
use Rattle.hg_tree.specs.declared.thing.Thing.{Thing}
use Rattle.hg_tree.specs.declared.thing.Thing.TheVariants as a_thing
use Rattle.hg_tree.specs.declared.thing.Placed.{Placed}
use Rattle.hg_tree.specs.Moment.{Things, zero_time, is_dir, is_dir_thing, is_short, is_short_thing, IsRooted, AreAtPaths, AreShort, IsFormed, empty_at}
use Rattle.hg_tree.specs.Change.{dir_of, after_place, after_take, with_parents, without_below}
use Rattle.hg_tree.proofs.Planting.{same_bytes, equal_bytes, apart_below, apart_above}

-- nothing stands anywhere at the start
pub formed_empty : (clock : Time) → IsFormed (empty_at clock)
formed_empty clock = record {
  rooted = λ dir path below some. absurd (true≢false (sym some));
  paths = λ path some. absurd (true≢false (sym some));
  short = λ path. refl;
}

dir_there : (o : Option Placed) (time : Time) → is_dir (cond (is_dir o) o (Some (dir_of time))) ≡ true
dir_there o time = elim (cases_Bool (is_dir o)) [
  | inl there ↦ ap is_dir (cond-true (is_dir o) o (Some (dir_of time)) there) ∙ there
  | inr gone ↦ ap is_dir (cond-false (is_dir o) o (Some (dir_of time)) gone)
]

module _ (path : List ℕ) (thing : Thing) (time : Time) (was : Things) where
  abbrev put : Things
  put = after_place path thing time was

  abbrev here : Option Placed
  here = Some (record { thing = thing; mtime = time })

  abbrev under : List ℕ → Option Placed
  under at = cond (is_dir_thing thing) (was at) None

  abbrev above : List ℕ → Option Placed
  above at = cond (is_dir (was at)) (was at) (Some (dir_of time))

  at_path : (at : List ℕ) → bytes_eq path at ≡ true → put at ≡ here
  at_path at same = cond-true (bytes_eq path at) here _ same

  at_under : (at : List ℕ) → bytes_eq path at ≡ false → is_below path at ≡ true → put at ≡ under at
  at_under at apart below = cond-false (bytes_eq path at) here _ apart ∙ cond-true (is_below path at) (under at) _ below

  at_above : (at : List ℕ) → is_below at path ≡ true → put at ≡ above at
  at_above at below =
      cond-false (bytes_eq path at) here _ (apart_above at path below)
      ∙ cond-false (is_below path at) (under at) _ (below_not_back at path below)
      ∙ cond-true (is_below at path) (above at) (was at) below

  at_other : (at : List ℕ) → bytes_eq path at ≡ false → is_below path at ≡ false → is_below at path ≡ false → put at ≡ was at
  at_other at apart not_under not_above =
      cond-false (bytes_eq path at) here _ apart
      ∙ cond-false (is_below path at) (under at) _ not_under
      ∙ cond-false (is_below at path) (above at) (was at) not_above

  -- each ancestor of the path is a directory
  dir_above : (dir : List ℕ) → is_below dir path ≡ true → is_dir (put dir) ≡ true
  dir_above dir below = ap is_dir (at_above dir below) ∙ dir_there (was dir) time

  -- what is kept below the path stands below a directory
  kept_under : (t : Bool) (o : Option Placed) → is_some (cond t o None) ≡ true → (t ≡ true) × (is_some o ≡ true)
  kept_under true o some = (refl, some)
  kept_under false o some = absurd (true≢false (sym some))

  rooted_under : IsRooted was → (dir at : List ℕ) → is_below dir at ≡ true → is_below path at ≡ true → is_dir_thing thing ≡ true → is_some (was at) ≡ true
      → is_dir (put dir) ≡ true
  rooted_under rooted dir at dir_at path_at is some = elim (below_compared dir path at dir_at path_at) [
    | inl same ↦ ap is_dir (at_path dir (ap (λ (p : List ℕ). bytes_eq path p) same ∙ equal_bytes path)) ∙ is
    | inr (inl up) ↦ dir_above dir up
    | inr (inr down) ↦
        ap is_dir (at_under dir (apart_below path dir down) down ∙ cond-true (is_dir_thing thing) (was dir) None is) ∙ rooted dir at dir_at some
  ]

  rooted_other : IsRooted was → (dir at : List ℕ) → is_below dir at ≡ true → bytes_eq path at ≡ false → is_below path at ≡ false → is_some (was at) ≡ true
      → is_dir (put dir) ≡ true
  rooted_other rooted dir at dir_at apart not_under some =
      let there = rooted dir at dir_at some in
      elim (cases_Bool (is_below dir path)) [
        | inl up ↦ dir_above dir up
        | inr not_up ↦
            let other : bytes_eq path dir ≡ false = false_from_ne_true (bytes_eq path dir)
            (λ h. both_ways (is_below path at) not_under (ap (λ (p : List ℕ). is_below p at) (same_bytes path dir h) ∙ dir_at)) in
            let not_down : is_below path dir ≡ false = false_from_ne_true (is_below path dir)
            (λ h. both_ways (is_below path at) not_under (below_trans path dir at h dir_at)) in
            ap is_dir (at_other dir other not_down not_up) ∙ there
      ]

  rooted_placed : IsRooted was → IsRooted put
  rooted_placed rooted dir at dir_at some = elim (cases_Bool (bytes_eq path at)) [
    | inl same ↦ dir_above dir (ap (λ (p : List ℕ). is_below dir p) (same_bytes path at same) ∙ dir_at)
    | inr apart ↦ elim (cases_Bool (is_below path at)) [
      | inl under_it ↦
          let kept = kept_under (is_dir_thing thing) (was at) (sym (ap is_some (at_under at apart under_it)) ∙ some) in
          rooted_under rooted dir at dir_at under_it kept.0 kept.1
      | inr not_under ↦ elim (cases_Bool (is_below at path)) [
        | inl up ↦ dir_above dir (below_trans dir at path dir_at up)
        | inr not_up ↦ rooted_other rooted dir at dir_at apart not_under (sym (ap is_some (at_other at apart not_under not_up)) ∙ some)
      ]
    ]
  ]

  paths_placed : is_path path ≡ true → AreAtPaths was → AreAtPaths put
  paths_placed is paths at some = elim (cases_Bool (bytes_eq path at)) [
    | inl same ↦ sym (ap is_path (same_bytes path at same)) ∙ is
    | inr apart ↦ elim (cases_Bool (is_below path at)) [
      | inl under_it ↦ paths at (kept_under (is_dir_thing thing) (was at) (sym (ap is_some (at_under at apart under_it)) ∙ some)).1
      | inr not_under ↦ elim (cases_Bool (is_below at path)) [
        | inl up ↦ path_above at path up is
        | inr not_up ↦ paths at (sym (ap is_some (at_other at apart not_under not_up)) ∙ some)
      ]
    ]
  ]

  short_either : (t : Bool) (a b : Option Placed) → is_short a ≡ true → is_short b ≡ true → is_short (cond t a b) ≡ true
  short_either true a b p q = p
  short_either false a b p q = q

  short_placed : is_short_thing thing ≡ true → AreShort was → AreShort put
  short_placed fits short at =
      short_either (bytes_eq path at) here _ fits
      (short_either (is_below path at) (under at) _ (short_either (is_dir_thing thing) (was at) None (short at) refl)
      (short_either (is_below at path) (above at) (was at) (short_either (is_dir (was at)) (was at) (Some (dir_of time)) (short at) refl) (short at)))

  pub formed_placed : (clock : Time) → is_path path ≡ true → is_short_thing thing ≡ true → IsFormed (record { clock = clock; things = was })
      → IsFormed (record { clock = clock; things = put })
  formed_placed clock is fits formed = record {
    rooted = rooted_placed formed.rooted;
    paths = paths_placed is formed.paths;
    short = short_placed fits formed.short;
  }

  -- with the parents alone, what is below the path is left as it was
  with_parents_under : (at : List ℕ) → is_below path at ≡ true → with_parents path (record { thing = thing; mtime = time }) was at ≡ was at
  with_parents_under at below =
      cond-false (bytes_eq path at) here _ (apart_below path at below)
      ∙ cond-false (is_below at path) (above at) (was at) (below_not_back path at below)

  with_parents_else : (at : List ℕ) → is_below path at ≡ false → with_parents path (record { thing = thing; mtime = time }) was at ≡ put at
  with_parents_else at not_under =
      ap (λ (o : Option Placed). cond (bytes_eq path at) here o) (sym (cond-false (is_below path at) (under at) (cond (is_below at path) (above at) (was at)) not_under))

  none_of : (o : Option Placed) → (is_some o ≡ true → ⊥) → None ≡ o
  none_of None h = refl
  none_of (Some placed) h = absurd (h refl)

  -- below what is no directory stands nothing
  none_under : IsRooted was → is_dir (was path) ≡ false → (at : List ℕ) → is_below path at ≡ true → None ≡ was at
  none_under rooted not_dir at below = none_of (was at) (λ some. both_ways (is_dir (was path)) not_dir (rooted path at below some))

  same_either : (t : Bool) (o : Option Placed) → None ≡ o → o ≡ cond t o None
  same_either true o none = refl
  same_either false o none = sym none

  -- a thing covers what is below, where a directory was at the path and the thing is none
  pub settled_clear : (is_dir (was path) && not (is_dir_thing thing)) ≡ true → (planted done : Things)
      → ((at : List ℕ) → planted at ≡ with_parents path (record { thing = thing; mtime = time }) was at) → ((at : List ℕ) → done at ≡ without_below path planted at)
      → (at : List ℕ) → done at ≡ put at
  settled_clear covers planted done as_planted as_done at =
      let no_dir = not-true (is_dir_thing thing) (and_parts (is_dir (was path)) (not (is_dir_thing thing)) covers).1 in
      as_done at ∙ elim (cases_Bool (is_below path at)) [
        | inl below ↦
            cond-true (is_below path at) None (planted at) below
            ∙ sym (at_under at (apart_below path at below) below ∙ cond-false (is_dir_thing thing) (was at) None no_dir)
        | inr not_under ↦ cond-false (is_below path at) None (planted at) not_under ∙ as_planted at ∙ with_parents_else at not_under
      ]

  under_kept : IsRooted was → (at : List ℕ) → is_below path at ≡ true → (is_dir (was path) ≡ false) ⊎ (not (is_dir_thing thing) ≡ false) → was at ≡ under at
  under_kept rooted at below (inl no_dir) = same_either (is_dir_thing thing) (was at) (none_under rooted no_dir at below)
  under_kept rooted at below (inr dir) = sym (cond-true (is_dir_thing thing) (was at) None (not-false (is_dir_thing thing) dir))

  pub settled_keep : IsRooted was → (is_dir (was path) && not (is_dir_thing thing)) ≡ false → (planted : Things)
      → ((at : List ℕ) → planted at ≡ with_parents path (record { thing = thing; mtime = time }) was at)
      → (at : List ℕ) → planted at ≡ put at
  settled_keep rooted covers planted as_planted at = as_planted at ∙ elim (cases_Bool (is_below path at)) [
    | inl below ↦
        with_parents_under at below
        ∙ under_kept rooted at below (and_cases (is_dir (was path)) (not (is_dir_thing thing)) covers)
        ∙ sym (at_under at (apart_below path at below) below)
    | inr not_under ↦ with_parents_else at not_under
  ]

module _ (path : List ℕ) (was : Things) where
  abbrev taken : Things
  taken = after_take path was

  kept_taken : (at : List ℕ) → is_some (taken at) ≡ true → ((bytes_eq path at || is_below path at) ≡ false) × (is_some (was at) ≡ true)
  kept_taken at some = of_test (bytes_eq path at || is_below path at) (was at) some
    where
      of_test : (t : Bool) (o : Option Placed) → is_some (cond t None o) ≡ true → (t ≡ false) × (is_some o ≡ true)
      of_test true o some = absurd (true≢false (sym some))
      of_test false o some = (refl, some)

  rooted_taken : IsRooted was → IsRooted taken
  rooted_taken rooted dir at dir_at some =
      let kept = kept_taken at some in
      let parts = or_parts (bytes_eq path at) (is_below path at) kept.0 in
      let apart : bytes_eq path dir ≡ false = false_from_ne_true (bytes_eq path dir)
      (λ h. both_ways (is_below path at) parts.1 (ap (λ (p : List ℕ). is_below p at) (same_bytes path dir h) ∙ dir_at)) in
      let not_under : is_below path dir ≡ false = false_from_ne_true (is_below path dir)
      (λ h. both_ways (is_below path at) parts.1 (below_trans path dir at h dir_at)) in
      ap is_dir (cond-false (bytes_eq path dir || is_below path dir) None (was dir) (or_from (bytes_eq path dir) (is_below path dir) apart not_under))
      ∙ rooted dir at dir_at kept.1

  pub formed_taken : (clock : Time) → IsFormed (record { clock = clock; things = was }) → IsFormed (record { clock = clock; things = taken })
  formed_taken clock formed = record {
    rooted = rooted_taken formed.rooted;
    paths = λ at some. formed.paths at (kept_taken at some).1;
    short = λ at. short_taken (bytes_eq path at || is_below path at) (was at) (formed.short at);
  }
    where
      short_taken : (t : Bool) (o : Option Placed) → is_short o ≡ true → is_short (cond t None o) ≡ true
      short_taken true o h = refl
      short_taken false o h = h

  pub taken_clear : (removed done : Things) → is_dir (was path) ≡ true → ((at : List ℕ) → removed at ≡ update bytes_eq was path None at)
      → ((at : List ℕ) → done at ≡ without_below path removed at) → (at : List ℕ) → done at ≡ taken at
  taken_clear removed done dir as_removed as_done at =
      as_done at ∙ ap (λ (o : Option Placed). cond (is_below path at) None o) (as_removed at) ∙ swap (bytes_eq path at) (is_below path at) (was at)
    where
      swap : (a b : Bool) (o : Option Placed) → cond b None (cond a None o) ≡ cond (a || b) None o
      swap true true o = refl
      swap true false o = refl
      swap false true o = refl
      swap false false o = refl

  pub taken_keep : IsRooted was → (removed : Things) → is_dir (was path) ≡ false → ((at : List ℕ) → removed at ≡ update bytes_eq was path None at)
      → (at : List ℕ) → removed at ≡ taken at
  taken_keep rooted removed no_dir as_removed at = as_removed at ∙ elim (cases_Bool (is_below path at)) [
    | inl below ↦
        cond-false (bytes_eq path at) None (was at) (apart_below path at below)
        ∙ sym (none_under path a_thing.Dir zero_time was rooted no_dir at below)
        ∙ sym (cond-true (bytes_eq path at || is_below path at) None (was at) (or_right (bytes_eq path at) (is_below path at) below))
    | inr not_under ↦ ap (λ (t : Bool). cond t None (was at)) (sym (or_false (bytes_eq path at) (is_below path at) not_under))
  ]
    where
      or_false : (a b : Bool) → b ≡ false → (a || b) ≡ a
      or_false true b h = refl
      or_false false b h = h
