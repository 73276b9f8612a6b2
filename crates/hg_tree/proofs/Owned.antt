-- What the caller does to a well formed working copy leaves it well formed.
use Rattle.std.proofs.Common.{ℕ, ◌≡◌, Bool, true, false, cond, List, Option, Some, None, inl, inr, refl, sym, ◌∙◌, ap, true≢false}
use Rattle.std.specs.Prelude.{is_some}
use Rattle.std.specs.Str.{bytes_eq}
use Rattle.std.specs.Option.{option_and_then}
use Rattle.std.proofs.lemmas.Bool.{cases_Bool, both_ways, cond-true, cond-false}
use Rattle.hg_base.specs.PathText.{is_below, is_path, is_same_dir, parent_of}
use Rattle.hg_base.specs.declared.time.Time.{Time}
use Rattle.hg_base.proofs.Below.{below_trans}
use Rattle.hg_base.proofs.Paths.{path_above}
use Rattle.hg_tree.specs.declared.thing.Thing.{Thing}
use Rattle.hg_tree.specs.declared.thing.Thing.TheVariants as a_thing
use Rattle.hg_tree.specs.declared.thing.Placed.{Placed}
use Rattle.hg_tree.specs.Moment.{Things, bytes_of, is_dir, is_short, is_short_thing, IsRooted, AreAtPaths, IsFormed}
use Rattle.hg_tree.specs.Change.{dir_of}
use Rattle.hg_tree.specs.Own.{after_extended, after_made, after_unlink, extended, is_loose, toward}
use Rattle.hg_tree.proofs.Planting.{same_bytes, apart_above}
use Rattle.hg_tree.proofs.Making.{dir_is_some}
use Rattle.hg_tree.proofs.Toward.{toward_below}

loose_no_dir : (o : Option Placed) → is_loose o ≡ true → is_dir o ≡ false
loose_no_dir None h = refl
loose_no_dir (Some placed) h = of_thing placed.thing h
  where
    of_thing : (thing : Thing) → is_loose (Some (record { thing = thing; mtime = placed.mtime })) ≡ true → is_dir (Some (record { thing = thing; mtime = placed.mtime })) ≡ false
    of_thing (a_thing.File exec bytes) h = refl
    of_thing (a_thing.Link target) h = refl
    of_thing a_thing.Dir h = absurd (true≢false (sym h))
    of_thing a_thing.Other h = refl

-- what has contents is something, and no directory
pub contents_loose : (o : Option Placed) → is_some (option_and_then (λ placed. bytes_of placed.thing) o) ≡ true → (is_some o ≡ true) × (is_loose o ≡ true)
contents_loose None h = absurd (true≢false (sym h))
contents_loose (Some placed) h = (refl, of_thing placed.thing h)
  where
    of_thing : (thing : Thing) → is_some (bytes_of thing) ≡ true → is_loose (Some (record { thing = thing; mtime = placed.mtime })) ≡ true
    of_thing (a_thing.File exec bytes) h = refl
    of_thing (a_thing.Link target) h = refl
    of_thing a_thing.Dir h = absurd (true≢false (sym h))
    of_thing a_thing.Other h = absurd (true≢false (sym h))

-- below what is no directory stands nothing
nothing_below : (path : List ℕ) (was : Things) → IsRooted was → is_loose (was path) ≡ true → (at : List ℕ) → is_below path at ≡ true → is_some (was at) ≡ true → ⊥
nothing_below path was rooted loose at below some = both_ways (is_dir (was path)) (loose_no_dir (was path) loose) (rooted path at below some)

module _ (path : List ℕ) (thing : Thing) (time : Time) (was : Things) where
  abbrev made : Things
  made = after_made path thing time was

  made_here : (at : List ℕ) → bytes_eq path at ≡ true → made at ≡ Some (record { thing = thing; mtime = time })
  made_here at same = cond-true (bytes_eq path at) _ _ same

  made_above : (at : List ℕ) → is_below at path ≡ true → made at ≡ cond (is_some (was (toward at path))) (was at) (Some (dir_of time))
  made_above at up = cond-false (bytes_eq path at) _ _ (apart_above at path up) ∙ cond-true (is_below at path) _ (was at) up

  made_else : (at : List ℕ) → bytes_eq path at ≡ false → is_below at path ≡ false → made at ≡ was at
  made_else at apart not_up = cond-false (bytes_eq path at) _ _ apart ∙ cond-false (is_below at path) _ (was at) not_up

  dir_above : IsRooted was → (dir : List ℕ) → is_below dir path ≡ true → is_dir (made dir) ≡ true
  dir_above rooted dir up = elim (cases_Bool (is_some (was (toward dir path)))) [
    | inl there ↦ ap is_dir (made_above dir up ∙ cond-true (is_some (was (toward dir path))) (was dir) (Some (dir_of time)) there) ∙ rooted dir (toward dir path) (toward_below dir path up) there
    | inr none ↦ ap is_dir (made_above dir up ∙ cond-false (is_some (was (toward dir path))) (was dir) (Some (dir_of time)) none)
  ]

  rooted_made : IsRooted was → is_loose (was path) ≡ true → IsRooted made
  rooted_made rooted loose dir at dir_at some = elim (cases_Bool (bytes_eq path at)) [
    | inl same ↦ dir_above rooted dir (ap (is_below dir) (same_bytes path at same) ∙ dir_at)
    | inr apart ↦ elim (cases_Bool (is_below at path)) [
      | inl up ↦ dir_above rooted dir (below_trans dir at path dir_at up)
      | inr not_up ↦
          let there : is_some (was at) ≡ true = sym (ap is_some (made_else at apart not_up)) ∙ some in
          elim (cases_Bool (is_below dir path)) [
            | inl up ↦ dir_above rooted dir up
            | inr other ↦ elim (cases_Bool (bytes_eq path dir)) [
              | inl same ↦ absurd (nothing_below path was rooted loose at (ap (λ (p : List ℕ). is_below p at) (same_bytes path dir same) ∙ dir_at) there)
              | inr far ↦ ap is_dir (made_else dir far other) ∙ rooted dir at dir_at there
            ]
          ]
    ]
  ]

  paths_made : is_path path ≡ true → AreAtPaths was → AreAtPaths made
  paths_made is paths at some = elim (cases_Bool (bytes_eq path at)) [
    | inl same ↦ sym (ap is_path (same_bytes path at same)) ∙ is
    | inr apart ↦ elim (cases_Bool (is_below at path)) [
      | inl up ↦ path_above at path up is
      | inr not_up ↦ paths at (sym (ap is_some (made_else at apart not_up)) ∙ some)
    ]
  ]

  short_either : (t : Bool) (a b : Option Placed) → is_short a ≡ true → is_short b ≡ true → is_short (cond t a b) ≡ true
  short_either true a b p q = p
  short_either false a b p q = q

  pub formed_made : (clock : Time) → is_path path ≡ true → is_short_thing thing ≡ true → is_loose (was path) ≡ true → IsFormed (record { clock = clock; things = was })
      → IsFormed (record { clock = clock; things = made })
  formed_made clock is fits loose formed = record {
    rooted = rooted_made formed.rooted loose;
    paths = paths_made is formed.paths;
    short = λ at.
        short_either (bytes_eq path at) (Some (record { thing = thing; mtime = time })) _ fits
        (short_either (is_below at path) _ (was at) (short_either (is_some (was (toward at path))) (was at) (Some (dir_of time)) (formed.short at) refl) (formed.short at));
  }

module _ (path more : List ℕ) (time : Time) (was : Things) where
  abbrev longer : Things
  longer = after_extended path more time was

  alike : (o : Option Placed) → (is_some (extended more time o) ≡ is_some o) × ((is_dir (extended more time o) ≡ is_dir o) × (is_short o ≡ true → is_short (extended more time o) ≡ true))
  alike None = (refl, (refl, λ h. h))
  alike (Some placed) = of_thing placed.thing
    where
      of_thing : (thing : Thing) → (is_some (extended more time (Some (record { thing = thing; mtime = placed.mtime }))) ≡ true)
          × ((is_dir (extended more time (Some (record { thing = thing; mtime = placed.mtime }))) ≡ is_dir (Some (record { thing = thing; mtime = placed.mtime })))
          × (is_short (Some (record { thing = thing; mtime = placed.mtime })) ≡ true → is_short (extended more time (Some (record { thing = thing; mtime = placed.mtime }))) ≡ true))
      of_thing (a_thing.File exec bytes) = (refl, (refl, λ h. h))
      of_thing (a_thing.Link target) = (refl, (refl, λ h. h))
      of_thing a_thing.Dir = (refl, (refl, λ h. h))
      of_thing a_thing.Other = (refl, (refl, λ h. h))

  either : {A : Type 0} (f : Option Placed → A) (at : List ℕ) → f (extended more time (was path)) ≡ f (was path) → f (longer at) ≡ f (was at)
  either f at same = elim (cases_Bool (bytes_eq path at)) [
    | inl here ↦ ap f (cond-true (bytes_eq path at) (extended more time (was path)) (was at) here) ∙ same ∙ ap (λ (p : List ℕ). f (was p)) (same_bytes path at here)
    | inr apart ↦ ap f (cond-false (bytes_eq path at) (extended more time (was path)) (was at) apart)
  ]

  short_either_way : (t : Bool) (a b : Option Placed) → is_short a ≡ true → is_short b ≡ true → is_short (cond t a b) ≡ true
  short_either_way true a b p q = p
  short_either_way false a b p q = q

  pub formed_extended : (clock : Time) → IsFormed (record { clock = clock; things = was }) → IsFormed (record { clock = clock; things = longer })
  formed_extended clock formed =
      let same = alike (was path) in
      record {
        rooted = λ dir at below some. either is_dir dir same.1.0 ∙ formed.rooted dir at below (sym (either is_some at same.0) ∙ some);
        paths = λ at some. formed.paths at (sym (either is_some at same.0) ∙ some);
        short = λ at. short_either_way (bytes_eq path at) (extended more time (was path)) (was at) (same.1.1 (formed.short path)) (formed.short at);
      }

module _ (path : List ℕ) (time : Time) (was : Things) where
  abbrev left : Things
  left = after_unlink path time was

  abbrev is_home : List ℕ → Bool
  is_home at = is_same_dir (Some at) (parent_of path)

  left_home : (at : List ℕ) → bytes_eq path at ≡ false → is_home at ≡ true → left at ≡ Some (dir_of time)
  left_home at apart home = cond-false (bytes_eq path at) None _ apart ∙ cond-true (is_home at) (Some (dir_of time)) (was at) home

  left_else : (at : List ℕ) → bytes_eq path at ≡ false → is_home at ≡ false → left at ≡ was at
  left_else at apart not_home = cond-false (bytes_eq path at) None _ apart ∙ cond-false (is_home at) (Some (dir_of time)) (was at) not_home

  not_here : (at : List ℕ) → is_some (left at) ≡ true → bytes_eq path at ≡ false
  not_here at some = elim (cases_Bool (bytes_eq path at)) [
    | inl here ↦ absurd (true≢false (sym some ∙ ap is_some (cond-true (bytes_eq path at) None _ here)))
    | inr apart ↦ apart
  ]

  -- what is left was there, since the directory was
  was_there : IsRooted was → is_some (was path) ≡ true → ((at : List ℕ) → is_home at ≡ true → is_below at path ≡ true) → (at : List ℕ) → is_some (left at) ≡ true → is_some (was at) ≡ true
  was_there rooted there home at some = elim (cases_Bool (is_home at)) [
    | inl yes_home ↦ dir_is_some (was at) (rooted at path (home at yes_home) there)
    | inr not_home ↦ sym (ap is_some (left_else at (not_here at some) not_home)) ∙ some
  ]

  pub formed_unlinked : (clock : Time) → is_some (was path) ≡ true → is_loose (was path) ≡ true → ((at : List ℕ) → is_home at ≡ true → is_below at path ≡ true)
      → IsFormed (record { clock = clock; things = was }) → IsFormed (record { clock = clock; things = left })
  formed_unlinked clock there loose home formed = record {
    rooted = λ dir at below some.
        let stood = was_there formed.rooted there home at some in
        elim (cases_Bool (bytes_eq path dir)) [
          | inl same ↦ absurd (nothing_below path was formed.rooted loose at (ap (λ (p : List ℕ). is_below p at) (same_bytes path dir same) ∙ below) stood)
          | inr apart ↦ elim (cases_Bool (is_home dir)) [
            | inl yes_home ↦ ap is_dir (left_home dir apart yes_home)
            | inr not_home ↦ ap is_dir (left_else dir apart not_home) ∙ formed.rooted dir at below stood
          ]
        ];
    paths = λ at some. formed.paths at (was_there formed.rooted there home at some);
    short = λ at. short_left (bytes_eq path at) (is_home at) (was at) (formed.short at);
  }
    where
      short_left : (a b : Bool) (o : Option Placed) → is_short o ≡ true → is_short (cond a None (cond b (Some (dir_of time)) o)) ≡ true
      short_left true b o h = refl
      short_left false true o h = refl
      short_left false false o h = h
