-- One change more: what it makes of what is shown, and that each moment stays well formed.
use Rattle.std.proofs.Common.{ℕ, ◌≡◌, ◌≤◌, Bool, true, cond, Some, List, [], ◌∷◌, ◌++◌, length, take, inl, inr, refl, sym, ◌∙◌, ap, subst, arith}
use Rattle.std.proofs.lemmas.Bool.{cases_lt, cond-true}
use Rattle.std.proofs.lemmas.List.{take-append-le, take_all, length_push}
use Rattle.std.specs.Prelude.{is_some}
use Rattle.std.specs.Option.{option_and_then}
use Rattle.hg_base.specs.PathText.{is_path, parent_of}
use Rattle.hg_base.proofs.Children.{below_parent, same_dir}
use Rattle.hg_base.specs.declared.time.Time.{Time}
use Rattle.hg_tree.specs.declared.thing.Thing.{Thing}
use Rattle.hg_tree.specs.declared.asked.Change.{Change}
use Rattle.hg_tree.specs.declared.asked.Own.{Own}
use Rattle.hg_tree.specs.declared.asked.Own.TheVariants as an_own
use Rattle.hg_tree.specs.declared.asked.Outside.TheVariants as a_change
use Rattle.hg_tree.specs.Moment.{Moment, Things, IsFormed, bytes_of, is_short_thing, empty_at}
use Rattle.hg_tree.specs.Own.{after_extended, after_made, after_unlink, is_loose}
use Rattle.hg_tree.specs.Change.{after_place, after_take, by_others}
use Rattle.hg_tree.specs.Memory.{IsKept, after, after_own_change, by_us, replayed}
use Rattle.hg_tree.proofs.Formed.{formed_placed, formed_taken}
use Rattle.hg_tree.proofs.Owned.{contents_loose, formed_extended, formed_made, formed_unlinked}

pub replayed_push : (changes : List Change) (change : Change) (start : Moment) → replayed (changes ++ change ∷ []) start ≡ after change (replayed changes start)
replayed_push [] change start = refl
replayed_push (first ∷ changes) change start = replayed_push changes change (after first start)

-- what is the same at each path is the same
pub same_things : (f g : Things) → ((path : List ℕ) → f path ≡ g path) → f ≡ g
same_things f g same = λ i path. same path i

module _ (start : Time) (changes : List Change) (clock : Time) (was : Things) (kept : IsKept start changes clock was) where
  abbrev shown_now : Moment
  shown_now = replayed changes (empty_at start)

  pub formed_now : IsFormed shown_now
  formed_now = subst (λ (l : List Change). IsFormed (replayed l (empty_at start))) (take_all (length changes) changes (omega arith)) (kept.formed (length changes) (omega arith))

  same_now : was ≡ shown_now.things
  same_now = same_things was shown_now.things kept.current

  pub formed_shown : IsFormed (record { clock = clock; things = was })
  formed_shown = subst (λ (f : Things). IsFormed (record { clock = clock; things = f })) (sym same_now)
      (record { rooted = formed_now.rooted; paths = formed_now.paths; short = formed_now.short })

  formed_more : (change : Change) → IsFormed (after change shown_now) → (k : ℕ) → k ≤ length (changes ++ change ∷ [])
      → IsFormed (replayed (take k (changes ++ change ∷ [])) (empty_at start))
  formed_more change next k upto = elim (cases_lt (length changes) k) [
    | inl past ↦
        subst (λ (l : List Change). IsFormed (replayed l (empty_at start))) (sym (take_all k (changes ++ change ∷ []) (omega (arith, length_push changes change))))
        (subst IsFormed (sym (replayed_push changes change (empty_at start))) next)
    | inr before ↦
        subst (λ (l : List Change). IsFormed (replayed l (empty_at start))) (sym (take-append-le k changes (change ∷ []) before)) (kept.formed k before)
  ]

  shown_is : record { clock = clock; things = was } ≡ shown_now
  shown_is = λ i. record { clock = kept.time i; things = same_now i }

  kept_more : (change : Change) (time : Time) (shown : Things) → IsFormed (after change (record { clock = clock; things = was }))
      → time ≡ (after change (record { clock = clock; things = was })).clock
      → ((path : List ℕ) → shown path ≡ (after change (record { clock = clock; things = was })).things path)
      → IsKept start (changes ++ change ∷ []) time shown
  kept_more change time shown next as_time as_shown = record {
    time = as_time ∙ ap (λ (m : Moment). m.clock) (made change);
    current = λ path. as_shown path ∙ ap (λ (m : Moment). m.things path) (made change);
    formed = formed_more change (subst (λ (m : Moment). IsFormed (after change m)) shown_is next);
  }
    where
      made : (change : Change) → after change (record { clock = clock; things = was }) ≡ replayed (changes ++ change ∷ []) (empty_at start)
      made change = ap (after change) shown_is ∙ sym (replayed_push changes change (empty_at start))

  -- what the caller changes leaves the clock
  own_clock : (what : Own) (m : Moment) → m.clock ≡ (after_own_change what m).clock
  own_clock (an_own.Unlink path) m = refl
  own_clock (an_own.Make path thing) m = refl
  own_clock (an_own.Extend path more) m = refl

  pub kept_own : (what : Own) (shown : Things) → IsFormed (after_own_change what (record { clock = clock; things = was }))
      → ((path : List ℕ) → shown path ≡ (after_own_change what (record { clock = clock; things = was })).things path) → IsKept start (changes ++ by_us what ∷ []) clock shown
  kept_own what shown next as_shown = kept_more (by_us what) clock shown next (own_clock what (record { clock = clock; things = was })) as_shown

  pub kept_unlinked : (path : List ℕ) (shown : Things) → is_path path ≡ true → is_some (option_and_then (λ placed. bytes_of placed.thing) (was path)) ≡ true
      → ((at : List ℕ) → shown at ≡ after_unlink path clock was at) → IsKept start (changes ++ by_us (an_own.Unlink path) ∷ []) clock shown
  kept_unlinked path shown is there as_shown =
      let loose = contents_loose (was path) there in
      kept_own (an_own.Unlink path) shown
      (formed_unlinked path clock was clock loose.0 loose.1 (λ at home. below_parent at path (sym (same_dir (Some at) (parent_of path) home))) formed_shown) as_shown

  pub kept_made : (path : List ℕ) (thing : Thing) (shown : Things) → is_path path ≡ true → is_short_thing thing ≡ true → is_loose (was path) ≡ true
      → ((at : List ℕ) → shown at ≡ after_made path thing clock was at) → IsKept start (changes ++ by_us (an_own.Make path thing) ∷ []) clock shown
  kept_made path thing shown is fits loose as_shown =
      kept_own (an_own.Make path thing) shown (formed_made path thing clock was clock is fits loose formed_shown) as_shown

  pub kept_extended : (path more : List ℕ) (shown : Things) → ((at : List ℕ) → shown at ≡ after_extended path more clock was at)
      → IsKept start (changes ++ by_us (an_own.Extend path more) ∷ []) clock shown
  kept_extended path more shown as_shown = kept_own (an_own.Extend path more) shown (formed_extended path more clock was clock formed_shown) as_shown

  pub kept_placed : (path : List ℕ) (thing : Thing) (time : Time) (shown : Things) → is_path path ≡ true → is_short_thing thing ≡ true
      → ((at : List ℕ) → shown at ≡ after_place path thing time was at) → IsKept start (changes ++ by_others (a_change.Place path thing time) ∷ []) clock shown
  kept_placed path thing time shown is fits as_shown =
      kept_more (by_others (a_change.Place path thing time)) clock shown (formed_placed path thing time was clock is fits formed_shown) refl as_shown

  pub kept_taken : (path : List ℕ) (shown : Things) → ((at : List ℕ) → shown at ≡ after_take path was at) → IsKept start (changes ++ by_others (a_change.Take path) ∷ []) clock shown
  kept_taken path shown as_shown = kept_more (by_others (a_change.Take path)) clock shown (formed_taken path was clock formed_shown) refl as_shown

  pub kept_clocked : (time : Time) → IsKept start (changes ++ by_others (a_change.Clock time) ∷ []) time was
  kept_clocked time = kept_more (by_others (a_change.Clock time)) time was
      (record { rooted = formed_shown.rooted; paths = formed_shown.paths; short = formed_shown.short }) refl (λ at. refl)

-- the same under other names
pub kept_still : (start : Time) (changes again : List Change) (clock : Time) (was shown : Things) → again ≡ changes → ((path : List ℕ) → shown path ≡ was path)
    → IsKept start changes clock was → IsKept start again clock shown
kept_still start changes again clock was shown list same kept =
    subst (λ (l : List Change). IsKept start l clock shown) (sym list) (record { time = kept.time; current = λ path. same path ∙ kept.current path; formed = kept.formed })

-- a change that was pushed where there was room stands behind those before
pub pushed_is : (before room later : List Change) (pushed : Bool) (change : Change) → later ≡ cond pushed (room ++ change ∷ []) room → pushed ≡ true → room ≡ before → later ≡ before ++ change ∷ []
pushed_is before room later pushed change is done same =
    is ∙ cond-true pushed (room ++ change ∷ []) room done ∙ ap (λ (l : List Change). l ++ change ∷ []) same
