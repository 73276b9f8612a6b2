-- A node is added with its time.
use Rattle.std.proofs.Common.{ℕ, ◌≡◌, Bool, true, false, cond, List, Option, Some, None, refl, sym, ap, ◌∙◌, true≢false, inl, inr}
use Rattle.std.specs.Prelude.{is_some}
use Rattle.std.specs.Option.{option_map}
use Rattle.std.specs.Str.{bytes_eq}
use Rattle.std.proofs.lemmas.Bool.{cases_Bool, cond-true, cond-false, both_ways}
use Rattle.hg_base.specs.PathText.{is_below, is_path, parent_of}
use Rattle.hg_base.proofs.Within.{above_is, above_none, same_bytes, within_split}
use Rattle.hg_entry.specs.Entry.{CacheData}
use Rattle.hg_nodes.specs.Adding.{Adds, IsElsewhere}
use Rattle.hg_nodes.specs.Drop.{bare}
use Rattle.hg_nodes.specs.Edits.{IsFormed}
use Rattle.hg_nodes.specs.Node.{AreSame, IsPut, IsThere, NodeData, entry_in, node_at, source_in}
use Rattle.hg_nodes.specs.Times.{IsTimed, time_at}
use Rattle.hg_nodes.proofs.Edited.{update_other, update_same}

-- the same nodes, and no time that wasn't there
pub formed_less : (rows : List (List ℕ × NodeData)) (times : List (List ℕ × CacheData)) (new : List (List ℕ × NodeData)) (after : List (List ℕ × CacheData)) → IsFormed (bare rows times) → AreSame rows new
    → ((at : List ℕ) → is_some (time_at after at) ≡ true → is_some (time_at times at) ≡ true) → IsFormed (bare new after)
formed_less rows times new after formed same less = record {
  paths = λ at h. formed.paths at (sym (ap is_some (same at)) ∙ h);
  rooted = λ dir at below h. ap is_some (same dir) ∙ formed.rooted dir at below (sym (ap is_some (same at)) ∙ h);
  entries = λ at h. ap entry_in (same at) ∙ formed.entries at (sym (ap is_some (same at)) ∙ h);
  sources = λ at h. ap source_in (same at) ∙ formed.sources at (sym (ap entry_in (same at)) ∙ h);
  caches = λ at h. let had = formed.caches at (less at h) in (ap is_some (same at) ∙ had.0, ap entry_in (same at) ∙ had.1);
}

module _ (path : List ℕ) (node : NodeData) (rows : List (List ℕ × NodeData)) (times : List (List ℕ × CacheData)) (new : List (List ℕ × NodeData)) (after : List (List ℕ × CacheData)) (good : is_path path ≡ true)
    (formed : IsFormed (bare rows times)) (there : IsThere rows (parent_of path)) (put : IsPut path (Some node) rows new)
    (sourced : node.entry ≡ None → node.source ≡ None) where
  at_path : (at : List ℕ) → bytes_eq path at ≡ true → node_at new at ≡ Some node
  at_path at h = put at ∙ cond-true (bytes_eq path at) (Some node) (node_at rows at) h

  at_other : (at : List ℕ) → bytes_eq path at ≡ false → node_at new at ≡ node_at rows at
  at_other at h = put at ∙ cond-false (bytes_eq path at) (Some node) (node_at rows at) h

  stays : (at : List ℕ) → is_some (node_at rows at) ≡ true → is_some (node_at new at) ≡ true
  stays at h = elim (cases_Bool (bytes_eq path at)) [
    | inl here ↦ ap is_some (at_path at here)
    | inr other ↦ ap is_some (at_other at other) ∙ h
  ]

  above : (o : Option (List ℕ)) → parent_of path ≡ o → (dir : List ℕ) → is_below dir path ≡ true → is_some (node_at rows dir) ≡ true
  above None is dir below = absurd (both_ways (is_below dir path) (above_none path good is dir) below)
  above (Some d) is dir below = elim (within_split dir d (sym (above_is d path good is dir) ∙ below)) [
    | inl e ↦ ap (λ (p : List ℕ). is_some (node_at rows p)) (sym e) ∙ there d is
    | inr more ↦ formed.rooted dir d more (there d is)
  ]

  -- with any time that no entry stands beside
  own_formed : (time : Option CacheData) → IsTimed path time times after → (is_some time ≡ true → node.entry ≡ None) → IsFormed (bare new after)
  own_formed time timed fit = record {
    paths = λ at h. elim (cases_Bool (bytes_eq path at)) [
      | inl here ↦ ap is_path (sym (same_bytes path at here)) ∙ good
      | inr other ↦ formed.paths at (sym (ap is_some (at_other at other)) ∙ h)
    ];
    rooted = λ dir at below h. elim (cases_Bool (bytes_eq path at)) [
      | inl here ↦ stays dir (above (parent_of path) refl dir (ap (is_below dir) (same_bytes path at here) ∙ below))
      | inr other ↦ stays dir (formed.rooted dir at below (sym (ap is_some (at_other at other)) ∙ h))
    ];
    entries = λ at h. elim (cases_Bool (bytes_eq path at)) [
      | inl here ↦ absurd (both_ways (is_some (node_at new at)) h (ap is_some (at_path at here)))
      | inr other ↦ ap entry_in (at_other at other) ∙ formed.entries at (sym (ap is_some (at_other at other)) ∙ h)
    ];
    sources = λ at h. elim (cases_Bool (bytes_eq path at)) [
      | inl here ↦ ap source_in (at_path at here) ∙ sourced (sym (ap entry_in (at_path at here)) ∙ h)
      | inr other ↦ ap source_in (at_other at other) ∙ formed.sources at (sym (ap entry_in (at_other at other)) ∙ h)
    ];
    caches = λ at h. elim (cases_Bool (bytes_eq path at)) [
      | inl here ↦ (
        ap is_some (at_path at here),
        ap entry_in (at_path at here) ∙ fit (sym (ap is_some (timed at ∙ cond-true (bytes_eq path at) time (time_at times at) here)) ∙ h),
      )
      | inr other ↦
          let had = formed.caches at (sym (ap is_some (timed at ∙ cond-false (bytes_eq path at) time (time_at times at) other)) ∙ h) in
          (ap is_some (at_other at other) ∙ had.0, ap entry_in (at_other at other) ∙ had.1)
    ];
  }

  -- the node is added
  pub adds_own : (time : Option CacheData) → IsTimed path time times after → (is_some time ≡ true → node.entry ≡ None) → Adds path node time rows times new after
  adds_own time timed fit = record { put = put; timed = timed; formed = own_formed time timed fit }

  -- it is added without its time, for which there was no memory
  pub adds_untimed : node.entry ≡ None → ((at : List ℕ) → time_at after at ≡ time_at times at) → IsElsewhere path rows times new after
  adds_untimed none same = record {
    others = λ at other. record { node = at_other at other; time = same at };
    formed = own_formed (time_at times path) (λ at. same at ∙ sym (update_same (time_at times) path (time_at times path) refl at)) (λ _. none);
  }

less_time : (b : Bool) (was : Option CacheData) → is_some (cond b None was) ≡ true → is_some was ≡ true
less_time true was h = absurd (true≢false (sym h))
less_time false was h = h

-- the time of a path is gone, and no node was taken
pub untimed : (path : List ℕ) (rows : List (List ℕ × NodeData)) (times : List (List ℕ × CacheData)) (new : List (List ℕ × NodeData)) (after : List (List ℕ × CacheData)) → IsFormed (bare rows times) → AreSame rows new
    → IsTimed path None times after → IsElsewhere path rows times new after
untimed path rows times new after formed same timed = record {
  others = λ at other. record { node = same at; time = timed at ∙ update_other (time_at times) path None at other };
  formed = formed_less rows times new after formed same (λ at h. less_time (bytes_eq path at) (time_at times at) (sym (ap is_some (timed at)) ∙ h));
}

-- what is made of nothing is nothing, and back
pub none_mapped : {X Y : Type 0} (f : X → Y) (o : Option X) → o ≡ None → option_map f o ≡ None
none_mapped f o none = ap (option_map f) none

pub none_viewed : {X Y : Type 0} (f : X → Y) (o : Option X) → option_map f o ≡ None → o ≡ None
none_viewed f None none = refl
none_viewed f (Some x) none = absurd (cc none)

pub some_mapped : {X Y : Type 0} (f : X → Y) (o : Option X) → is_some (option_map f o) ≡ true → is_some o ≡ true
some_mapped f None some = absurd (true≢false (sym some))
some_mapped f (Some x) some = refl
