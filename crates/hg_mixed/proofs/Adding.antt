-- The nodes of a list of an image are taken one after the other.
use Rattle.std.proofs.Common.{ℕ, ◌≡◌, ◌+◌, Bool, true, false, cond, ◌&&◌, not, List, Option, Some, None, refl, sym, ap, ◌∙◌, subst, true≢false, inl, inr, ◌⊎◌, arith}
use Rattle.std.specs.Option.{option_map}
use Rattle.std.specs.Prelude.{is_some, Result, Ok, Err, OnErr}
use Rattle.std.specs.Str.{bytes_eq}
use Rattle.std.proofs.lemmas.Bool.{cases_Bool, cases_order, cond-true, cond-false}
use Rattle.hg_base.specs.PathText.{parent_of}
use Rattle.hg_base.proofs.Within.{same_bytes}
use Rattle.hg_entry.specs.Entry.{CacheData, EntryData, cache_of, entry_of, has_entry}
use Rattle.hg_image.specs.Node.{fields_of, path_of}
use Rattle.hg_image.specs.Reading.{row_at}
use Rattle.hg_image.specs.Rows.{Row}
use Rattle.hg_image.specs.View.{IsMember, dir_of, row, rows_in}
use Rattle.hg_image.specs.declared.opened.List.{List as NodeList}
use Rattle.hg_image.specs.declared.opened.NodeRef.{NodeRef}
use Rattle.hg_nodes.specs.Adding.{Adds, AreOthersKept, IsAsBefore, IsElsewhere}
use Rattle.hg_nodes.specs.Memory.{MemoryData}
use Rattle.hg_nodes.specs.Node.{NodeData, node_at}
use Rattle.hg_mixed.specs.Opened.{node_of}
use Rattle.hg_mixed.specs.Taken.{AddsNodes, AddsOwn, AddsSome, HasRow, IsNotOf, path_at}
use Rattle.hg_nodes.specs.Times.{time_at}
use Rattle.hg_image.proofs.Found.{dir_member, row_member}

-- ---- what is formed

source_only : (b : Bool) (entry : EntryData) (source : Option (List ℕ)) → cond b (Some entry) None ≡ None → (b ≡ false → source ≡ None) → source ≡ None
source_only true entry source none h = let never : Some entry ≡ None = none in absurd (cc)
source_only false entry source none h = h refl

module _ (row : Row) (sourced : has_entry row.rec.flags ≡ false → row.source ≡ None) where
  pub no_source : entry_of (fields_of row.rec) ≡ None → row.source ≡ None
  no_source none = source_only (has_entry row.rec.flags) _ row.source none sourced

-- no cache where an entry is
pub apart : (b x y z : Bool) (time : CacheData) (entry : EntryData) → is_some (cond (not b && x && y && z) (Some time) None) ≡ true → cond b (Some entry) None ≡ None
apart true x y z time entry h = absurd (true≢false (sym h))
apart false x y z time entry h = refl

pub no_entry : (row : Row) → is_some (cache_of (fields_of row.rec)) ≡ true → entry_of (fields_of row.rec) ≡ None
no_entry row h = apart (has_entry row.rec.flags) _ _ _ _ _ h

-- no source where none is
pub source_false : (b c : Bool) (source : List ℕ) → b ≡ false → cond (b && c) (Some source) None ≡ None
source_false true c source h = absurd (true≢false h)
source_false false c source h = refl

-- what is recorded of a row is added as the row's node
pub adds_same : (a b : List ℕ) (m n : NodeData) (s t : Option CacheData) → a ≡ b → m ≡ n → s ≡ t
    → (old : List (List ℕ × NodeData)) (before : List (List ℕ × CacheData)) (new : List (List ℕ × NodeData)) (after : List (List ℕ × CacheData)) → Adds a m s old before new after → Adds b n t old before new after
adds_same a b m n s t path node time old before new after adds =
    subst (λ (p : List ℕ). Adds p n t old before new after) path
    (subst (λ (d : NodeData). Adds a d t old before new after) node (subst (λ (c : Option CacheData). Adds a m c old before new after) time adds))

pub mapped_some : {X Y : Type 0} (f : X → Y) (o : Option X) → is_some o ≡ true → is_some (option_map f o) ≡ true
mapped_some f None some = some
mapped_some f (Some x) some = refl

-- ---- one after the other

pub before_trans : (at : List ℕ) (a : List (List ℕ × NodeData)) (s : List (List ℕ × CacheData)) (b : List (List ℕ × NodeData)) (t : List (List ℕ × CacheData)) (c : List (List ℕ × NodeData)) (u : List (List ℕ × CacheData))
    → IsAsBefore at a s b t → IsAsBefore at b t c u → IsAsBefore at a s c u
before_trans at a s b t c u p q = record { node = q.node ∙ p.node; time = q.time ∙ p.time }

module _ (list : NodeList) (i : ℕ) (node : NodeRef) (member : IsMember list node) (place : member.place ≡ i) where
  pub member_path : path_at list i ≡ (row node).path
  member_path = (λ k. path_at list (sym place k)) ∙ (λ k. path_of (sym member.bytes k) (sym member.rec k))

module _ (list : NodeList) (i : ℕ) (node : NodeRef) (member : IsMember list node) (place : member.place ≡ i) (a : List (List ℕ × NodeData)) (s : List (List ℕ × CacheData)) (b : List (List ℕ × NodeData)) (t : List (List ℕ × CacheData))
    (adds : AddsNodes list i a s b t) where
  -- one node more
  pub adds_step : (c : List (List ℕ × NodeData)) (u : List (List ℕ × CacheData)) → AddsOwn (row node) b t c u → AddsNodes list (i + 1) a s c u
  adds_step c u own = record {
    each = λ at. elim (cases_Bool (bytes_eq (row node).path at)) [
      | inl here ↦ inr (record {
        row = row node;
        there = ap (row_at (rows_in list)) (sym (same_bytes (row node).path at here)) ∙ row_member list node member;
        dir = ap parent_of (sym (same_bytes (row node).path at here)) ∙ dir_member list node member;
        node = own.put at ∙ cond-true (bytes_eq (row node).path at) (Some (node_of (row node))) (node_at b at) here;
        time = own.timed at ∙ cond-true (bytes_eq (row node).path at) (cache_of (fields_of node.rec)) (time_at t at) here;
      })
      | inr other ↦ on at other (adds.each at)
    ];
    formed = own.formed;
  }
    where
      still : (at : List ℕ) → bytes_eq (row node).path at ≡ false → IsAsBefore at b t c u
      still at other = record {
        node = own.put at ∙ cond-false (bytes_eq (row node).path at) (Some (node_of (row node))) (node_at b at) other;
        time = own.timed at ∙ cond-false (bytes_eq (row node).path at) (cache_of (fields_of node.rec)) (time_at t at) other;
      }

      on : (at : List ℕ) → bytes_eq (row node).path at ≡ false → (IsNotOf list i at a s b t) ⊎ (HasRow list at b t) → (IsNotOf list (i + 1) at a s c u) ⊎ (HasRow list at c u)
      on at other (inl was) = inl (record {
        stays = before_trans at a s b t c u was.stays (still at other);
        none = λ k less. elim (cases_order k i) [
          | inl e ↦ ap (λ (n : ℕ). bytes_eq (path_at list n) at) e ∙ ap (λ (p : List ℕ). bytes_eq p at) (member_path list i node member place) ∙ other
          | inr (inl l) ↦ was.none k l
          | inr (inr g) ↦ absurd (omega (arith, less, g))
        ];
      })
      on at other (inr was) = inr (record {
        row = was.row;
        there = was.there;
        dir = was.dir;
        node = (still at other).node ∙ was.node;
        time = (still at other).time ∙ was.time;
      })

  -- memory was wanting
  pub adds_some : (c : List (List ℕ × NodeData)) (u : List (List ℕ × CacheData)) → IsElsewhere (row node).path b t c u → AddsSome list a s c u
  adds_some c u own = record {
    each = λ at. elim (cases_Bool (bytes_eq (row node).path at)) [
      | inl here ↦ inr (
        ap parent_of (sym (same_bytes (row node).path at here)) ∙ dir_member list node member,
        ap is_some (ap (row_at (rows_in list)) (sym (same_bytes (row node).path at here)) ∙ row_member list node member),
      )
      | inr other ↦ on at other (adds.each at)
    ];
    formed = own.formed;
  }
    where
      on : (at : List ℕ) → bytes_eq (row node).path at ≡ false → (IsNotOf list i at a s b t) ⊎ (HasRow list at b t) → (IsAsBefore at a s c u) ⊎ ((parent_of at ≡ dir_of list) × (is_some (row_at (rows_in list) at) ≡ true))
      on at other (inl was) = inl (before_trans at a s b t c u was.stays (own.others at other))
      on at other (inr was) = inr (was.dir, ap is_some was.there)

-- what is so of any result is so where it is an error
pub on_err_of : {T E : Type 0} (r : Result T E) (P : Type 0) → P → OnErr r P
on_err_of (Ok done) P p = tt
on_err_of (Err fault) P p = p

-- what one step more leaves
pub others_on : (a b c : MemoryData) → AreOthersKept a b → AreOthersKept b c → AreOthersKept a c
others_on a b c p q = record { p1 = q.p1 ∙ p.p1; p2 = q.p2 ∙ p.p2; hash = q.hash ∙ p.hash; changed = q.changed ∙ p.changed }
