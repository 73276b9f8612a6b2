-- Each text that the tables before and behind a command have stays lent over its words: nodes and copy sources only come, or only go, so that none comes back.
use Rattle.std.proofs.Common.{ℕ, ◌≡◌, Bool, true, false, not, ◌&&◌, ◌||◌, cond, List, Option, Some, None, inl, inr, refl, sym, ap, ◌∙◌, eqb, eqb-true, eq-eqb, true≢false}
use Rattle.std.specs.Prelude.{Result, Ok, Err, IfOk, MatchBool, OnOk}
use Rattle.std.specs.Map.{update}
use Rattle.std.specs.Str.{bytes_eq}
use Rattle.std.proofs.lemmas.Bool.{cases_Bool}
use Rattle.std.proofs.lemmas.Map.{update_other, update_same}
use Rattle.hg_base.proofs.Within.{equal_bytes, same_bytes, within_split}
use Rattle.hg_base.specs.Within.{is_within}
use Rattle.hg_entry.specs.Entry.{EntryData}
use Rattle.hg_entry.specs.Table.{Table}
use Rattle.hg_mixed.specs.Drop.{PlacesDrop}
use Rattle.hg_nodes.specs.Drop.{IsPruned, after_clear}
use Rattle.hg_mixed.specs.Edits.{ArePlacedAsBefore, PlacesCopy}
use Rattle.hg_nodes.specs.Edits.{IsFormed, IsSame}
use Rattle.hg_mixed.specs.Held.{Held, source_at, table, text_at}
use Rattle.hg_ops.specs.Copy.{PlacesCopied, copied, copy_source}
use Rattle.hg_ops.specs.Parents.{PlacesParents}
use Rattle.hg_ops.specs.Step.{IsForget, IsForgotten, IsUntracked, added, after_add, after_untracked, is_tracked}
use Rattle.hg_ops.specs.Untracked.{PlacesForgotten, PlacesUntracked}
use Rattle.hg_ops.specs.declared.copy_refusal.CopyRefusal.{CopyRefusal}
use Rattle.hg_ops.specs.declared.refusal.OpFault.{OpFault}
use Rattle.hg_ops.specs.declared.refusal.Refusal.{Refusal}
use Rattle.hg_session.specs.Acts.{steps_of}
use Rattle.hg_session.specs.Kept.{KeepsTexts}
use Rattle.hg_session.specs.declared.acting.Changing.{Changing}
use Rattle.hg_session.specs.declared.acting.Changing.TheVariants as a_change
use Rattle.hg_session.proofs.KeptLists.{mark_of}
use Rattle.hg_tree.specs.History.{History}

-- ---- one step

-- what is equal where it can't differ
stable_place : (a b : Option ℕ) → ((a ≡ b → ⊥) → ⊥) → a ≡ b
stable_place None None h = refl
stable_place None (Some y) h = absurd (h (λ e. cc e))
stable_place (Some x) None h = absurd (h (λ e. cc e))
stable_place (Some x) (Some y) h = elim (cases_Bool (eqb x y)) [
  | inl same ↦ ap Some (eqb-true x y same)
  | inr other ↦ absurd (h (λ e. true≢false (sym (eq-eqb x x refl) ∙ ap is_at e ∙ other)))
]
  where
    is_at : Option ℕ → Bool
    is_at None = false
    is_at (Some z) = eqb x z

pub placed_texts : (old new : Held) → ArePlacedAsBefore old new → KeepsTexts old new
placed_texts old new placed = record { texts = λ at had has. placed.texts at; sources = λ at source had has. placed.sources at }

-- no copy source is left at a path, and the texts of all other sources lie where they lay
module _ (word : List ℕ) (old new : Held) (left : (table new).sources word ≡ None) where
  no_source : (at source : List ℕ) → bytes_eq word at ≡ true → (table new).sources at ≡ Some source → ⊥
  no_source at source here has = cc (sym has ∙ ap (table new).sources (sym (same_bytes word at here)) ∙ left)

  copy_texts : (same : Type 0) → PlacesCopy word same old new → KeepsTexts old new
  copy_texts same placed = record {
    texts = λ at had has. placed.texts at;
    sources = λ at source had has. elim (cases_Bool (bytes_eq word at)) [
      | inl here ↦ absurd (no_source at source here has)
      | inr apart ↦ stable_place (source_at new at) (source_at old at) (λ differs. differs
          (placed.changed (λ is. differs (placed.kept is at)) at ∙ update_other bytes_eq (source_at old) word None at apart))
    ];
  }

  drop_texts : PlacesDrop word old new → KeepsTexts old new
  drop_texts placed = record {
    texts = λ at had has. placed.texts at ∙ ap (λ (t : Bool). cond t (text_at old at) None) has;
    sources = λ at source had has. elim (cases_Bool (bytes_eq word at)) [
      | inl here ↦ absurd (no_source at source here has)
      | inr apart ↦ placed.sources at ∙ update_other bytes_eq (source_at old) word None at apart
    ];
  }

cleared_at : (t : Table) (word : List ℕ) → update bytes_eq t.sources word None word ≡ None
cleared_at t word = update_same bytes_eq t.sources word None word (equal_bytes word)

untracked_texts : (word : List ℕ) (old new : Held) (was : Option EntryData) → IsUntracked word was (table old) (table new) → PlacesUntracked word was old new → KeepsTexts old new
untracked_texts word old new None same placed = placed_texts old new placed
untracked_texts word old new (Some entry) left placed = by (entry.p1 || entry.p2) left placed
  where
    by : (either : Bool) → MatchBool either (IsSame (table new) (after_untracked word entry (table old))) (IsPruned word (after_clear word (table old)) (table new))
        → MatchBool either (PlacesCopy word ((table old).sources word ≡ None) old new) (PlacesDrop word old new) → KeepsTexts old new
    by true kept placed = copy_texts word old new (kept.sources word ∙ cleared_at (table old) word) ((table old).sources word ≡ None) placed
    by false pruned placed = drop_texts word old new (pruned.sources word ∙ cleared_at (table old) word) placed

pub forgotten_texts : (word : List ℕ) (refused : Option Refusal) (old new : Held) → IsForgotten word refused (table old) (table new) → PlacesForgotten word refused old new → KeepsTexts old new
forgotten_texts word (Some refusal) old new same placed = placed_texts old new placed
forgotten_texts word None old new left placed = untracked_texts word old new ((table old).entries word) left placed

-- those of a call that answers
pub add_texts : (result : Result (Option Refusal) OpFault) (old new : Held) → OnOk result (ArePlacedAsBefore old new) → OnOk result (KeepsTexts old new)
add_texts (Ok refused) old new placed = placed_texts old new placed
add_texts (Err fault) old new placed = tt

pub forget_texts : (word : List ℕ) (result : Result (Option Refusal) OpFault) (old new : Held) → IfOk result (λ refused. IsForget word (table old) refused (table new))
    → IfOk result (λ refused. PlacesForgotten word refused old new) → OnOk result (KeepsTexts old new)
forget_texts word (Ok refused) old new step placed = forgotten_texts word refused old new step.table placed
forget_texts word (Err fault) old new step placed = tt

-- ---- what only comes, or only goes

-- nodes go one way, to this mark, and no copy source comes
pub record Goes (mark : Bool) (old new : Table) : Type 0 where
  pub nodes : (at : List ℕ) → old.nodes at ≡ mark → new.nodes at ≡ mark
  pub sources : (at source : List ℕ) → new.sources at ≡ Some source → old.sources at ≡ Some source

goes_same : (mark : Bool) (old new : Table) → IsSame new old → Goes mark old new
goes_same mark old new same = record { nodes = λ at is. same.nodes at ∙ is; sources = λ at source is. sym (same.sources at) ∙ is }

goes_added : (word : List ℕ) (refused : Option Refusal) (old new : Table) → IsSame new (added word refused old) → Goes true old new
goes_added word (Some refusal) old new same = goes_same true old new same
goes_added word None old new same = by (is_tracked old word) same
  where
    by : (is : Bool) → IsSame new (cond is old (after_add word old)) → Goes true old new
    by true same = goes_same true old new same
    by false made = record { nodes = λ at is. made.nodes at ∙ ap (λ (t : Bool). t || is_within at word) is; sources = λ at source is. sym (made.sources at) ∙ is }

-- a path with an entry is a node, as are the directories above it
on_way : (t : Table) → IsFormed t → (word at : List ℕ) (entry : EntryData) → t.entries word ≡ Some entry → is_within at word ≡ true → t.nodes at ≡ true
on_way t formed word at entry has within = elim (within_split at word within) [
  | inl here ↦ ap t.nodes (sym here) ∙ there
  | inr above ↦ formed.rooted at word above there
]
  where
    there : t.nodes word ≡ true
    there = elim (cases_Bool (t.nodes word)) [ inl is ↦ is | inr is ↦ absurd (cc (sym has ∙ formed.entries word is)) ]

-- a copy source that goes takes none along
fewer : (t : Table) (word at source : List ℕ) → update bytes_eq t.sources word None at ≡ Some source → t.sources at ≡ Some source
fewer t word at source is = elim (cases_Bool (bytes_eq word at)) [
  | inl here ↦ absurd (cc (sym is ∙ update_same bytes_eq t.sources word None at here))
  | inr apart ↦ sym (update_other bytes_eq t.sources word None at apart) ∙ is
]

module _ (word : List ℕ) (old new : Table) (formed : IsFormed old) where
  goes_untracked : (was : Option EntryData) → old.entries word ≡ was → IsUntracked word was old new → Goes false old new
  goes_untracked None is same = goes_same false old new same
  goes_untracked (Some entry) has left = by (entry.p1 || entry.p2) left
    where
      neither : (at : List ℕ) → old.nodes at ≡ false → (old.nodes at || is_within at word) ≡ false
      neither at is = elim (cases_Bool (is_within at word)) [
        | inl within ↦ absurd (true≢false (sym (on_way old formed word at entry has within) ∙ is))
        | inr apart ↦ (λ i. is i || apart i)
      ]

      by : (either : Bool) → MatchBool either (IsSame new (after_untracked word entry old)) (IsPruned word (after_clear word old) new) → Goes false old new
      by true kept = record { nodes = λ at is. kept.nodes at ∙ neither at is; sources = λ at source is. fewer old word at source (sym (kept.sources at) ∙ is) }
      by false pruned = record {
        nodes = λ at is. pruned.nodes at ∙ ap (λ (t : Bool). t && not (pruned.gone at)) is;
        sources = λ at source is. fewer old word at source (sym (pruned.sources at) ∙ is);
      }

  pub goes_forgotten : (refused : Option Refusal) → IsForgotten word refused old new → Goes false old new
  goes_forgotten (Some refusal) same = goes_same false old new same
  goes_forgotten None left = goes_untracked (old.entries word) refl left

pub goes_step : (command : Changing) (before after : History) (word : List ℕ) (old : Table) (refused : Option Refusal) (new : Table) → IsFormed old
    → steps_of command before after word old refused new → Goes (mark_of command) old new
goes_step a_change.Add before after word old refused new formed step = goes_added word refused old new step.0.step.table
goes_step a_change.Forget before after word old refused new formed step = goes_forgotten word old new formed refused step.0.table

-- ---- the words so far

pub record TextsSoFar (mark : Bool) (old now : Held) : Type 0 where
  pub goes : Goes mark (table old) (table now)
  pub keeps : KeepsTexts old now

pub texts_none : (mark : Bool) (held : Held) → TextsSoFar mark held held
texts_none mark held = record {
  goes = record { nodes = λ at is. is; sources = λ at source is. is };
  keeps = record { texts = λ at had has. refl; sources = λ at source had has. refl };
}

-- what was there and is there was there between
between : (mark o m n : Bool) → (o ≡ mark → m ≡ mark) → (m ≡ mark → n ≡ mark) → o ≡ true → n ≡ true → m ≡ true
between true o m n first second had has = first had
between false o true n first second had has = refl
between false o false n first second had has = absurd (true≢false (sym has ∙ second refl))

pub texts_on : (mark : Bool) (old mid new : Held) → TextsSoFar mark old mid → Goes mark (table mid) (table new) → KeepsTexts mid new → TextsSoFar mark old new
texts_on mark old mid new so_far goes keeps = record {
  goes = record { nodes = λ at is. goes.nodes at (so_far.goes.nodes at is); sources = λ at source is. so_far.goes.sources at source (goes.sources at source is) };
  keeps = record {
    texts = λ at had has.
        let there = between mark ((table old).nodes at) ((table mid).nodes at) ((table new).nodes at) (so_far.goes.nodes at) (goes.nodes at) had has in
        keeps.texts at there has ∙ so_far.keeps.texts at had there;
    sources = λ at source had has.
        let there = goes.sources at source has in
        keeps.sources at source there has ∙ so_far.keeps.sources at source had there;
  };
}

-- ---- `copy`, and new parents

pub copied_texts : (source target : List ℕ) (refused : Option CopyRefusal) (old new : Held) → IsSame (table new) (copied source target refused (table old)) → PlacesCopied source target refused old new
    → KeepsTexts old new
copied_texts source target (Some refusal) old new same placed = placed_texts old new placed
copied_texts source target None old new made placed = record {
  texts = λ at had has. placed.texts at;
  sources = λ at named had has. elim (cases_Bool (bytes_eq target at)) [
    | inl here ↦
        placed.kept
        (ap (table old).sources (same_bytes target at here) ∙ had ∙ sym has ∙ made.sources at
        ∙ update_same bytes_eq (after_add target (table old)).sources target (copy_source source target (table old)) at here) at
    | inr apart ↦ stable_place (source_at new at) (source_at old at) (λ differs. differs
        (placed.changed (λ is. differs (placed.kept is at)) at ∙ update_other bytes_eq (source_at old) target None at apart))
  ];
}

pub parents_texts : (old new : Held) → ((at : List ℕ) → (table new).sources at ≡ None) → PlacesParents old new → KeepsTexts old new
parents_texts old new none placed = record { texts = λ at had has. placed.texts at has; sources = λ at source had has. absurd (cc (sym has ∙ none at)) }
