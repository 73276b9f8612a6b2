-- Each list below which nothing differs in the end stays lent over the words of a command: each step moves the tracked mark of its own path one way, so
-- that no later one undoes what it changed.
use Rattle.std.proofs.Common.{ℕ, ◌≡◌, Bool, true, false, not, ◌&&◌, ◌||◌, ◌⊎◌, cond, List, Option, Some, None, inl, inr, refl, sym, ap, ◌∙◌, true≢false}
use Rattle.std.specs.Prelude.{MatchBool, MatchOption}
use Rattle.std.specs.Map.{update}
use Rattle.std.specs.Str.{bytes_eq}
use Rattle.std.proofs.lemmas.Bool.{cases_Bool}
use Rattle.std.proofs.lemmas.Map.{update_other, update_same}
use Rattle.hg_base.proofs.Within.{equal_bytes}
use Rattle.hg_base.specs.PathText.{is_path}
use Rattle.hg_base.specs.Within.{is_above}
use Rattle.hg_entry.specs.Entry.{EntryData}
use Rattle.hg_entry.specs.Steps.{unseen, untracked}
use Rattle.hg_entry.specs.Table.{Table}
use Rattle.hg_nodes.specs.Clash.{is_tracked_entry}
use Rattle.hg_nodes.specs.Drop.{IsPruned, after_clear}
use Rattle.hg_mixed.specs.Edits.{Lends}
use Rattle.hg_nodes.specs.Edits.{IsSame}
use Rattle.hg_mixed.specs.Held.{Held, is_lent, table}
use Rattle.hg_ops.proofs.ExactlyRefused.{early_none}
use Rattle.hg_ops.specs.Copy.{Copies, RefusesThings, words_refusal}
use Rattle.hg_ops.specs.Parent.{Span}
use Rattle.hg_ops.specs.Parents.{LendsParents}
use Rattle.hg_ops.specs.Remove.{RefusesBehind, Removes, early_refusal, needs_row}
use Rattle.hg_ops.specs.Seen.{During}
use Rattle.hg_ops.specs.Step.{IsForgotten, IsUntracked, added, after_add, after_untracked, entry_added, is_tracked}
use Rattle.hg_ops.specs.declared.copy_refusal.CopyRefusal.{CopyRefusal}
use Rattle.hg_ops.specs.declared.refusal.Refusal.{Refusal}
use Rattle.hg_ops.specs.declared.refusal.Refusal.TheVariants as a_refusal
use Rattle.hg_session.specs.Acts.{steps_of}
use Rattle.hg_session.specs.Kept.{IsSameBelow, KeepsLent, KeepsTexts}
use Rattle.hg_session.specs.declared.acting.Changing.{Changing}
use Rattle.hg_session.specs.declared.acting.Changing.TheVariants as a_change
use Rattle.hg_tree.specs.History.{History}

-- ---- marks

stable : (a b : Bool) → ((a ≡ b → ⊥) → ⊥) → a ≡ b
stable true true h = refl
stable false false h = refl
stable true false h = absurd (h true≢false)
stable false true h = absurd (h (λ e. true≢false (sym e)))

turned : (a b : Bool) → (a ≡ b → ⊥) → a ≡ not b
turned true true h = absurd (h refl)
turned true false h = refl
turned false true h = refl
turned false false h = absurd (h refl)

never : (a : Bool) → a ≡ not a → ⊥
never true is = true≢false is
never false is = true≢false (sym is)

-- ---- one step

-- an edit of a path moves tracked marks to one value alone: nothing is changed, or the path's own mark, which was the other
pub record Moves (mark : Bool) (word : List ℕ) (old new : Table) : Type 0 where
  pub stays : (at : List ℕ) → is_tracked old at ≡ mark → is_tracked new at ≡ mark
  pub own : IsSame new old ⊎ ((is_tracked old word ≡ not mark) × (is_tracked new word ≡ mark))

moves_none : (mark : Bool) (word : List ℕ) (old new : Table) → IsSame new old → Moves mark word old new
moves_none mark word old new same = record { stays = λ at is. ap is_tracked_entry (same.entries at) ∙ is; own = inl same }

-- a path whose mark was the other gets an entry, or loses its own
moves_own : (mark : Bool) (word : List ℕ) (old new : Table) (entry : Option EntryData) → ((at : List ℕ) → new.entries at ≡ update bytes_eq old.entries word entry at)
    → is_tracked_entry entry ≡ mark → is_tracked old word ≡ not mark → Moves mark word old new
moves_own mark word old new entry made marked was = record {
  stays = λ at is. elim (cases_Bool (bytes_eq word at)) [
    | inl here ↦ here_is at here
    | inr apart ↦ ap is_tracked_entry (made at ∙ update_other bytes_eq old.entries word entry at apart) ∙ is
  ];
  own = inr (was, here_is word (equal_bytes word));
}
  where
    here_is : (at : List ℕ) → bytes_eq word at ≡ true → is_tracked new at ≡ mark
    here_is at here = ap is_tracked_entry (made at ∙ update_same bytes_eq old.entries word entry at here) ∙ marked

-- ---- the words so far

-- the mark of a path below a directory was the other one, and has this value for good
abbrev HasMoved : Bool → Option (List ℕ) → Table → Table → Type 0
HasMoved mark dir old now = (path : List ℕ) × (is_above dir path ≡ true) × (is_tracked old path ≡ not mark) × (is_tracked now path ≡ mark)

-- a mark with this value keeps it, and each list is lent as it was, or a path below it has another mark
pub record KeepsSoFar (mark : Bool) (old now : Held) : Type 0 where
  pub stays : (at : List ℕ) → is_tracked (table old) at ≡ mark → is_tracked (table now) at ≡ mark
  pub lent : (dir : Option (List ℕ)) → (is_lent now dir ≡ is_lent old dir) ⊎ HasMoved mark dir (table old) (table now)

pub keeps_none : (mark : Bool) (held : Held) → KeepsSoFar mark held held
keeps_none mark held = record { stays = λ at is. is; lent = λ dir. inl refl }

-- an edit keeps each list of a directory that isn't above its path
lends_apart : (word : List ℕ) (old new : Held) → Lends word (IsSame (table new) (table old)) old new → (dir : Option (List ℕ)) → is_above dir word ≡ false → is_lent new dir ≡ is_lent old dir
lends_apart word old new lends dir apart =
    stable (is_lent new dir) (is_lent old dir) (λ differs. differs (lends.ended (λ same. differs (lends.kept same dir)) dir ∙ still (is_lent old dir) (is_above dir word) apart))
  where
    still : (l a : Bool) → a ≡ false → (l && not a) ≡ l
    still l true is = absurd (true≢false is)
    still true false is = refl
    still false false is = refl

module _ (mark : Bool) (word : List ℕ) (old mid new : Held) (so_far : KeepsSoFar mark old mid) (moves : Moves mark word (table mid) (table new))
    (lends : Lends word (IsSame (table new) (table mid)) mid new) where
  lent_above : (dir : Option (List ℕ)) → is_above dir word ≡ true → is_lent mid dir ≡ is_lent old dir
      → IsSame (table new) (table mid) ⊎ ((is_tracked (table mid) word ≡ not mark) × (is_tracked (table new) word ≡ mark))
      → (is_lent new dir ≡ is_lent old dir) ⊎ HasMoved mark dir (table old) (table new)
  lent_above dir above kept (inl same) = inl (lends.kept same dir ∙ kept)
  lent_above dir above kept (inr (was, is)) =
      inr (word, above, turned (is_tracked (table old) word) mark (λ had. never mark (sym (so_far.stays word had) ∙ was)), is)

  lent_on : (dir : Option (List ℕ)) → (is_lent mid dir ≡ is_lent old dir) ⊎ HasMoved mark dir (table old) (table mid)
      → (is_lent new dir ≡ is_lent old dir) ⊎ HasMoved mark dir (table old) (table new)
  lent_on dir (inl kept) = elim (cases_Bool (is_above dir word)) [
    | inl above ↦ lent_above dir above kept moves.own
    | inr apart ↦ inl (lends_apart word mid new lends dir apart ∙ kept)
  ]
  lent_on dir (inr moved) = inr (moved.0, moved.1, moved.2, moves.stays moved.0 moved.3)

  -- one word more
  pub keeps_on : KeepsSoFar mark old new
  keeps_on = record {
    stays = λ at is. moves.stays at (so_far.stays at is);
    lent = λ dir. lent_on dir (so_far.lent dir);
  }

-- where nothing differs below a directory in the end, no mark has moved there
pub keeps_lent : (mark : Bool) (old new : Held) → KeepsSoFar mark old new → KeepsTexts old new → KeepsLent old new
keeps_lent mark old new so_far texts = record { lists = λ dir same. by dir same (so_far.lent dir); texts = texts }
  where
    by : (dir : Option (List ℕ)) → IsSameBelow dir (table old) (table new) → (is_lent new dir ≡ is_lent old dir) ⊎ HasMoved mark dir (table old) (table new) → is_lent new dir ≡ is_lent old dir
    by dir same (inl kept) = kept
    by dir same (inr moved) = absurd (never mark (sym moved.3 ∙ ap is_tracked_entry (same.entries moved.0 moved.1) ∙ moved.2))

-- ---- `add`

added_marked : (was : Option EntryData) → (entry_added was).w ≡ true
added_marked None = refl
added_marked (Some entry) = refl

moves_after_add : (word : List ℕ) (old new : Table) → is_tracked old word ≡ false → ((at : List ℕ) → new.entries at ≡ (after_add word old).entries at) → Moves true word old new
moves_after_add word old new fresh made = moves_own true word old new (Some (entry_added (old.entries word))) made (added_marked (old.entries word)) fresh

pub moves_add : (word : List ℕ) (refused : Option Refusal) (old new : Table) → IsSame new (added word refused old) → Moves true word old new
moves_add word (Some refusal) old new same = moves_none true word old new same
moves_add word None old new same = by (is_tracked old word) refl same
  where
    by : (is : Bool) → is_tracked old word ≡ is → IsSame new (cond is old (after_add word old)) → Moves true word old new
    by true is stays = moves_none true word old new stays
    by false is made = moves_after_add word old new is made.entries

-- ---- `forget` and `remove`

left_unmarked : (entry : EntryData) → (entry.p1 || entry.p2) ≡ true → (untracked entry).w ≡ false
left_unmarked entry either = ap (λ (t : Bool). (cond t (record (unseen entry) { w = false }) entry).w) either

module _ (word : List ℕ) (old new : Table) (tracked : is_tracked old word ≡ true) where
  moves_either : (entry : EntryData) (either : Bool) → (entry.p1 || entry.p2) ≡ either
      → MatchBool either (IsSame new (after_untracked word entry old)) (IsPruned word (after_clear word old) new) → Moves false word old new
  moves_either entry true either left = moves_own false word old new (Some (untracked entry)) left.entries (left_unmarked entry either) tracked
  moves_either entry false either pruned = moves_own false word old new None pruned.entries refl tracked

  moves_untracked : (was : Option EntryData) → IsUntracked word was old new → Moves false word old new
  moves_untracked None same = moves_none false word old new same
  moves_untracked (Some entry) left = moves_either entry (entry.p1 || entry.p2) refl left

moves_forgotten : (word : List ℕ) (refused : Option Refusal) (old new : Table) → (refused ≡ None → is_tracked old word ≡ true) → IsForgotten word refused old new → Moves false word old new
moves_forgotten word (Some refusal) old new tracked same = moves_none false word old new same
moves_forgotten word None old new tracked left = moves_untracked word old new (tracked refl) (old.entries word) left

-- what `forget` doesn't refuse is tracked
forgets_tracked : (path is : Bool) → None ≡ cond path (cond is None (Some a_refusal.NotTracked)) (Some a_refusal.BadPath) → is ≡ true
forgets_tracked path true refusal = refl
forgets_tracked true false refusal = absurd (cc refusal)
forgets_tracked false false refusal = absurd (cc refusal)

-- the value to which `add` and `forget` move marks
abbrev pub mark_of : Changing → Bool
mark_of a_change.Add = true
mark_of a_change.Forget = false

pub moves_step : (command : Changing) (before after : History) (word : List ℕ) (old : Table) (refused : Option Refusal) (new : Table) → steps_of command before after word old refused new
    → Moves (mark_of command) word old new
moves_step a_change.Add before after word old refused new step = moves_add word refused old new step.0.step.table
moves_step a_change.Forget before after word old refused new step =
    moves_forgotten word refused old new (λ is. forgets_tracked (is_path word) (is_tracked old word) (sym is ∙ step.0.refusal)) step.0.table

-- nor does `remove` refuse anything else
pub moves_remove : (after : Bool) (word : List ℕ) (before now : History) (s : Span) (old : Table) (refused : Option Refusal) (new : Table) → Removes after word before now s old refused new
    → Moves false word old new
moves_remove after word before now s old refused new removes = moves_forgotten word refused old new (λ is. tracked (early_refusal after word old) refl removes.refusal is) removes.table
  where
    tracked : (early : Option Refusal) → early_refusal after word old ≡ early
        → RefusesBehind early after (needs_row after word old) word before removes.mid s removes.shown refused → refused ≡ None → is_tracked old word ≡ true
    tracked (Some refusal) early refuses is = absurd (cc (sym refuses ∙ is))
    tracked None early refuses is = let e = early_none after word old early in ap is_tracked_entry e.has ∙ e.tracked

-- ---- `copy`

-- a target that isn't refused wasn't tracked
copies_untracked : (source target : List ℕ) (before mid : History) (t : Table) (why : Option CopyRefusal)
    → MatchOption why (RefusesThings source target t (During before mid) None) (λ refusal. None ≡ Some refusal) → is_tracked t target ≡ false
copies_untracked source target before mid t None things = things.1.0.untracked
copies_untracked source target before mid t (Some refusal) refuses = absurd (cc refuses)

moves_copy : (source target : List ℕ) (before after : History) (old : Table) (refused : Option CopyRefusal) (new : Table) → Copies source target before after old refused new → Moves true target old new
moves_copy source target before after old (Some refusal) new copies = moves_none true target old new copies.table
moves_copy source target before after old None new copies =
    moves_after_add target old new (copies_untracked source target before copies.comes.mid old (words_refusal source target old) copies.comes.looked.refusal) copies.table.entries

pub copy_keeps : (source target : List ℕ) (before after : History) (old : Held) (refused : Option CopyRefusal) (new : Held)
    → Copies source target before after (table old) refused (table new) → Lends target (IsSame (table new) (table old)) old new → KeepsTexts old new → KeepsLent old new
copy_keeps source target before after old refused new copies lends texts =
    keeps_lent true old new (keeps_on true target old old new (keeps_none true old) (moves_copy source target before after (table old) refused (table new) copies) lends) texts

-- ---- new parents

pub parents_keep : (old new : Held) → LendsParents old new → KeepsTexts old new → KeepsLent old new
parents_keep old new lends texts = record { lists = λ dir same. lends.kept dir (λ at above. (same.entries at above, same.sources at above)); texts = texts }
