-- A word is added.
use Rattle.std.proofs.Common.{◌≡◌, ℕ, Bool, true, false, cond, MatchBool, List, Option, Some, None, Result, Ok, Err, refl, sym, ap, ◌∙◌, subst, arith}
use Rattle.std.specs.Prelude.{IfOk, IsTrue}
use Rattle.hg_base.specs.PathText.{is_path}
use Rattle.hg_base.specs.declared.stat.Stat.{Stat}
use Rattle.hg_entry.specs.Table.{Table}
use Rattle.hg_nodes.specs.Edits.{IsSame}
use Rattle.hg_ops.specs.Look.{Adds, WasShown}
use Rattle.hg_ops.specs.Step.{IsAdd, RefusesAdd, RefusesThing, added, after_add, is_tracked, thing_refusal}
use Rattle.hg_ops.specs.declared.refusal.OpFault.{OpFault}
use Rattle.hg_ops.specs.declared.refusal.Refusal.{Refusal}
use Rattle.hg_ops.specs.declared.refusal.Refusal.TheVariants as a_refusal
use Rattle.hg_tree.specs.History.{History, Passes, now}
use Rattle.hg_tree.specs.Moment.{Moment, stat_at}
use Rattle.hg_tree.proofs.Spans.{now_same, passes_same}

pub same_table : (t : Table) → IsSame t t
same_table t = record { p1 = refl; p2 = refl; hash = refl; entries = λ at. refl; sources = λ at. refl; nodes = λ at. refl; caches = λ at. refl }

-- what the last moment of a call shows
pub shown_last : (old new : History) (path : List ℕ) (shown : Option Stat) → Passes old new → shown ≡ stat_at (now new) path → WasShown old new path shown
shown_last old new path shown passes found = record {
  moment = new.last;
  later = passes.past.later;
  upto = omega arith;
  shown_then = found;
  shown_first = λ ours. found ∙ ap (λ (m : Moment). stat_at m path) (now_same old new passes ours);
}

-- a step that needs no look
still : (word : List ℕ) (h : History) (t : Table) (refused : Option Refusal) → IsAdd word (stat_at (now h) word) t refused t → Adds word h h t refused t
still word h t refused step = record { shown = stat_at (now h) word; was = λ told. shown_last h h word (stat_at (now h) word) (passes_same h) refl; step = step }

pub no_path : (word : List ℕ) (h : History) (t : Table) → is_path word ≡ false → Adds word h h t (Some a_refusal.BadPath) t
no_path word h t bad = still word h t (Some a_refusal.BadPath) (record { refusal = refuses; table = same_table t })
  where
    refused : Option Refusal
    refused = Some a_refusal.BadPath

    refuses : RefusesAdd word (stat_at (now h) word) t (Some a_refusal.BadPath)
    refuses = subst
        (λ (b : Bool). MatchBool b (MatchBool (is_tracked t word) (refused ≡ None) (RefusesThing word (thing_refusal (stat_at (now h) word)) t refused))
        (refused ≡ Some a_refusal.BadPath))
        (sym bad) refl

pub tracked_already : (word : List ℕ) (h : History) (t : Table) → is_path word ≡ true → is_tracked t word ≡ true → Adds word h h t None t
tracked_already word h t good is = still word h t None (record { refusal = refuses; table = stays })
  where
    refused : Option Refusal
    refused = None

    refuses : RefusesAdd word (stat_at (now h) word) t None
    refuses = subst
        (λ (b : Bool). MatchBool b (MatchBool (is_tracked t word) (refused ≡ None) (RefusesThing word (thing_refusal (stat_at (now h) word)) t refused))
        (refused ≡ Some a_refusal.BadPath))
        (sym good)
        (subst (λ (b : Bool). MatchBool b (refused ≡ None) (RefusesThing word (thing_refusal (stat_at (now h) word)) t refused)) (sym is) refl)

    stays : IsSame t (added word None t)
    stays = subst (λ (b : Bool). IsSame t (cond b t (after_add word t))) (sym is) (same_table t)

-- a step by what the last moment of a look shows
pub by_look : (word : List ℕ) (before after : History) (old new : Table) (shown : Option Stat) (result : Result (Option Refusal) OpFault) → Passes before after
    → (IsTrue before.told → shown ≡ stat_at (now after) word) → IfOk result (λ refused. IsAdd word shown old refused new)
    → IfOk result (λ refused. Adds word before after old refused new)
by_look word before after old new shown (Ok refused) passes found step =
    record { shown = shown; was = λ told. shown_last before after word shown passes (found told); step = step }
by_look word before after old new shown (Err fault) passes found step = step
