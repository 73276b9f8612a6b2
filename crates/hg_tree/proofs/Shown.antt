-- What the tree in memory shows is its last moment.
use Rattle.std.proofs.Common.{ℕ, ◌≡◌, true, List, Option, Some, length, sym, ◌∙◌, ap, subst, arith}
use Rattle.std.proofs.lemmas.List.{take_all}
use Rattle.hg_base.specs.declared.time.Time.{Time}
use Rattle.hg_tree.specs.declared.asked.Change.{Change}
use Rattle.hg_tree.specs.Moment.{Moment, Things, AreFit, Lists, empty_at, is_listed}
use Rattle.hg_tree.specs.Children.{AreChildren}
use Rattle.hg_tree.specs.History.{AreFormed, now}
use Rattle.hg_tree.specs.Memory.{Memory, IsKept, history_of, replayed}
use Rattle.hg_tree.proofs.After.{formed_shown, same_things}
use Rattle.hg_tree.proofs.Children.{children_fit, children_names}

-- the last moment is what all changes make
pub now_is : (memory : Memory) → now (history_of memory) ≡ replayed memory.changes (empty_at memory.start)
now_is memory = ap (λ (l : List Change). replayed l (empty_at memory.start)) (take_all (length memory.changes) memory.changes (omega arith))

-- what is kept of the fields is kept of what contracts see
pub kept_seen : (memory : Memory) (start : Time) (changes : List Change) (clock : Time) (shown : Things) → memory.start ≡ start → memory.changes ≡ changes
    → IsKept start changes clock shown → IsKept memory.start memory.changes clock shown
kept_seen memory start changes clock shown same_start same_changes kept =
    subst (λ (s : Time). IsKept s memory.changes clock shown) (sym same_start) (subst (λ (l : List Change). IsKept start l clock shown) (sym same_changes) kept)

module _ (memory : Memory) (clock : Time) (shown : Things) (kept : IsKept memory.start memory.changes clock shown) where
  pub seen_formed : AreFormed (history_of memory)
  seen_formed = record { each = kept.formed }

  pub now_clock : clock ≡ (now (history_of memory)).clock
  now_clock = kept.time ∙ sym (ap (λ (m : Moment). m.clock) (now_is memory))

  pub now_shown : (now (history_of memory)).things ≡ shown
  now_shown = ap (λ (m : Moment). m.things) (now_is memory) ∙ sym (same_things shown (replayed memory.changes (empty_at memory.start)).things kept.current)

  pub seen_lists : (dir : Option (List ℕ)) (names : List (List ℕ)) → AreChildren shown dir names → is_listed shown dir ≡ true → Lists dir (Some names) (now (history_of memory))
  seen_lists dir names children listed = (
    ap (λ (f : Things). is_listed f dir) now_shown ∙ listed,
    children_names shown dir names (formed_shown memory.start memory.changes clock shown kept).paths children (now (history_of memory)) now_shown,
  )

  pub seen_fit : (dir : Option (List ℕ)) (names : List (List ℕ)) → AreChildren shown dir names → AreFit dir names
  seen_fit dir names children = children_fit shown dir names (formed_shown memory.start memory.changes clock shown kept).paths children
