-- What a command looked at in the working copy.
use Rattle.std.specs.Prelude.{ℕ, ◌≡◌, ◌≤◌, false, not, ◌&&◌, IsTrue, List, Option}
use Rattle.hg_base.specs.PathText.{is_path}
use Rattle.hg_base.specs.declared.stat.Stat.{Stat}
use Rattle.hg_entry.specs.Table.{Table}
use Rattle.hg_ops.specs.Step.{IsAdd, is_tracked}
use Rattle.hg_ops.specs.declared.refusal.Refusal.{Refusal}
use Rattle.hg_tree.specs.History.{History, IsOurs, Passes, now}
use Rattle.hg_tree.specs.Moment.{stat_at}

-- a moment of a call showed this at a path; where nobody else made a step, so did its start
pub record WasShown (old new : History) (path : List ℕ) (shown : Option Stat) : Type 0 where
  pub moment : ℕ
  pub later : old.last ≤ moment
  pub upto : moment ≤ new.last
  pub shown_then : shown ≡ stat_at (new.at moment) path
  pub shown_first : IsOurs old new → shown ≡ stat_at (now old) path

-- a call added a word, by what a moment of it showed; a tree that tells no moments showed something
pub record Adds (word : List ℕ) (before after : History) (old : Table) (refused : Option Refusal) (new : Table) : Type 0 where
  pub shown : Option Stat
  pub was : IsTrue before.told → WasShown before after word shown
  pub step : IsAdd word shown old refused new

-- a call made no step and asked for no bytes and no names; it looked nowhere but at a path that isn't tracked
pub record Looks (word : List ℕ) (t : Table) (before after : History) : Type 0 where
  pub passes : Passes before after
  pub asked : IsTrue before.told → after.asked ≡ before.asked
  pub idle : (is_path word && not (is_tracked t word)) ≡ false → after ≡ before
