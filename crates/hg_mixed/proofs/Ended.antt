-- Lists that are lent no more, since something above them differs.
use Rattle.std.proofs.Common.{ℕ, ◌≡◌, Bool, true, false, cond, ◌||◌, List, [], ◌∷◌, Option, Some, None, inl, inr, refl, sym, ap, ◌∙◌, subst}
use Rattle.std.specs.Prelude.{is_some, MatchBool}
use Rattle.std.specs.List.{list_any}
use Rattle.std.specs.Str.{bytes_eq}
use Rattle.std.proofs.lemmas.Bool.{cases_Bool, cond-false, cond-true, or_left, or_right}
use Rattle.hg_base.specs.PathText.{is_below, is_path, parent_of}
use Rattle.hg_base.specs.Within.{is_above, is_within}
use Rattle.hg_base.proofs.Within.{above_is, above_none, equal_bytes, same_bytes, within_below, within_itself, within_split}
use Rattle.hg_entry.specs.Entry.{CacheData}
use Rattle.hg_image.specs.Rows.{Row}
use Rattle.hg_nodes.specs.Edits.{IsFormed, IsSame}
use Rattle.hg_nodes.specs.Memory.{MemoryData, table_in, table_of}
use Rattle.hg_mixed.specs.Lent.{AreEnded, AreLentStill, IsLentPut, as_dir, lent_at}
use Rattle.hg_mixed.specs.Own.{Ends, InMemory, memory_table}
use Rattle.hg_nodes.specs.Node.{NodeData}
use Rattle.hg_nodes.specs.Times.{AreTimedPaths, time_at}
use Rattle.hg_mixed.proofs.Lents.{same_bools}

-- ---- above a path

-- a path is within a directory where it is the directory or below it
within_or : (at path : List ℕ) → (bytes_eq path at || is_below at path) ≡ is_within at path
within_or at path = same_bools (bytes_eq path at || is_below at path) (is_within at path)
    (λ h. elim (cases_Bool (bytes_eq path at)) [
      | inl same ↦ ap (is_within at) (same_bytes path at same) ∙ within_itself at
      | inr other ↦ within_below at path (sym (ap (λ (b : Bool). b || is_below at path) other) ∙ h)
    ])
    (λ h. elim (within_split at path h) [
      | inl e ↦ or_left (bytes_eq path at) (is_below at path) (ap (λ (p : List ℕ). bytes_eq p at) e ∙ equal_bytes at)
      | inr below ↦ or_right (bytes_eq path at) (is_below at path) below
    ])

-- the root's list alone, where nothing else is above
pub ended_root : (path : List ℕ) (old new : List (List ℕ × List Row)) → is_path path ≡ true → parent_of path ≡ None → IsLentPut [] None old new → AreEnded path old new
ended_root path old new good is gone [] = gone []
ended_root path old new good is gone (b ∷ dir) =
    gone (b ∷ dir) ∙ sym (cond-false (is_below (b ∷ dir) path) None (lent_at old (b ∷ dir)) (above_none path good is (b ∷ dir)))

two_conds : {X : Type 0} (a b : Bool) (x o : X) → cond b x (cond a x o) ≡ cond (a || b) x o
two_conds true true x o = refl
two_conds true false x o = refl
two_conds false b x o = refl

-- that of the directory of a path, and those above it
pub ended_dir : (path dir : List ℕ) (old mid new : List (List ℕ × List Row)) → is_path path ≡ true → parent_of path ≡ Some dir → IsLentPut dir None old mid → AreEnded dir mid new → AreEnded path old new
ended_dir path dir old mid new good is gone more [] = more []
ended_dir path dir old mid new good is gone more (b ∷ d) =
    more (b ∷ d)
    ∙ ap (cond (is_below (b ∷ d) dir) None) (gone (b ∷ d))
    ∙ two_conds (bytes_eq dir (b ∷ d)) (is_below (b ∷ d) dir) None (lent_at old (b ∷ d))
    ∙ ap (λ (t : Bool). cond t None (lent_at old (b ∷ d))) (within_or (b ∷ d) dir ∙ sym (above_is dir path good is (b ∷ d)))

-- ---- above cached directories

pub ended_next : (time : List ℕ × CacheData) (rest times : List (List ℕ × CacheData)) (old was now : List (List ℕ × List Row)) → AreEnded time.0 was now
    → ((dir : List ℕ) → cond (list_any (λ t. is_above (as_dir dir) t.0) (time ∷ rest)) None (lent_at was dir) ≡ cond (list_any (λ t. is_above (as_dir dir) t.0) times) None (lent_at old dir))
    → (dir : List ℕ) → cond (list_any (λ t. is_above (as_dir dir) t.0) rest) None (lent_at now dir) ≡ cond (list_any (λ t. is_above (as_dir dir) t.0) times) None (lent_at old dir)
ended_next time rest times old was now ended so_far dir =
    ap (cond (list_any (λ t. is_above (as_dir dir) t.0) rest) None) (ended dir)
    ∙ two_conds (is_above (as_dir dir) time.0) (list_any (λ t. is_above (as_dir dir) t.0) rest) None (lent_at was dir)
    ∙ so_far dir

-- each cached directory is a path, where the table is formed
some_more : {X : Type 0} (b : Bool) (x : X) (o : Option X) → is_some o ≡ true → is_some (cond b (Some x) o) ≡ true
some_more true x o h = refl
some_more false x o h = h

timed_by : (times : List (List ℕ × CacheData)) → ((at : List ℕ) → is_some (time_at times at) ≡ true → is_path at ≡ true) → AreTimedPaths times
timed_by [] paths = tt
timed_by (time ∷ times) paths = (
  paths time.0 (ap is_some (cond-true (bytes_eq time.0 time.0) (Some time.1) (time_at times time.0) (equal_bytes time.0))),
  timed_by times (λ at some. paths at (some_more (bytes_eq at time.0) time.1 (time_at times at) some)),
)

pub timed_paths : (p1 p2 hash : List ℕ) (rows : List (List ℕ × NodeData)) (times : List (List ℕ × CacheData)) → IsFormed (table_of p1 p2 hash rows times) → AreTimedPaths times
timed_paths p1 p2 hash rows times formed = timed_by times (λ at some. formed.paths at (formed.caches at some).0)

-- ---- where something differs

pub ends_by : (path : List ℕ) (same : Type 0) (old new : List (List ℕ × List Row)) (differs : Bool) → MatchBool differs (same → ⊥) same → MatchBool differs (AreEnded path old new) (AreLentStill old new) → Ends path same old new
ends_by path same old new true other ended = inr (other, ended)
ends_by path same old new false is still = inl (is, still)

abbrev own_of : MemoryData → List (List ℕ × List Row) → InMemory
own_of memory kept =
    record {
      p1 = memory.p1;
      p2 = memory.p2;
      hash = memory.hash;
      changed = memory.changed;
      rows = memory.rows;
      times = memory.times;
      kept = kept;
    }

-- what is in memory says whether something differs, and so which lists are kept
pub ends_of : (was : MemoryData) (kept : List (List ℕ × List Row)) (old : InMemory) → own_of was kept ≡ old → (path : List ℕ) (new : MemoryData) (now : List (List ℕ × List Row)) (differs : Bool)
    → MatchBool differs (IsSame (table_in new) (table_in was) → ⊥) (IsSame (table_in new) (table_in was)) → MatchBool differs (AreEnded path kept now) (AreLentStill kept now)
    → Ends path (IsSame (table_in new) (memory_table old)) old.kept now
ends_of was kept old same path new now differs told ended =
    subst (λ (h : InMemory). Ends path (IsSame (table_in new) (memory_table h)) h.kept now) same (ends_by path (IsSame (table_in new) (table_in was)) kept now differs told ended)
