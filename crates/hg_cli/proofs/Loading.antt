-- What a load did, from its parts.
use Rattle.std.proofs.Common.{ℕ, zero, suc, ◌≡◌, ◌*◌, ◌%◌, ◌<◌, ◌≤◌, List, [], ◌∷◌, Option, Some, None, length, drop, refl, sym, ap, ◌∙◌, subst, inl, inr, arith, eqb}
use Rattle.std.specs.List.{AllByRecursion}
use Rattle.std.specs.Prelude.{IfSome, min}
use Rattle.std.proofs.lemmas.List.{drop_min}
use Rattle.hg_alone.proofs.Owned.{own_steps}
use Rattle.hg_alone.proofs.Since.{same_now}
use Rattle.hg_alone.specs.Alone.{before_own, files_of, tree_alone, upto_others}
use Rattle.hg_cli.proofs.Letters.{letter_of}
use Rattle.hg_cli.proofs.Owning.{IsBetween, fresh_between, honest_still, same_moment, still_tree}
use Rattle.hg_cli.proofs.Passing.{leaves, prints, text_lines}
use Rattle.hg_cli.proofs.Tallying.{tally}
use Rattle.hg_cli.specs.Lines.{lines_with}
use Rattle.hg_cli.specs.Load.{AreCounts, AreNumbers, IsLoadText, IsMade, IsStatus, Loads, StopsLoad, all_letters}
use Rattle.hg_cli.specs.declared.load.Alone.{Alone}
use Rattle.hg_gen.specs.Copy.{AreFiles, IsCopy, IsGiven}
use Rattle.hg_gen.specs.Recorded.{IsStored}
use Rattle.hg_gen.specs.declared.making.Made.{Made}
use Rattle.hg_report.specs.Status.{sign_of}
use Rattle.hg_report.specs.declared.fault.Fault.{Fault}
use Rattle.hg_report.specs.declared.load.Counts.{Counts}
use Rattle.hg_report.specs.declared.fault.Fault.TheVariants as a_fault
use Rattle.hg_session.specs.Answered.{IsAnswered}
use Rattle.hg_session.specs.Call.{Count, Sink, counted, saved_by, watched}
use Rattle.hg_session.specs.Put.{IsFaultOrMemory, IsSilent, PutsFront, Tells}
use Rattle.hg_shelf.specs.History as shelf
use Rattle.hg_shelf.specs.Memory as shelves
use Rattle.hg_session.specs.Status.{IsFullText}
use Rattle.hg_tree.specs.History as tree
use Rattle.hg_tree.specs.Memory as trees
use Rattle.hg_tree.specs.Memory.{Memory, maker}
use Rattle.hg_tree.specs.Moment.{Moment}
use Rattle.hg_tree.specs.declared.asked.Change.{Change}
use Rattle.hg_tree.specs.declared.asked.Change.TheVariants as the_change
use Rattle.hg_words.specs.declared.flags.StatusFlags.{StatusFlags}
use Rattle.hg_words.specs.declared.given.Command.TheVariants as a_command

-- a status that met no fault
pub status_of : (old new : Alone) (oversize : Count) (out err : Sink) (code : ℕ) (fault : Option Fault) (flags : StatusFlags) (text : List ℕ) → fault ≡ None → flags ≡ all_letters
    → out.old ≡ Some [] → out.new ≡ Some text
    → IsAnswered
    (record {
      command = a_command.Status flags;
      looked =
          record {
            tree = watched (λ t. tree_alone t.tree) (λ t. t.tree.calls.faults) old.tree new.tree;
            shelf = watched (λ s. shelves.history_of s.shelf) (λ s. s.shelf.calls.faults) old.shelf new.shelf;
            oversize = oversize;
          };
      saved = saved_by (λ s. shelves.history_of s.shelf) (λ s. shelves.images_of s.shelf) old.shelf new.shelf;
      locks = counted (λ s. s.shelf.refusals) old.shelf new.shelf;
      out = out;
      err = err;
    })
    code fault
    → IsStatus old new text
status_of old new oversize out err code fault flags text none all empty printed answered =
    record { oversize = oversize; out = out; err = err; code = code; empty = empty; printed = printed; answered = rw (sym none, sym all) answered }

-- what was asked since
pub asked_since : {X : Type 0} (old new was asked back : List X) (n : ℕ) → was ≡ old → asked ≡ new → n ≡ min (length was) (length asked) → back ≡ drop n asked → back ≡ drop (length old) new
asked_since {X = X} old new was asked back n before behind is rest =
    rest ∙ ap (λ (k : ℕ). drop k asked) is ∙ drop_min (length was) asked ∙ ap (λ (l : List X). drop (length l) asked) before ∙ ap (λ (l : List X). drop (length old) l) behind

module _ (dirs : ℕ) (out err : Sink) (code : ℕ) (fault : Option Fault) (failed : code ≡ 255) (told : IfSome fault (Tells err)) where
  stopped : (met : Fault) → fault ≡ Some met → StopsLoad dirs out met → Loads dirs out err code fault
  stopped met is stops = record {
    done = λ none. let both : None ≡ Some met = sym none ∙ is in absurd (cc both);
    left = subst (λ (f : Option Fault). IfSome f (λ g. (code ≡ 255) × StopsLoad dirs out g × Tells err g)) (sym is) (failed, stops, subst (λ (f : Option Fault). IfSome f (Tells err)) is told);
  }

  -- there was no memory for the text
  pub lacked : IsSilent out → IsFaultOrMemory fault a_fault.OutOfMemory → Loads dirs out err code fault
  lacked silent (inl is) = stopped a_fault.OutOfMemory is (inl (refl, silent))
  lacked silent (inr is) = stopped a_fault.OutOfMemory is (inl (refl, silent))

  -- standard output failed
  pub unprinted : PutsFront (IsLoadText dirs) out → IsFaultOrMemory fault a_fault.OutFailed → Loads dirs out err code fault
  unprinted front (inl is) = stopped a_fault.OutFailed is (inr (inl refl, front))
  unprinted front (inr is) = stopped a_fault.OutOfMemory is (inr (inr refl, front))

-- ---- how many rows there are

-- where others made each change, the moments begin behind all of them
upto_so : (change : Change) (n : ℕ) → maker change ≡ tree.others → upto_others change n ≡ suc n
upto_so change (suc n) is = refl
upto_so (the_change.ByOthers what) zero is = refl
upto_so (the_change.ByUs what) zero is = absurd (cc (is))

all_before : (changes : List Change) → AllByRecursion (λ change. maker change ≡ tree.others) changes → before_own changes ≡ length changes
all_before [] all = refl
all_before (change ∷ changes) all = ap (upto_others change) (all_before changes all.1) ∙ upto_so change (length changes) all.0

given_still : (m : Memory) → IsGiven m → (tree_alone m).last ≡ 0
given_still m given = let all : before_own m.changes ≡ length m.changes = all_before m.changes given.changes in omega (arith, all)

-- the copy, as it was made
pub made_so : (dirs : ℕ) (made : Made) (copy : Alone) → IsCopy dirs (tree.now (trees.history_of made.tree)) → IsStored dirs (files_of made.shelf) → IsGiven made.tree → made.shelf.refusals ≡ 0
    → copy.tree.tree ≡ made.tree → copy.shelf.shelf ≡ made.shelf → IsMade dirs copy
made_so dirs made copy stands stored given none tree_is shelf_is = record {
  copy = subst (λ (m : Memory). IsCopy dirs (tree.now (tree_alone m))) (sym tree_is) (subst (IsCopy dirs) (sym (same_now made.tree)) stands);
  unchanged = ap (λ (m : Memory). (tree_alone m).last) tree_is ∙ given_still made.tree given;
  files = subst (λ (m : shelves.Memory). IsStored dirs (files_of m)) (sym shelf_is) stored;
  looks = ap (λ (m : Memory). m.calls.failing) tree_is ∙ given.failing;
  saves = copy.shelf.calm;
  refusals = ap (λ (m : shelves.Memory). m.refusals) shelf_is ∙ none;
}

-- a copy that a status counts
pub record IsCounted (dirs : ℕ) (copy : Alone) : Type 0 where
  pub unchanged : (tree_alone copy.tree.tree).last ≡ 0
  pub things : AreFiles (16 * dirs) (tree.now (tree_alone copy.tree.tree)).things
  pub between : IsBetween dirs (files_of copy.shelf.shelf) (tree_alone copy.tree.tree)

pub made_counted : (dirs : ℕ) (copy : Alone) → IsMade dirs copy → IsCounted dirs copy
made_counted dirs copy made =
    record { unchanged = made.unchanged; things = made.copy.things; between = fresh_between dirs (files_of copy.shelf.shelf) (tree_alone copy.tree.tree) made.files }

module _ (dirs : ℕ) (old new : Alone) (is : IsCounted dirs old) (text : List ℕ) (status : IsStatus old new text) where
  abbrev copy_old : tree.History
  copy_old = tree_alone old.tree.tree

  abbrev copy_new : tree.History
  copy_new = tree_alone new.tree.tree

  passes : tree.Passes copy_old copy_new
  passes = status.answered.ran.tree

  still : copy_new.last ≡ copy_old.last
  still = still_tree copy_old copy_new passes (λ k. refl)

  own : (k : ℕ) → k < (shelves.history_of new.shelf.shelf).last → (shelves.history_of new.shelf.shelf).who k ≡ shelf.us
  own = own_steps new.shelf.shelf.changes new.shelf.own

  full : IsFullText all_letters (files_of old.shelf.shelf) (tree.now copy_old) text
  full =
      prints dirs _ (shelves.images_of old.shelf.shelf) (shelves.images_of new.shelf.shelf) _ status.out status.err refl (honest_still copy_new (still ∙ is.unchanged)) (λ k. refl) refl own is.between
      status.code status.answered.kept.past status.answered.ran text status.empty status.printed

  lines : dirs ≤ 2000 → (sign each : ℕ) → tally (λ i. eqb (sign_of (letter_of (i % 16))) sign) 16 ≡ each → lines_with sign text ≡ each * dirs
  lines few sign each tallied = text_lines dirs few (files_of old.shelf.shelf) (tree.now copy_old) copy_old is.things is.between text full sign each tallied

  pub counted_next : old.shelf.shelf.refusals ≡ 0 → IsCounted dirs new
  counted_next none = record {
    unchanged = still ∙ is.unchanged;
    things = subst (λ (m : Moment). AreFiles (16 * dirs) m.things) (sym (same_moment copy_old copy_new passes still)) is.things;
    between =
        leaves dirs _ (shelves.images_of old.shelf.shelf) (shelves.images_of new.shelf.shelf) _ status.out status.err refl (honest_still copy_new (still ∙ is.unchanged)) (λ k. refl) refl own is.between
        status.code status.answered.kept.past status.answered.ran none;
  }

  pub numbers_of : dirs ≤ 2000 → (counts : Counts) → AreCounts text counts → AreNumbers dirs counts
  numbers_of few counts are =
      let added : lines_with 65 text ≡ 1 * dirs = lines few 65 1 refl in
      let removed : lines_with 82 text ≡ 1 * dirs = lines few 82 1 refl in
      let deleted : lines_with 33 text ≡ 1 * dirs = lines few 33 1 refl in
      let unknown : lines_with 63 text ≡ 1 * dirs = lines few 63 1 refl in
      let ignored : lines_with 73 text ≡ 0 * dirs = lines few 73 0 refl in
      let one : 1 * dirs ≡ dirs = omega arith in
      let nothing : 0 * dirs ≡ 0 = omega arith in
      record {
        modified = are.modified ∙ lines few 77 2 refl;
        added = are.added ∙ added ∙ one;
        removed = are.removed ∙ removed ∙ one;
        deleted = are.deleted ∙ deleted ∙ one;
        unknown = are.unknown ∙ unknown ∙ one;
        ignored = are.ignored ∙ ignored ∙ nothing;
        clean = are.clean ∙ lines few 67 10 refl;
      }
