-- What a command did over a table in memory, from what its words came to.
use Rattle.std.proofs.Common.{ℕ, ◌≡◌, ◌<◌, ◌⊎◌, Bool, false, List, [], Option, Result, Ok, Err, Vec, Global, IfErr, IfOk, OnOk, IsTrue, refl, sym, subst, inl, inr, arith}
use Rattle.hg_base.specs.Fault.{HasCause, Rose}
use Rattle.hg_base.specs.declared.id.Id20.{Id20}
use Rattle.hg_entry.specs.Table.{Table}
use Rattle.hg_mixed.specs.Edits.{IsOfSameImage}
use Rattle.hg_nodes.specs.Edits.{IsSame}
use Rattle.hg_mixed.specs.Held.{Held, table}
use Rattle.hg_ops.specs.Cause.{HasOpCause}
use Rattle.hg_ops.specs.Copy.{IsCopyFault, Works}
use Rattle.hg_ops.specs.Parent.{AsksStore}
use Rattle.hg_ops.specs.declared.copy_refusal.CopyRefusal.{CopyRefusal}
use Rattle.hg_ops.specs.declared.refusal.OpFault.{OpFault}
use Rattle.hg_ops.specs.declared.refusal.OpFault.TheVariants as an_op
use Rattle.hg_ops.proofs.Added.{same_table}
use Rattle.hg_report.specs.Cause.{of_op}
use Rattle.hg_session.specs.Acts.{ByOp, IsActed, IsCopied, IsNothingMade, IsRemoved, IsTreeFault, NeedsSome, OnlyLooks, OnlyPuts, OnlyTakes, StopsRemoving, name, span_of, steps_of}
use Rattle.hg_session.specs.Acting.{ActsOn}
use Rattle.hg_session.specs.Call.{IsLeftAlone, Watched}
use Rattle.hg_session.specs.Kept.{KeepsLent}
use Rattle.hg_session.specs.Told.{OnlyRefuses, refusing}
use Rattle.hg_session.specs.Manifests.{AsksManifests, IsReparented, StopsParents}
use Rattle.hg_session.specs.declared.acting.Changing.TheVariants as a_change
use Rattle.hg_shelf.specs.History as shelf
use Rattle.hg_shelf.proofs.Histories as shelves
use Rattle.hg_tree.specs.History as tree
use Rattle.hg_words.specs.declared.given.Command.{Command}
use Rattle.hg_words.specs.declared.given.Command.TheVariants as a_command

-- ---- faults

own_copy : (fault : OpFault) → IsCopyFault fault → IsTreeFault fault
own_copy an_op.OutOfMemory is = inl refl
own_copy an_op.TreeFailed is = inr refl
own_copy fault is = absurd is

pub own_fault : {A : Type 0} (result : Result A OpFault) → IfErr result IsCopyFault → IfErr result IsTreeFault
own_fault (Ok done) is = tt
own_fault (Err fault) is = own_copy fault is

not_shelf : {Q : Type 0} (fault : OpFault) → IsTreeFault fault → fault ≡ an_op.ShelfFailed → Q
not_shelf fault (inl memory) is = absurd (cc (memory, is))
not_shelf fault (inr failed) is = absurd (cc (failed, is))

-- the shelf wasn't asked
shelf_still : {A : Type 0} (count : ℕ) (result : Result A OpFault) → IfErr result IsTreeFault → HasCause count count result (λ e. e ≡ an_op.ShelfFailed)
shelf_still count (Ok done) is = record { later = omega arith; quiet = refl; rose = tt }
shelf_still count (Err fault) is = record { later = omega arith; quiet = tt; rose = λ failed. not_shelf fault is failed }

not_tree : {Q : Type 0} (fault : OpFault) → (fault ≡ an_op.TreeFailed → ⊥) → fault ≡ an_op.TreeFailed → Q
not_tree fault never is = absurd (never is)

-- the tree wasn't asked
tree_still : {A : Type 0} (count : ℕ) (result : Result A OpFault) → IfErr result (λ e. e ≡ an_op.TreeFailed → ⊥) → HasCause count count result (λ e. e ≡ an_op.TreeFailed)
tree_still count (Ok done) never = record { later = omega arith; quiet = refl; rose = tt }
tree_still count (Err fault) never = record { later = omega arith; quiet = tt; rose = λ failed. not_tree fault never failed }

-- what isn't marked as changed is the same
same_if : (Does : Table → Table → List ℕ → Bool → Type 0) → ((old new : Table) (lines : List ℕ) (changed : Bool) → Does old new lines changed → changed ≡ false → IsSame new old)
    → (old new : Held) (result : Result (Vec ℕ Global) OpFault) → (old.changed ≡ false → IfOk result (λ lines. Does (table old) (table new) lines.items new.changed))
    → old.changed ≡ false → OnOk result (new.changed ≡ false → IsSame (table new) (table old))
same_if Does same old new (Ok lines) does unset = λ still. same (table old) (table new) lines.items new.changed (does unset) still
same_if Does same old new (Err fault) does unset = tt

-- what was made so with these lines was with these refusals, and nothing else was told
refuses_ok : (Does : Table → Table → List ℕ → Bool → Type 0) (old new : Held) (result : Result (Vec ℕ Global) OpFault) → (old.changed ≡ false → IfOk result (λ lines. Does (table old) (table new) lines.items new.changed))
    → old.changed ≡ false → IfOk result (λ lines. OnlyRefuses (λ said. Does (table old) (table new) said new.changed) (refusing lines.items))
refuses_ok Does old new (Ok lines) does unset = record { unprinted = refl; unwarned = refl; lines = does unset }
refuses_ok Does old new (Err fault) does unset = tt

-- a fault of an operation, as a command tells it
stops_err : {A : Type 0} (Stops : OpFault → Type 0) (result : Result A OpFault) → IfErr result Stops → IfErr result (λ fault. ByOp Stops (of_op fault))
stops_err Stops (Ok done) stops = tt
stops_err Stops (Err fault) stops = (fault, refl, stops)

-- ---- a command that reads nothing below `.hg`

module _ (copy : Watched tree.History) (h : shelf.History) (count : ℕ) (old new : Held) (result : Result (Vec ℕ Global) OpFault) (kind : IfErr result IsTreeFault) (image : IsOfSameImage old new)
    (cause : HasCause copy.before copy.after result (λ e. e ≡ an_op.TreeFailed)) (failed : copy.before < copy.after → result ≡ Err an_op.TreeFailed) where
  abbrev still : Watched shelf.History
  still = record { old = h; new = h; before = count; after = count }

  pub acts_add : (command : Command) (words : List (List ℕ)) → command ≡ a_command.Add words
      → (old.changed ≡ false → IfOk result (λ lines. IsActed (name a_change.Add) (steps_of a_change.Add) words copy (table old) (table new) lines.items new.changed))
      → OnOk result (KeepsLent old new) → OnlyLooks copy → ActsOn command copy still old new result
  acts_add command words is does lent changes = subst (λ (c : Command). ActsOn c copy still old new result) (sym is) (record {
    does = refuses_ok (IsActed (name a_change.Add) (steps_of a_change.Add) words copy) old new result does;
    stops = λ unset. stops_err IsTreeFault result kind;
    same = same_if (IsActed (name a_change.Add) (steps_of a_change.Add) words copy) (λ a b lines changed acted. acted.same) old new result does;
    lent = lent;
    image = image;
    tree = changes;
    below = shelves.passes_same h;
    asked = λ told. refl;
    tree_cause = cause;
    tree_failed = failed;
    shelf_cause = shelf_still count result kind;
  })

  pub acts_forget : (command : Command) (words : List (List ℕ)) → command ≡ a_command.Forget words → IfErr result (λ e. e ≡ an_op.OutOfMemory)
      → (old.changed ≡ false → IfOk result (λ lines. IsActed (name a_change.Forget) (steps_of a_change.Forget) words copy (table old) (table new) lines.items new.changed))
      → OnOk result (KeepsLent old new) → IsLeftAlone copy → ActsOn command copy still old new result
  acts_forget command words is forgets does lent alone = subst (λ (c : Command). ActsOn c copy still old new result) (sym is) (record {
    does = refuses_ok (IsActed (name a_change.Forget) (steps_of a_change.Forget) words copy) old new result does;
    stops = λ unset. stops_err (λ fault. fault ≡ an_op.OutOfMemory) result forgets;
    same = same_if (IsActed (name a_change.Forget) (steps_of a_change.Forget) words copy) (λ a b lines changed acted. acted.same) old new result does;
    lent = lent;
    image = image;
    tree = alone;
    below = shelves.passes_same h;
    asked = λ told. refl;
    tree_cause = cause;
    tree_failed = failed;
    shelf_cause = shelf_still count result kind;
  })

  pub acts_copy : (command : Command) (source target : List ℕ) → command ≡ a_command.Copy source target
      → (old.changed ≡ false → IfOk result (λ line. IsCopied source target copy (table old) (table new) line.items new.changed))
      → OnOk result (KeepsLent old new) → OnlyPuts source target (table old) copy → ActsOn command copy still old new result
  acts_copy command source target is does lent puts = subst (λ (c : Command). ActsOn c copy still old new result) (sym is) (record {
    does = refuses_ok (IsCopied source target copy) old new result does;
    stops = λ unset. stops_err IsTreeFault result kind;
    same = same_if (IsCopied source target copy) (λ a b lines changed acted. acted.same) old new result does;
    lent = lent;
    image = image;
    tree = puts;
    below = shelves.passes_same h;
    asked = λ told. refl;
    tree_cause = cause;
    tree_failed = failed;
    shelf_cause = shelf_still count result kind;
  })

-- ---- the others

pub acts_remove : (copy : Watched tree.History) (files : Watched shelf.History) (old new : Held) (result : Result (Vec ℕ Global) OpFault) (command : Command) (after : Bool) (words : List (List ℕ))
    → command ≡ a_command.Remove after words
    → (old.changed ≡ false → IfOk result (λ lines. IsRemoved after words copy files (table old) (table new) lines.items new.changed))
    → (old.changed ≡ false → IfErr result (StopsRemoving after words copy files (table old))) → OnOk result (KeepsLent old new) → IsOfSameImage old new → OnlyTakes after words (table old) copy → shelf.Passes files.old files.new
    → (IsTrue files.old.told → (files.new.asked ≡ files.old.asked) ⊎ (NeedsSome after words (table old) copy × AsksStore (span_of (table old) files.old files.new))) → HasCause copy.before copy.after result (λ e. e ≡ an_op.TreeFailed)
    → (copy.before < copy.after → result ≡ Err an_op.TreeFailed) → HasCause files.before files.after result (λ e. e ≡ an_op.ShelfFailed) → ActsOn command copy files old new result
acts_remove copy files old new result command after words is does stops lent image takes passes asked cause failed shelf_cause = subst (λ (c : Command). ActsOn c copy files old new result) (sym is) (record {
  does = refuses_ok (IsRemoved after words copy files) old new result does;
  stops = λ unset. stops_err (StopsRemoving after words copy files (table old)) result (stops unset);
  same = same_if (IsRemoved after words copy files) (λ a b lines changed acted. acted.acted.same) old new result does;
  lent = lent;
  image = image;
  tree = takes;
  below = passes;
  asked = asked;
  tree_cause = cause;
  tree_failed = failed;
  shelf_cause = shelf_cause;
})

module _ (h : tree.History) (count : ℕ) (files : Watched shelf.History) (old new : Held) (result : Result (Vec ℕ Global) OpFault) where
  abbrev alone : Watched tree.History
  alone = record { old = h; new = h; before = count; after = count }

  pub acts_parents : (command : Command) (p1 p2 : Id20) → command ≡ a_command.SetParents p1 p2
      → (old.changed ≡ false → IfOk result (λ lines. IsReparented p1 p2 files (table old) (table new) lines.items new.changed))
      → IfErr result (StopsParents p1 p2 files) → OnOk result (KeepsLent old new) → IsOfSameImage old new → shelf.Passes files.old files.new
      → (IsTrue files.old.told → AsksManifests p1 p2 files.old files.new) → HasCause files.before files.after result (λ e. e ≡ an_op.ShelfFailed)
      → IfErr result (λ e. e ≡ an_op.TreeFailed → ⊥) → ActsOn command alone files old new result
  acts_parents command p1 p2 is does stops lent image passes asked shelf_cause kind = subst (λ (c : Command). ActsOn c alone files old new result) (sym is) (record {
    does = refuses_ok (IsReparented p1 p2 files) old new result does;
    stops = λ unset. stops_err (StopsParents p1 p2 files) result stops;
    same = same_if (IsReparented p1 p2 files) (λ a b lines changed acted. acted.same) old new result does;
    lent = lent;
    image = image;
    tree = record { history = refl; count = refl };
    below = passes;
    asked = asked;
    tree_cause = tree_still count result kind;
    tree_failed = λ rose. absurd (omega (arith, rose));
    shelf_cause = shelf_cause;
  })

module _ (h : tree.History) (count : ℕ) (files : shelf.History) (counted : ℕ) (held : Held) (lines : Vec ℕ Global) (none : lines.items ≡ []) where
  abbrev left : Watched tree.History
  left = record { old = h; new = h; before = count; after = count }

  abbrev kept : Watched shelf.History
  kept = record { old = files; new = files; before = counted; after = counted }

  nothing : held.changed ≡ false → IsNothingMade (table held) (table held) lines.items held.changed
  nothing unset = record { table = same_table (table held); silent = none; unchanged = unset }

  -- any other command
  pub acts_nothing : (command : Command) → ((words : List (List ℕ)) → command ≡ a_command.Add words → ⊥) → ((words : List (List ℕ)) → command ≡ a_command.Forget words → ⊥)
      → ((after : Bool) (words : List (List ℕ)) → command ≡ a_command.Remove after words → ⊥) → ((source target : List ℕ) → command ≡ a_command.Copy source target → ⊥)
      → ((p1 p2 : Id20) → command ≡ a_command.SetParents p1 p2 → ⊥) → ActsOn command left kept held held (Ok lines)
  acts_nothing (a_command.Add words) add forget remove copy parents = absurd (add words refl)
  acts_nothing (a_command.Forget words) add forget remove copy parents = absurd (forget words refl)
  acts_nothing (a_command.Remove after words) add forget remove copy parents = absurd (remove after words refl)
  acts_nothing (a_command.Copy source target) add forget remove copy parents = absurd (copy source target refl)
  acts_nothing (a_command.SetParents p1 p2) add forget remove copy parents = absurd (parents p1 p2 refl)
  acts_nothing command add forget remove copy parents = record {
    does = λ unset. record { unprinted = refl; unwarned = refl; lines = nothing unset };
    stops = λ unset. tt;
    same = λ unset still. same_table (table held);
    lent = record { lists = λ dir same. refl; texts = record { texts = λ at had has. refl; sources = λ at source had has. refl } };
    image = record { docket = refl; bytes = refl };
    tree = record { history = refl; count = refl };
    below = shelves.passes_same files;
    asked = λ told. refl;
    tree_cause = record { later = omega arith; quiet = refl; rose = tt };
    tree_failed = λ rose. absurd (omega (arith, rose));
    shelf_cause = record { later = omega arith; quiet = refl; rose = tt };
  }

-- ---- the copy

-- the tree failed where its fault is answered
copy_failed : (result : Result (Option CopyRefusal) OpFault) (before after : ℕ) → HasOpCause before after result → result ≡ Err an_op.TreeFailed → Rose before after
copy_failed (Ok refused) before after cause is = absurd (cc is)
copy_failed (Err an_op.TreeFailed) before after cause is = cause.1
copy_failed (Err fault) before after cause is = absurd (cc is)

pub puts_of : (source target : List ℕ) (loaded : Table) (result : Result (Option CopyRefusal) OpFault) (copy : Watched tree.History) → HasOpCause copy.before copy.after result
    → Works source target loaded copy.old copy.new result → OnlyPuts source target loaded copy
puts_of source target loaded result copy cause works = record {
  past = works.past;
  copies = λ told. elim (works.copies told) [
    | inl idle ↦ inl idle
    | inr by ↦ inr (record {
      mid = by.mid;
      looked = by.looked;
      unasked = by.unasked;
      stat = by.stat;
      shown = by.shown;
      past = by.past;
      reads = by.reads;
      puts = record {
        pieces = by.puts.pieces;
        size = by.puts.size;
        mid = by.puts.mid;
        put = by.puts.put;
        rest = elim by.puts.rest [
          | inl passes ↦ inl passes
          | inr (is, front) ↦ inr (copy_failed result copy.before copy.after cause is, front)
        ];
      };
    })
  ];
  only = works.only;
}
