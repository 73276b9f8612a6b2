-- What is seen of the devices of a command in a part of a call.
use Rattle.std.specs.Prelude.{ℕ, List, Option}
use Rattle.hg_session.specs.Call.{Count, Looked, Saved, Sink, counted, saved_by, watched}
use Rattle.hg_shelf.specs.History as shelf
use Rattle.hg_shelf.specs.Images.{Course, Images, course}
use Rattle.hg_tree.specs.History as tree

-- what is looked at, what is saved, how many locks were refused, standard output and the error stream
pub record Seen : Type 1 where
  pub looked : Looked
  pub saved : Saved
  pub locks : Count
  pub out : Sink
  pub err : Sink

-- what each of these devices tells and counts: the working copy, the files below `.hg`, what compiles regexps, standard output and the error stream
pub record Views (T S G O E : Type 0) : Type 1 where
  pub tree : T → tree.History
  pub tree_faults : T → ℕ
  pub shelf : S → shelf.History
  pub images : S → ℕ → Images
  pub shelf_faults : S → ℕ
  pub held : S → ℕ
  pub oversize : G → ℕ
  pub out : O → Option (List ℕ)
  pub out_faults : O → ℕ
  pub err : E → Option (List ℕ)
  pub err_faults : E → ℕ

-- what is seen of them between two moments
abbrev pub seen : {T S G O E : Type 0} → Views T S G O E → T × S × G × O × E → T × S × G × O × E → Seen
seen views old new = record {
  looked =
      record {
        tree = watched views.tree views.tree_faults old.0 new.0;
        shelf = watched views.shelf views.shelf_faults old.1 new.1;
        oversize = counted views.oversize old.2 new.2;
      };
  saved = saved_by views.shelf views.images old.1 new.1;
  locks = counted views.held old.1 new.1;
  out = watched views.out views.out_faults old.3 new.3;
  err = watched views.err views.err_faults old.4 new.4;
}

-- the files below `.hg` with what a crash may leave of them
abbrev pub shelf_course : {T S G O E : Type 0} → Views T S G O E → S → Course
shelf_course views shelf = course (views.shelf shelf) (views.images shelf)

-- and these before and after
abbrev pub saved_over : {S : Type 0} → (S → Course) → S → S → Saved
saved_over course_of old new = record { old = course_of old; new = course_of new }
