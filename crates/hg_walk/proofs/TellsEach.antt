-- What is told of paths of a record one behind another: their rows, and what looks showed.
use Rattle.std.proofs.Common.{ℕ, ◌≡◌, ◌<◌, Bool, true, false, not, zero, suc, List, [], ◌∷◌, ◌++◌, length, get_or, Option, Some, None, option_map, true≢false, refl, sym, ap, ◌∙◌, subst, arith}
use Rattle.std.specs.Prelude.{IsTrue, is_some}
use Rattle.std.proofs.lemmas.List.{append-nil, append_assoc}
use Rattle.hg_base.specs.declared.stat.Stat.{Stat}
use Rattle.hg_entry.specs.Table.{Table}
use Rattle.hg_entry.specs.declared.entry.Entry.{Entry}
use Rattle.hg_compare.specs.declared.letter.Letter.{Letter}
use Rattle.hg_flat.specs.Judged.{AddsBy, IsLeftAsked}
use Rattle.hg_flat.specs.Listing.{rows_under, wants_tracked}
use Rattle.hg_flat.specs.declared.kept.FlatRow.{FlatRow}
use Rattle.hg_flat.proofs.Judging.{adds_more, adds_none, adds_one}
use Rattle.hg_listing.specs.declared.row.Row.{Row}
use Rattle.hg_listing.specs.declared.row.Wanted.{Wanted}
use Rattle.hg_mixed.specs.Gathered.{path_of}
use Rattle.hg_mixed.specs.declared.line.Line.{Line}
use Rattle.hg_shelf.specs.History as shelves
use Rattle.hg_tree.specs.History as trees
use Rattle.hg_tree.specs.Moment.{Moment, is_dir, stat_at, stat_of}
use Rattle.hg_tree.specs.declared.thing.Placed.{Placed}
use Rattle.hg_tree.specs.declared.thing.Thing.{Thing}
use Rattle.hg_tree.specs.declared.thing.Thing.TheVariants as a_thing
use Rattle.hg_tree.proofs.Spans.{now_same, ours_first, ours_second}
use Rattle.hg_walk.specs.Marks.{is_no_dir, mark_of, stands}
use Rattle.hg_walk.specs.Telling.{AreMarked, IsLetterOf, IsMarked, MarksEach, TellsEach, is_tracked, rows_with, tracked_row, tracked_rows}
use Rattle.hg_walk.specs.Walking.{asked_unvouched, walk_status}
use Rattle.hg_walk.specs.declared.mark.Mark.{Mark}
use Rattle.hg_walk.specs.declared.mark.Mark.TheVariants as a_mark
use Rattle.hg_walk.proofs.Tells.{unvouched_alike}

-- ---- rows

rows_append : (xs ys : List Line) → tracked_rows (xs ++ ys) ≡ tracked_rows xs ++ tracked_rows ys
rows_append [] ys = refl
rows_append (child ∷ xs) ys = ap (λ (l : List FlatRow). rows_with child child.entry ++ l) (rows_append xs ys) ∙ sym (append_assoc (rows_with child child.entry) (tracked_rows xs) (tracked_rows ys))

-- rows that were put in the first part of a pass, and others in the second, were put in the pass
pub tells_more : (wanted : Wanted) (t : Table) (store : shelves.Files) (P Q R : Type 0) → (R → P) → (R → Q) → (old mid new : trees.History) (begun files later : shelves.History) → trees.Extends old mid → trees.Extends mid new → shelves.Extends files later
    → (xs ys : List Line) (a b c : List Row) → TellsEach store P (walk_status wanted t old mid begun files) xs a b → TellsEach store Q (walk_status wanted t mid new begun later) ys b c
    → TellsEach store R (walk_status wanted t old new begun later) (xs ++ ys) a c
tells_more wanted t store P Q R one_premise two_premise old mid new begun files later first second past xs ys a b c before behind =
    let s = walk_status wanted t old new begun later in
    subst
    (λ (rows : List FlatRow). AddsBy s.asks R (IsLeftAsked store s.asks s.id new old.last later begun.last) store s.id (trees.now old) wanted rows a c)
    (sym (rows_append xs ys))
    (adds_more (asked_unvouched wanted t) (unvouched_alike wanted t) P Q R one_premise two_premise wanted s.id old mid new first second files later begun.last past store (tracked_rows xs)
    (tracked_rows ys) a b c before behind)

pub tells_none : (wanted : Wanted) (t : Table) (store : shelves.Files) (R : Type 0) (old new : trees.History) (begun later : shelves.History) (rows : List Row) → TellsEach store R (walk_status wanted t old new begun later) [] rows rows
tells_none wanted t store R old new begun later rows =
    let s = walk_status wanted t old new begun later in
    adds_none s.asks R (IsLeftAsked store s.asks s.id new old.last later begun.last) store s.id (trees.now old) wanted rows

-- a child without an entry has no row
pub tells_bare : (wanted : Wanted) (t : Table) (store : shelves.Files) (R : Type 0) (old new : trees.History) (begun later : shelves.History) (child : Line) (rows : List Row) → child.entry ≡ None
    → TellsEach store R (walk_status wanted t old new begun later) (child ∷ []) rows rows
tells_bare wanted t store R old new begun later child rows none =
    let s = walk_status wanted t old new begun later in
    subst
    (λ (own : List FlatRow). AddsBy s.asks R (IsLeftAsked store s.asks s.id new old.last later begun.last) store s.id (trees.now old) wanted own rows rows)
    (sym (append-nil (rows_with child child.entry) ∙ ap (rows_with child) none)) (tells_none wanted t store R old new begun later rows)

-- the row of a child with an entry
pub tells_one : (wanted : Wanted) (t : Table) (store : shelves.Files) (R : Type 0) (old new : trees.History) (begun later : shelves.History) (child : Line) (entry : Entry) (letter : Option Letter) (a b : List Row) → child.entry ≡ Some entry
    → IsLetterOf store R (walk_status wanted t old new begun later) (tracked_row child entry) letter → b ≡ a ++ rows_under wanted (tracked_row child entry) letter
    → TellsEach store R (walk_status wanted t old new begun later) (child ∷ []) a b
tells_one wanted t store R old new begun later child entry letter a b is found put =
    let s = walk_status wanted t old new begun later in
    subst
    (λ (own : List FlatRow). AddsBy s.asks R (IsLeftAsked store s.asks s.id new old.last later begun.last) store s.id (trees.now old) wanted own a b)
    (sym (append-nil (rows_with child child.entry) ∙ ap (rows_with child) is))
    (adds_one s.asks R (IsLeftAsked store s.asks s.id new old.last later begun.last) store s.id (trees.now old) wanted (tracked_row child entry) letter a b found put)

-- ---- marks

-- the mark of a look, by what stands there
dir_by : (o : Option Placed) → is_no_dir (mark_of (option_map (λ (placed : Placed). stat_of placed.thing placed.mtime) o)) ≡ not (is_dir o)
dir_by None = refl
dir_by (Some placed) = by placed.thing
  where
    by : (thing : Thing) → is_no_dir (mark_of (Some (stat_of thing placed.mtime))) ≡ not (is_dir (Some (record { thing = thing; mtime = placed.mtime })))
    by (a_thing.File exec bytes) = refl
    by (a_thing.Link target) = refl
    by a_thing.Dir = refl
    by a_thing.Other = refl

there_by : (o : Option Placed) → stands (mark_of (option_map (λ (placed : Placed). stat_of placed.thing placed.mtime) o)) ≡ is_some o
there_by None = refl
there_by (Some placed) = by placed.thing
  where
    by : (thing : Thing) → stands (mark_of (Some (stat_of thing placed.mtime))) ≡ true
    by (a_thing.File exec bytes) = refl
    by (a_thing.Link target) = refl
    by a_thing.Dir = refl
    by a_thing.Other = refl

not_flipped : (b : Bool) → not b ≡ true → b ≡ false
not_flipped true is = absurd (true≢false (sym is))
not_flipped false is = refl

-- a mark of what a look showed, behind which the call went on
pub marked_by_look : (wanted : Wanted) (old mid new : trees.History) (child : Line) (found : Option Stat) (mark : Mark) → trees.Passes old mid → trees.Passes mid new → (IsTrue old.told → trees.AreFormed mid)
    → (IsTrue old.told → stat_at (trees.now mid) (path_of child) ≡ found) → mark ≡ mark_of found → IsMarked wanted old new child mark
marked_by_look wanted old mid new child found mark first second formed shown is = record {
  none = λ told marked. record {
    moment = mid.last;
    begun = first.past.later;
    past = second.past.later;
    none =
        ap (λ (m : Moment). is_dir (m.things (path_of child))) still
        ∙ not_flipped (is_dir ((trees.now mid).things (path_of child))) (sym (dir_by ((trees.now mid).things (path_of child))) ∙ ap is_no_dir (seen told) ∙ marked);
  };
  above = λ told marked dir below. record {
    moment = mid.last;
    begun = first.past.later;
    past = second.past.later;
    is =
        ap (λ (m : Moment). is_dir (m.things dir)) still
        ∙ ((formed told).each mid.last (omega arith)).rooted dir (path_of child) below (sym (there_by ((trees.now mid).things (path_of child))) ∙ ap stands (seen told) ∙ marked);
  };
  looked = λ ours wants tracked.
      sym (seen ours.told) ∙ ap (λ (m : Moment). mark_of (stat_at m (path_of child))) (now_same old mid first (ours_first old mid new second.past ours));
}
  where
    still : new.at mid.last ≡ trees.now mid
    still = second.past.stay mid.last (omega arith)

    seen : IsTrue old.told → mark_of (stat_at (trees.now mid) (path_of child)) ≡ mark
    seen told = ap mark_of (shown told) ∙ sym is

-- no look was needed
unmarked : (wanted : Wanted) (old new : trees.History) (child : Line) → (wants_tracked wanted ≡ true → is_tracked child.entry ≡ true → ⊥) → IsMarked wanted old new child a_mark.Unasked
unmarked wanted old new child none = record {
  none = λ told marked. absurd (true≢false (sym marked));
  above = λ told marked. absurd (true≢false (sym marked));
  looked = λ ours wants tracked. absurd (none wants tracked);
}

pub unmarked_bare : (wanted : Wanted) (old new : trees.History) (child : Line) → child.entry ≡ None → IsMarked wanted old new child a_mark.Unasked
unmarked_bare wanted old new child none = unmarked wanted old new child (λ wants tracked. true≢false (sym tracked ∙ ap is_tracked none))

pub unmarked_removed : (wanted : Wanted) (old new : trees.History) (child : Line) (entry : Entry) → child.entry ≡ Some entry → entry.w ≡ false → IsMarked wanted old new child a_mark.Unasked
unmarked_removed wanted old new child entry is gone = unmarked wanted old new child (λ wants tracked. true≢false (sym tracked ∙ ap is_tracked is ∙ gone))

pub unmarked_unlooked : (wanted : Wanted) (old new : trees.History) (child : Line) → wants_tracked wanted ≡ false → IsMarked wanted old new child a_mark.Unasked
unmarked_unlooked wanted old new child none = unmarked wanted old new child (λ wants tracked. true≢false (sym wants ∙ none))

-- a mark of a part of a call is one of the call
marked_longer : (wanted : Wanted) (old mid new : trees.History) → trees.Passes old mid → trees.Extends mid new → (child : Line) (mark : Mark) → IsMarked wanted old mid child mark → IsMarked wanted old new child mark
marked_longer wanted old mid new first second child mark is = record {
  none = λ told marked.
      let was = is.none told marked in record {
        moment = was.moment;
        begun = was.begun;
        past = omega (arith, was.past, second.later);
        none = ap (λ (m : Moment). is_dir (m.things (path_of child))) (second.stay was.moment was.past) ∙ was.none;
      };
  above = λ told marked dir below.
      let was = is.above told marked dir below in record {
        moment = was.moment;
        begun = was.begun;
        past = omega (arith, was.past, second.later);
        is = ap (λ (m : Moment). is_dir (m.things dir)) (second.stay was.moment was.past) ∙ was.is;
      };
  looked = λ ours. is.looked (ours_first old mid new second ours);
}

marked_later : (wanted : Wanted) (old mid new : trees.History) → trees.Passes old mid → trees.Extends mid new → (child : Line) (mark : Mark) → IsMarked wanted mid new child mark → IsMarked wanted old new child mark
marked_later wanted old mid new first second child mark is = record {
  none = λ told marked.
      let was = is.none (first.past.told ∙ told) marked in record { moment = was.moment; begun = omega (arith, first.past.later, was.begun); past = was.past; none = was.none };
  above = λ told marked dir below.
      let was = is.above (first.past.told ∙ told) marked dir below in record { moment = was.moment; begun = omega (arith, first.past.later, was.begun); past = was.past; is = was.is };
  looked = λ ours wants tracked.
      is.looked (ours_second old mid new first.past ours) wants tracked
      ∙ ap (λ (m : Moment). mark_of (stat_at m (path_of child))) (now_same old mid first (ours_first old mid new second ours));
}

each_longer : (P Q : Line → Mark → Type 0) → ((child : Line) (mark : Mark) → P child mark → Q child mark) → (xs : List Line) (marks : List Mark) → AreMarked P xs marks → AreMarked Q xs marks
each_longer P Q on [] [] is = is
each_longer P Q on [] (mark ∷ marks) is = absurd is
each_longer P Q on (child ∷ xs) [] is = absurd is
each_longer P Q on (child ∷ xs) (mark ∷ marks) (own, rest) = (on child mark own, each_longer P Q on xs marks rest)

one_more_mark : (P : Line → Mark → Type 0) (xs : List Line) (marks : List Mark) (child : Line) (mark : Mark) → AreMarked P xs marks → P child mark → AreMarked P (xs ++ child ∷ []) (marks ++ mark ∷ [])
one_more_mark P [] [] child mark is own = (own, tt)
one_more_mark P [] (sign ∷ marks) child mark is own = absurd is
one_more_mark P (other ∷ xs) [] child mark is own = absurd is
one_more_mark P (other ∷ xs) (first ∷ marks) child mark (here, rest) own = (here, one_more_mark P xs marks child mark rest own)

pub marks_more : (wanted : Wanted) (old mid new : trees.History) → trees.Passes old mid → trees.Passes mid new → (xs : List Line) (child : Line) (mark : Mark) (a b : List Mark)
    → MarksEach wanted old mid xs a b → IsMarked wanted mid new child mark → MarksEach wanted old new (xs ++ child ∷ []) a (b ++ mark ∷ [])
marks_more wanted old mid new first second xs child mark a b (marks, is, each) own = (
  marks ++ mark ∷ [],
  ap (λ (l : List Mark). l ++ mark ∷ []) is ∙ append_assoc a marks (mark ∷ []),
  one_more_mark (IsMarked wanted old new) xs marks child mark
      (each_longer (IsMarked wanted old mid) (IsMarked wanted old new) (marked_longer wanted old mid new first second.past) xs marks each)
      (marked_later wanted old mid new first second.past child mark own),
)

pub marks_none : (wanted : Wanted) (old new : trees.History) (marks : List Mark) → MarksEach wanted old new [] marks marks
marks_none wanted old new marks = ([], sym (append-nil marks), tt)

mark_or : (P : Line → Mark → Type 0) (child : Line) (xs : List Line) (mark : Mark) (marks : List Mark) → P child mark → ((i : ℕ) (other : Line) (sign : Mark) → i < length xs → P (get_or xs i other) (get_or marks i sign))
    → (i : ℕ) (other : Line) (sign : Mark) → i < length (child ∷ xs) → P (get_or (child ∷ xs) i other) (get_or (mark ∷ marks) i sign)
mark_or P child xs mark marks own rest zero other sign below = own
mark_or P child xs mark marks own rest (suc i) other sign below = rest i other sign (omega (arith, below))

-- the mark of each child stands at its place
pub mark_at : (P : Line → Mark → Type 0) (xs : List Line) (marks : List Mark) → AreMarked P xs marks
    → (length marks ≡ length xs) × ((i : ℕ) (child : Line) (mark : Mark) → i < length xs → P (get_or xs i child) (get_or marks i mark))
mark_at P [] [] is = (refl, λ i child mark below. absurd (omega (arith, below)))
mark_at P [] (mark ∷ marks) is = absurd is
mark_at P (child ∷ xs) [] is = absurd is
mark_at P (child ∷ xs) (mark ∷ marks) (own, rest) = let more = mark_at P xs marks rest in (ap suc more.0, mark_or P child xs mark marks own more.1)
