-- What is told of one path of a record: which paths are compared, their letters, and what is noted of them.
use Rattle.std.proofs.Common.{ℕ, ◌≡◌, Bool, true, false, not, ◌&&◌, ◌||◌, List, [], Option, Some, None, option_map, ◌⊎◌, refl, sym, ap, ◌∙◌, arith}
use Rattle.std.specs.Prelude.{is_some}
use Rattle.std.proofs.lemmas.Bool.{and_parts}
use Rattle.hg_base.specs.declared.stat.Stat.{Stat}
use Rattle.hg_compare.specs.Same.{Reads}
use Rattle.hg_compare.specs.Tracked.{is_file_or_link}
use Rattle.hg_compare.specs.declared.letter.Letter.{Letter}
use Rattle.hg_entry.specs.Entry.{view}
use Rattle.hg_entry.specs.Table.{Table, flat_of, marks_of}
use Rattle.hg_entry.specs.declared.entry.Entry.{Entry}
use Rattle.hg_flat.specs.Asked.{AsksReads}
use Rattle.hg_flat.specs.Course.{IsFound}
use Rattle.hg_flat.specs.Judged.{IsLeftAsked}
use Rattle.hg_flat.specs.Listing.{IsAskedRow, is_compared_row, is_file_or_link_kind, marked_letter}
use Rattle.hg_flat.specs.Met.{Status}
use Rattle.hg_flat.specs.Needed.{NeedsBytes, ReadsPath}
use Rattle.hg_flat.specs.Parent.{IsAsked, WasAsked, is_plain_entry}
use Rattle.hg_flat.specs.declared.kept.FlatRow.{FlatRow}
use Rattle.hg_flat.specs.declared.parent.Parent.{Parent}
use Rattle.hg_flat.proofs.Asks.{reads_none, reads_pieces}
use Rattle.hg_flat.proofs.Faces.{stat_alike, stays_shown}
use Rattle.hg_flat.proofs.Judging.{AsksAlike, left_ended, letter_by_moved, marks_alike}
use Rattle.hg_flat.proofs.Letters.{found_read, there_is}
use Rattle.hg_flat.proofs.Needing.{reads_either, reads_nothing}
use Rattle.hg_listing.specs.declared.row.Wanted.{Wanted}
use Rattle.hg_mixed.specs.Gathered.{path_of}
use Rattle.hg_mixed.specs.declared.line.Line.{Line}
use Rattle.hg_mtime.specs.Vouching.{has_mode, has_size, matches_known, may_vouch, same_bools, vouches}
use Rattle.hg_shelf.specs.History as shelves
use Rattle.hg_tree.specs.History as trees
use Rattle.hg_tree.specs.Moment.{Moment, stat_at, stat_of, zero_time}
use Rattle.hg_tree.specs.declared.thing.Thing.{Thing}
use Rattle.hg_tree.specs.declared.thing.Thing.TheVariants as a_thing
use Rattle.hg_tree.proofs.Stillness.{alike_between}
use Rattle.hg_walk.specs.Finding.{HasLetter}
use Rattle.hg_walk.specs.Right.{AreRight}
use Rattle.hg_walk.specs.Telling.{IsAtChild, IsChildOf, IsLetterOf, ShowsNow, copied_in, tracked_row}
use Rattle.hg_walk.specs.Walking.{asked_unvouched, first_id, rows_in, vouches_for, walk_status}

-- ---- which paths are compared

-- the test says the same of a path that is alike at two moments
pub unvouched_alike : (wanted : Wanted) (t : Table) → AsksAlike (asked_unvouched wanted t)
unvouched_alike wanted t m n path alike =
    let marks = marks_alike wanted (flat_of t) m n path alike in
    let shown = stat_alike m n path alike in
    λ i. marks i && not (vouches_for (t.entries path) (is_some (t.sources path)) (shown i))

-- what a record has at a child
pub child_entry : (t : Table) (child : Line) (entry : Entry) → IsChildOf t child → child.entry ≡ Some entry → t.entries (path_of child) ≡ Some (view entry)
child_entry t child entry of is = sym of.entry ∙ ap (option_map view) is

pub child_copied : (t : Table) (child : Line) → IsChildOf t child → copied_in child ≡ is_some (t.sources (path_of child))
child_copied t child of = ap is_some of.source

module _ (wanted : Wanted) (t : Table) (child : Line) (entry : Entry) (of : IsChildOf t child) (is : child.entry ≡ Some entry) where
  -- the test of a child's path, by what the child shows
  asks_is : (m : Moment) → asked_unvouched wanted t m (path_of child)
      ≡ ((is_compared_row wanted (tracked_row child entry) && is_file_or_link (m.things (path_of child))) && not (vouches_for (Some (view entry)) (copied_in child) (stat_at m (path_of child))))
  asks_is m =
      let has = child_entry t child entry of is in
      let source = sym of.source in
      λ i.
      ((((wanted.m || wanted.c) && is_plain_entry (option_map marks_of (has i)) (is_some (source i))) && is_file_or_link (m.things (path_of child)))
      && not (vouches_for (has i) (is_some (source i)) (stat_at m (path_of child))))

  not_true : (b : Bool) → not b ≡ true → b ≡ false
  not_true true is = absurd (cc is)
  not_true false is = refl

  -- a path that is compared is so by its marks
  pub asked_row : (m : Moment) → IsAsked (asked_unvouched wanted t) m (path_of child) → IsAskedRow wanted m (tracked_row child entry)
  asked_row m asked =
      let both = and_parts (is_compared_row wanted (tracked_row child entry) && is_file_or_link (m.things (path_of child))) (not (vouches_for (Some (view entry)) (copied_in child) (stat_at m (path_of child)))) (sym (asks_is m) ∙ asked) in
      let marks = and_parts (is_compared_row wanted (tracked_row child entry)) (is_file_or_link (m.things (path_of child))) both.0 in record { compared = marks.0; there = marks.1 }

  -- and its entry doesn't vouch for what a look shows
  pub asked_unvouches : (m : Moment) (there : Stat) → stat_at m (path_of child) ≡ Some there → IsAsked (asked_unvouched wanted t) m (path_of child) → vouches (view entry) (copied_in child) there ≡ false
  asked_unvouches m there shown asked =
      sym (ap (vouches_for (Some (view entry)) (copied_in child)) shown)
      ∙ not_true (vouches_for (Some (view entry)) (copied_in child) (stat_at m (path_of child)))
      (and_parts (is_compared_row wanted (tracked_row child entry) && is_file_or_link (m.things (path_of child))) (not (vouches_for (Some (view entry)) (copied_in child) (stat_at m (path_of child))))
      (sym (asks_is m) ∙ asked)).1

  -- by its marks, and where the entry doesn't vouch for what stands there
  pub asks_so : (m : Moment) → is_compared_row wanted (tracked_row child entry) ≡ true → is_file_or_link (m.things (path_of child)) ≡ true
      → vouches_for (Some (view entry)) (copied_in child) (stat_at m (path_of child)) ≡ false → IsAsked (asked_unvouched wanted t) m (path_of child)
  asks_so m compared there none = asks_is m ∙ by compared there none
    where
      by : {a b c : Bool} → a ≡ true → b ≡ true → c ≡ false → ((a && b) && not c) ≡ true
      by one two three = (λ i. ((one i && two i) && not (three i)))

  -- a thing for which an entry doesn't vouch, whatever it says
  abbrev other_thing : Bool → Thing
  other_thing true = a_thing.File false []
  other_thing false = a_thing.Link []

  other_mode : (link : Bool) → (view entry).link ≡ link → has_mode (view entry) (stat_of (other_thing link) zero_time).kind (stat_of (other_thing link) zero_time).exec ≡ false
  other_mode true same = ap (λ (b : Bool). not b && same_bools (view entry).exec false) same
  other_mode false same = same

  other_there : (link : Bool) → is_file_or_link (Some (record { thing = other_thing link; mtime = zero_time })) ≡ true
  other_there true = refl
  other_there false = refl

  no_mode : (a b m d : Bool) → m ≡ false → (a && b && m && d) ≡ false
  no_mode true true m d none = ap (λ (x : Bool). x && d) none
  no_mode true false m d none = refl
  no_mode false b m d none = refl

  abbrev other : Moment
  other = record { clock = zero_time; things = λ path. Some (record { thing = other_thing (view entry).link; mtime = zero_time }) }

  abbrev other_stat : Stat
  other_stat = stat_of (other_thing (view entry).link) zero_time

  other_unvouched : (view entry).link ≡ (view entry).link → vouches (view entry) (copied_in child) other_stat ≡ false
  other_unvouched same =
      no_mode (may_vouch (view entry) (copied_in child)) (has_size (view entry).size other_stat.size) (has_mode (view entry) other_stat.kind other_stat.exec) (matches_known (view entry).stamp other_stat.mtime)
      (other_mode (view entry).link same)

  -- where its marks don't decide, and its entry doesn't vouch for what a look shows now, the path was compared in the call
  pub was_asked : (old new : trees.History) (there : Stat) → trees.Extends old new → is_compared_row wanted (tracked_row child entry) ≡ true → is_file_or_link_kind there.kind ≡ true
      → vouches (view entry) (copied_in child) there ≡ false → ShowsNow old (path_of child) there → WasAsked (asked_unvouched wanted t) old new (path_of child)
  was_asked old new there past compared kind none shown = by old.told refl
    where
      by : (b : Bool) → old.told ≡ b → WasAsked (asked_unvouched wanted t) old new (path_of child)
      by true told = record {
        moment = trees.now old;
        asked =
            asks_so (trees.now old) compared (there_is (trees.now old) (path_of child) there (shown told) ∙ kind)
            (ap (vouches_for (Some (view entry)) (copied_in child)) (shown told) ∙ none);
        at = old.last;
        from = λ again. omega arith;
        to = λ again. past.later;
        is = λ again. past.stay old.last (omega arith);
      }
      by false untold = record {
        moment = other;
        asked =
            asks_so other compared (other_there (view entry).link)
            (other_unvouched refl);
        at = 0;
        from = λ told. absurd (cc (untold, told));
        to = λ told. absurd (cc (untold, told));
        is = λ told. absurd (cc (untold, told));
      }

  -- where a look shows something for which the entry doesn't vouch, the path is compared now
  pub asked_here : (m : Moment) (there : Stat) → is_compared_row wanted (tracked_row child entry) ≡ true → is_file_or_link_kind there.kind ≡ true → vouches (view entry) (copied_in child) there ≡ false
      → stat_at m (path_of child) ≡ Some there → IsAsked (asked_unvouched wanted t) m (path_of child)
  asked_here m there compared kind none shown =
      asks_so m compared (there_is m (path_of child) there shown ∙ kind) (ap (vouches_for (Some (view entry)) (copied_in child)) shown ∙ none)

  -- ---- its letter

  abbrev Left : shelves.Files → trees.History → trees.History → shelves.History → shelves.History → List ℕ → Type 0
  Left store old new begun later path = IsLeftAsked store (asked_unvouched wanted t) (first_id t) new old.last later begun.last path

  -- the letter that is found by the entry or by a comparison
  pub letter_found : (store : shelves.Files) (start old new : trees.History) (begun files later : shelves.History) (parent : Parent) (there : Stat) (letter : Letter) → (view entry).w ≡ true
      → IsAtChild (walk_status wanted t start old begun files) t parent child → ShowsNow old (path_of child) there → trees.Extends old new
      → marked_letter (tracked_row child entry) there ≡ None → is_compared_row wanted (tracked_row child entry) ≡ true → is_file_or_link_kind there.kind ≡ true
      → HasLetter
      (record {
        path = path_of child;
        entry = view entry;
        copied = copied_in child;
        before = there;
        tree_old = old;
        tree_new = new;
        shelf_old = files;
        shelf_new = later;
      })
      (walk_status wanted t start old begun files) parent letter
      → IsLetterOf store (AreRight (rows_in t store) t start new) (walk_status wanted t old new begun later) (tracked_row child entry) (Some letter)
  letter_found store start old new begun files later parent there letter w come shown past none compared kind found = record {
    right = λ right.
        (found_read (λ k. Left store old new begun later k.path) store (walk_status wanted t old new begun later).id (trees.now old) wanted (tracked_row child entry) there letter w
        (λ meets. shown (sym past.told ∙ meets.own.told)) none (judged (λ vouched. right))).right;
    served = λ meets asked.
        let unvouched = asked_unvouches (trees.now old) there (shown (sym past.told ∙ meets.own.told)) asked in (judged (λ vouched. absurd (cc (unvouched, vouched))) meets).served;
  }
    where
      judged : (vouches (view entry) (copied_in child) there ≡ true → AreRight (rows_in t store) t start new) → Left store old new begun later (path_of child)
          → IsFound store (walk_status wanted t old new begun later).id (trees.now old) (path_of child) letter
      judged right meets =
          let told = sym past.told ∙ meets.own.told in
          found store t (record { goes = come.goes; told = told; shown = shown told }) right (record { entry = child_entry t child entry of is; copied = child_copied t child of })
          (stays_shown old new (path_of child) meets.own)
          (λ unvouched.
          meets.row (asked_here (new.at old.last) there compared kind unvouched (ap (λ (m : Moment). stat_at m (path_of child)) (past.stay old.last (omega arith)) ∙ shown told)))

  -- ---- what a comparison asks

  -- where the entry vouches nothing is asked, and else the path is read
  pub reads_found : (old new : trees.History) (there : Stat) → trees.Extends old new → is_compared_row wanted (tracked_row child entry) ≡ true → is_file_or_link_kind there.kind ≡ true → ShowsNow old (path_of child) there
      → (vouches (view entry) (copied_in child) there ≡ true → new ≡ old) → Reads there.size (path_of child) old new → AsksReads (WasAsked (asked_unvouched wanted t) old new) old new
  reads_found old new there past compared kind shown unread reads = by (vouches (view entry) (copied_in child) there) refl
    where
      by : (b : Bool) → vouches (view entry) (copied_in child) there ≡ b → AsksReads (WasAsked (asked_unvouched wanted t) old new) old new
      by true vouched = reads_none (WasAsked (asked_unvouched wanted t) old new) old new (ap (λ (h : trees.History). h.asked) (unread vouched))
      by false none = reads_pieces (WasAsked (asked_unvouched wanted t) old new) there.size (path_of child) old new (was_asked old new there past compared kind none shown) reads

  -- where the entry vouches nothing is read, and else only what is needed
  pub reads_needed : (start old new : trees.History) (begun files later : shelves.History) (there : Stat) → trees.Passes start old → trees.Passes old new → is_compared_row wanted (tracked_row child entry) ≡ true
      → is_file_or_link_kind there.kind ≡ true → ShowsNow old (path_of child) there → (vouches (view entry) (copied_in child) there ≡ true → new.asked ≡ old.asked) → Reads there.size (path_of child) old new
      → {A : Type 0} (f : A → trees.History) (x y : A) → f x ≡ new → f y ≡ old → (x ≡ y) ⊎ NeedsBytes (walk_status wanted t start new begun later) (path_of child) there
      → ReadsPath (walk_status wanted t start new begun later) old (path_of child)
  reads_needed start old new begun files later there before past compared kind shown unread reads f x y is_new is_old needed = by (vouches (view entry) (copied_in child) there) refl needed
    where
      s : Status
      s = walk_status wanted t start new begun later

      by : (b : Bool) → vouches (view entry) (copied_in child) there ≡ b → (x ≡ y) ⊎ NeedsBytes s (path_of child) there → ReadsPath s old (path_of child)
      by true vouched any = reads_nothing s old (path_of child) (unread vouched)
      by false none any =
          reads_either (walk_status wanted t start old begun files) old new later (path_of child) there before past (λ told. asked_here (trees.now old) there compared kind none (shown told)) shown reads f x y is_new is_old any

  -- where the path isn't compared, its entry vouches
  pub unasked_found : {A : Type 0} (now before : A) (old new : trees.History) (there : Stat) → trees.Extends old new → is_compared_row wanted (tracked_row child entry) ≡ true → is_file_or_link_kind there.kind ≡ true
      → ShowsNow old (path_of child) there → (vouches (view entry) (copied_in child) there ≡ true → now ≡ before) → (WasAsked (asked_unvouched wanted t) old new (path_of child) → ⊥) → now ≡ before
  unasked_found now before old new there past compared kind shown unread never = by (vouches (view entry) (copied_in child) there) refl
    where
      by : (b : Bool) → vouches (view entry) (copied_in child) there ≡ b → now ≡ before
      by true vouched = unread vouched
      by false none = absurd (never (was_asked old new there past compared kind none shown))

-- ---- behind a look

-- a letter that is found behind a look is that of the call
pub letter_later : (wanted : Wanted) (t : Table) (store : shelves.Files) (R : Type 0) (old mid new : trees.History) (begun later : shelves.History) (row : FlatRow) (letter : Option Letter) → trees.Extends old mid → trees.Extends mid new
    → IsLetterOf store R (walk_status wanted t mid new begun later) row letter → IsLetterOf store R (walk_status wanted t old new begun later) row letter
letter_later wanted t store R old mid new begun later row letter first second is =
    let s = walk_status wanted t old new begun later in
    letter_by_moved s.asks (unvouched_alike wanted t) R R (λ premise. premise) (IsLeftAsked store s.asks s.id new mid.last later begun.last) (IsLeftAsked store s.asks s.id new old.last later begun.last) store s.id
    (trees.now mid) (trees.now old) wanted row letter (left_ended store s.asks (unvouched_alike wanted t) s.id old mid new first second later begun.last row.path)
    (λ meets. alike_between old mid new row.path first second meets.own) is
