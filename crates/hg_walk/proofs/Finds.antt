-- What is found of a path that a look shows is right, and what is noted of it is earned.
use Rattle.std.proofs.Common.{ℕ, ◌≡◌, Bool, true, false, not, ◌&&◌, ◌||◌, cond, List, Option, Some, None, Result, Ok, Err, option_map, refl, sym, ap, ◌∙◌, subst, arith}
use Rattle.std.specs.Prelude.{IfSome, IsTrue, is_some}
use Rattle.hg_base.specs.declared.id.Id20.{Id20}
use Rattle.hg_base.specs.declared.stat.Stat.{Stat}
use Rattle.hg_base.specs.declared.time.Time.{Time}
use Rattle.hg_compare.specs.Alike.{contents_name, is_alike}
use Rattle.hg_compare.specs.Same.{StaysShown, parent_row}
use Rattle.hg_compare.specs.Tracked.{ParentRow, equal_bools, is_file_or_link, is_unchanged, tracked_letter}
use Rattle.hg_compare.specs.declared.letter.Letter.TheVariants as a_letter
use Rattle.hg_compare.specs.declared.looked.Looked.{Looked}
use Rattle.hg_compare.specs.declared.looked.Looked.TheVariants as a_look
use Rattle.hg_entry.specs.Entry.{EntryData, StampData}
use Rattle.hg_entry.specs.Steps.{seen_clean}
use Rattle.hg_entry.specs.Table.{marks_of}
use Rattle.hg_flat.specs.Course.{ComparesFound, IsComparedBy, IsFound, letter_of, upto}
use Rattle.hg_flat.specs.Met.{Status}
use Rattle.hg_flat.specs.Parent.{HasContents, IsServed, manifest_at, parent_rows, row_among, row_of}
use Rattle.hg_flat.specs.declared.parent.Parent.{Parent}
use Rattle.hg_shelf.specs.Polite.{StaysIn}
use Rattle.hg_manifest.specs.Rows.{Rows}
use Rattle.hg_manifest.specs.declared.fault.ManifestFault.{ManifestFault}
use Rattle.hg_manifest.specs.declared.row.FileRow.{FileRow}
use Rattle.hg_mtime.specs.Stamps.{stamp_of}
use Rattle.hg_mtime.specs.Vouching.{vouches}
use Rattle.hg_shelf.specs.History as shelves
use Rattle.hg_tree.specs.History as trees
use Rattle.hg_tree.specs.Honest.{IsHonest}
use Rattle.hg_tree.specs.Moment.{Moment, stat_at}
use Rattle.hg_tree.specs.declared.thing.Placed.{Placed}
use Rattle.hg_tree.specs.declared.thing.Thing.{Thing}
use Rattle.hg_tree.specs.declared.thing.Thing.TheVariants as a_thing
use Rattle.hg_walk.specs.Finding.{HasLetter, WasClock, rows_by, stamp_after}
use Rattle.hg_walk.specs.Trust.{IsEarned}
use Rattle.hg_walk.proofs.Noted.{noted_is_earned}

-- ---- a path for which its entry vouches

clean_by : (w there p2 p1 copied same : Bool)
    → cond w (Some (cond (not there) a_letter.Gone (cond p2 a_letter.M (cond (not p1) a_letter.A (cond copied a_letter.M (cond same a_letter.C a_letter.M)))))) (cond (p1 || p2) (Some a_letter.R) None) ≡ Some a_letter.C
    → same ≡ true
clean_by true true false true false true is = refl
clean_by true true false true false false is = absurd (cc is)
clean_by true true false true true same is = absurd (cc is)
clean_by true true false false copied same is = absurd (cc is)
clean_by true true true p1 copied same is = absurd (cc is)
clean_by true false p2 p1 copied same is = absurd (cc is)
clean_by false there p2 true copied same is = absurd (cc is)
clean_by false there true false copied same is = absurd (cc is)
clean_by false there false false copied same is = absurd (cc is)

no_bytes : (b : Bool) → (b && false) ≡ true → ⊥
no_bytes true is = absurd (cc is)
no_bytes false is = absurd (cc is)

-- what equals a row has contents
has_bytes : (row : FileRow) (file : Option (List ℕ)) (placed : Option Placed) → is_unchanged (Some (parent_row row file)) placed ≡ true → is_some file ≡ true
has_bytes row (Some bytes) placed is = refl
has_bytes row None None is = absurd (cc is)
has_bytes row None (Some placed) is = absurd (by placed.thing is)
  where
    by : (thing : Thing) → is_unchanged (Some (parent_row row None)) (Some (record { thing = thing; mtime = placed.mtime })) ≡ true → ⊥
    by (a_thing.File exec bytes) is = no_bytes (not row.link && equal_bools row.exec exec) is
    by (a_thing.Link target) is = no_bytes row.link is
    by a_thing.Dir is = absurd (cc is)
    by a_thing.Other is = absurd (cc is)

if_some_all : {A : Type 0} (o : Option A) (P : A → Type 0) → ((a : A) → P a) → IfSome o P
if_some_all None P all = tt
if_some_all (Some a) P all = all a

-- what equals the first parent's row was served
served_by : (files : shelves.Files) (id : Id20) (moment : Moment) (path : List ℕ) → is_unchanged (parent_rows files id path) (moment.things path) ≡ true → IsServed files id moment path
served_by files id moment path same = by (manifest_at files id) refl
  where
    row_at : FileRow → ParentRow
    row_at row = parent_row row (files (contents_name row.id.0))

    contents : (found : Option FileRow) → is_unchanged (option_map row_at found) (moment.things path) ≡ true → HasContents files moment path found
    contents None same = tt
    contents (Some row) same =
        if_some_all (stat_at moment path) (λ stat. IsTrue (is_alike row stat) → IsTrue (is_some (files (contents_name row.id.0))))
        (λ stat alike. has_bytes row (files (contents_name row.id.0)) (moment.things path) same)

    by : (manifest : Result Rows ManifestFault) → manifest_at files id ≡ manifest → IsServed files id moment path
    by (Err fault) is =
        let none : is_unchanged None (moment.things path) ≡ true =
        subst (λ (r : Result Rows ManifestFault). is_unchanged (option_map row_at (row_among r path)) (moment.things path) ≡ true) is same in absurd (cc none)
    by (Ok rows) is = record {
      rows = rows;
      formed = is;
      contents =
          contents (row_of rows path)
          (subst (λ (r : Result Rows ManifestFault). is_unchanged (option_map row_at (row_among r path)) (moment.things path) ≡ true) is same);
    }

found_same : (files : shelves.Files) (id : Id20) (moment : Moment) (path : List ℕ) → is_unchanged (parent_rows files id path) (moment.things path) ≡ true → IsFound files id moment path a_letter.C
found_same files id moment path same = record {
  letter_is = sym (ap (λ (b : Bool). cond b a_letter.C a_letter.M) same);
  served = served_by files id moment path same;
}

-- where the entry vouches, and the record's times are right, the path is clean
pub vouched_letter : (path : List ℕ) (entry : EntryData) (copied : Bool) (before : Stat) (copy : trees.History) (files : shelves.History) → vouches entry copied before ≡ true
    → (s : Status) (parent : Parent)
    → HasLetter (record { path = path; entry = entry; copied = copied; before = before; tree_old = copy; tree_new = copy; shelf_old = files; shelf_new = files }) s parent a_letter.C
vouched_letter path entry copied before copy files vouched s parent store table reached right recorded stays keeps =
    found_same store s.id (trees.now copy) path
    (clean_by entry.w (is_file_or_link ((trees.now copy).things path)) entry.p2 entry.p1 copied (is_unchanged (rows_by store s path) ((trees.now copy).things path))
    (subst (λ (b : Bool). tracked_letter (rows_by store s path) (marks_of entry) b ((trees.now copy).things path) ≡ Some a_letter.C) (sym recorded.copied)
    ((right vouched).clean copy.last path entry before reached.goes.tree.past.later (omega arith) recorded.entry reached.shown
    (subst (λ (b : Bool). vouches entry b before ≡ true) recorded.copied vouched))))

-- ---- a path that is compared

-- what is noted of it is earned
pub noted_earned : (store : shelves.Files) (s : Status) (copy later : trees.History) (files : shelves.History) (path : List ℕ) (before : Stat) (boundary : Time) (looked : Looked) (stamp : StampData) (entry : EntryData)
    → IsComparedBy store (upto s later files) copy path before looked → stamp_after looked before.mtime boundary ≡ Some stamp → trees.Extends copy later → IsHonest later → IsTrue copy.told
    → WasClock copy boundary → stat_at (trees.now copy) path ≡ Some before → IsEarned (rows_by store s) later path (seen_clean entry before stamp) stamp
noted_earned store s copy later files path before boundary (a_look.Same true) stamp entry compared is past honest told clock shown = by compared.found compared.rows compared.stays compared.compared
  where
    by : (found : Option FileRow) → rows_by store s path ≡ option_map (λ row. parent_row row (store (contents_name row.id.0))) found
        → IfSome found (λ row. StaysIn store files compared.since.last (contents_name row.id.0))
        → ComparesFound path copy later compared.since files found before (a_look.Same true) → IsEarned (rows_by store s) later path (seen_clean entry before stamp) stamp
    by None rows stays saw = absurd (cc saw)
    by (Some row) rows stays saw =
        noted_is_earned (record { path = path; name = contents_name row.id.0; tree_old = copy; tree_new = later; shelf_old = compared.since; shelf_new = files }) row before store boundary stamp
        (rows_by store s) entry clock.at copy.last past honest told compared.told stays clock.within (omega arith) (clock.is ∙ ap (λ (m : Moment). m.clock) (sym (past.stay clock.at clock.within)))
        (ap (λ (m : Moment). stat_at m path) (past.stay copy.last (omega arith)) ∙ shown) saw is rows
noted_earned store s copy later files path before boundary (a_look.Same false) stamp entry compared is past honest told clock shown = absurd (cc is)
noted_earned store s copy later files path before boundary a_look.Differs stamp entry compared is past honest told clock shown = absurd (cc is)
noted_earned store s copy later files path before boundary a_look.Gone stamp entry compared is past honest told clock shown = absurd (cc is)

-- a time is noted behind a comparison that was the same
pub noted_clean : (looked : Looked) (time boundary : Time) (stamp : StampData) → stamp_after looked time boundary ≡ Some stamp → (letter_of looked ≡ a_letter.C) × (stamp_of time boundary ≡ Some stamp)
noted_clean (a_look.Same true) time boundary stamp is = (refl, is)
noted_clean (a_look.Same false) time boundary stamp is = absurd (cc is)
noted_clean a_look.Differs time boundary stamp is = absurd (cc is)
noted_clean a_look.Gone time boundary stamp is = absurd (cc is)

-- of a path that stays the comparison is settled, and its time is noted
pub noted_settled : (store : shelves.Files) (s : Status) (copy later : trees.History) (files : shelves.History) (path : List ℕ) (before : Stat) (boundary : Time) (looked : Looked)
    → IsComparedBy store (upto s later files) copy path before looked → trees.Extends copy later → IsTrue copy.told → StaysShown copy later path → stat_at (trees.now copy) path ≡ Some before
    → letter_of looked ≡ a_letter.C → stamp_after looked before.mtime boundary ≡ stamp_of before.mtime boundary
noted_settled store s copy later files path before boundary (a_look.Same true) compared past told stays shown clean = refl
noted_settled store s copy later files path before boundary (a_look.Same false) compared past told stays shown clean = absurd (by compared.found compared.compared)
  where
    by : (found : Option FileRow) → ComparesFound path copy later compared.since files found before (a_look.Same false) → ⊥
    by None saw = absurd (cc saw)
    by (Some row) saw =
        let ends = saw.2 told in
        let last : stat_at (trees.now later) path ≡ Some before =
        stays.stat later.last past.later (omega arith) ∙ ap (λ (m : Moment). stat_at m path) (past.stay copy.last (omega arith)) ∙ shown in
        let after : Some ends.0 ≡ Some before = sym ends.1 ∙ last in ends.2 (cc after)
noted_settled store s copy later files path before boundary a_look.Differs compared past told stays shown clean = absurd (cc clean)
noted_settled store s copy later files path before boundary a_look.Gone compared past told stays shown clean = absurd (cc clean)

pub if_some_is : {A : Type 0} (o : Option A) (P : A → Type 0) → ((a : A) → o ≡ Some a → P a) → IfSome o P
if_some_is None P each = tt
if_some_is (Some a) P each = each a refl
