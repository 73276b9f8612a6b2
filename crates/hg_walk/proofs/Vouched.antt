-- A path for which an entry of a trusted record vouches is clean.
use Rattle.std.proofs.Common.{ℕ, ◌≡◌, Bool, true, false, not, ◌&&◌, ◌||◌, cond, List, Option, Some, None, option_map, refl, sym, ap, ◌∙◌, subst, true≢false}
use Rattle.std.specs.Prelude.{◌≢◌, is_some}
use Rattle.std.proofs.lemmas.Bool.{and_from, and_parts}
use Rattle.std.proofs.lemmas.Slice.Eq.{bytes_eq-Decides}
use Rattle.hg_base.specs.declared.stat.Kind.{Kind}
use Rattle.hg_base.specs.declared.stat.Kind.TheVariants as a_kind
use Rattle.hg_base.specs.declared.stat.Stat.{Stat}
use Rattle.hg_base.specs.declared.time.Time.{Time}
use Rattle.hg_compare.specs.Tracked.{ParentRow, equal_bools, equal_bytes, equals_row, is_file_or_link, is_file_or_link_thing, is_unchanged, tracked_letter}
use Rattle.hg_compare.specs.declared.letter.Letter.TheVariants as a_letter
use Rattle.hg_entry.specs.Entry.{EntryData}
use Rattle.hg_entry.specs.Table.{marks_of}
use Rattle.hg_mtime.specs.Vouching.{has_mode, may_vouch, same_bools}
use Rattle.hg_mtime.proofs.Tests.{match_tells, vouch_tells}
use Rattle.hg_tree.specs.Honest.{face, face_of, face_with, has_name}
use Rattle.hg_tree.specs.Moment.{stat_of}
use Rattle.hg_tree.specs.declared.thing.Placed.{Placed}
use Rattle.hg_tree.specs.declared.thing.Thing.{Thing}
use Rattle.hg_tree.specs.declared.thing.Thing.TheVariants as a_thing
use Rattle.hg_walk.specs.Laws.{VouchedIsClean}
use Rattle.hg_walk.specs.Seeing.{IsFaceOf, row_kind}
use Rattle.hg_walk.specs.Trust.{has_flag}
use Rattle.hg_walk.proofs.Again.{again}

-- ---- the letter

not_true : (b : Bool) → not b ≡ true → b ≡ false
not_true true is = sym is
not_true false is = refl

pub record AreMarks (entry : EntryData) (copied : Bool) : Type 0 where
  pub w : entry.w ≡ true
  pub p1 : entry.p1 ≡ true
  pub p2 : entry.p2 ≡ false
  pub uncopied : copied ≡ false

pub marks_told : (entry : EntryData) (copied : Bool) → may_vouch entry copied ≡ true → AreMarks entry copied
marks_told entry copied is =
    let last = and_parts (entry.w && entry.p1 && not entry.p2 && not copied) (not entry.modified) is in
    let third = and_parts (entry.w && entry.p1 && not entry.p2) (not copied) last.0 in
    let second = and_parts (entry.w && entry.p1) (not entry.p2) third.0 in
    let first = and_parts entry.w entry.p1 second.0 in
    record { w = first.0; p1 = first.1; p2 = not_true entry.p2 second.1; uncopied = not_true copied third.1 }

chain : (w p1 p2 copied there same : Bool) → w ≡ true → p1 ≡ true → p2 ≡ false → copied ≡ false → there ≡ true → same ≡ true
    → cond w (Some (cond (not there) a_letter.Gone (cond p2 a_letter.M (cond (not p1) a_letter.A (cond copied a_letter.M (cond same a_letter.C a_letter.M)))))) (cond (p1 || p2) (Some a_letter.R) None) ≡ Some a_letter.C
chain w p1 p2 copied there same a b c d e f = λ i.
    cond (a i) (Some (cond (not (e i)) a_letter.Gone (cond (c i) a_letter.M (cond (not (b i)) a_letter.A (cond (d i) a_letter.M (cond (f i) a_letter.C a_letter.M)))))) (cond (b i || c i) (Some a_letter.R) None)

pub clean_letter : (row : Option ParentRow) (entry : EntryData) (copied : Bool) (placed : Option Placed) → AreMarks entry copied → is_file_or_link placed ≡ true → is_unchanged row placed ≡ true
    → tracked_letter row (marks_of entry) copied placed ≡ Some a_letter.C
clean_letter row entry copied placed marks there same = chain entry.w entry.p1 entry.p2 copied (is_file_or_link placed) (is_unchanged row placed) marks.w marks.p1 marks.p2 marks.uncopied there same

-- ---- what has the row's face and the recorded mode equals the row

kind_link : (link : Bool) → cond link a_kind.Link a_kind.File ≡ a_kind.Link → link ≡ true
kind_link true is = refl
kind_link false is = absurd (cc is)

kind_file : (link : Bool) → cond link a_kind.Link a_kind.File ≡ a_kind.File → link ≡ false
kind_file true is = absurd (cc is)
kind_file false is = refl

same_exec : (row noted shown : Bool) → equal_bools row noted ≡ true → same_bools noted shown ≡ true → equal_bools row shown ≡ true
same_exec true true shown p q = q
same_exec true false shown p q = absurd (cc p)
same_exec false true shown p q = absurd (cc p)
same_exec false false shown p q = q

or_second : (x y : Bool) → x ≡ false → (x || y) ≡ true → y ≡ true
or_second true y none is = absurd (cc none)
or_second false y none is = is

equal_some : (file : Option (List ℕ)) (bytes : List ℕ) → file ≡ Some bytes → equal_bytes file bytes ≡ true
equal_some file bytes is = ap (λ (f : Option (List ℕ)). equal_bytes f bytes) is ∙ (bytes_eq-Decides bytes bytes).1 refl

kinds_one : (a b : Kind) → Some a ≡ Some b → a ≡ b
kinds_one a b is = cc is

pub record IsSameThing (row : ParentRow) (thing : Thing) : Type 0 where
  pub there : is_file_or_link_thing thing ≡ true
  pub same : equals_row row thing ≡ true

same_thing : (row : ParentRow) (entry : EntryData) (thing : Thing) (mtime : Time) (names : List ℕ → Bool) → has_flag row entry ≡ true
    → has_mode entry (stat_of thing mtime).kind (stat_of thing mtime).exec ≡ true → IsFaceOf row (face_of thing mtime names) → IsSameThing row thing
same_thing row entry (a_thing.File exec bytes) mtime names flag mode so =
    let file = kind_file row.link (sym (kinds_one a_kind.File (row_kind row) so.kind)) in
    let modes = and_parts (not entry.link) (same_bools entry.exec exec) mode in
    let flags = and_parts (equal_bools row.link entry.link) (entry.link || equal_bools row.exec entry.exec) flag in
    let own = or_second entry.link (equal_bools row.exec entry.exec) (not_true entry.link modes.0) flags.1 in
    record {
      there = refl;
      same =
          and_from (not row.link && equal_bools row.exec exec) (equal_bytes row.bytes bytes)
          (and_from (not row.link) (equal_bools row.exec exec) (ap not file) (same_exec row.exec entry.exec exec own modes.1)) (equal_some row.bytes bytes so.bytes);
    }
same_thing row entry (a_thing.Link target) mtime names flag mode so =
    let link = kind_link row.link (sym (kinds_one a_kind.Link (row_kind row) so.kind)) in
    record { there = refl; same = and_from row.link (equal_bytes row.bytes target) link (equal_some row.bytes target so.bytes) }
same_thing row entry a_thing.Dir mtime names flag mode so = absurd (cc mode)
same_thing row entry a_thing.Other mtime names flag mode so = absurd (cc mode)

pub record IsSamePlaced (row : ParentRow) (placed : Option Placed) : Type 0 where
  pub there : is_file_or_link placed ≡ true
  pub same : is_unchanged (Some row) placed ≡ true

same_placed : (row : ParentRow) (entry : EntryData) (placed : Option Placed) (names : List ℕ → Bool) (stat : Stat) → has_flag row entry ≡ true
    → option_map (λ (p : Placed). stat_of p.thing p.mtime) placed ≡ Some stat → has_mode entry stat.kind stat.exec ≡ true → IsFaceOf row (face_with names placed) → IsSamePlaced row placed
same_placed row entry None names stat flag shown mode so = absurd (cc shown)
same_placed row entry (Some placed) names stat flag shown mode so =
    let is : stat_of placed.thing placed.mtime ≡ stat = cc shown in
    let same = same_thing row entry placed.thing placed.mtime names flag (subst (λ (s : Stat). has_mode entry s.kind s.exec ≡ true) (sym is) mode) so in
    record { there = same.there; same = same.same }

mode_kind : (entry : EntryData) (kind : Kind) (exec : Bool) → has_mode entry kind exec ≡ true → kind ≢ a_kind.Other
mode_kind entry kind exec mode = λ other. true≢false (sym mode ∙ ap (λ (k : Kind). has_mode entry k exec) other)

some_size : (size : Option ℕ) (n : ℕ) → size ≡ Some n → is_some size ≡ true
some_size size n is = ap is_some is

pub vouched_is_clean : VouchedIsClean
vouched_is_clean rows table old new p honest trusted k path entry stat from upto is shown vouch =
    let v = vouch_tells entry (is_some (table.sources path)) stat vouch in
    let earned = trusted.entries path entry v.stamp is (record { marks = v.marks; size = some_size entry.size v.size v.size_is; stamp_is = v.stamp_is }) in
    let so : IsFaceOf earned.row (face (new.at k) path) =
    again (IsFaceOf earned.row) old new p honest path v.stamp earned.seen k stat from upto shown (mode_kind entry stat.kind stat.exec v.mode) (match_tells v.stamp stat.mtime v.match).has in
    let same = same_placed earned.row entry ((new.at k).things path) (has_name (new.at k) path) stat earned.flag shown v.mode so in
    clean_letter (rows path) entry (is_some (table.sources path)) ((new.at k).things path) (marks_told entry (is_some (table.sources path)) v.marks) same.there
    (ap (λ (r : Option ParentRow). is_unchanged r ((new.at k).things path)) earned.is ∙ same.same)
