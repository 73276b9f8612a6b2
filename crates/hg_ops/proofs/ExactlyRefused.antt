-- Where nobody else touches a word's path, and what the first parent has of it is a store's, `remove` refuses it exactly as one moment and the store say.
use Rattle.std.proofs.Common.{ℕ, zero, suc, ◌≡◌, ◌⊎◌, ◌≤◌, ◌<◌, ◌+◌, ◌-◌, Bool, true, false, not, ◌&&◌, ◌||◌, cond, List, Option, Some, None, Result, option_map, inl, inr, refl, sym, ap, ◌∙◌, subst, arith}
use Rattle.std.specs.Prelude.{IsTrue, IfSome, MatchBool, is_some}
use Rattle.hg_base.specs.PathText.{is_path}
use Rattle.hg_base.specs.declared.stat.Stat.{Stat}
use Rattle.hg_base.specs.declared.time.Time.{Time}
use Rattle.hg_compare.specs.Alike.{contents_name, is_alike}
use Rattle.hg_compare.specs.Same.{IsOther, IsSame, StaysShown, parent_row}
use Rattle.hg_compare.specs.Seen.{SeesNothing}
use Rattle.hg_compare.specs.Tracked.{ParentRow, is_file_or_link, is_file_or_link_thing, is_unchanged, tracked_letter}
use Rattle.hg_compare.specs.declared.letter.Letter.TheVariants as a_letter
use Rattle.hg_compare.specs.declared.looked.Looked.TheVariants as a_look
use Rattle.hg_compare.proofs.Deciding.{decides_in}
use Rattle.hg_entry.specs.Entry.{EntryData}
use Rattle.hg_entry.specs.Steps.{is_file}
use Rattle.hg_entry.specs.Table.{Table, marks_of}
use Rattle.hg_manifest.specs.Rows.{Rows}
use Rattle.hg_manifest.specs.declared.fault.ManifestFault.{ManifestFault}
use Rattle.hg_manifest.specs.declared.row.FileRow.{FileRow}
use Rattle.hg_ops.specs.Look.{WasShown}
use Rattle.hg_ops.specs.Parent.{IsManifest, KeepsRow, Span, parent_rows, row_among}
use Rattle.hg_ops.specs.Parents.{row_at}
use Rattle.hg_ops.specs.Remove.{IsAsRow, IsChangedFile, IsUnchangedFile, IsUnlikeRow, OthersLeave, RefusesBehind, RefusesByRow, RefusesFile, RefusesShown, Removes, compared, early_refusal, entry_refusal, first_refusal, is_added, is_by_row, is_modified, needs_row, placed_refusal, remove_refusal}
use Rattle.hg_ops.specs.declared.refusal.Refusal.{Refusal}
use Rattle.hg_ops.specs.declared.refusal.Refusal.TheVariants as a_refusal
use Rattle.hg_ops.proofs.ReadParent.{contents_kept, manifest_then}
use Rattle.hg_shelf.specs.History as shelves
use Rattle.hg_shelf.specs.Polite.{StaysIn}
use Rattle.hg_tree.specs.History.{Extends, History, Passes, now, others}
use Rattle.hg_tree.specs.Moment.{Moment, bytes_at, stat_at, stat_of}
use Rattle.hg_tree.specs.Still.{Keeps}
use Rattle.hg_tree.specs.declared.thing.Placed.{Placed}
use Rattle.hg_tree.specs.declared.thing.Thing.{Thing}
use Rattle.hg_tree.specs.declared.thing.Thing.TheVariants as a_thing

-- ---- what others leave stays

keeps_each : {A : Type 0} (shown : Moment → A) (h : History) (from : ℕ) → ((k : ℕ) → from ≤ k → k < h.last → shown (h.at (suc k)) ≡ shown (h.at k)) → Keeps shown h from
keeps_each {A} shown h from step k above upto = ap (λ (n : ℕ). shown (h.at n)) (omega (arith, above)) ∙ up (k - from) (omega (arith, above, upto))
  where
    up : (n : ℕ) → from + n ≤ h.last → shown (h.at (from + n)) ≡ shown (h.at from)
    up zero within = ap (λ (m : ℕ). shown (h.at m)) (omega arith)
    up (suc n) within =
        let next : from + suc n ≡ suc (from + n) = omega arith in
        ap (λ (m : ℕ). shown (h.at m)) next ∙ step (from + n) (omega arith) (omega (arith, within)) ∙ up n (omega (arith, within))

module _ (old mid new : History) (path : List ℕ) (looks : Passes old mid) (past : Extends mid new) (leave : OthersLeave old new path) where
  step : {A : Type 0} (shown : Moment → A) → ((k : ℕ) → old.last ≤ k → k < new.last → new.who k ≡ others → shown (new.at (suc k)) ≡ shown (new.at k)) → (k : ℕ) → old.last ≤ k → k < mid.last
      → shown (mid.at (suc k)) ≡ shown (mid.at k)
  step shown each k from upto =
      ap shown (sym (past.stay (suc k) (omega (arith, upto)))) ∙ each k from (omega (arith, upto, past.later)) (past.who k upto ∙ looks.by_others k from upto) ∙ ap shown (past.stay k (omega (arith, upto)))

  stays : StaysShown old mid path
  stays = record {
    stat = keeps_each (λ moment. stat_at moment path) mid old.last (step (λ moment. stat_at moment path) (λ k from upto who. (leave.each k from upto who).stat));
    bytes = keeps_each (λ moment. bytes_at moment path) mid old.last (step (λ moment. bytes_at moment path) (λ k from upto who. (leave.each k from upto who).bytes));
  }

  -- what was shown is what the start shows
  shown_then : (shown : Option Stat) → WasShown old mid path shown → shown ≡ stat_at (now old) path
  shown_then shown was = was.shown_then ∙ stays.stat was.moment was.later was.upto ∙ ap (λ (m : Moment). stat_at m path) (looks.past.stay old.last (omega arith))

-- ---- a comparison

module _ (store : shelves.Files) (path : List ℕ) (old mid : History) (s : Span) (before : Stat) (looks : Passes old mid) (told : IsTrue old.told) (stays : StaysShown old mid path) (reads : shelves.Passes s.old s.new)
    (keeps : KeepsRow store s.new s.old.last s.id path) (shown : stat_at (now old) path ≡ Some before) where
  abbrev stood : Option Placed
  stood = (now old).things path

  held : IsTrue s.old.told
  held = sym reads.past.told ∙ keeps.told

  rows_are : (rows : Rows) → IsManifest s rows → parent_rows store s.id path ≡ option_map (λ row. parent_row row (store (contents_name row.id.0))) (row_at rows path)
  rows_are rows read =
      ap (λ (r : Result Rows ManifestFault). option_map (λ row. parent_row row (store (contents_name row.id.0))) (row_among r path)) (manifest_then store s rows path reads keeps read)

  row_is : (rows : Rows) (row : FileRow) → IsManifest s rows → row_at rows path ≡ Some row → parent_rows store s.id path ≡ Some (parent_row row (store (contents_name row.id.0)))
  row_is rows row read has = rows_are rows read ∙ ap (λ (o : Option FileRow). option_map (λ row. parent_row row (store (contents_name row.id.0))) o) has

  file_stays : (rows : Rows) (row : FileRow) → IsManifest s rows → row_at rows path ≡ Some row → StaysIn store s.new s.old.last (contents_name row.id.0)
  file_stays rows row read has =
      subst (λ (o : Option FileRow). IfSome o (λ row. StaysIn store s.new s.old.last (contents_name row.id.0))) has (contents_kept store s rows path keeps (manifest_then store s rows path reads keeps read))

  abbrev equal : FileRow → Bool
  equal row = is_unchanged (Some (parent_row row (store (contents_name row.id.0)))) stood

  settled : stat_at (now mid) path ≡ Some before
  settled = stays.stat mid.last looks.past.later (omega arith) ∙ ap (λ (m : Moment). stat_at m path) (looks.past.stay old.last (omega arith)) ∙ shown

  as_row : (rows : Rows) (row : FileRow) → IsManifest s rows → row_at rows path ≡ Some row → IsAsRow (compared path row old mid s.old s.new) row before → equal row ≡ true
  as_row rows row read has is = by is.seen
    where
      by : (IsSame (compared path row old mid s.old s.new) before) ⊎ (SeesNothing (compared path row old mid s.old s.new)) → equal row ≡ true
      by (inl same) =
          (decides_in store (compared path row old mid s.old s.new) held (file_stays rows row read has) row before (a_look.Same true) looks (is.alike, same, λ known. (before, settled, refl)) told stays shown).0
      by (inr none) =
          absurd
          (decides_in store (compared path row old mid s.old s.new) held (file_stays rows row read has) row before a_look.Gone looks (is.alike, none) told stays shown)

  pub unchanged_is : IsUnchangedFile path old mid s before → is_unchanged (parent_rows store s.id path) stood ≡ true
  unchanged_is is = ap (λ (o : Option ParentRow). is_unchanged o stood) (row_is is.rows is.row is.read is.has) ∙ as_row is.rows is.row is.read is.has is.seen

  unlike : (rows : Rows) → IsManifest s rows → (o : Option FileRow) → row_at rows path ≡ o → IsUnlikeRow path old mid s before o → is_unchanged (parent_rows store s.id path) stood ≡ false
  unlike rows read None has seen = ap (λ (o : Option ParentRow). is_unchanged o stood) (rows_are rows read ∙ ap (λ (o : Option FileRow). option_map (λ row. parent_row row (store (contents_name row.id.0))) o) has)
  unlike rows read (Some row) has seen =
      ap (λ (o : Option ParentRow). is_unchanged o stood) (row_is rows row read has)
      ∙ decides_in store (compared path row old mid s.old s.new) held (file_stays rows row read has) row before a_look.Differs looks (differs seen) told stays shown
    where
      differs : (is_alike row before ≡ false) ⊎ IsOther (compared path row old mid s.old s.new) before
          → (is_alike row before ≡ false) ⊎ ((is_alike row before ≡ true) × IsOther (compared path row old mid s.old s.new) before)
      differs (inl other) = inl other
      differs (inr other) = by (is_alike row before) refl
        where
          by : (b : Bool) → is_alike row before ≡ b → (is_alike row before ≡ false) ⊎ ((is_alike row before ≡ true) × IsOther (compared path row old mid s.old s.new) before)
          by true is = inr (is, other)
          by false is = inl is

  pub changed_is : IsChangedFile path old mid s before → is_unchanged (parent_rows store s.id path) stood ≡ false
  changed_is is = unlike is.rows is.read (row_at is.rows path) refl is.seen

-- ---- the letter M

abbrev chain : Bool → Bool → Bool → Bool → Bool → Bool → Bool
chain w p1 p2 copied there same =
    is_modified
    (cond w (Some (cond (not there) a_letter.Gone (cond p2 a_letter.M (cond (not p1) a_letter.A (cond copied a_letter.M (cond same a_letter.C a_letter.M))))))
    (cond (p1 || p2) (Some a_letter.R) None))

chain_is : (row : Option ParentRow) (entry : EntryData) (copied : Bool) (placed : Option Placed)
    → is_modified (tracked_letter row (marks_of entry) copied placed) ≡ chain entry.w entry.p1 entry.p2 copied (is_file_or_link placed) (is_unchanged row placed)
chain_is row entry copied placed = refl

chain_by : (w p1 p2 copied there same : Bool) → w ≡ true → (not p1 && not p2) ≡ false → chain w p1 p2 copied there same ≡ (there && not ((w && p1 && not p2 && not copied) && same))
chain_by true p1 p2 copied false same is some = refl
chain_by true true true copied true same is some = refl
chain_by true false true copied true same is some = refl
chain_by true true false true true same is some = refl
chain_by true true false false true true is some = refl
chain_by true true false false true false is some = refl
chain_by true false false copied true same is some = absurd (cc some)
chain_by false p1 p2 copied there same is some = absurd (cc is)

modified_by : (row : Option ParentRow) (entry : EntryData) (copied : Bool) (placed : Option Placed) → entry.w ≡ true → is_added entry ≡ false
    → is_modified (tracked_letter row (marks_of entry) copied placed) ≡ (is_file_or_link placed && not (is_by_row (Some entry) copied && is_unchanged row placed))
modified_by row entry copied placed w some =
    chain_is row entry copied placed ∙ chain_by entry.w entry.p1 entry.p2 copied (is_file_or_link placed) (is_unchanged row placed) w some

-- ---- what is recorded

pub record IsEarly (after : Bool) (word : List ℕ) (t : Table) : Type 0 where
  pub path : is_path word ≡ true
  pub entry : EntryData
  pub has : t.entries word ≡ Some entry
  pub tracked : entry.w ≡ true
  pub some : after ≡ false → is_added entry ≡ false

entry_early : (after w added : Bool) → cond w (cond (not after && added) (Some a_refusal.Added) None) (Some a_refusal.NotTracked) ≡ None → (w ≡ true) × (after ≡ false → added ≡ false)
entry_early after false added is = absurd (cc is)
entry_early true true added is = (refl, λ never. absurd (cc never))
entry_early false true true is = absurd (cc is)
entry_early false true false is = (refl, λ never. refl)

pub early_none : (after : Bool) (word : List ℕ) (t : Table) → early_refusal after word t ≡ None → IsEarly after word t
early_none after word t is = by (is_path word) refl (t.entries word) refl is
  where
    by : (path : Bool) → is_path word ≡ path → (o : Option EntryData) → t.entries word ≡ o → cond path (entry_refusal after o) (Some a_refusal.BadPath) ≡ None → IsEarly after word t
    by false path o has is = absurd (cc is)
    by true path None has is = absurd (cc is)
    by true path (Some entry) has is =
        let e = entry_early after entry.w (is_added entry) is in record { path = path; entry = entry; has = has; tracked = e.0; some = e.1 }

-- ---- the refusal

thing_file : (thing : Thing) (mtime : Time) → is_file (stat_of thing mtime).kind ≡ is_file_or_link_thing thing
thing_file (a_thing.File exec bytes) mtime = refl
thing_file (a_thing.Link target) mtime = refl
thing_file a_thing.Dir mtime = refl
thing_file a_thing.Other mtime = refl

-- what a table and a comparison say
module _ (after : Bool) (word : List ℕ) (t : Table) (old mid : History) (s : Span) (row : Option ParentRow) (placed : Option Placed) (e : IsEarly after word t) (refused : Option Refusal)
    (same_row : (before : Stat) → option_map (λ (p : Placed). stat_of p.thing p.mtime) placed ≡ Some before → needs_row after word t ≡ true → IsUnchangedFile word old mid s before → is_unchanged row placed ≡ true)
    (other_row : (before : Stat) → option_map (λ (p : Placed). stat_of p.thing p.mtime) placed ≡ Some before → needs_row after word t ≡ true → IsChangedFile word old mid s before → is_unchanged row placed ≡ false) where
  abbrev copied : Bool
  copied = is_some (t.sources word)

  needs_is : after ≡ false → needs_row after word t ≡ is_by_row (Some e.entry) copied
  needs_is never =
      ap (λ (b : Bool). b && not after && is_by_row (t.entries word) copied) e.path
      ∙ ap (λ (b : Bool). true && not b && is_by_row (t.entries word) copied) never
      ∙ ap (λ (o : Option EntryData). is_by_row o copied) e.has

  abbrev modified : Bool
  modified = is_modified (tracked_letter row (marks_of e.entry) copied placed)

  modified_is : after ≡ false → modified ≡ (is_file_or_link placed && not (is_by_row (Some e.entry) copied && is_unchanged row placed))
  modified_is never = modified_by row e.entry copied placed e.tracked (e.some never)

  -- by whether a file stands there, the flag, and the letter
  abbrev goal : Bool → Bool → Bool → Option Refusal
  goal there true m = cond there (Some a_refusal.StillThere) None
  goal there false m = cond m (Some a_refusal.Changed) None

  goal_is : placed_refusal after (t.entries word) copied row placed ≡ goal (is_file_or_link placed) after modified
  goal_is = ap (λ (o : Option EntryData). placed_refusal after o copied row placed) e.has ∙ by after
    where
      by : (a : Bool) → placed_refusal a (Some e.entry) copied row placed ≡ goal (is_file_or_link placed) a modified
      by true = refl
      by false = refl

  nothing : (a : Bool) → after ≡ a → is_file_or_link placed ≡ false → goal (is_file_or_link placed) a modified ≡ None
  nothing true is none = ap (λ (b : Bool). cond b (Some a_refusal.StillThere) None) none
  nothing false is none =
      ap (λ (b : Bool). cond b (Some a_refusal.Changed) None)
      (modified_is is ∙ ap (λ (b : Bool). b && not (is_by_row (Some e.entry) copied && is_unchanged row placed)) none)

  letter : (there needs same : Bool) → after ≡ false → is_file_or_link placed ≡ there → is_by_row (Some e.entry) copied ≡ needs → is_unchanged row placed ≡ same → modified ≡ (there && not (needs && same))
  letter there needs same never is by_row unchanged =
      modified_is never
      ∙ ap (λ (b : Bool). b && not (is_by_row (Some e.entry) copied && is_unchanged row placed)) is
      ∙ ap (λ (b : Bool). there && not (b && is_unchanged row placed)) by_row
      ∙ ap (λ (b : Bool). there && not (needs && b)) unchanged

  by_row_refused : (before : Stat) → option_map (λ (p : Placed). stat_of p.thing p.mtime) placed ≡ Some before → after ≡ false → is_file_or_link placed ≡ true → needs_row after word t ≡ true → (r : Option Refusal) → RefusesByRow word old mid s before r
      → r ≡ cond modified (Some a_refusal.Changed) None
  by_row_refused before shown never file needs None is =
      sym (ap (λ (b : Bool). cond b (Some a_refusal.Changed) None) (letter true true true never file (sym (needs_is never) ∙ needs) (same_row before shown needs is)))
  by_row_refused before shown never file needs (Some a_refusal.Changed) is =
      sym (ap (λ (b : Bool). cond b (Some a_refusal.Changed) None) (letter true true false never file (sym (needs_is never) ∙ needs) (other_row before shown needs is)))
  by_row_refused before shown never file needs (Some refusal) is = absurd is

  letter_marked : (same : Bool) → after ≡ false → is_file_or_link placed ≡ true → is_by_row (Some e.entry) copied ≡ false → is_unchanged row placed ≡ same → modified ≡ true
  letter_marked same never file by_row unchanged = letter true false same never file by_row unchanged

  there : (before : Stat) → option_map (λ (p : Placed). stat_of p.thing p.mtime) placed ≡ Some before → is_file_or_link placed ≡ true → (a : Bool) → after ≡ a → (needs : Bool) → needs_row after word t ≡ needs
      → MatchBool a (refused ≡ Some a_refusal.StillThere) (MatchBool needs (RefusesByRow word old mid s before refused) (refused ≡ Some a_refusal.Changed)) → refused ≡ goal (is_file_or_link placed) a modified
  there before shown file true is needs needs_are refuses = refuses ∙ sym (ap (λ (b : Bool). cond b (Some a_refusal.StillThere) None) file)
  there before shown file false is true needs_are refuses = by_row_refused before shown is file needs_are refused refuses
  there before shown file false is false needs_are refuses =
      refuses ∙ sym (ap (λ (b : Bool). cond b (Some a_refusal.Changed) None) (letter_marked (is_unchanged row placed) is file (sym (needs_is is) ∙ needs_are) refl))

  of_goal : refused ≡ goal (is_file_or_link placed) after modified → refused ≡ placed_refusal after (t.entries word) copied row placed
  of_goal is = is ∙ sym goal_is

  file_or_none : (before : Stat) → option_map (λ (p : Placed). stat_of p.thing p.mtime) placed ≡ Some before → (file : Bool) → is_file_or_link placed ≡ file
      → MatchBool file (RefusesFile after (needs_row after word t) word old mid s before refused) (refused ≡ None) → refused ≡ goal (is_file_or_link placed) after modified
  file_or_none before shown true is refuses = there before shown is after refl (needs_row after word t) refl refuses
  file_or_none before shown false is refuses = refuses ∙ sym (nothing after refl is)

  pub placed_refused : (shown : Option Stat) → shown ≡ option_map (λ (p : Placed). stat_of p.thing p.mtime) placed → ((before : Stat) → shown ≡ Some before → is_file before.kind ≡ is_file_or_link placed) → (shown ≡ None → is_file_or_link placed ≡ false)
      → RefusesShown after (needs_row after word t) word old mid s shown refused → refused ≡ placed_refusal after (t.entries word) copied row placed
  placed_refused None shown kind never refuses = of_goal (refuses ∙ sym (nothing after refl (never refl)))
  placed_refused (Some before) shown kind never refuses =
      of_goal
      (file_or_none before (sym shown) (is_file_or_link placed) refl
      (subst (λ (b : Bool). MatchBool b (RefusesFile after (needs_row after word t) word old mid s before refused) (refused ≡ None)) (kind before refl) refuses))

-- a stat shows whether a file or a link stands there
kind_shown : (placed : Option Placed) (before : Stat) → option_map (λ (p : Placed). stat_of p.thing p.mtime) placed ≡ Some before → is_file before.kind ≡ is_file_or_link placed
kind_shown None before is = absurd (cc is)
kind_shown (Some placed) before is = let same : stat_of placed.thing placed.mtime ≡ before = cc is in ap (λ (stat : Stat). is_file stat.kind) (sym same) ∙ thing_file placed.thing placed.mtime

none_shown : (placed : Option Placed) → option_map (λ (p : Placed). stat_of p.thing p.mtime) placed ≡ None → is_file_or_link placed ≡ false
none_shown None is = refl
none_shown (Some placed) is = absurd (cc is)

pub exactly : (store : shelves.Files) (after : Bool) (word : List ℕ) (old new : History) (s : Span) (was : Table) (refused : Option Refusal) (made : Table) → Removes after word old new s was refused made → OthersLeave old new word
    → (needs_row after word was ≡ true → KeepsRow store s.new s.old.last s.id word)
    → refused ≡ remove_refusal after word was (parent_rows store s.id word) ((now old).things word)
exactly store after word old new s was refused made r leave keeps = by (early_refusal after word was) refl r.refusal
  where
    row : Option ParentRow
    row = parent_rows store s.id word

    placed : Option Placed
    placed = (now old).things word

    rest : Option Refusal
    rest = placed_refusal after (was.entries word) (is_some (was.sources word)) row placed

    shown_is : r.shown ≡ stat_at (now old) word
    shown_is = shown_then old r.mid new word r.looks r.past leave r.shown (r.was_shown leave.told)

    by : (o : Option Refusal) → early_refusal after word was ≡ o → RefusesBehind o after (needs_row after word was) word old r.mid s r.shown refused → refused ≡ first_refusal (early_refusal after word was) rest
    by (Some refusal) is refuses = refuses ∙ sym (ap (λ (o : Option Refusal). first_refusal o rest) is)
    by None is refuses =
        placed_refused after word was old r.mid s row placed (early_none after word was is) refused
        (λ before shown needs unchanged. unchanged_is store word old r.mid s before r.looks leave.told (stays old r.mid new word r.looks r.past leave) r.reads (keeps needs) shown unchanged)
        (λ before shown needs changed. changed_is store word old r.mid s before r.looks leave.told (stays old r.mid new word r.looks r.past leave) r.reads (keeps needs) shown changed)
        r.shown shown_is
        (λ before known. kind_shown placed before (sym shown_is ∙ known))
        (λ none. none_shown placed (sym shown_is ∙ none))
        refuses
        ∙ sym (ap (λ (o : Option Refusal). first_refusal o rest) is)
