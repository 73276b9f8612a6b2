-- The time of a file that was compared between two equal looks, the first of which came behind a boundary, is earned.
use Rattle.hg_base.specs.Times.{IsBefore}
use Rattle.std.proofs.Common.{ℕ, zero, suc, ◌≡◌, ◌≤◌, if◌then◌else◌, inl, inr, Bool, true, false, not, ◌&&◌, ◌||◌, List, [], ◌∷◌, length, slice_get, Option, Some, None, option_map, refl, sym, ap, ◌∙◌, subst, arith}
use Rattle.std.specs.Prelude.{◌≢◌, IsTrue}
use Rattle.std.specs.Option.{option_and_then}
use Rattle.std.proofs.lemmas.Bool.{and_from, and_parts, cases_lt}
use Rattle.std.proofs.lemmas.Option.{slice_get_past}
use Rattle.hg_base.specs.declared.stat.Kind.{Kind}
use Rattle.hg_base.specs.declared.stat.Kind.TheVariants as a_kind
use Rattle.hg_base.specs.declared.stat.Stat.{Stat}
use Rattle.hg_base.specs.declared.time.Time.{Time}
use Rattle.hg_compare.specs.Alike.{is_alike, is_alike_as}
use Rattle.hg_compare.specs.Same.{IsSame, parent_row}
use Rattle.hg_compare.specs.Seen.{Compared, HasByte, Holds, SeesByte, Shows}
use Rattle.hg_compare.specs.Tracked.{equal_bools}
use Rattle.hg_entry.specs.Steps.{is_link}
use Rattle.hg_manifest.proofs.Loads.{was_in}
use Rattle.hg_manifest.specs.declared.row.FileRow.{FileRow}
use Rattle.hg_mtime.proofs.Tests.{stamp_tells}
use Rattle.hg_shelf.specs.History.{Files}
use Rattle.hg_shelf.specs.Polite.{StaysIn}
use Rattle.hg_shelf.specs.Reads.{size_of}
use Rattle.hg_tree.specs.History.{Extends, now}
use Rattle.hg_tree.specs.Honest.{Face, IsHonest, face, face_of, face_with}
use Rattle.hg_tree.specs.Moment.{bytes_at, bytes_of, stat_at, stat_of}
use Rattle.hg_tree.specs.declared.thing.Placed.{Placed}
use Rattle.hg_tree.specs.declared.thing.Thing.{Thing}
use Rattle.hg_tree.specs.declared.thing.Thing.TheVariants as a_thing
use Rattle.hg_tree.proofs.Telling.{same_bytes_of_face}
use Rattle.hg_walk.specs.Laws.{NotedIsEarned}
use Rattle.hg_walk.specs.Seeing.{IsFaceOf, row_kind}
use Rattle.hg_walk.proofs.Again.{IsBetween, between}

-- texts with the same byte at each place are one
same_text : (xs ys : List ℕ) → ((k : ℕ) → slice_get xs k ≡ slice_get ys k) → xs ≡ ys
same_text [] [] same = refl
same_text [] (y ∷ ys) same = let first = same zero in absurd (cc first)
same_text (x ∷ xs) [] same = let first = same zero in absurd (cc first)
same_text (x ∷ xs) (y ∷ ys) same = let first = same zero in let rest = same_text xs ys (λ k. same (suc k)) in cc (first, rest)

sized : (file : Option (List ℕ)) (size : ℕ) → size_of file ≡ Some size → (text : List ℕ) × (file ≡ Some text) × (length text ≡ size)
sized None size is = absurd (cc is)
sized (Some text) size is = (text, refl, cc is)

-- ---- what stands there has the row's kind, and the bytes of its face

pub record IsRead (row : FileRow) (before : Stat) (shown : Face) (read : Option (List ℕ)) : Type 0 where
  pub kind : shown.kind ≡ Some (row_kind (parent_row row read))
  pub bytes : read ≡ Some shown.bytes
  pub long : length shown.bytes ≡ before.size

as_file : (link : Bool) → not link ≡ true → a_kind.File ≡ (if link then a_kind.Link else a_kind.File)
as_file true is = absurd (cc is)
as_file false is = refl

as_link : (link : Bool) → link ≡ true → a_kind.Link ≡ (if link then a_kind.Link else a_kind.File)
as_link true is = refl
as_link false is = absurd (cc is)

read_thing : (row : FileRow) (thing : Thing) (mtime : Time) (names : List ℕ → Bool) → is_alike row (stat_of thing mtime) ≡ true → IsRead row (stat_of thing mtime) (face_of thing mtime names) (bytes_of thing)
read_thing row (a_thing.File exec bytes) mtime names alike =
    let parts = and_parts (not row.link) (equal_bools row.exec exec) alike in record { kind = ap Some (as_file row.link parts.0); bytes = refl; long = refl }
read_thing row (a_thing.Link target) mtime names alike = record { kind = ap Some (as_link row.link alike); bytes = refl; long = refl }
read_thing row a_thing.Dir mtime names alike = absurd (cc alike)
read_thing row a_thing.Other mtime names alike = absurd (cc alike)

read_placed : (row : FileRow) (placed : Option Placed) (names : List ℕ → Bool) (before : Stat) → option_map (λ (p : Placed). stat_of p.thing p.mtime) placed ≡ Some before → is_alike row before ≡ true
    → IsRead row before (face_with names placed) (option_and_then (λ (p : Placed). bytes_of p.thing) placed)
read_placed row None names before shown alike = absurd (cc shown)
read_placed row (Some placed) names before shown alike =
    let is : stat_of placed.thing placed.mtime ≡ before = cc shown in
    subst (λ (s : Stat). IsRead row s (face_of placed.thing placed.mtime names) (bytes_of placed.thing)) is
    (read_thing row placed.thing placed.mtime names (subst (λ (s : Stat). is_alike row s ≡ true) (sym is) alike))

-- ---- the mode that is noted is the row's

alike_file : (row : FileRow) (kind : Kind) (exec : Bool) → is_alike_as kind exec row ≡ true → (equal_bools row.link (is_link kind) && (is_link kind || equal_bools row.exec (exec || is_link kind))) ≡ true
alike_file row a_kind.File exec alike =
    let parts = and_parts (not row.link) (equal_bools row.exec exec) alike in
    and_from (equal_bools row.link false) (equal_bools row.exec (exec || false)) (unlinked row.link parts.0) (ap (equal_bools row.exec) (or_false exec) ∙ parts.1)
  where
    unlinked : (link : Bool) → not link ≡ true → equal_bools link false ≡ true
    unlinked true is = is
    unlinked false is = refl

    or_false : (b : Bool) → (b || false) ≡ b
    or_false true = refl
    or_false false = refl
alike_file row a_kind.Link exec alike = and_from (equal_bools row.link true) true (linked row.link alike) refl
  where
    linked : (link : Bool) → link ≡ true → equal_bools link true ≡ true
    linked true is = refl
    linked false is = absurd (cc is)
alike_file row a_kind.Dir exec alike = absurd (cc alike)
alike_file row a_kind.Other exec alike = absurd (cc alike)

alike_kind : (row : FileRow) (kind : Kind) (exec : Bool) → is_alike_as kind exec row ≡ true → kind ≢ a_kind.Other
alike_kind row a_kind.File exec alike = λ e. absurd (cc e)
alike_kind row a_kind.Link exec alike = λ e. absurd (cc e)
alike_kind row a_kind.Dir exec alike = absurd (cc alike)
alike_kind row a_kind.Other exec alike = absurd (cc alike)

-- ---- the bytes are the file's

module _ (c : Compared) (before : Stat) (store : Files) (boundary : Time) (b i : ℕ) (p : Extends c.tree_old c.tree_new) (honest : IsHonest c.tree_new) (told : IsTrue c.tree_old.told)
    (kept_told : IsTrue c.shelf_old.told) (stays : StaysIn store c.shelf_new c.shelf_old.last c.name) (first : b ≤ i) (second : i ≤ c.tree_old.last) (clock : boundary ≡ (c.tree_new.at b).clock)
    (look : stat_at (c.tree_new.at i) c.path ≡ Some before) (last : stat_at (now c.tree_new) c.path ≡ Some before) (kind : before.kind ≢ a_kind.Other) (past : IsBefore before.mtime boundary) where
  -- one face at all moments from the first look to the last
  one_face : (l : ℕ) → i ≤ l → l ≤ c.tree_new.last → IsBetween c.tree_new c.path before i l c.tree_new.last
  one_face l from upto = between c.tree_new honest boundary c.path before b i l c.tree_new.last first from upto (omega arith) clock look last kind past

  same_file : (own : List ℕ) → bytes_at (now c.tree_new) c.path ≡ Some own → length own ≡ before.size → IsSame c before → store c.name ≡ Some own
  same_file own is long same = text.1 ∙ ap Some (same_text text.0 own each)
    where
      text : (text : List ℕ) × (store c.name ≡ Some text) × (length text ≡ before.size)
      text = sized (store c.name) before.size (was_in store c.shelf_old c.shelf_new c.name (λ f. size_of f ≡ Some before.size) kept_told stays (λ none. absurd (cc none)) same.size)

      mine : (k : ℕ) (byte : Option ℕ) → Shows c (λ moment. HasByte k byte (bytes_at moment c.path)) → slice_get own k ≡ byte
      mine k byte saw =
          let during = saw.during told in
          let bytes : bytes_at (c.tree_new.at saw.at) c.path ≡ Some own =
          same_bytes_of_face (c.tree_new.at saw.at) (now c.tree_new) c.path (one_face saw.at (omega (arith, second, during.from)) during.to).one ∙ is in
          subst (HasByte k byte) bytes (saw.so told)

      theirs : (k : ℕ) (byte : Option ℕ) → Holds c (HasByte k byte) → slice_get text.0 k ≡ byte
      theirs k byte saw = subst (HasByte k byte) text.1 (was_in store c.shelf_old c.shelf_new c.name (HasByte k byte) kept_told stays (λ none. none) saw)

      each : (k : ℕ) → slice_get text.0 k ≡ slice_get own k
      each k =
          elim (cases_lt k before.size) [
            | inl below ↦ let one : SeesByte c k = same.bytes k below in theirs k one.byte one.theirs ∙ sym (mine k one.byte one.mine)
            | inr beyond ↦ slice_get_past text.0 k (omega (arith, beyond, text.2)) ∙ sym (slice_get_past own k (omega (arith, beyond, long)))
          ]

pub noted_is_earned : NotedIsEarned
noted_is_earned c row before store boundary stamp rows entry b i p honest told kept_told stays first second clock look compared is stands =
    let alike : is_alike row before ≡ true = compared.0 in
    let ends = compared.2 told in
    let last : stat_at (now c.tree_new) c.path ≡ Some before = ends.1 ∙ ap Some ends.2 in
    let kind = alike_kind row before.kind before.exec alike in
    let stamped = stamp_tells before.mtime boundary stamp is in
    let at_first = one_face c before store boundary b i p honest told kept_told stays first second clock look last kind stamped.past i (omega arith) (omega (arith, second, p.later)) in
    let read = read_placed row ((now c.tree_new).things c.path) _ before last alike in
    let whole : store c.name ≡ Some (face (now c.tree_new) c.path).bytes =
    same_file c before store boundary b i p honest told kept_told stays first second clock look last kind stamped.past (face (now c.tree_new) c.path).bytes read.bytes read.long compared.1 in
    let so : IsFaceOf (parent_row row (store c.name)) (face (now c.tree_new) c.path) = record { kind = read.kind; bytes = whole } in record {
      row = parent_row row (store c.name);
      is = stands;
      flag = alike_file row before.kind before.exec alike;
      seen = record {
        at = i;
        within = omega (arith, second, p.later);
        time = before.mtime;
        shown = at_first.shown;
        stamped = stamped.has;
        past = at_first.past;
        so = subst (IsFaceOf (parent_row row (store c.name))) (sym at_first.one) so;
      };
    }
