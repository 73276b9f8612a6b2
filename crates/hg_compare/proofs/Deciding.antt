-- Where nothing changes meanwhile, what was seen decides whether the thing equals the row.
use Rattle.std.proofs.Common.{◌≡◌, ℕ, zero, suc, Bool, true, false, not, ◌&&◌, List, [], ◌∷◌, length, take, drop, slice_get, Option, Some, None, Result, Ok, Err, refl, sym, ap, ◌∙◌, subst, arith, inl, inr}
use Rattle.std.specs.Prelude.{IsTrue, is_some, option_map}
use Rattle.std.specs.Option.{option_and_then}
use Rattle.std.specs.Str.{bytes_eq}
use Rattle.std.proofs.lemmas.Bool.{cases_Bool, cases_lt}
use Rattle.std.proofs.lemmas.Option.{slice_get_past}
use Rattle.std.proofs.lemmas.Slice.Eq.{bytes_eq-Decides}
use Rattle.hg_base.specs.declared.stat.Stat.{Stat}
use Rattle.hg_manifest.specs.Load.{Stays}
use Rattle.hg_manifest.specs.declared.row.FileRow.{FileRow}
use Rattle.hg_manifest.proofs.Loads.{was_in}
use Rattle.hg_shelf.specs.History as shelf
use Rattle.hg_shelf.specs.Polite.{StaysIn}
use Rattle.hg_shelf.specs.Reads.{size_of}
use Rattle.hg_tree.specs.History as tree
use Rattle.hg_tree.specs.Moment.{Moment, bytes_at, bytes_of, stat_at, stat_of}
use Rattle.hg_tree.specs.declared.thing.Placed.{Placed}
use Rattle.hg_tree.specs.declared.thing.Thing.{Thing}
use Rattle.hg_tree.specs.declared.thing.Thing.TheVariants as a_thing
use Rattle.hg_base.specs.declared.time.Time.{Time}
use Rattle.hg_compare.specs.Alike.{Settles, is_alike}
use Rattle.hg_compare.specs.Same.{Compares, Decides, Ends, IsOther, IsSame, StaysShown, parent_row}
use Rattle.hg_compare.specs.Seen.{Compared, HasByte, HasPiece, Holds, SeesByte, SeesSame, Shows}
use Rattle.hg_compare.specs.Tracked.{equal_bools, equal_bytes, equals_row, is_unchanged}
use Rattle.hg_compare.specs.declared.fault.CompareFault.{CompareFault}
use Rattle.hg_compare.specs.declared.fault.CompareFault.TheVariants as a_fault
use Rattle.hg_compare.specs.declared.looked.Looked.{Looked}
use Rattle.hg_compare.specs.declared.looked.Looked.TheVariants as a_look

-- texts with the same byte at each place are one
same_text : (xs ys : List ℕ) → ((k : ℕ) → slice_get xs k ≡ slice_get ys k) → xs ≡ ys
same_text [] [] same = refl
same_text [] (y ∷ ys) same = let first = same zero in absurd (cc first)
same_text (x ∷ xs) [] same = let first = same zero in absurd (cc first)
same_text (x ∷ xs) (y ∷ ys) same = let first = same zero in let rest = same_text xs ys (λ k. same (suc k)) in cc (first, rest)

-- what a call saw of a path that stays shown, and of a file that stays
shown_then : (c : Compared) (P : Option (List ℕ) → Type 0) → IsTrue c.tree_old.told → StaysShown c.tree_old c.tree_new c.path → Shows c (λ moment. P (bytes_at moment c.path)) → P (bytes_at (c.tree_new.at c.tree_old.last) c.path)
shown_then c P told stays is = let during = is.during told in subst P (stays.bytes is.at during.from during.to) (is.so told)

held_then : (c : Compared) (P : Option (List ℕ) → Type 0) (file : Option (List ℕ)) → IsTrue c.shelf_old.told → Stays c.shelf_old c.shelf_new c.name file → Holds c P → P file
held_then c P file told stays is = subst P (stays is.at (is.during told)) (is.so told)

sized : (file : Option (List ℕ)) (size : ℕ) → size_of file ≡ Some size → (text : List ℕ) × (file ≡ Some text) × (length text ≡ size)
sized None size is = absurd (cc is)
sized (Some text) size is = (text, refl, cc is)

-- the same bytes up to the size of both are the same texts
same_bytes : (c : Compared) (own theirs : List ℕ) (size : ℕ) → IsTrue c.tree_old.told → IsTrue c.shelf_old.told → StaysShown c.tree_old c.tree_new c.path → Stays c.shelf_old c.shelf_new c.name (Some theirs)
    → bytes_at (c.tree_new.at c.tree_old.last) c.path ≡ Some own → length own ≡ size → length theirs ≡ size → SeesSame c size → own ≡ theirs
same_bytes c own theirs size told held stays file is own_long long same = same_text own theirs each
  where
    each : (k : ℕ) → slice_get own k ≡ slice_get theirs k
    each k =
        elim (cases_lt k size) [
          | inl below ↦
              let one : SeesByte c k = same k below in
              let mine : HasByte k one.byte (Some own) = subst (HasByte k one.byte) is (shown_then c (HasByte k one.byte) told stays one.mine) in
              let other : HasByte k one.byte (Some theirs) = held_then c (HasByte k one.byte) (Some theirs) held file one.theirs in
              mine ∙ sym other
          | inr past ↦ slice_get_past own k (omega (arith, past, own_long)) ∙ sym (slice_get_past theirs k (omega (arith, past, long)))
        ]

and_three : (a b d : Bool) → (a && b && d) ≡ ((a && b) && d)
and_three true b d = refl
and_three false b d = refl

-- what equals a row is alike, and has its bytes
equals_parts : (row : FileRow) (file : Option (List ℕ)) (thing : Thing) (mtime : Time) (own : List ℕ) → bytes_of thing ≡ Some own → equals_row (parent_row row file) thing ≡ (is_alike row (stat_of thing mtime) && equal_bytes file own)
equals_parts row file (a_thing.File exec bytes) mtime own is = let same : bytes ≡ own = cc is in subst (λ (t : List ℕ). (not row.link && equal_bools row.exec exec && equal_bytes file bytes) ≡ ((not row.link && equal_bools row.exec exec) && equal_bytes file t)) same (and_three (not row.link) (equal_bools row.exec exec) (equal_bytes file bytes))
equals_parts row file (a_thing.Link target) mtime own is = let same : target ≡ own = cc is in ap (λ (t : List ℕ). row.link && equal_bytes file t) same
equals_parts row file a_thing.Dir mtime own is = absurd (cc is)
equals_parts row file a_thing.Other mtime own is = absurd (cc is)

size_own : (thing : Thing) (mtime : Time) (own : List ℕ) → bytes_of thing ≡ Some own → (stat_of thing mtime).size ≡ length own
size_own (a_thing.File exec bytes) mtime own is = ap length (cc is)
size_own (a_thing.Link target) mtime own is = ap length (cc is)
size_own a_thing.Dir mtime own is = absurd (cc is)
size_own a_thing.Other mtime own is = absurd (cc is)

unread_unlike : (row : FileRow) (file : Option (List ℕ)) (thing : Thing) (mtime : Time) → bytes_of thing ≡ None → (equals_row (parent_row row file) thing ≡ false) × (is_alike row (stat_of thing mtime) ≡ false)
unread_unlike row file (a_thing.File exec bytes) mtime is = absurd (cc is)
unread_unlike row file (a_thing.Link target) mtime is = absurd (cc is)
unread_unlike row file a_thing.Dir mtime is = (refl, refl)
unread_unlike row file a_thing.Other mtime is = (refl, refl)

settles_same : (settled : Bool) (before after : Stat) → Settles settled before after → after ≡ before → settled ≡ true
settles_same true before after is same = refl
settles_same false before after is same = absurd (is same)

and_true : (a b : Bool) → a ≡ true → b ≡ true → (a && b) ≡ true
and_true a b first second = cc (first, second)

and_false : (a b : Bool) → a ≡ false → (a && b) ≡ false
and_false a b first = cc first

-- other bytes than the file's
bytes_apart : (theirs own : List ℕ) → (theirs ≡ own → ⊥) → bytes_eq theirs own ≡ false
bytes_apart theirs own apart =
    elim (cases_Bool (bytes_eq theirs own)) [ inl same ↦ absurd (apart ((bytes_eq-Decides theirs own).0 same)) | inr other ↦ other ]

module _ (c : Compared) (row : FileRow) (before : Stat) (file : Option (List ℕ)) (thing : Thing) (mtime : Time) (passes : tree.Passes c.tree_old c.tree_new)
    (told : IsTrue c.tree_old.told) (held : IsTrue c.shelf_old.told) (stays : StaysShown c.tree_old c.tree_new c.path) (file_stays : Stays c.shelf_old c.shelf_new c.name file)
    (there : (tree.now c.tree_old).things c.path ≡ Some (record { thing = thing; mtime = mtime })) (shown : stat_of thing mtime ≡ before) where
  moment : c.tree_new.at c.tree_old.last ≡ tree.now c.tree_old
  moment = passes.past.stay c.tree_old.last (omega arith)

  bytes_then : bytes_at (c.tree_new.at c.tree_old.last) c.path ≡ bytes_of thing
  bytes_then = ap (λ (m : Moment). bytes_at m c.path) moment ∙ ap (option_and_then (λ (placed : Placed). bytes_of placed.thing)) there

  stat_then : stat_at (tree.now c.tree_new) c.path ≡ Some before
  stat_then =
      stays.stat c.tree_new.last passes.past.later (omega arith) ∙ ap (λ (m : Moment). stat_at m c.path) moment ∙ ap (option_map (λ (placed : Placed). stat_of placed.thing placed.mtime)) there
      ∙ ap Some shown

  abbrev equal : Bool
  equal = equals_row (parent_row row file) thing

  same_case : (own : List ℕ) (settled : Bool) → bytes_of thing ≡ Some own → is_alike row before ≡ true → IsSame c before → Ends c before settled → (equal ≡ true) × (settled ≡ true)
  same_case own settled is alike same ends =
      let text = sized file before.size (held_then c (λ f. size_of f ≡ Some before.size) file held file_stays same.size) in
      let long : length own ≡ before.size = sym (size_own thing mtime own is) ∙ ap (λ (s : Stat). s.size) shown in
      let one : own ≡ text.0 = same_bytes c own text.0 before.size told held stays (subst (Stays c.shelf_old c.shelf_new c.name) text.1 file_stays) (bytes_then ∙ is) long text.2 same.bytes in
      let last = ends told in (
        equals_parts row file thing mtime own is
            ∙ and_true (is_alike row (stat_of thing mtime)) (equal_bytes file own) (subst (λ (s : Stat). is_alike row s ≡ true) (sym shown) alike)
            (subst (λ (f : Option (List ℕ)). equal_bytes f own ≡ true) (sym text.1) ((bytes_eq-Decides text.0 own).1 (sym one))),
        settles_same settled before last.0 last.2 (cc (last.1, stat_then)),
      )

  other_case : (own : List ℕ) → bytes_of thing ≡ Some own → IsOther c before → equal_bytes file own ≡ false
  other_case own is (inl size) =
      let text = sized file size.number (held_then c (λ f. size_of f ≡ Some size.number) file held file_stays size.had) in
      let long : length own ≡ before.size = sym (size_own thing mtime own is) ∙ ap (λ (s : Stat). s.size) shown in
      subst (λ (f : Option (List ℕ)). equal_bytes f own ≡ false) (sym text.1) (bytes_apart text.0 own (λ same. size.other (sym text.2 ∙ ap length same ∙ long)))
  other_case own is (inr other) =
      let mine : HasPiece other.place other.width other.mine (Some own) =
      subst (HasPiece other.place other.width other.mine) (bytes_then ∙ is) (shown_then c (HasPiece other.place other.width other.mine) told stays other.pieces.mine_was) in
      let theirs : HasPiece other.place other.width other.theirs file = held_then c (HasPiece other.place other.width other.theirs) file held file_stays other.pieces.theirs_was in
      apart file own other.place other.width other.mine other.theirs mine theirs other.differ
    where
      apart : (f : Option (List ℕ)) (own : List ℕ) (place width : ℕ) (mine theirs : List ℕ) → mine ≡ take width (drop place own) → HasPiece place width theirs f → (mine ≡ theirs → ⊥) → equal_bytes f own ≡ false
      apart None own place width mine theirs first second differ = refl
      apart (Some text) own place width mine theirs first second differ =
          bytes_apart text own (λ same. differ (first ∙ ap (λ (t : List ℕ). take width (drop place t)) (sym same) ∙ sym second))

  with_bytes : (own : List ℕ) (result : Result Looked CompareFault) → bytes_of thing ≡ Some own → Compares c row before result → Decides equal file result
  with_bytes own (Ok (a_look.Same settled)) is seen = same_case own settled is seen.0 seen.1 seen.2
  with_bytes own (Ok a_look.Differs) is (inl unlike) =
      equals_parts row file thing mtime own is ∙ and_false (is_alike row (stat_of thing mtime)) (equal_bytes file own) (subst (λ (s : Stat). is_alike row s ≡ false) (sym shown) unlike)
  with_bytes own (Ok a_look.Differs) is (inr other) =
      let apart = other_case own is other.1 in
      let alike : is_alike row (stat_of thing mtime) ≡ true = subst (λ (s : Stat). is_alike row s ≡ true) (sym shown) other.0 in
      equals_parts row file thing mtime own is ∙ cc (alike, apart)
  with_bytes own (Ok a_look.Gone) is seen =
      let none : Some own ≡ None = sym (bytes_then ∙ is) ∙ shown_then c (λ bytes. bytes ≡ None) told stays seen.1 in absurd (cc none)
  with_bytes own (Err (a_fault.NoContents id)) is seen = held_then c (λ f. f ≡ None) file held file_stays seen.2
  with_bytes own (Err a_fault.TreeFailed) is seen = tt
  with_bytes own (Err a_fault.ShelfFailed) is seen = tt

  without_bytes : (result : Result Looked CompareFault) → bytes_of thing ≡ None → Compares c row before result → Decides equal file result
  without_bytes result is seen = unlike result seen
    where
      never : {A : Type 0} → is_alike row before ≡ true → A
      never alike = let unlike = (unread_unlike row file thing mtime is).1 in absurd (cc (alike, unlike, shown))

      unlike : (answer : Result Looked CompareFault) → Compares c row before answer → Decides equal file answer
      unlike (Ok (a_look.Same settled)) seen = never seen.0
      unlike (Ok a_look.Differs) seen = (unread_unlike row file thing mtime is).0
      unlike (Ok a_look.Gone) seen = never seen.0
      unlike (Err (a_fault.NoContents id)) seen = never seen.0
      unlike (Err a_fault.TreeFailed) seen = tt
      unlike (Err a_fault.ShelfFailed) seen = tt

  some_or_none : (b : Option (List ℕ)) → bytes_of thing ≡ b → (result : Result Looked CompareFault) → Compares c row before result → Decides equal file result
  some_or_none None is result seen = without_bytes result is seen
  some_or_none (Some own) is result seen = with_bytes own result is seen

pub decides : (c : Compared) (row : FileRow) (before : Stat) (file : Option (List ℕ)) (result : Result Looked CompareFault) → tree.Passes c.tree_old c.tree_new → Compares c row before result → IsTrue c.tree_old.told → IsTrue c.shelf_old.told
    → StaysShown c.tree_old c.tree_new c.path → Stays c.shelf_old c.shelf_new c.name file → stat_at (tree.now c.tree_old) c.path ≡ Some before
    → Decides (is_unchanged (Some (parent_row row file)) ((tree.now c.tree_old).things c.path)) file result
decides c row before file result passes seen told held stays file_stays stat = by_thing ((tree.now c.tree_old).things c.path) refl stat
  where
    by_thing : (placed : Option Placed) → (tree.now c.tree_old).things c.path ≡ placed → option_map (λ (p : Placed). stat_of p.thing p.mtime) placed ≡ Some before → Decides (is_unchanged (Some (parent_row row file)) placed) file result
    by_thing None there shown = absurd (cc shown)
    by_thing (Some placed) there shown =
        some_or_none c row before file placed.thing placed.mtime passes told held stays file_stays there (cc shown) (bytes_of placed.thing) refl result seen

-- ---- a file that may come

module _ (store : shelf.Files) (c : Compared) (held : IsTrue c.shelf_old.told) (stays : StaysIn store c.shelf_new c.shelf_old.last c.name) where
  -- as if the store had stood there all the while
  abbrev throughout : Compared
  throughout = record c { shelf_new = record c.shelf_new { at = λ k. record { files = store } } }

  held_throughout : (P : Option (List ℕ) → Type 0) → (P None → ⊥) → Holds c P → Holds throughout P
  held_throughout P there is = record {
    at = is.at;
    during = λ told. let during = is.during told in record { from = during.from; to = during.to };
    so = λ told. was_in store c.shelf_old c.shelf_new c.name P held stays there is;
  }

  shown_throughout : (P : Moment → Type 0) → Shows c P → Shows throughout P
  shown_throughout P is = record { at = is.at; during = is.during; so = is.so }

  same_throughout : (before : Stat) → IsSame c before → IsSame throughout before
  same_throughout before same = record {
    size = held_throughout (λ file. size_of file ≡ Some before.size) (λ none. absurd (cc none)) same.size;
    bytes = λ k below.
        let one : SeesByte c k = same.bytes k below in record {
          byte = one.byte;
          mine = shown_throughout (λ moment. HasByte k one.byte (bytes_at moment c.path)) one.mine;
          theirs = held_throughout (HasByte k one.byte) (λ none. none) one.theirs;
        };
  }

  other_throughout : (before : Stat) → IsOther c before → IsOther throughout before
  other_throughout before (inl size) = inl (record { number = size.number; had = held_throughout (λ file. size_of file ≡ Some size.number) (λ none. absurd (cc none)) size.had; other = size.other })
  other_throughout before (inr other) =
      inr (record {
        place = other.place;
        width = other.width;
        mine = other.mine;
        theirs = other.theirs;
        pieces = record {
          mine_was = shown_throughout (λ moment. HasPiece other.place other.width other.mine (bytes_at moment c.path)) other.pieces.mine_was;
          theirs_was = held_throughout (HasPiece other.place other.width other.theirs) (λ none. none) other.pieces.theirs_was;
        };
        differ = other.differ;
      })

  compared_throughout : (row : FileRow) (before : Stat) (looked : Looked) → Compares c row before (Ok looked) → Compares throughout row before (Ok looked)
  compared_throughout row before (a_look.Same settled) (alike, same, ends) = (alike, same_throughout before same, ends)
  compared_throughout row before a_look.Differs (inl unlike) = inl unlike
  compared_throughout row before a_look.Differs (inr (alike, other)) = inr (alike, other_throughout before other)
  compared_throughout row before a_look.Gone (alike, nothing) = (alike, shown_throughout (λ moment. bytes_at moment c.path ≡ None) nothing)

  -- what was compared decides whether the thing equals the row with the store's bytes
  pub decides_in : (row : FileRow) (before : Stat) (looked : Looked) → tree.Passes c.tree_old c.tree_new → Compares c row before (Ok looked) → IsTrue c.tree_old.told → StaysShown c.tree_old c.tree_new c.path
      → stat_at (tree.now c.tree_old) c.path ≡ Some before → Decides (is_unchanged (Some (parent_row row (store c.name))) ((tree.now c.tree_old).things c.path)) (store c.name) (Ok looked)
  decides_in row before looked passes seen told shown stat =
      decides throughout row before (store c.name) (Ok looked) passes (compared_throughout row before looked seen) told held shown (λ k during. refl) stat

  some_of : (file : Option (List ℕ)) (size : ℕ) → size_of file ≡ Some size → is_some file ≡ true
  some_of None size is = absurd (cc is)
  some_of (Some bytes) size is = refl

  -- the file of a row that is alike was there, so the store has it
  pub there_in : (row : FileRow) (before : Stat) (looked : Looked) → tree.Passes c.tree_old c.tree_new → Compares c row before (Ok looked) → IsTrue c.tree_old.told → StaysShown c.tree_old c.tree_new c.path
      → stat_at (tree.now c.tree_old) c.path ≡ Some before → is_alike row before ≡ true → is_some (store c.name) ≡ true
  there_in row before (a_look.Same settled) passes seen told shown stat alike =
      some_of (store c.name) before.size (was_in store c.shelf_old c.shelf_new c.name (λ file. size_of file ≡ Some before.size) held stays (λ none. absurd (cc none)) seen.1.size)
  there_in row before a_look.Differs passes (inl unlike) told shown stat alike = absurd (cc (unlike, alike))
  there_in row before a_look.Differs passes (inr (same, inl size)) told shown stat alike =
      some_of (store c.name) size.number (was_in store c.shelf_old c.shelf_new c.name (λ file. size_of file ≡ Some size.number) held stays (λ none. absurd (cc none)) size.had)
  there_in row before a_look.Differs passes (inr (same, inr other)) told shown stat alike =
      by (store c.name) (was_in store c.shelf_old c.shelf_new c.name (HasPiece other.place other.width other.theirs) held stays (λ none. none) other.pieces.theirs_was)
    where
      by : (file : Option (List ℕ)) → HasPiece other.place other.width other.theirs file → is_some file ≡ true
      by None none = absurd none
      by (Some bytes) is = refl
  there_in row before a_look.Gone passes seen told shown stat alike = absurd (decides_in row before a_look.Gone passes seen told shown stat)
