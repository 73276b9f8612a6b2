-- The letter of an entry, by what its marks say and a look or a comparison shows.
use Rattle.std.proofs.Common.{ℕ, ◌≡◌, Bool, true, false, not, ◌&&◌, ◌||◌, cond, List, Option, Some, None, option_map, refl, sym, ap, ◌∙◌}
use Rattle.std.specs.Prelude.{IsTrue, is_some}
use Rattle.std.proofs.lemmas.Bool.{and_parts, or_parts}
use Rattle.hg_base.specs.declared.id.Id20.{Id20}
use Rattle.hg_base.specs.declared.stat.Stat.{Stat}
use Rattle.hg_entry.specs.Entry.{view}
use Rattle.hg_entry.specs.Table.{marks_of}
use Rattle.hg_tree.specs.Moment.{Moment, stat_at, stat_of}
use Rattle.hg_tree.specs.declared.thing.Placed.{Placed}
use Rattle.hg_tree.specs.declared.thing.Thing.{Thing}
use Rattle.hg_tree.specs.declared.thing.Thing.TheVariants as a_thing
use Rattle.hg_shelf.specs.History as shelves
use Rattle.hg_compare.specs.Tracked.{is_file_or_link, is_file_or_link_thing, is_unchanged}
use Rattle.hg_compare.specs.declared.letter.Letter.{Letter}
use Rattle.hg_compare.specs.declared.letter.Letter.TheVariants as a_letter
use Rattle.hg_flat.specs.Course.{IsFound, compared_letter}
use Rattle.hg_listing.specs.Full.{wants}
use Rattle.hg_flat.specs.Listing.{IsLetterFor, is_compared_row, is_file_or_link_kind, letter_at, marked_letter, row_under, rows_if, rows_under, wants_bytes, wants_tracked}
use Rattle.hg_flat.specs.Parent.{is_plain_entry, parent_rows}
use Rattle.hg_flat.specs.declared.kept.FlatRow.{FlatRow}
use Rattle.hg_listing.specs.declared.row.Wanted.{Wanted}

-- ---- what a look shows

kind_thing : (t : Thing) (placed : Placed) → placed.thing ≡ t → is_file_or_link_kind (stat_of t placed.mtime).kind ≡ is_file_or_link_thing t
kind_thing (a_thing.File exec bytes) placed is = refl
kind_thing (a_thing.Link target) placed is = refl
kind_thing a_thing.Dir placed is = refl
kind_thing a_thing.Other placed is = refl

there_by : (o : Option Placed) (there : Stat) → option_map (λ (placed : Placed). stat_of placed.thing placed.mtime) o ≡ Some there → is_file_or_link o ≡ is_file_or_link_kind there.kind
there_by None there is = absurd (cc (is))
there_by (Some placed) there is = let same : stat_of placed.thing placed.mtime ≡ there = cc (is) in sym (kind_thing placed.thing placed refl) ∙ ap (λ (s : Stat). is_file_or_link_kind s.kind) same

pub there_is : (moment : Moment) (path : List ℕ) (there : Stat) → stat_at moment path ≡ Some there → is_file_or_link (moment.things path) ≡ is_file_or_link_kind there.kind
there_is moment path there is = there_by (moment.things path) there is

nothing_by : (o : Option Placed) → option_map (λ (placed : Placed). stat_of placed.thing placed.mtime) o ≡ None → is_file_or_link o ≡ false
nothing_by None is = refl
nothing_by (Some placed) is = absurd (cc (is))

-- ---- the letter of a tracked path, by what stands there

abbrev chain : FlatRow → Bool → Letter → Letter
chain kept there last =
    cond (not there) a_letter.Gone (cond kept.entry.p2 a_letter.M (cond (not kept.entry.p1) a_letter.A (cond (is_some kept.source) a_letter.M last)))

tracked : (files : shelves.Files) (id : Id20) (moment : Moment) (kept : FlatRow) → kept.entry.w ≡ true
    → letter_at files id moment kept ≡ Some (chain kept (is_file_or_link (moment.things kept.path)) (compared_letter (parent_rows files id kept.path) (moment.things kept.path)))
tracked files id moment kept w =
    ap
    (λ (b : Bool). cond b
    (Some (chain kept (is_file_or_link (moment.things kept.path)) (compared_letter (parent_rows files id kept.path) (moment.things kept.path))))
    (cond (kept.entry.p1 || kept.entry.p2) (Some a_letter.R) None))
    w

-- not tracked any more: of a parent
removed_by : (w p1 p2 : Bool) (tracked : Option Letter) → IsTrue (w || p1 || p2) → w ≡ false → cond w tracked (cond (p1 || p2) (Some a_letter.R) None) ≡ Some a_letter.R
removed_by true p1 p2 tracked some gone = absurd (cc (gone))
removed_by false true p2 tracked some gone = refl
removed_by false false true tracked some gone = refl
removed_by false false false tracked some gone = absurd (cc (some))

or_letter : Option Letter → Letter → Letter
or_letter None last = last
or_letter (Some letter) last = letter

marked_by : (there p2 p1 copied : Bool) (last : Letter) (o : Option Letter) → cond (not there) (Some a_letter.Gone) (cond p2 (Some a_letter.M) (cond (not p1) (Some a_letter.A) (cond copied (Some a_letter.M) None))) ≡ o
    → cond (not there) a_letter.Gone (cond p2 a_letter.M (cond (not p1) a_letter.A (cond copied a_letter.M last))) ≡ or_letter o last
unfolding or_letter
marked_by false p2 p1 copied last o is = ap (λ (q : Option Letter). or_letter q last) is
marked_by true true p1 copied last o is = ap (λ (q : Option Letter). or_letter q last) is
marked_by true false false copied last o is = ap (λ (q : Option Letter). or_letter q last) is
marked_by true false true true last o is = ap (λ (q : Option Letter). or_letter q last) is
marked_by true false true false last o is = ap (λ (q : Option Letter). or_letter q last) is

-- the marks decide, or they don't
pub marked_some : (kept : FlatRow) (there : Stat) (last letter : Letter) → marked_letter kept there ≡ Some letter → chain kept (is_file_or_link_kind there.kind) last ≡ letter
unfolding or_letter
marked_some kept there last letter is = marked_by (is_file_or_link_kind there.kind) kept.entry.p2 kept.entry.p1 (is_some kept.source) last (Some letter) is

pub marked_none : (kept : FlatRow) (there : Stat) (last : Letter) → marked_letter kept there ≡ None → chain kept (is_file_or_link_kind there.kind) last ≡ last
unfolding or_letter
marked_none kept there last is = marked_by (is_file_or_link_kind there.kind) kept.entry.p2 kept.entry.p1 (is_some kept.source) last None is

plain_by : (there w p2 p1 copied : Bool) → w ≡ true → cond (not there) (Some a_letter.Gone) (cond p2 (Some a_letter.M) (cond (not p1) (Some a_letter.A) (cond copied (Some a_letter.M) None))) ≡ None
    → (there ≡ true) × ((w && p1 && not p2 && not copied) ≡ true)
plain_by false w p2 p1 copied tracked is = absurd (cc (is))
plain_by true w true p1 copied tracked is = absurd (cc (is))
plain_by true w false false copied tracked is = absurd (cc (is))
plain_by true w false true true tracked is = absurd (cc (is))
plain_by true false false true false tracked is = absurd (cc (tracked))
plain_by true true false true false tracked is = (refl, refl)

-- where the marks don't decide, the bytes are compared if a letter is wanted that they decide
pub plain_there : (kept : FlatRow) (there : Stat) → kept.entry.w ≡ true → marked_letter kept there ≡ None
    → (is_file_or_link_kind there.kind ≡ true) × (is_plain_entry (Some (marks_of (view kept.entry))) (is_some kept.source) ≡ true)
plain_there kept there w is = plain_by (is_file_or_link_kind there.kind) kept.entry.w kept.entry.p2 kept.entry.p1 (is_some kept.source) w is

some_by : (there w p2 p1 copied : Bool) (letter : Letter) → (w && p1 && not p2 && not copied) ≡ true → there ≡ true
    → cond (not there) (Some a_letter.Gone) (cond p2 (Some a_letter.M) (cond (not p1) (Some a_letter.A) (cond copied (Some a_letter.M) None))) ≡ Some letter → ⊥
some_by false w p2 p1 copied letter plain there is = absurd (cc (there))
some_by true false p2 p1 copied letter plain there is = absurd (cc (plain))
some_by true true p2 false copied letter plain there is = absurd (cc (plain))
some_by true true true true copied letter plain there is = absurd (cc (plain))
some_by true true false true true letter plain there is = absurd (cc (plain))
some_by true true false true false letter plain there is = absurd (cc (is))

pub compared_parts : (wanted : Wanted) (kept : FlatRow) → IsTrue (is_compared_row wanted kept) → (wants_bytes wanted ≡ true) × (is_plain_entry (Some (marks_of (view kept.entry))) (is_some kept.source) ≡ true)
compared_parts wanted kept is = and_parts (wants_bytes wanted) (is_plain_entry (Some (marks_of (view kept.entry))) (is_some kept.source)) is

-- where plain marks leave the letter to the bytes of a file or a link, they don't decide it
pub marked_plain : (kept : FlatRow) (there : Stat) (letter : Letter) → is_plain_entry (Some (marks_of (view kept.entry))) (is_some kept.source) ≡ true → is_file_or_link_kind there.kind ≡ true
    → marked_letter kept there ≡ Some letter → ⊥
marked_plain kept there letter plain is marked = some_by (is_file_or_link_kind there.kind) kept.entry.w kept.entry.p2 kept.entry.p1 (is_some kept.source) letter plain is marked

pub compared_by : (wanted : Wanted) (kept : FlatRow) → wants_bytes wanted ≡ true → is_plain_entry (Some (marks_of (view kept.entry))) (is_some kept.source) ≡ true → is_compared_row wanted kept ≡ true
compared_by wanted kept first second = cc (first, second)

-- ---- the letter that is found

module _ (S : FlatRow → Type 0) (files : shelves.Files) (id : Id20) (moment : Moment) (wanted : Wanted) (kept : FlatRow) where
  abbrev Found : Option Letter → Type 0
  Found letter = IsLetterFor S files id moment wanted kept letter

  pub found_removed : kept.entry.w ≡ false → Found (Some a_letter.R)
  found_removed gone = record {
    right = λ meets. ap (rows_under wanted kept) (sym (removed_by kept.entry.w kept.entry.p1 kept.entry.p2 _ kept.entry.is_entry gone));
    served = λ meets asked. absurd (untracked kept.entry.w kept.entry.p1 kept.entry.p2 (is_some kept.source) gone (compared_parts wanted kept asked.compared).1);
  }
    where
      untracked : (w p1 p2 copied : Bool) → w ≡ false → (w && p1 && not p2 && not copied) ≡ true → ⊥
      untracked true p1 p2 copied gone is = absurd (cc (gone))
      untracked false p1 p2 copied gone is = absurd (cc (is))

  -- no letter of a tracked path is wanted
  none_if : (b : Bool) (x y : Letter) → wants wanted x ≡ false → wants wanted y ≡ false → wants wanted (cond b x y) ≡ false
  none_if true x y first second = first
  none_if false x y first second = second

  pub found_unwanted : kept.entry.w ≡ true → wants_tracked wanted ≡ false → Found None
  found_unwanted w none = record {
    right = λ meets. sym (ap (rows_under wanted kept) (tracked files id moment kept w) ∙ ap (λ (b : Bool). rows_if b (row_under kept letter)) unwanted);
    served = λ meets asked. let both = compared_parts wanted kept asked.compared in absurd (bytes (wanted.m || wanted.a || wanted.d) both.0);
  }
    where
      letter : Letter
      letter = chain kept (is_file_or_link (moment.things kept.path)) (compared_letter (parent_rows files id kept.path) (moment.things kept.path))

      four : (wanted.m ≡ false) × (wanted.a ≡ false) × (wanted.d ≡ false) × (wanted.c ≡ false)
      four =
          let c = or_parts (wanted.m || wanted.a || wanted.d) wanted.c none in
          let d = or_parts (wanted.m || wanted.a) wanted.d c.0 in let a = or_parts wanted.m wanted.a d.0 in (a.0, a.1, d.1, c.1)

      unwanted : wants wanted letter ≡ false
      unwanted =
          none_if (not (is_file_or_link (moment.things kept.path))) a_letter.Gone _ four.2
          (none_if kept.entry.p2 a_letter.M _ four.0
          (none_if (not kept.entry.p1) a_letter.A _ four.1
          (none_if (is_some kept.source) a_letter.M _ four.0
          (none_if (is_unchanged (parent_rows files id kept.path) (moment.things kept.path)) a_letter.C a_letter.M four.3 four.0))))

      bytes : (b : Bool) → (wanted.m || wanted.c) ≡ true → ⊥
      bytes b is = let m = four.0 in let c = four.3 in absurd (cc (m, c, is))

  under_chain : kept.entry.w ≡ true → (there : Bool) → is_file_or_link (moment.things kept.path) ≡ there
      → letter_at files id moment kept ≡ Some (chain kept there (compared_letter (parent_rows files id kept.path) (moment.things kept.path)))
  under_chain w there is =
      tracked files id moment kept w ∙ ap (λ (b : Bool). Some (chain kept b (compared_letter (parent_rows files id kept.path) (moment.things kept.path)))) is

  pub found_gone : kept.entry.w ≡ true → (S kept → stat_at moment kept.path ≡ None) → Found (Some a_letter.Gone)
  found_gone w none = record {
    right = λ meets. ap (rows_under wanted kept) (sym (under_chain w false (nothing_by (moment.things kept.path) (none meets))));
    served = λ meets asked. let gone = nothing_by (moment.things kept.path) (none meets) in let there = asked.there in absurd (cc (gone, there));
  }

  pub found_marked : (there : Stat) (letter : Letter) → kept.entry.w ≡ true → (S kept → stat_at moment kept.path ≡ Some there) → marked_letter kept there ≡ Some letter → Found (Some letter)
  found_marked there letter w shown marked = record {
    right = λ meets.
        ap (rows_under wanted kept)
        (sym
        (under_chain w (is_file_or_link_kind there.kind) (there_is moment kept.path there (shown meets))
        ∙ ap Some (marked_some kept there (compared_letter (parent_rows files id kept.path) (moment.things kept.path)) letter marked)));
    served = λ meets asked.
        absurd (some_by (is_file_or_link_kind there.kind) kept.entry.w kept.entry.p2 kept.entry.p1 (is_some kept.source) letter (compared_parts wanted kept asked.compared).1
        (sym (there_is moment kept.path there (shown meets)) ∙ asked.there) marked);
  }

  -- no letter is wanted that the bytes decide
  pub found_unread : (there : Stat) → kept.entry.w ≡ true → (S kept → stat_at moment kept.path ≡ Some there) → marked_letter kept there ≡ None → wants_bytes wanted ≡ false → Found None
  found_unread there w shown marked none = record {
    right = λ meets.
        sym
        (ap (rows_under wanted kept)
        (under_chain w (is_file_or_link_kind there.kind) (there_is moment kept.path there (shown meets)) ∙ ap Some (marked_none kept there (compared_letter (parent_rows files id kept.path) (moment.things kept.path)) marked))
        ∙ ap (λ (b : Bool). rows_if b (row_under kept (compared_letter (parent_rows files id kept.path) (moment.things kept.path)))) unwanted);
    served = λ meets asked. let read = (compared_parts wanted kept asked.compared).0 in absurd (cc (read, none));
  }
    where
      unwanted : wants wanted (compared_letter (parent_rows files id kept.path) (moment.things kept.path)) ≡ false
      unwanted =
          let both = or_parts wanted.m wanted.c none in
          none_if (is_unchanged (parent_rows files id kept.path) (moment.things kept.path)) a_letter.C a_letter.M both.1 both.0

  pub found_read : (there : Stat) (letter : Letter) → kept.entry.w ≡ true → (S kept → stat_at moment kept.path ≡ Some there) → marked_letter kept there ≡ None → (S kept → IsFound files id moment kept.path letter) → Found (Some letter)
  found_read there letter w shown marked found = record {
    right = λ meets.
        ap (λ (l : Letter). rows_under wanted kept (Some l)) (found meets).letter_is
        ∙ sym
        (ap (rows_under wanted kept)
        (under_chain w (is_file_or_link_kind there.kind) (there_is moment kept.path there (shown meets)) ∙ ap Some (marked_none kept there (compared_letter (parent_rows files id kept.path) (moment.things kept.path)) marked)));
    served = λ meets asked. (found meets).served;
  }
