-- What was put of the list of the root is appended, or too large.
use Rattle.std.proofs.Common.{◌≡◌, ℕ, ◌+◌, ◌-◌, ◌*◌, ◌<◌, ◌≤◌, ◌^◌, Bool, true, false, not, ◌&&◌, ◌||◌, MatchBool, cond, List, [], ◌++◌, length, Option, Some, None, refl, sym, ap, subst, ◌∙◌, arith, eqb, eqb-true, leb, nat_lt}
use Rattle.std.specs.Prelude.{count_by}
use Rattle.std.proofs.lemmas.Bool.{and_parts}
use Rattle.std.proofs.lemmas.Bool.Decides.{nat_tests}
use Rattle.std.proofs.lemmas.List.Sums.{count_by-le-length}
use Rattle.hg_docket.specs.Docket.{Contents, docket_of}
use Rattle.hg_docket.specs.Docket as docket_view
use Rattle.hg_docket.specs.Name.{is_name}
use Rattle.hg_docket.specs.Written as docket
use Rattle.hg_docket.specs.Written.{is_writable}
use Rattle.hg_image.specs.Counts.{are_counted, is_copy, is_counted, is_entry}
use Rattle.hg_image.specs.Rows.{rows_of}
use Rattle.hg_image.specs.declared.opened.Image.{Image}
use Rattle.hg_nodes.specs.Edits.{IsFormed}
use Rattle.hg_mixed.specs.Held.{Held, is_lent, table}
use Rattle.hg_mixed.specs.Shown.{AreLentWhole, ArePlacesOfImage}
use Rattle.hg_append.specs.declared.encoding.Encoded.{Encoded}
use Rattle.hg_append.specs.declared.fault.EncodeFault.{EncodeFault}
use Rattle.hg_append.specs.declared.fault.EncodeFault.TheVariants as a_fault
use Rattle.hg_append.specs.declared.kept.Kept.{Kept}
use Rattle.hg_append.specs.declared.lists.Put.{Put}
use Rattle.hg_append.specs.declared.way.Way.TheVariants as a_way
use Rattle.hg_append.specs.Keeps.{keeps_lent, number_unless, size_unless}
use Rattle.hg_append.specs.Layout.{front_size_in, put_in, size_in, start_in}
use Rattle.hg_append.specs.Lost.{lost}
use Rattle.hg_append.specs.Put.{AreFew, IsFew, IsPut, kept}
use Rattle.hg_append.specs.Tree.{IsTreeIn, Node, Nothing, Tree, has_entry, has_source, heads, kept_of, number_in}
use Rattle.hg_append.proofs.Sizes.{kept_back, size_is_in}
use Rattle.hg_append.specs.Appended.{IsOverImage, IsSoundlyAppended, contents_behind, copies_with, end_with, lost_copies, unreachable_with}
use Rattle.hg_append.specs.Appending.{HasAppendCause, IsFitBehind, IsRootPut, contents_put}
use Rattle.hg_append.specs.Loss.{plan_of}
use Rattle.hg_append.specs.declared.loss.Loss.{Loss}
use Rattle.hg_append.proofs.LentIn.{counts_right, over_opened}

-- ---- the plan

plan_true : (t : Bool) → cond t a_way.Append a_way.Rewrite ≡ a_way.Append → t ≡ true
plan_true true h = refl
plan_true false h = absurd (cc)

pub record IsPlanned (held : Held) : Type 0 where
  pub writable : is_writable held.docket ≡ true
  pub counted : is_counted held.docket (rows_of held.docket held.bytes) ≡ true
  pub less : nat_lt (2 * lost held) held.docket.used ≡ true

pub planned : (held : Held) → plan_of held ≡ a_way.Append → IsPlanned held
planned held h =
    let rows = rows_of held.docket held.bytes in
    let all = plan_true (is_writable held.docket && is_counted held.docket rows && nat_lt (2 * lost held) held.docket.used) h in
    let last = and_parts (is_writable held.docket && is_counted held.docket rows) (nat_lt (2 * lost held) held.docket.used) all in
    let first = and_parts (is_writable held.docket) (is_counted held.docket rows) last.0 in
    record { writable = first.0; counted = first.1; less = last.1 }

pub over_planned : (held : Held) (image : Image) → docket_view.view image.docket ≡ held.docket → image.bytes.now ≡ held.bytes → held.docket.used < 2 ^ 32 → AreLentWhole held → ArePlacesOfImage held
    → plan_of held ≡ a_way.Append → IsFormed (table held) → IsOverImage held
over_planned held image said bytes small whole places plan formed = over_opened held image said bytes small whole places (planned held plan).counted formed

-- the identifier that stays
pub name_stays : (held : Held) → plan_of held ≡ a_way.Append → (is_name held.docket.id ≡ true) × (length held.docket.id ≡ 0 → held.docket.used ≡ 0)
name_stays held plan =
    let both = and_parts (is_name held.docket.id) (not (eqb (length held.docket.id) 0) || eqb held.docket.used 0) (planned held plan).writable in
    (both.0, λ none. grind (arith, nat_tests, none, both.1))

-- ---- what is put

copies_few : (held : Held) (tree : Tree) → 44 * number_in (keeps_lent held) has_source tree ≤ size_in (keeps_lent held) tree
copies_few held Nothing = omega arith
copies_few held (Node child below behind) =
    let one : cond {A = ℕ} (has_source.test child) 1 0 ≤ 1 = at_most (has_source.test child) in
    let under : 44 * number_unless (kept_of (keeps_lent held) child) has_source.below (number_in (keeps_lent held) has_source below) ≤ size_unless (kept_of (keeps_lent held) child) (size_in (keeps_lent held) below) =
    by_list (kept_of (keeps_lent held) child) (copies_few held below) in
    let more : 44 * number_in (keeps_lent held) has_source behind ≤ size_in (keeps_lent held) behind = copies_few held behind in
    omega (arith, one, under, more)
  where
    at_most : (b : Bool) → cond {A = ℕ} b 1 0 ≤ 1
    at_most true = omega arith
    at_most false = omega arith

    by_list : (o : Option Kept) → 44 * number_in (keeps_lent held) has_source below ≤ size_in (keeps_lent held) below
        → 44 * number_unless o has_source.below (number_in (keeps_lent held) has_source below) ≤ size_unless o (size_in (keeps_lent held) below)
    by_list None h = h
    by_list (Some list) h = omega arith

-- the copy sources of an image that is counted
copies_counted : (held : Held) → is_counted held.docket (rows_of held.docket held.bytes) ≡ true → 44 * held.docket.copies ≤ held.docket.used
copies_counted held counted =
    let rows = rows_of held.docket held.bytes in
    let a = eqb held.docket.entries (count_by is_entry rows) in
    let b = eqb held.docket.copies (count_by is_copy rows) in
    let last = and_parts (a && b && are_counted rows) (leb (44 * length rows) held.docket.used) counted in
    let mid = and_parts (a && b) (are_counted rows) last.0 in
    let same : held.docket.copies ≡ count_by is_copy rows = eqb-true held.docket.copies (count_by is_copy rows) (and_parts a b mid.0).1 in
    let few : count_by is_copy rows ≤ length rows = count_by-le-length is_copy rows in
    let room : 44 * length rows ≤ held.docket.used = (counts_right held counted).1 in
    omega (arith, same, few, room)

-- the root's list stays
pub root_stays : (held : Held) (put : Put) (bytes : List ℕ) → is_lent held None ≡ true → put.start ≡ held.docket.root_start → put.sums.count ≡ held.docket.root_count → put.sums.entries ≡ held.docket.entries
    → put.sums.end ≡ held.docket.used → put.sums.copies ≡ 0 → held.docket.used < 2 ^ 32 → bytes ≡ [] → IsRootPut held put bytes
root_stays held put bytes lent start count entries end copies small none = record {
  tree = Nothing;
  is = subst (λ (t : Bool). MatchBool t (Nothing ≡ Nothing) (IsTreeIn held (keeps_lent held) None Nothing)) (sym lent) refl;
  sound = tt;
  ends = omega (arith, end, small);
  start = λ inside. start ∙ sym (ap (λ (t : Bool). cond t held.docket.root_start 0) lent);
  count = λ inside. count ∙ sym (ap (λ (t : Bool). cond t held.docket.root_count 0) lent);
  entries = λ inside. entries ∙ sym (ap (λ (t : Bool). cond t held.docket.entries 0) lent);
  copies = λ inside. copies;
  bytes = λ inside. none;
}

-- it was put
pub root_put : (held : Held) (put : Put) (old new old_records new_records : List ℕ) → AreFew held (keeps_lent held) held.docket.used → is_lent held None ≡ false → old ≡ [] → IsPut held (keeps_lent held) None held.docket.used put old new old_records new_records
    → IsRootPut held put new
root_put held put old new old_records new_records are_few free none p =
    let keeps = keeps_lent held in
    let at = held.docket.used in
    let all : size_in keeps p.tree ≡ front_size_in keeps p.tree + 44 * length (heads p.tree) = size_is_in keeps p.tree in
    let count : put.sums.count ≡ kept (length (heads p.tree)) = p.sums_are.count in
    record {
      tree = p.tree;
      is = subst (λ (t : Bool). MatchBool t (p.tree ≡ Nothing) (IsTreeIn held keeps None p.tree)) (sym free) p.is;
      sound = p.sound;
      ends = p.sums_are.ends;
      start = λ inside. p.start inside ∙ sym (ap (λ (t : Bool). cond t held.docket.root_start (start_in keeps at p.tree)) free);
      count = λ inside. let here : put.sums.count ≡ length (heads p.tree) = omega (arith, inside, all, count) in here ∙ sym (ap (λ (t : Bool). cond t held.docket.root_count (length (heads p.tree))) free);
      entries = λ inside. entries_of inside ∙ sym (ap (λ (t : Bool). cond t held.docket.entries (number_in keeps has_entry p.tree)) free);
      copies = λ inside. copies_of inside;
      bytes = λ inside. p.bytes inside ∙ ap (λ (l : List ℕ). l ++ put_in keeps at p.tree) none;
    }
  where
    copies_of : end_with held p.tree < 2 ^ 32 → put.sums.copies ≡ number_in (keeps_lent held) has_source p.tree
    copies_of inside =
        let few : 44 * number_in (keeps_lent held) has_source p.tree ≤ size_in (keeps_lent held) p.tree = copies_few held p.tree in
        let is : put.sums.copies ≡ kept (number_in (keeps_lent held) has_source p.tree) = p.sums_are.copies in
        omega (arith, inside, few, is)

    entries_of : end_with held p.tree < 2 ^ 32 → put.sums.entries ≡ number_in (keeps_lent held) has_entry p.tree
    entries_of inside =
        let few : 44 * number_in (keeps_lent held) has_entry p.tree ≤ held.docket.used + size_in (keeps_lent held) p.tree = are_few.entries None p.tree p.is in
        let is : put.sums.entries ≡ kept (number_in (keeps_lent held) has_entry p.tree) = p.sums_are.entries in
        omega (arith, inside, few, is)

-- ---- what was put is the whole

module _ (held : Held) (over : IsOverImage held) (put : Put) (new : List ℕ) (p : IsRootPut held put new) (loss : Loss) (bytes : loss.bytes ≡ kept (lost held)) (copies : loss.copies ≡ kept (lost_copies held)) where
  pub too_large : 2 ^ 32 ≤ put.sums.end → (e : EncodeFault) → e ≡ a_fault.TooLarge put.sums.end → HasAppendCause held e
  too_large large e is =
      let end : put.sums.end ≡ kept (end_with held p.tree) = p.ends in
      subst (HasAppendCause held) (sym is) (record { tree = p.tree; is = p.is; large = omega (arith, large, end); size = end })

  inside : put.sums.end < 2 ^ 32 → end_with held p.tree < 2 ^ 32
  inside small = kept_back (end_with held p.tree) (subst (λ (n : ℕ). n < 2 ^ 32) p.ends small)

  few_copies : held.docket.copies < 2 ^ 32
  few_copies =
      let few : 44 * held.docket.copies ≤ held.docket.used = copies_counted held over.counted in
      let small : held.docket.used < 2 ^ 32 = over.small in
      omega (arith, few, small)

  pub fit : IsFew put → put.sums.end < 2 ^ 32 → IsFitBehind held put loss
  fit few small =
      let fits : end_with held p.tree < 2 ^ 32 = inside small in
      let own : put.sums.copies ≡ number_in (keeps_lent held) has_source p.tree = p.copies fits in
      let put_few : 44 * number_in (keeps_lent held) has_source p.tree ≤ size_in (keeps_lent held) p.tree = copies_few held p.tree in
      let image_few : 44 * held.docket.copies ≤ held.docket.used = copies_counted held over.counted in
      record { start = few.start small; count = few.count small; entries = few.entries small; copies = omega (arith, fits, own, put_few, image_few) }

  same_copies : put.sums.end < 2 ^ 32 → held.docket.copies - loss.copies + put.sums.copies ≡ copies_with held p.tree
  same_copies small =
      let own : put.sums.copies ≡ number_in (keeps_lent held) has_source p.tree = p.copies (inside small) in
      let few : held.docket.copies < 2 ^ 32 = few_copies in
      omega (arith, own, few, copies)

  same_lost : (used : ℕ) → used ≡ end_with held p.tree → used < 2 ^ 32 → cond (nat_lt used loss.bytes) used loss.bytes ≡ unreachable_with held p.tree
  same_lost used is small = by (nat_lt used loss.bytes) refl (nat_lt (end_with held p.tree) (lost held)) refl
    where
      by : (a : Bool) → nat_lt used loss.bytes ≡ a → (b : Bool) → nat_lt (end_with held p.tree) (lost held) ≡ b → ◌≡◌ {A = ℕ} (cond a used loss.bytes) (cond b (end_with held p.tree) (lost held))
      by true ea true eb = is
      by false ea false eb =
          let less : loss.bytes ≤ used = grind (arith, nat_tests, ea) in
          omega (arith, less, bytes, small)
      by true ea false eb =
          let less : used < loss.bytes = grind (arith, nat_tests, ea) in
          let more : lost held ≤ end_with held p.tree = grind (arith, nat_tests, eb) in
          absurd (omega (arith, less, more, is, bytes))
      by false ea true eb =
          let less : loss.bytes ≤ used = grind (arith, nat_tests, ea) in
          let more : end_with held p.tree < lost held = grind (arith, nat_tests, eb) in
          absurd (omega (arith, less, more, is, bytes, small))

  pub soundly : (e : Encoded) (used : ℕ) → e.place ≡ held.docket.used → e.bytes.items ≡ new → held.docket.id ≡ e.id → used ≡ put.sums.end → put.sums.end < 2 ^ 32
      → e.docket.items ≡ docket.bytes_of (contents_put held e.id put loss used) → docket.ReadsAs e.docket.items (contents_put held e.id put loss used) → IsSoundlyAppended held e
  soundly e used place put_bytes id is small written back =
      let fits : end_with held p.tree < 2 ^ 32 = inside small in
      let end : put.sums.end ≡ kept (end_with held p.tree) = p.ends in
      let size : used ≡ end_with held p.tree = omega (arith, is, end, fits) in
      let short : used < 2 ^ 32 = omega (arith, size, fits) in
      let start = p.start fits in
      let count = p.count fits in
      let entries = p.entries fits in
      let total = same_copies small in
      let gone = same_lost used size short in
      let same : contents_put held e.id put loss used ≡ contents_behind held p.tree = λ i. record {
        p1 = held.p1;
        p2 = held.p2;
        root_start = start i;
        root_count = count i;
        entries = entries i;
        copies = total i;
        unreachable = gone i;
        hash = held.hash;
        used = size i;
        id = sym id i;
      } in
      record {
        appended = record {
          tree = p.tree;
          is = p.is;
          place = place;
          same = id;
          bytes = put_bytes ∙ p.bytes fits;
          docket = written ∙ ap docket.bytes_of same;
          small = fits;
        };
        sound = p.sound;
        back = subst (docket.ReadsAs e.docket.items) same back;
      }
