-- The steps that put a list: nothing yet, one node more, and its records.
use Rattle.std.proofs.Common.{◌≡◌, ℕ, ◌+◌, ◌-◌, ◌*◌, ◌<◌, ◌≤◌, ◌^◌, Bool, true, false, MatchBool, cond, List, [], ◌∷◌, ◌++◌, length, take, drop, Option, Some, None, refl, sym, ap, subst, ◌∙◌, arith, append_assoc, append-nil, eqb}
use Rattle.std.specs.List.{AllByRecursion}
use Rattle.std.specs.List.Sorted.{IsStrictlySortedBy}
use Rattle.std.proofs.lemmas.List.{length-append}
use Rattle.std.proofs.lemmas.Bool.{ne_eqb, both_ways}
use Rattle.std.proofs.Math.Seq.{drop-append_seam, take-append_seam}
use Rattle.hg_base.specs.PathText.{base_of, is_path, joined, parent_of}
use Rattle.hg_base.proofs.Children.{parent_length}
use Rattle.hg_base.proofs.Components.{joined_parent}
use Rattle.hg_base.proofs.Paths.{path_parts, path_some}
use Rattle.hg_node.specs.Node.{bytes_of}
use Rattle.hg_node.specs.declared.record.Rec.{Rec}
use Rattle.hg_mixed.specs.Children.{AreChildren, IsChild}
use Rattle.hg_nodes.specs.Children.{ChildData}
use Rattle.hg_mixed.specs.Held.{Held, table}
use Rattle.hg_nodes.specs.Written.{fields_for}
use Rattle.hg_append.specs.declared.sums.Sums.{Sums}
use Rattle.hg_append.specs.declared.lists.Put.{Put}
use Rattle.hg_append.specs.declared.kept.Kept.{Kept}
use Rattle.hg_append.specs.Keeps.{Keeps, keeps_nothing, only_if, text_start}
use Rattle.hg_append.specs.Tree.{Counting, Tree, Nothing, Node, has_entry, has_source, heads, is_tracked, kept_of, number_in}
use Rattle.hg_append.specs.Layout.{copy_start, front_in, front_size_in, path_put, rec_in, records_in, size_in, source_put, source_text, start_in, under_bytes, under_count, under_number, under_size, under_start}
use Rattle.hg_append.specs.Put.{AreFew, AreSums, AreSumsUnder, HasPut, IsFew, IsPut, IsPutPart, IsPutUnder, Puts, base_in, ended, kept, rec_with, start_with}
use Rattle.hg_append.proofs.Sizes.{counted_few, kept_back, size_is_in}
use Rattle.hg_append.proofs.Snoc.{below_snoc, count_snoc, front_snoc, heads_snoc, records_snoc, size_snoc, snoc, sound_snoc}

-- where the last component of a path begins
pub base_is : (dir : Option (List ℕ)) (path : List ℕ) → parent_of path ≡ dir → base_in dir ≡ length path - length (base_of path)
base_is None path parent =
    let whole : path ≡ base_of path = sym (joined_parent path) ∙ ap (λ (d : Option (List ℕ)). joined d (base_of path)) parent in
    let same : length path ≡ length (base_of path) = ap length whole in
    omega (arith, same)
base_is (Some dir) path parent =
    let whole : path ≡ dir ++ 47 ∷ base_of path = sym (joined_parent path) ∙ ap (λ (d : Option (List ℕ)). joined d (base_of path)) parent in
    let same : length path ≡ length (dir ++ 47 ∷ base_of path) = ap length whole in
    let both : length (dir ++ 47 ∷ base_of path) ≡ length dir + length (47 ∷ base_of path) = length-append dir (47 ∷ base_of path) in
    omega (arith, same, both)

pub base_inside : (dir : Option (List ℕ)) (path : List ℕ) → parent_of path ≡ dir → base_in dir ≤ length path
base_inside dir path parent = let same : base_in dir ≡ length path - length (base_of path) = base_is dir path parent in omega (arith, same)

-- what was put is few enough for the record of its node
pub put_few : (held : Held) (keeps : Keeps) (base : ℕ) (dir : Option (List ℕ)) (at : ℕ) (put : Put) (old new old_records new_records : List ℕ) → AreFew held keeps base → base ≤ at
    → IsPut held keeps dir at put old new old_records new_records → IsFew put
put_few held keeps base dir at put old new old_records new_records few room p =
    let end : put.sums.end ≡ kept (at + size_in keeps p.tree) = p.sums_are.ends in
    let all : size_in keeps p.tree ≡ front_size_in keeps p.tree + 44 * length (heads p.tree) = size_is_in keeps p.tree in
    let entries : 44 * number_in keeps has_entry p.tree ≤ base + size_in keeps p.tree = few.entries dir p.tree p.is in
    let tracked : 44 * number_in keeps is_tracked p.tree ≤ base + size_in keeps p.tree = few.tracked dir p.tree p.is in
    let inside : put.sums.end < 2 ^ 32 → at + size_in keeps p.tree < 2 ^ 32 = λ small. kept_back (at + size_in keeps p.tree) (subst (λ (n : ℕ). n < 2 ^ 32) end small) in
    let count : put.sums.count ≡ kept (length (heads p.tree)) = p.sums_are.count in
    let has : put.sums.entries ≡ kept (number_in keeps has_entry p.tree) = p.sums_are.entries in
    let are : put.sums.tracked ≡ kept (number_in keeps is_tracked p.tree) = p.sums_are.tracked in
    record {
      start = λ small. starts p.tree (inside small) (p.start (inside small));
      count = λ small. let fits : at + size_in keeps p.tree < 2 ^ 32 = inside small in omega (arith, all, fits, count);
      entries = λ small. let fits : at + size_in keeps p.tree < 2 ^ 32 = inside small in omega (arith, entries, fits, has, room);
      tracked = λ small. let fits : at + size_in keeps p.tree < 2 ^ 32 = inside small in omega (arith, tracked, fits, are, room);
    }
  where
    starts : (tree : Tree) → at + size_in keeps tree < 2 ^ 32 → put.start ≡ start_in keeps at tree → put.start < 2 ^ 32
    starts Nothing small is = omega (arith, is)
    starts (Node child below behind) small is =
        let all : size_in keeps (Node child below behind) ≡ front_size_in keeps (Node child below behind) + 44 * length (heads (Node child below behind)) = size_is_in keeps (Node child below behind) in
        omega (arith, is, small, all)

-- where nothing is kept, each that is counted takes a record
pub few_anew : (held : Held) → AreFew held keeps_nothing 0
few_anew held = record {
  entries = λ dir tree is. let few : 44 * number_in keeps_nothing has_entry tree ≤ size_in keeps_nothing tree = counted_few has_entry tree in omega (arith, few);
  tracked = λ dir tree is. let few : 44 * number_in keeps_nothing is_tracked tree ≤ size_in keeps_nothing tree = counted_few is_tracked tree in omega (arith, few);
}

-- nothing is put yet
pub part_none : (held : Held) (keeps : Keeps) (dir : Option (List ℕ)) (at : ℕ) (left : List ChildData) (sums : Sums) (bytes records : List ℕ) → at < 2 ^ 64 → AreChildren held dir left
    → sums.end ≡ at → sums.count ≡ 0 → sums.entries ≡ 0 → sums.tracked ≡ 0 → sums.copies ≡ 0
    → IsPutPart held keeps dir at left sums bytes bytes records records
part_none held keeps dir at left sums bytes records fits children end count entries tracked copies = record {
  tree = Nothing;
  children = children;
  below = tt;
  sound = tt;
  sums_are = record { ends = omega (arith, fits, end); count = count; entries = entries; tracked = tracked; copies = copies };
  bytes = λ small. sym (append-nil bytes);
  records = λ small. sym (append-nil records);
}

no_children : (held : Held) (dir : List ℕ) (b : Bool) → b ≡ false
    → MatchBool b ((kid : List ℕ) × ((table held).nodes kid ≡ true) × (parent_of kid ≡ Some dir)) ((kid : List ℕ) → parent_of kid ≡ Some dir → (table held).nodes kid ≡ false)
    → AreChildren held (Some dir) []
unfolding IsStrictlySortedBy
no_children held dir true e h = absurd (cc)
no_children held dir false e h = record { ascending = tt; each = tt; all = λ path node parent. absurd (both_ways ((table held).nodes path) (h path parent) node) }

only_false : (list : Option Kept) → only_if false list ≡ None
only_false None = refl
only_false (Some list) = refl

only_true : (list : Option Kept) → only_if true list ≡ list
only_true None = refl
only_true (Some list) = refl

-- nothing is below a node without children
pub below_none : (held : Held) (keeps : Keeps) (child : ChildData) (at : ℕ) (put : Put) (bytes records : List ℕ) → at < 2 ^ 64 → IsChild held (parent_of child.path) child → child.has_kids ≡ false
    → put.start ≡ 0 → put.sums.end ≡ at → put.sums.count ≡ 0 → put.sums.entries ≡ 0 → put.sums.tracked ≡ 0 → put.sums.copies ≡ 0
    → IsPutUnder held keeps (kept_of keeps child) child.path at put bytes bytes records records
below_none held keeps child at put bytes records fits is none start end count entries tracked copies =
    subst (λ (list : Option Kept). IsPutUnder held keeps list child.path at put bytes bytes records records)
    (sym (ap (λ (kids : Bool). only_if kids (keeps.list child.path)) none ∙ only_false (keeps.list child.path)))
    (record {
      tree = Nothing;
      kids = no_children held child.path child.has_kids none is.kids;
      below = tt;
      sound = tt;
      sums_are = record { ends = omega (arith, fits, end); count = count; entries = entries; tracked = tracked; copies = copies };
      start = λ small. start;
      bytes = λ small. sym (append-nil bytes);
      records = λ small. sym (append-nil records);
    })

-- nothing is put of a list that is kept
pub below_kept : (held : Held) (keeps : Keeps) (list : Kept) (path : List ℕ) (at : ℕ) (put : Put) (bytes records : List ℕ) → at < 2 ^ 64
    → list.count < 2 ^ 32 → list.entries < 2 ^ 32 → list.tracked < 2 ^ 32
    → put.start ≡ list.start → put.sums.end ≡ at → put.sums.count ≡ list.count → put.sums.entries ≡ list.entries → put.sums.tracked ≡ list.tracked → put.sums.copies ≡ 0
    → IsPutUnder held keeps (Some list) path at put bytes bytes records records
below_kept held keeps list path at put bytes records fits few_nodes few_entries few_tracked start end count entries tracked copies = record {
  tree = Nothing;
  kids = refl;
  below = tt;
  sound = tt;
  sums_are = record { ends = omega (arith, fits, end); count = omega (arith, count, few_nodes); entries = omega (arith, entries, few_entries); tracked = omega (arith, tracked, few_tracked); copies = copies };
  start = λ small. start;
  bytes = λ small. sym (append-nil bytes);
  records = λ small. sym (append-nil records);
}

-- a list that isn't kept was put
pub below_put : (held : Held) (keeps : Keeps) (path : List ℕ) (at : ℕ) (put : Put) (old new old_records new_records : List ℕ) → IsPut held keeps (Some path) at put old new old_records new_records
    → IsPutUnder held keeps None path at put old new old_records new_records
below_put held keeps path at put old new old_records new_records p = record {
  tree = p.tree;
  kids = p.is.children;
  below = p.is.below;
  sound = p.sound;
  sums_are = p.sums_are;
  start = p.start;
  bytes = p.bytes;
  records = p.records;
}

-- the list of a node with children
pub below_some : (held : Held) (keeps : Keeps) (child : ChildData) (path : List ℕ) (at : ℕ) (put : Put) (old new old_records new_records : List ℕ) → child.has_kids ≡ true → path ≡ child.path
    → IsPutUnder held keeps (keeps.list path) path at put old new old_records new_records → IsPutUnder held keeps (kept_of keeps child) child.path at put old new old_records new_records
below_some held keeps child path at put old new old_records new_records some same p =
    subst (λ (list : Option Kept). IsPutUnder held keeps list child.path at put old new old_records new_records)
    (sym (ap (λ (kids : Bool). only_if kids (keeps.list child.path)) some ∙ only_true (keeps.list child.path)))
    (subst (λ (at_path : List ℕ). IsPutUnder held keeps (keeps.list at_path) at_path at put old new old_records new_records) same p)

three : (a b c d : List ℕ) → ((a ++ b) ++ c) ++ d ≡ a ++ (b ++ (c ++ d))
three a b c d = simp append_assoc

each_at : {X : Type 0} (P : X → Type 0) (before behind : List X) (x : X) → AllByRecursion P (before ++ x ∷ behind) → P x
each_at P [] behind x all = all.0
each_at P (b ∷ before) behind x all = each_at P before behind x all.1

-- what is left first is a child of the directory
pub left_child : (held : Held) (keeps : Keeps) (dir : Option (List ℕ)) (at : ℕ) (children left : List ChildData) (child : ChildData) (sums : Sums) (old new old_records new_records : List ℕ)
    → children ≡ child ∷ left → IsPutPart held keeps dir at children sums old new old_records new_records → IsChild held dir child
left_child held keeps dir at children left child sums old new old_records new_records is part =
    each_at (IsChild held dir) (heads part.tree) left child (subst (λ (l : List ChildData). AllByRecursion (IsChild held dir) (heads part.tree ++ l)) is part.children.each)

pub in_parent : (held : Held) (dir : Option (List ℕ)) (child : ChildData) → IsChild held dir child → IsChild held (parent_of child.path) child
in_parent held dir child is = subst (λ (d : Option (List ℕ)). IsChild held d child) (sym is.parent) is

-- a part goes on from where the list begins
pub part_on : (held : Held) (keeps : Keeps) (base : ℕ) (dir : Option (List ℕ)) (at : ℕ) (left : List ChildData) (sums : Sums) (old new old_records new_records : List ℕ) → at < 2 ^ 64 → base ≤ at
    → IsPutPart held keeps dir at left sums old new old_records new_records → base ≤ sums.end
part_on held keeps base dir at left sums old new old_records new_records fits room part =
    let end : sums.end ≡ kept (at + front_size_in keeps part.tree) = part.sums_are.ends in
    omega (arith, fits, room, end)

-- one node more
module _ (held : Held) (keeps : Keeps) (dir : Option (List ℕ)) (at : ℕ) (children : List ChildData) (child : ChildData) (left : List ChildData) (is_left : children ≡ child ∷ left) (sums now : Sums) (old new fin old_records new_records fin_records : List ℕ) where
  pub part_more : IsPutPart held keeps dir at children sums old new old_records new_records
      → HasPut held keeps child (base_in dir) sums now new fin new_records fin_records
      → IsChild held dir child
      → IsPutPart held keeps dir at left now old fin old_records fin_records
  part_more part put child_is =
      let tree = part.tree in
      let under = put.under in
      let below = put.below.tree in
      let m = at + front_size_in keeps tree in
      let size : front_size_in keeps (snoc tree child below) ≡ front_size_in keeps tree + under_size keeps child below + length (path_put keeps child) + length (source_put keeps child) = size_snoc keeps tree child below in
      let first : sums.end ≡ kept m = part.sums_are.ends in
      let second : under.sums.end ≡ kept (sums.end + under_size keeps child below) = put.below.sums_are.ends in
      let third : now.end ≡ kept (kept (under.sums.end + length (path_put keeps child)) + length (source_put keeps child)) = ap (λ (s : Sums). s.end) put.is in
      let end : now.end ≡ kept (at + front_size_in keeps (snoc tree child below)) = omega (arith, size, first, second, third) in
      let small_end : at + front_size_in keeps (snoc tree child below) < 2 ^ 32 → now.end < 2 ^ 32 = λ small. omega (arith, small, end) in
      let at_mid : at + front_size_in keeps (snoc tree child below) < 2 ^ 32 → sums.end ≡ m = λ small. omega (arith, small, size, first) in
      let below_fits : at + front_size_in keeps (snoc tree child below) < 2 ^ 32 → sums.end + under_size keeps child below < 2 ^ 32 = λ small. omega (arith, small, size, first) in
      record {
        tree = snoc tree child below;
        children = subst (AreChildren held dir) (sym (ap (λ (l : List ChildData). l ++ left) (heads_snoc tree child below) ∙ append_assoc (heads tree) (child ∷ []) left)) (subst (λ (l : List ChildData). AreChildren held dir (heads tree ++ l)) is_left part.children);
        below = below_snoc held keeps tree child below part.below put.below.kids put.below.below;
        sound = sound_snoc keeps tree child below part.sound put.sound put.below.sound;
        sums_are = record {
          ends = end;
          count = more_count tree below part.sums_are.count (ap (λ (s : Sums). s.count) put.is);
          entries = more has_entry tree below under (λ s. s.entries) part.sums_are.entries put.below.sums_are.entries (ap (λ (s : Sums). s.entries) put.is);
          tracked = more is_tracked tree below under (λ s. s.tracked) part.sums_are.tracked put.below.sums_are.tracked (ap (λ (s : Sums). s.tracked) put.is);
          copies = more has_source tree below under (λ s. s.copies) part.sums_are.copies put.below.sums_are.copies (ap (λ (s : Sums). s.copies) put.is);
        };
        bytes = λ small. more_bytes tree below put.mid part.bytes put.below.bytes (at_mid small) (below_fits small) (let s : m < 2 ^ 32 = omega (arith, small, size) in s) (put.texts (small_end small));
        records = λ small. more_records tree below under put.mid_records part.records put.below.records (at_mid small) (below_fits small) (let s : m < 2 ^ 32 = omega (arith, small, size) in s) (put.records (small_end small))
            (same_rec tree below under (at_mid small) second (below_fits small) put.below.start put.below.sums_are put.few);
      }
    where
      more_count : (tree below : Tree) → sums.count ≡ kept (length (heads tree)) → now.count ≡ kept (sums.count + 1) → now.count ≡ kept (length (heads (snoc tree child below)))
      more_count tree below was one =
          let longer : length (heads (snoc tree child below)) ≡ length (heads tree) + 1 = ap length (heads_snoc tree child below) ∙ length-append (heads tree) (child ∷ []) in
          omega (arith, longer, one, was)

      more : (counting : Counting) (tree below : Tree) (under : Put) (field : Sums → ℕ) → field sums ≡ kept (number_in keeps counting tree) → field under.sums ≡ kept (under_number keeps counting child below)
          → field now ≡ kept (kept (field sums + field under.sums) + cond (counting.test child) 1 0) → field now ≡ kept (number_in keeps counting (snoc tree child below))
      more counting tree below under field was lower now_is =
          let all : number_in keeps counting (snoc tree child below) ≡ number_in keeps counting tree + under_number keeps counting child below + cond (counting.test child) 1 0 = count_snoc keeps counting tree child below in
          omega (arith, all, was, lower, now_is)

      more_bytes : (tree below : Tree) (mid : List ℕ) → Puts (at + front_size_in keeps tree) (front_in keeps at tree) old new → Puts (sums.end + under_size keeps child below) (under_bytes keeps sums.end child below) new mid
          → sums.end ≡ at + front_size_in keeps tree → sums.end + under_size keeps child below < 2 ^ 32 → at + front_size_in keeps tree < 2 ^ 32 → fin ≡ mid ++ (path_put keeps child ++ source_put keeps child)
          → fin ≡ old ++ front_in keeps at (snoc tree child below)
      more_bytes tree below mid front lower place fits fits_front last =
          let a : new ≡ old ++ front_in keeps at tree = front fits_front in
          let b : mid ≡ new ++ under_bytes keeps sums.end child below = lower fits in
          let texts : List ℕ = path_put keeps child ++ source_put keeps child in
          let c : mid ≡ (old ++ front_in keeps at tree) ++ under_bytes keeps (at + front_size_in keeps tree) child below =
          b ∙ ap (λ (l : List ℕ). l ++ under_bytes keeps sums.end child below) a ∙ ap (λ (n : ℕ). (old ++ front_in keeps at tree) ++ under_bytes keeps n child below) place in
          last ∙ ap (λ (l : List ℕ). l ++ texts) c ∙ three old (front_in keeps at tree) (under_bytes keeps (at + front_size_in keeps tree) child below) texts ∙ ap (λ (l : List ℕ). old ++ l) (sym (front_snoc keeps at tree child below))

      more_records : (tree below : Tree) (under : Put) (mid_records : List ℕ) → Puts (at + front_size_in keeps tree) (records_in keeps at tree) old_records new_records → Puts (sums.end + under_size keeps child below) [] new_records mid_records
          → sums.end ≡ at + front_size_in keeps tree → sums.end + under_size keeps child below < 2 ^ 32 → at + front_size_in keeps tree < 2 ^ 32 → fin_records ≡ mid_records ++ bytes_of (rec_with keeps child (base_in dir) under)
          → rec_with keeps child (base_in dir) under ≡ rec_in keeps (at + front_size_in keeps tree) child below
          → fin_records ≡ old_records ++ records_in keeps at (snoc tree child below)
      more_records tree below under mid_records front lower place fits fits_front last same =
          let a : new_records ≡ old_records ++ records_in keeps at tree = front fits_front in
          let b : mid_records ≡ new_records = lower fits ∙ append-nil new_records in
          last ∙ (ap (λ (r : Rec). mid_records ++ bytes_of r) same
          ∙ ap (λ (l : List ℕ). l ++ bytes_of (rec_in keeps (at + front_size_in keeps tree) child below)) (b ∙ a)
          ∙ append_assoc old_records (records_in keeps at tree) (bytes_of (rec_in keeps (at + front_size_in keeps tree) child below))
          ∙ ap (λ (l : List ℕ). old_records ++ l) (sym (records_snoc keeps at tree child below)))

      same_rec : (tree below : Tree) (under : Put) → sums.end ≡ at + front_size_in keeps tree → under.sums.end ≡ kept (sums.end + under_size keeps child below) → sums.end + under_size keeps child below < 2 ^ 32
          → (sums.end + under_size keeps child below < 2 ^ 32 → under.start ≡ under_start keeps sums.end child below)
          → AreSumsUnder keeps (kept_of keeps child) (sums.end + under_size keeps child below) below under.sums → IsFew under
          → rec_with keeps child (base_in dir) under ≡ rec_in keeps (at + front_size_in keeps tree) child below
      same_rec tree below under place second fits starts are few =
          let m = at + front_size_in keeps tree in
          let end : under.sums.end ≡ m + under_size keeps child below = omega (arith, place, second, fits) in
          let inside : under.sums.end < 2 ^ 32 = omega (arith, second, fits) in
          let start : under.start ≡ under_start keeps m child below = starts fits ∙ ap (λ (n : ℕ). under_start keeps n child below) place in
          let count : under.sums.count ≡ under_count keeps child below = exact under.sums.count (under_count keeps child below) are.count (few.count inside) in
          let entries : under.sums.entries ≡ under_number keeps has_entry child below = exact under.sums.entries (under_number keeps has_entry child below) are.entries (few.entries inside) in
          let tracked : under.sums.tracked ≡ under_number keeps is_tracked child below = exact under.sums.tracked (under_number keeps is_tracked child below) are.tracked (few.tracked inside) in
          let base : base_in dir ≡ length child.path - length (base_of child.path) = base_is dir child.path child_is.parent in
          λ i. record {
            place = 0;
            path_start = text_start (keeps.text child.text_at) (end i);
            path_len = length child.path;
            base_at = base i;
            copy_start = copy_start child.source (text_start (keeps.text child.source_at) (end i + length (path_put keeps child)));
            copy_len = length (source_text child.source);
            kids_start = start i;
            kids_count = count i;
            entries_below = entries i;
            tracked_below = tracked i;
            flags = (fields_for child.entry child.cache).flags;
            size = (fields_for child.entry child.cache).size;
            seconds = (fields_for child.entry child.cache).seconds;
            nanos = (fields_for child.entry child.cache).nanos;
          }
        where
          exact : (n m : ℕ) → n ≡ kept m → n < 2 ^ 32 → n ≡ m
          exact n m is small = omega (arith, is, small)

-- all nodes are put, and their records
module _ (held : Held) (keeps : Keeps) (dir : Option (List ℕ)) (at : ℕ) (left : List ChildData) (sums : Sums) (put : Put) (old new fin old_records new_records fin_records : List ℕ) where
  ended_is : (tree : Tree) → AreSums keeps (at + front_size_in keeps tree) tree sums → (ended sums).end ≡ kept (at + size_in keeps tree)
  ended_is tree are =
      let all : size_in keeps tree ≡ front_size_in keeps tree + 44 * length (heads tree) = size_is_in keeps tree in
      let first : sums.end ≡ kept (at + front_size_in keeps tree) = are.ends in
      let second : sums.count ≡ kept (length (heads tree)) = are.count in
      omega (arith, all, first, second)

  pub kept_inside : IsPutPart held keeps dir at left sums old new old_records new_records → (ended sums).end < 2 ^ 32 → length old_records ≤ length new_records
  kept_inside part small =
      let end : (ended sums).end ≡ kept (at + size_in keeps part.tree) = ended_is part.tree part.sums_are in
      let all : size_in keeps part.tree ≡ front_size_in keeps part.tree + 44 * length (heads part.tree) = size_is_in keeps part.tree in
      let fits : at + front_size_in keeps part.tree < 2 ^ 32 = omega (arith, small, end, all) in
      let whole : length new_records ≡ length old_records + length (records_in keeps at part.tree) = ap length (part.records fits) ∙ length-append old_records (records_in keeps at part.tree) in
      omega (arith, whole)

  pub part_done : IsPutPart held keeps dir at left sums old new old_records new_records → left ≡ []
      → put.sums ≡ ended sums → put.start ≡ start_with sums
      → Puts put.sums.end (drop (length old_records) new_records) new fin
      → (put.sums.end < 2 ^ 32 → fin_records ≡ take (length old_records) new_records)
      → IsPut held keeps dir at put old fin old_records fin_records
  part_done part none is start bytes records =
      let tree = part.tree in
      let all : size_in keeps tree ≡ front_size_in keeps tree + 44 * length (heads tree) = size_is_in keeps tree in
      let end : put.sums.end ≡ kept (at + size_in keeps tree) = ap (λ (s : Sums). s.end) is ∙ ended_is tree part.sums_are in
      let inside : at + size_in keeps tree < 2 ^ 32 → put.sums.end < 2 ^ 32 = λ small. omega (arith, small, end) in
      let front_fits : at + size_in keeps tree < 2 ^ 32 → at + front_size_in keeps tree < 2 ^ 32 = λ small. omega (arith, small, all) in
      record {
        tree = tree;
        is = record { children = subst (AreChildren held dir) (ap (λ (l : List ChildData). heads tree ++ l) none ∙ append-nil (heads tree)) part.children; below = part.below };
        sound = part.sound;
        sums_are = record {
          ends = end;
          count = ap (λ (s : Sums). s.count) is ∙ part.sums_are.count;
          entries = ap (λ (s : Sums). s.entries) is ∙ part.sums_are.entries;
          tracked = ap (λ (s : Sums). s.tracked) is ∙ part.sums_are.tracked;
          copies = ap (λ (s : Sums). s.copies) is ∙ part.sums_are.copies;
        };
        start = λ small. start ∙ starts tree part.sums_are.count (let first : sums.end ≡ kept (at + front_size_in keeps tree) = part.sums_are.ends in let f : at + front_size_in keeps tree < 2 ^ 32 = front_fits small in let e : sums.end ≡ at + front_size_in keeps tree = omega (arith, first, f) in e);
        bytes = λ small.
            bytes (inside small)
            ∙ ap (λ (l : List ℕ). new ++ l) (ap (drop (length old_records)) (part.records (front_fits small)) ∙ drop-append_seam old_records (records_in keeps at tree))
            ∙ ap (λ (l : List ℕ). l ++ records_in keeps at tree) (part.bytes (front_fits small))
            ∙ append_assoc old (front_in keeps at tree) (records_in keeps at tree);
        records = λ small.
            records (inside small) ∙ ap (take (length old_records)) (part.records (front_fits small)) ∙ take-append_seam old_records (records_in keeps at tree) ∙ sym (append-nil old_records);
      }
    where
      starts : (tree : Tree) → sums.count ≡ kept (length (heads tree)) → sums.end ≡ at + front_size_in keeps tree → start_with sums ≡ start_in keeps at tree
      starts Nothing count e = let none : sums.count ≡ 0 = count in rw none refl
      starts (Node child below behind) count e =
          let some : eqb sums.count 0 ≡ false = ne_eqb sums.count 0 (λ z. let c : sums.count ≡ kept (length (heads (Node child below behind))) = count in absurd (omega (arith, z, c))) in
          ap (λ (b : Bool). cond b 0 sums.end) some ∙ e

-- what stands in a directory is longer, and no path is longer than 65,535 bytes
abbrev pub dir_length : Option (List ℕ) → ℕ
dir_length None = 0
dir_length (Some dir) = length dir

pub child_longer : (dir : Option (List ℕ)) (path : List ℕ) → is_path path ≡ true → parent_of path ≡ dir → dir_length dir < length path
child_longer None path good parent = path_some path good
child_longer (Some dir) path good parent = parent_length dir path parent

pub path_short : (path : List ℕ) → is_path path ≡ true → length path ≤ 65535
path_short path good = (path_parts path good).short
