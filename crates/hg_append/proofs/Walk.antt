-- What was put beside lists and texts that are kept is read again: the walk finds no fault, and the rows of the tree with those of the lists.
use Rattle.std.proofs.Common.{◌≡◌, ℕ, zero, suc, ◌+◌, ◌-◌, ◌*◌, ◌<◌, ◌≤◌, ◌^◌, Bool, true, false, ◌||◌, cond, List, [], ◌∷◌, ◌++◌, length, map, Option, Some, None, refl, sym, ap, subst, ◌∙◌, arith, eq-eqb, nat_cmp, Less}
use Rattle.std.specs.Prelude.{count_by, is_some}
use Rattle.std.specs.List.{AllByRecursion}
use Rattle.std.specs.List.Sorted.{IsStrictlySortedBy}
use Rattle.std.specs.Cmp.Lexicographic.{slice_cmp}
use Rattle.std.proofs.lemmas.Bool.{and_from, or_parts}
use Rattle.std.proofs.lemmas.List.{length-append}
use Rattle.std.proofs.lemmas.Map.Keys.{sorted_head, sorted_tail}
use Rattle.hg_base.specs.PathText.{base_of, components, is_path, parent_of, has_slash, joined}
use Rattle.hg_base.proofs.Paths.{path_parts, path_base_plain}
use Rattle.hg_entry.specs.Entry.{has_entry, EntryData, entry_of}
use Rattle.hg_entry.specs.Flags.{has, wdir_tracked, p1_tracked}
use Rattle.hg_entry.specs.declared.entry.Fields.{Fields}
use Rattle.hg_node.specs.declared.record.Rec.{Rec}
use Rattle.hg_node.specs.Node.{bytes_of}
use Rattle.hg_image.specs.declared.fault.NodeFault.{NodeFault}
use Rattle.hg_image.specs.Node.{first_of, fields_of, is_after, node_fault, path_of, name_of, record_at}
use Rattle.hg_image.specs.Counts as counts
use Rattle.hg_image.specs.Counts.{are_counted, is_entry}
use Rattle.hg_image.specs.Rows.{AreParted, Row, list_rows, nodes_rows}
use Rattle.hg_image.specs.Walk.{depth_of, levels, list_fault, nodes_fault}
use Rattle.hg_image.proofs.Counted.{count_append, count_cons, counted_parts}
use Rattle.hg_image.proofs.Walk.{below, list_empty, list_inside}
use Rattle.hg_mixed.specs.Children.{IsChild, AreChildren}
use Rattle.hg_nodes.specs.Children.{ChildData}
use Rattle.hg_nodes.specs.Edits.{IsFormed}
use Rattle.hg_mixed.specs.Held.{Held, table}
use Rattle.hg_nodes.specs.Written.{fields_for}
use Rattle.hg_append.specs.declared.kept.Kept.{Kept}
use Rattle.hg_append.specs.Keeps.{Keeps, bytes_unless, number_unless}
use Rattle.hg_append.specs.Tree.{AreBelowIn, AreKids, Counting, IsTreeIn, Nothing, Node, Tree, heads, is_tracked, kept_of, number_in}
use Rattle.hg_append.specs.Tree as tree
use Rattle.hg_append.specs.Layout.{behind_in, front_in, front_size_in, path_put, put_in, rec_in, records_in, size_in, source_put, source_text, start_in, under_bytes, under_count, under_number, under_size, under_start}
use Rattle.hg_append.specs.Put.{AreSoundIn, IsWritable, nodes_in, nodes_unless}
use Rattle.hg_append.proofs.Node.{AreStarted, PlacedIn, copy_named, count_small, kept_is, lower_rows, node_passes, path_in, read_in, row_in, row_read, rows_in_at, rows_unless, start_small, text_placed}
use Rattle.hg_append.proofs.Has.{Has, has_first, has_room, has_second}
use Rattle.hg_append.proofs.KeptIn.{AreKeptIn, IsKeptIn}
use Rattle.hg_append.proofs.Sizes.{front_length_in, put_length_in, size_is_in}
use Rattle.hg_append.proofs.Parts.{unless_length}
use Rattle.hg_append.proofs.Snoc.{sound_behind_in, sound_under}
use Rattle.std.specs.Ordering.{is_lt}
use Rattle.hg_base.proofs.Compared.{cmp_joined}
use Rattle.hg_base.proofs.Components.{components_more, components_name, joined_parent}
use Rattle.hg_image.proofs.Apart.{kids_of, list_later}
use Rattle.hg_image.proofs.Parted.{parted}
use Rattle.hg_nodes.specs.Clash.{is_tracked_entry}

one_more : (dir : Option (List ℕ)) (name : List ℕ) → has_slash name ≡ false → length (components (joined dir name)) ≡ depth_of dir + 1
one_more None name plain = ap length (components_name name plain)
one_more (Some dir) name plain = ap length (components_more dir name plain) ∙ length-append (components dir) (name ∷ [])

pub deeper : (dir : Option (List ℕ)) (path : List ℕ) → is_path path ≡ true → parent_of path ≡ dir → length (components path) ≡ depth_of dir + 1
deeper dir path good parent =
    let whole : path ≡ joined dir (base_of path) = sym (joined_parent path) ∙ ap (λ (d : Option (List ℕ)). joined d (base_of path)) parent in
    ap (λ (p : List ℕ). length (components p)) whole ∙ one_more dir (base_of path) (path_base_plain path good)

-- names in one directory ascend as their paths do
names_as_paths : (dir : Option (List ℕ)) (a b : List ℕ) → slice_cmp nat_cmp (joined dir a) (joined dir b) ≡ slice_cmp nat_cmp a b
names_as_paths None a b = refl
names_as_paths (Some dir) a b = cmp_joined dir a b

pub name_after : (dir : Option (List ℕ)) (a b : List ℕ) → parent_of a ≡ dir → parent_of b ≡ dir → slice_cmp nat_cmp a b ≡ Less → is_after (Some (base_of a)) (base_of b) ≡ true
name_after dir a b first second less =
    let one : a ≡ joined dir (base_of a) = sym (joined_parent a) ∙ ap (λ (d : Option (List ℕ)). joined d (base_of a)) first in
    let two : b ≡ joined dir (base_of b) = sym (joined_parent b) ∙ ap (λ (d : Option (List ℕ)). joined d (base_of b)) second in
    ap is_lt (sym (names_as_paths dir (base_of a) (base_of b)) ∙ sym (ap (slice_cmp nat_cmp (joined dir (base_of a))) two) ∙ sym (ap (λ (p : List ℕ). slice_cmp nat_cmp p b) one) ∙ less)

-- what the rows are counted for
tracked_none : (f : Fields) → has_entry f.flags ≡ false → has f.flags wdir_tracked ≡ false
tracked_none f h = (or_parts (has f.flags wdir_tracked) _ (or_parts (has f.flags wdir_tracked || has f.flags p1_tracked) _ h).0).0

entry_counted : (f : Fields) (o : Option EntryData) → entry_of f ≡ o → has_entry f.flags ≡ is_some o
entry_counted f o h = told (has_entry f.flags) _ o h
  where
    told : (t : Bool) (x : EntryData) (o : Option EntryData) → cond t (Some x) None ≡ o → t ≡ is_some o
    told true x o h = ap is_some h
    told false x o h = ap is_some h

track_counted : (f : Fields) (o : Option EntryData) → entry_of f ≡ o → has f.flags wdir_tracked ≡ is_tracked_entry o
track_counted f o h = told (has_entry f.flags) refl _ h refl
  where
    told : (t : Bool) → has_entry f.flags ≡ t → (x : EntryData) → cond t (Some x) None ≡ o → x.w ≡ has f.flags wdir_tracked → has f.flags wdir_tracked ≡ is_tracked_entry o
    told true is x h w = sym w ∙ ap is_tracked_entry h
    told false is x h w = tracked_none f is ∙ ap is_tracked_entry h

sum_of : (a b : ℕ) (x y n m : ℕ) → a ≡ x → b ≡ y → n ≡ m → n + (a + b) ≡ m + x + y
sum_of a b x y n m p q r = omega (arith, p, q, r)

module _ (keeps : Keeps) (kept_rows : List ℕ → List Row) (test : Row → Bool) (of : Counting)
    (low : (child : ChildData) (list : Kept) → kept_of keeps child ≡ Some list → is_path child.path ≡ true → count_by test (kept_rows child.path) ≡ of.below list)
    (same : (child : ChildData) (r : Row) → IsWritable child → r.source ≡ child.source → fields_of r.rec ≡ fields_for child.entry child.cache → test r ≡ of.test child) where
  lower_as : (child : ChildData) (o : Option Kept) (own : List Row) (n : ℕ) → kept_of keeps child ≡ o → is_path child.path ≡ true → (o ≡ None → count_by test own ≡ n)
      → count_by test (rows_unless o (kept_rows child.path) own) ≡ number_unless o of.below n
  lower_as child None own n e good more = more refl
  lower_as child (Some list) own n e good more = low child list e good

  pub counted_as : (at place : ℕ) (t : Tree) → AreSoundIn keeps t → count_by test (rows_in_at keeps kept_rows at place t) ≡ number_in keeps of t
  counted_as at place Nothing sound = refl
  counted_as at place (Node child under behind) sound =
      let head : Row = row_in keeps at place child under in
      let own = rows_in_at keeps kept_rows at (at + front_size_in keeps under) under in
      let later = rows_in_at keeps kept_rows (behind_in keeps at child under) (place + 44) behind in
      let lower = lower_rows keeps kept_rows at child under in
      count_cons test head (lower ++ later)
      ∙ ap (λ (n : ℕ). cond (test head) 1 0 + n) (count_append test lower later)
      ∙ sum_of _ _ _ _ _ _
      (lower_as child (kept_of keeps child) own (number_in keeps of under) refl sound.0.path
      (λ none. counted_as at (at + front_size_in keeps under) under (subst (λ (o : Option Kept). AllByRecursion IsWritable (nodes_unless o (nodes_in keeps under))) none (sound_under keeps child under behind sound))))
      (counted_as (behind_in keeps at child under) (place + 44) behind (sound_behind_in keeps child under behind sound))
      (ap (λ (b : Bool). cond b 1 0) (same child head sound.0 refl refl))

  -- those below a node
  pub counted_under : (at : ℕ) (child : ChildData) (under behind : Tree) → AreSoundIn keeps (Node child under behind) → count_by test (lower_rows keeps kept_rows at child under) ≡ under_number keeps of child under
  counted_under at child under behind sound =
      lower_as child (kept_of keeps child) (rows_in_at keeps kept_rows at (at + front_size_in keeps under) under) (number_in keeps of under) refl sound.0.path
      (λ none. counted_as at (at + front_size_in keeps under) under (subst (λ (o : Option Kept). AllByRecursion IsWritable (nodes_unless o (nodes_in keeps under))) none (sound_under keeps child under behind sound)))

pub entry_same : (child : ChildData) (r : Row) → IsWritable child → r.source ≡ child.source → fields_of r.rec ≡ fields_for child.entry child.cache → is_entry r ≡ tree.has_entry.test child
entry_same child r sound source fields = ap (λ (f : Fields). has_entry f.flags) fields ∙ entry_counted (fields_for child.entry child.cache) child.entry sound.fields.entry

pub track_same : (child : ChildData) (r : Row) → IsWritable child → r.source ≡ child.source → fields_of r.rec ≡ fields_for child.entry child.cache → counts.is_tracked r ≡ is_tracked.test child
track_same child r sound source fields = ap (λ (f : Fields). has f.flags wdir_tracked) fields ∙ track_counted (fields_for child.entry child.cache) child.entry sound.fields.entry

pub has_by_entry : (f : Fields) (e : EntryData) → entry_of f ≡ Some e → has_entry f.flags ≡ true
has_by_entry f e h = told (has_entry f.flags) _ h
  where
    told : (t : Bool) (x : EntryData) → cond t (Some x) None ≡ Some e → t ≡ true
    told true x h = refl
    told false x h = absurd (cc)

module _ (held : Held) (formed : IsFormed (table held)) where
  -- a source stands at an entry
  pub source_at_entry : (dir : Option (List ℕ)) (child : ChildData) → IsChild held dir child → IsWritable child → (s : List ℕ) → child.source ≡ Some s → has_entry (fields_for child.entry child.cache).flags ≡ true
  source_at_entry dir child is sound s e = by_entry child.entry refl
    where
      by_entry : (o : Option EntryData) → child.entry ≡ o → has_entry (fields_for child.entry child.cache).flags ≡ true
      by_entry None none =
          let no_source : child.source ≡ None = is.source ∙ formed.sources child.path (sym is.entry ∙ none) in
          absurd (cc (e, no_source))
      by_entry (Some entry) some = has_by_entry (fields_for child.entry child.cache) entry (sound.fields.entry ∙ some)

no_rows : (bytes : List ℕ) (fuel : ℕ) → list_rows fuel bytes 0 0 ≡ []
unfolding list_rows nodes_rows
no_rows bytes zero = refl
no_rows bytes (suc fuel) = refl

-- the first node of a list comes behind a name
abbrev Follows : Option (List ℕ) → Tree → Type 0
Follows before Nothing = Unit {0}
Follows before (Node child under behind) = is_after before (base_of child.path) ≡ true

follows : (held : Held) (dir : Option (List ℕ)) (path : List ℕ) (t : Tree) → parent_of path ≡ dir → AllByRecursion (IsChild held dir) (heads t)
    → AllByRecursion (λ other. slice_cmp nat_cmp path other ≡ Less) (map (λ child. child.path) (heads t)) → Follows (Some (base_of path)) t
follows held dir path Nothing parent are less = tt
follows held dir path (Node child under behind) parent are less = name_after dir path child.path parent are.0.parent less.0

follows_none : (t : Tree) → Follows None t
follows_none Nothing = tt
follows_none (Node child under behind) = refl

parts_are : (bytes : List ℕ) (fuel : ℕ) (dir before : Option (List ℕ)) (place : ℕ) (path : List ℕ) (rec : Rec) (under behind : List Row) (count : ℕ) → record_at bytes place ≡ rec → path_of bytes rec ≡ path
    → nodes_fault (below fuel bytes) bytes dir before place (suc count) ≡ None → list_rows fuel bytes rec.kids_start rec.kids_count ≡ under
    → nodes_rows (list_rows fuel bytes) bytes (place + 44) count ≡ behind → AreParted path under behind
parts_are bytes fuel dir before place path rec under behind count read named none lower rest =
    let found : AreParted (path_of bytes (record_at bytes place)) (list_rows fuel bytes (record_at bytes place).kids_start (record_at bytes place).kids_count) (nodes_rows (list_rows fuel bytes) bytes (place + 44) (suc count - 1)) =
    parted (below fuel bytes) (list_rows fuel bytes) (kids_of fuel bytes (list_later fuel bytes)) bytes dir before place (suc count) (omega arith) none in
    let one : AreParted (path_of bytes rec) (list_rows fuel bytes rec.kids_start rec.kids_count) (nodes_rows (list_rows fuel bytes) bytes (place + 44) (suc count - 1)) =
    subst (λ (r : Rec). AreParted (path_of bytes r) (list_rows fuel bytes r.kids_start r.kids_count) (nodes_rows (list_rows fuel bytes) bytes (place + 44) (suc count - 1))) read found in
    let two : AreParted path (list_rows fuel bytes rec.kids_start rec.kids_count) (nodes_rows (list_rows fuel bytes) bytes (place + 44) (suc count - 1)) =
    subst (λ (p : List ℕ). AreParted p (list_rows fuel bytes rec.kids_start rec.kids_count) (nodes_rows (list_rows fuel bytes) bytes (place + 44) (suc count - 1))) named one in
    let same : suc count - 1 ≡ count = omega arith in
    let three : AreParted path under (nodes_rows (list_rows fuel bytes) bytes (place + 44) (suc count - 1)) =
    subst (λ (l : List Row). AreParted path l (nodes_rows (list_rows fuel bytes) bytes (place + 44) (suc count - 1))) lower two in
    subst (AreParted path under) (ap (nodes_rows (list_rows fuel bytes) bytes (place + 44)) same ∙ rest) three

module _ (held : Held) (keeps : Keeps) (bytes : List ℕ) (kept_rows : List ℕ → List Row) (kept : AreKeptIn held keeps bytes kept_rows) where
  pub kept_here : (child : ChildData) (list : Kept) → kept_of keeps child ≡ Some list → is_path child.path ≡ true → IsKeptIn held bytes child.path list (kept_rows child.path)
  kept_here child list e good = kept.lists child.path list good (kept_is child.has_kids (keeps.list child.path) list e)

  entries_low : (child : ChildData) (list : Kept) → kept_of keeps child ≡ Some list → is_path child.path ≡ true → count_by is_entry (kept_rows child.path) ≡ list.entries
  entries_low child list e good = (kept_here child list e good).entries

  tracked_low : (child : ChildData) (list : Kept) → kept_of keeps child ≡ Some list → is_path child.path ≡ true → count_by counts.is_tracked (kept_rows child.path) ≡ list.tracked
  tracked_low child list e good = (kept_here child list e good).tracked

  pub entries_in : (at place : ℕ) (t : Tree) → AreSoundIn keeps t → count_by is_entry (rows_in_at keeps kept_rows at place t) ≡ number_in keeps tree.has_entry t
  entries_in = counted_as keeps kept_rows is_entry tree.has_entry entries_low entry_same

  module _ (formed : IsFormed (table held)) (small : length bytes < 2 ^ 32) (base : ℕ) (started : AreStarted held keeps base) where
    abbrev NodesIn : ℕ → Option (List ℕ) → Option (List ℕ) → ℕ → ℕ → Tree → Type 0
    NodesIn fuel dir before at place t =
        (nodes_fault (below fuel bytes) bytes dir before place (length (heads t)) ≡ None)
        × ((nodes_rows (list_rows fuel bytes) bytes place (length (heads t)) ≡ rows_in_at keeps kept_rows at place t) × (are_counted (rows_in_at keeps kept_rows at place t) ≡ true))

    -- a list of which the records begin at a place
    abbrev AreRead : ℕ → Option (List ℕ) → ℕ → ℕ → List Row → Type 0
    AreRead fuel dir start count rows = (list_fault fuel bytes dir start count ≡ None) × ((list_rows fuel bytes start count ≡ rows) × (are_counted rows ≡ true))

    abbrev pub ListIn : ℕ → Option (List ℕ) → ℕ → Tree → Type 0
    ListIn fuel dir at t =
        (list_fault fuel bytes dir (start_in keeps at t) (length (heads t)) ≡ None)
        × ((list_rows fuel bytes (start_in keeps at t) (length (heads t)) ≡ rows_in_at keeps kept_rows at (at + front_size_in keeps t) t)
        × (are_counted (rows_in_at keeps kept_rows at (at + front_size_in keeps t) t) ≡ true))

    listed_in : (fuel : ℕ) (dir : Option (List ℕ)) (at : ℕ) (t : Tree) → (0 < length (heads t) → 0 < fuel) → at + size_in keeps t ≤ length bytes
        → ((f : ℕ) → suc f ≡ fuel → NodesIn f dir None at (at + front_size_in keeps t) t) → ListIn fuel dir at t
    unfolding list_rows
    listed_in fuel dir at Nothing deep room of = (list_empty fuel bytes dir 0 0 refl, (no_rows bytes fuel, refl))
    listed_in zero dir at (Node child under behind) deep room of = let d : 0 < 0 = deep (omega arith) in absurd (omega (arith, d))
    listed_in (suc f) dir at (Node child under behind) deep room of =
        let t : Tree = Node child under behind in
        let all : size_in keeps t ≡ front_size_in keeps t + 44 * length (heads t) = size_is_in keeps t in
        let same : suc f - 1 ≡ f = omega arith in
        let found = of f refl in
        let inside : at + front_size_in keeps t + 44 * length (heads t) ≤ length bytes = omega (arith, all, room) in (
          list_inside (suc f) bytes dir (at + front_size_in keeps t) (length (heads t)) (omega arith) (omega arith) inside
              ∙ ap (λ (n : ℕ). nodes_fault (below n bytes) bytes dir None (at + front_size_in keeps t) (length (heads t))) same ∙ found.0,
          (found.1.0, found.1.1),
        )

    level_left : (fuel : ℕ) (path : List ℕ) (t : Tree) → 2049 ≤ fuel + length (components path) → AllByRecursion (IsChild held (Some path)) (heads t) → AreSoundIn keeps t → 0 < length (heads t) → 0 < fuel
    level_left fuel path Nothing enough are sound some = absurd (omega (arith, some))
    level_left fuel path (Node child under behind) enough are sound some =
        let most : length (components child.path) ≤ 2048 = (path_parts child.path sound.0.path).shallow in
        let more : length (components child.path) ≡ length (components path) + 1 = deeper (Some path) child.path sound.0.path are.0.parent in
        omega (arith, enough, most, more)

    -- what is below a node is kept, or was put
    under_read : (fuel : ℕ) (child : ChildData) (o : Option Kept) (start count : ℕ) (own : List Row) → kept_of keeps child ≡ o → is_path child.path ≡ true → 2049 ≤ fuel + length (components child.path)
        → (o ≡ None → AreRead fuel (Some child.path) start count own)
        → AreRead fuel (Some child.path) (number_unless o (λ list. list.start) start) (number_unless o (λ list. list.count) count) (rows_unless o (kept_rows child.path) own)
    under_read fuel child None start count own e good enough more = more refl
    under_read fuel child (Some list) start count own e good enough more = let k = kept_here child list e good in (k.sound fuel enough, (k.rows_are fuel enough, k.counted))

    walk_in : (fuel : ℕ) (dir before : Option (List ℕ)) (at place : ℕ) (t : Tree) → AllByRecursion (IsChild held dir) (heads t) → AreBelowIn held keeps t → AreSoundIn keeps t
        → IsStrictlySortedBy (slice_cmp nat_cmp) (map (λ child. child.path) (heads t)) → Follows before t → 2048 ≤ fuel + depth_of dir → base ≤ at
        → number_in keeps tree.has_entry t < 2 ^ 32 → number_in keeps is_tracked t < 2 ^ 32
        → Has bytes at (front_in keeps at t) → Has bytes place (records_in keeps at t) → NodesIn fuel dir before at place t
    unfolding nodes_fault nodes_rows
    walk_in fuel dir before at place Nothing are under_are sound sorted order enough behind_base entries tracked front records = (refl, (refl, refl))
    walk_in fuel dir before at place (Node child under behind) are under_are sound sorted order enough behind_base entries tracked front records =
        let rec : Rec = record (rec_in keeps at child under) { place = place } in
        let below_bytes = under_bytes keeps at child under in
        let path = path_put keeps child in
        let source = source_put keeps child in
        let next = behind_in keeps at child under in
        let count = length (heads behind) in
        let paths = map (λ c. c.path) (heads behind) in
        let own = rows_in_at keeps kept_rows at (at + front_size_in keeps under) under in
        let lower_are = lower_rows keeps kept_rows at child under in
        let later = rows_in_at keeps kept_rows next (place + 44) behind in
        let first : length below_bytes ≡ under_size keeps child under = unless_length (kept_of keeps child) (put_in keeps at under) (size_in keeps under) (put_length_in keeps at under) in
        let p1 : Has bytes at (below_bytes ++ path ++ source) = has_first bytes at (below_bytes ++ path ++ source) (front_in keeps next behind) front in
        let p2 : Has bytes at (below_bytes ++ path) = has_first bytes at (below_bytes ++ path) source p1 in
        let p3 : Has bytes at below_bytes = has_first bytes at below_bytes path p2 in
        let l2 : length (below_bytes ++ path) ≡ length below_bytes + length path = length-append below_bytes path in
        let l1 : length (below_bytes ++ path ++ source) ≡ length (below_bytes ++ path) + length source = length-append (below_bytes ++ path) source in
        let room : at + length below_bytes ≤ length bytes = has_room bytes at below_bytes p3 in
        let under_entries : under_number keeps tree.has_entry child under < 2 ^ 32 = omega (arith, entries) in
        let under_tracked : under_number keeps is_tracked child under < 2 ^ 32 = omega (arith, tracked) in
        let placed : PlacedIn keeps bytes at place child under = record {
          path = text_placed bytes (keeps.text child.text_at) (at + under_size keeps child under) child.path (λ p e. kept.texts dir child p are.0 e)
              (has_second bytes at (at + under_size keeps child under) below_bytes path (omega (arith, first)) p2);
          source = text_placed bytes (keeps.text child.source_at) (at + under_size keeps child under + length path) (source_text child.source) (λ p e. kept.sources dir child p are.0 e)
              (has_second bytes at (at + under_size keeps child under + length path) (below_bytes ++ path) source (omega (arith, first, l2)) p1);
          named = copy_named held keeps base started dir at child under are.0 sound.0.path behind_base;
          rec = has_first bytes place (bytes_of (rec_in keeps at child under)) (records_in keeps next behind) records;
          small = small;
          start = start_small keeps at (kept_of keeps child) under (λ list is. (kept_here child list is sound.0.path).start) (omega (arith, first, room, small));
          count = count_small keeps at (kept_of keeps child) under (λ list is. (kept_here child list is sound.0.path).count) (omega (arith, first, room, small));
          entries = under_entries;
          tracked = under_tracked;
        } in
        let parts = under_are in
        let more : length (components child.path) ≡ depth_of dir + 1 = deeper dir child.path sound.0.path are.0.parent in
        let enough_below : 2049 ≤ fuel + length (components child.path) = omega (arith, enough, more) in
        let put : kept_of keeps child ≡ None → AreRead fuel (Some child.path) (start_in keeps at under) (length (heads under)) own =
        λ none.
        let kids : AreChildren held (Some child.path) (heads under) = subst (λ (o : Option Kept). AreKids held o child.path (heads under)) none parts.0 in
        let under_sound : AreSoundIn keeps under = subst (λ (o : Option Kept). AllByRecursion IsWritable (nodes_unless o (nodes_in keeps under))) none (sound_under keeps child under behind sound) in
        let has : Has bytes at (front_in keeps at under ++ records_in keeps at under) = subst (λ (o : Option Kept). Has bytes at (bytes_unless o (put_in keeps at under))) none p3 in
        let long : length (put_in keeps at under) ≡ size_in keeps under = put_length_in keeps at under in
        let inside : at + length (put_in keeps at under) ≤ length bytes = has_room bytes at (put_in keeps at under) has in
        let few : number_in keeps tree.has_entry under < 2 ^ 32 = subst (λ (o : Option Kept). number_unless o tree.has_entry.below (number_in keeps tree.has_entry under) < 2 ^ 32) none under_entries in
        let fewer : number_in keeps is_tracked under < 2 ^ 32 = subst (λ (o : Option Kept). number_unless o is_tracked.below (number_in keeps is_tracked under) < 2 ^ 32) none under_tracked in
        listed_in fuel (Some child.path) at under (level_left fuel child.path under enough_below kids.each under_sound) (omega (arith, long, inside))
        (λ f is. walk_in f (Some child.path) None at (at + front_size_in keeps under) under kids.each parts.1.0 under_sound kids.ascending (follows_none under) (omega (arith, is, enough_below)) behind_base few fewer
        (has_first bytes at (front_in keeps at under) (records_in keeps at under) has)
        (has_second bytes at (at + front_size_in keeps under) (front_in keeps at under) (records_in keeps at under) (ap (λ (n : ℕ). at + n) (front_length_in keeps at under)) has)) in
        let lower : AreRead fuel (Some child.path) (under_start keeps at child under) (under_count keeps child under) lower_are =
        under_read fuel child (kept_of keeps child) (start_in keeps at under) (length (heads under)) own refl sound.0.path enough_below put in
        let rest : NodesIn fuel dir (Some (base_of child.path)) next (place + 44) behind =
        walk_in fuel dir (Some (base_of child.path)) next (place + 44) behind are.1 parts.1.1 (sound_behind_in keeps child under behind sound)
        (sorted_tail (slice_cmp nat_cmp) child.path paths sorted)
        (follows held dir child.path behind are.0.parent are.1 (sorted_head (slice_cmp nat_cmp) child.path paths sorted)) enough (omega (arith, behind_base)) (omega (arith, entries)) (omega (arith, tracked))
        (has_second bytes at next (below_bytes ++ path ++ source) (front_in keeps next behind) (omega (arith, first, l1, l2)) front)
        (has_second bytes place (place + 44) (bytes_of (rec_in keeps at child under)) (records_in keeps next behind) refl records) in
        let read : record_at bytes place ≡ rec = read_in keeps bytes at place child under placed sound.0 in
        let named : path_of bytes rec ≡ child.path = path_in keeps bytes at place child under placed sound.0 in
        let fine : node_fault bytes dir before rec ≡ None = node_passes keeps bytes at place child under placed sound.0 dir before are.0.parent order in
        let head : Row = row_in keeps at place child under in
        let none : nodes_fault (below fuel bytes) bytes dir before place (suc count) ≡ None =
        ap (λ (r : Rec). first_of (node_fault bytes dir before r) (first_of (below fuel bytes (path_of bytes r) r.kids_start r.kids_count) (nodes_fault (below fuel bytes) bytes dir (Some (name_of bytes r)) (place + 44) count))) read
        ∙ ap (λ (o : Option NodeFault). first_of o (first_of (below fuel bytes (path_of bytes rec) rec.kids_start rec.kids_count) (nodes_fault (below fuel bytes) bytes dir (Some (name_of bytes rec)) (place + 44) count))) fine
        ∙ ap (λ (p : List ℕ). first_of (below fuel bytes p rec.kids_start rec.kids_count) (nodes_fault (below fuel bytes) bytes dir (Some (base_of p)) (place + 44) count)) named
        ∙ ap (λ (o : Option NodeFault). first_of o (nodes_fault (below fuel bytes) bytes dir (Some (base_of child.path)) (place + 44) count)) lower.0
        ∙ rest.0 in
        let parts_of : AreParted child.path lower_are later = parts_are bytes fuel dir before place child.path rec lower_are later count read named none lower.1.0 rest.1.0 in (
          none,
          (
            ap (λ (r : Row). r ∷ (list_rows fuel bytes (record_at bytes place).kids_start (record_at bytes place).kids_count ++ nodes_rows (list_rows fuel bytes) bytes (place + 44) count))
                (row_read keeps bytes at place child under placed sound.0 (source_at_entry held formed dir child are.0 sound.0))
                ∙ ap (λ (r : Rec). head ∷ (list_rows fuel bytes r.kids_start r.kids_count ++ nodes_rows (list_rows fuel bytes) bytes (place + 44) count)) read
                ∙ ap (λ (l : List Row). head ∷ (l ++ nodes_rows (list_rows fuel bytes) bytes (place + 44) count)) lower.1.0
                ∙ ap (λ (l : List Row). head ∷ (lower_are ++ l)) rest.1.0,
            counted_parts head lower_are later parts_of
                ∙ and_from _ _
                (and_from _ _ (eq-eqb _ _ (sym (counted_under keeps kept_rows is_entry tree.has_entry entries_low entry_same at child under behind sound))) (eq-eqb _ _ (sym (counted_under keeps kept_rows counts.is_tracked is_tracked tracked_low track_same at child under behind sound))))
                (and_from _ _ lower.1.1 rest.1.1),
          ),
        )

    -- a whole list of the root behind what is kept
    pub whole_in : (at : ℕ) (t : Tree) → IsTreeIn held keeps None t → AreSoundIn keeps t → base ≤ at → number_in keeps tree.has_entry t < 2 ^ 32 → number_in keeps is_tracked t < 2 ^ 32
        → Has bytes at (put_in keeps at t) → ListIn levels None at t
    unfolding levels
    whole_in at t is sound behind_base entries tracked has =
        let long : length (put_in keeps at t) ≡ size_in keeps t = put_length_in keeps at t in
        let inside : at + length (put_in keeps at t) ≤ length bytes = has_room bytes at (put_in keeps at t) has in
        listed_in 2049 None at t (λ some. omega arith) (omega (arith, long, inside))
        (λ f e. walk_in f None None at (at + front_size_in keeps t) t is.children.each is.below sound is.children.ascending (follows_none t) (omega (arith, e)) behind_base entries tracked
        (has_first bytes at (front_in keeps at t) (records_in keeps at t) has)
        (has_second bytes at (at + front_size_in keeps t) (front_in keeps at t) (records_in keeps at t) (ap (λ (n : ℕ). at + n) (front_length_in keeps at t)) has))
