-- One node that was put beside lists and texts that are kept: it is read again, without a fault.
use Rattle.std.proofs.Common.{◌≡◌, ℕ, ◌+◌, ◌-◌, ◌*◌, ◌<◌, ◌≤◌, ◌^◌, Bool, true, false, not, ◌&&◌, cond, List, [], ◌∷◌, ◌++◌, length, Option, Some, None, refl, ap, subst, ◌∙◌, arith, eqb, eq-eqb, leb, le-leb}
use Rattle.std.specs.Str.{is_utf8}
use Rattle.std.proofs.lemmas.Bool.{and_from, ne_eqb, or_right}
use Rattle.std.proofs.lemmas.List.{length-append}
use Rattle.hg_base.specs.PathText.{base_of, is_path, is_same_dir, parent_of, joined}
use Rattle.hg_base.specs.PathRefusal.{refusal}
use Rattle.hg_base.proofs.Children.{same_dir_itself}
use Rattle.hg_base.proofs.Paths.{path_not_refused, path_parts, path_some}
use Rattle.hg_entry.specs.Entry.{has_entry, is_timely}
use Rattle.hg_entry.specs.Flags.{has}
use Rattle.hg_node.specs.declared.record.Rec.{Rec}
use Rattle.hg_node.specs.Node.{AreFactsSized, AreTextsSized, bytes_of}
use Rattle.hg_image.specs.declared.fault.NodeFault.{NodeFault}
use Rattle.hg_image.specs.Node.{breaks_rule, is_too_deep, first_of, place_fault, fields_of, is_after, is_sourced, is_text, node_fault, part_at, path_of, name_of, record_at, source_of}
use Rattle.hg_image.specs.Rows.{Row, row_of}
use Rattle.hg_mixed.specs.Children.{IsChild}
use Rattle.hg_nodes.specs.Children.{ChildData}
use Rattle.hg_mixed.specs.Held.{Held}
use Rattle.hg_nodes.specs.Written.{fields_for}
use Rattle.hg_append.specs.declared.kept.Kept.{Kept}
use Rattle.hg_append.specs.Keeps.{Keeps, new_text, number_unless, only_if, size_unless, text_start}
use Rattle.hg_append.specs.Tree.{Nothing, Node, Tree, heads, is_tracked, kept_of}
use Rattle.hg_append.specs.Tree as tree
use Rattle.hg_append.specs.Layout.{behind_in, copy_start, front_size_in, path_put, rec_in, size_in, source_text, start_in, under_count, under_number, under_size, under_start}
use Rattle.hg_append.specs.Put.{IsWritable}
use Rattle.hg_append.proofs.Has.{Has, has_part, has_record, has_room}
use Rattle.hg_append.proofs.Sizes.{size_is_in}
use Rattle.hg_base.proofs.Components.{joined_parent}

-- a text that is used again doesn't lie at the start of the file, and where a path is, what is put begins behind the start: a source at 0 is none
pub record AreStarted (held : Held) (keeps : Keeps) (base : ℕ) : Type 0 where
  pub texts : (dir : Option (List ℕ)) (child : ChildData) (place : ℕ) → IsChild held dir child → keeps.text child.text_at ≡ Some place → 0 < base
  pub sources : (dir : Option (List ℕ)) (child : ChildData) (place : ℕ) (s : List ℕ) → IsChild held dir child → child.source ≡ Some s → keeps.text child.source_at ≡ Some place → 0 < place

-- rows of a list that is kept, and else others
abbrev pub rows_unless : Option Kept → List Row → List Row → List Row
rows_unless None kept rows = rows
rows_unless (Some list) kept rows = kept

-- the row of a node that is put
abbrev pub row_in : Keeps → ℕ → ℕ → ChildData → Tree → Row
row_in keeps at place child under = record { path = child.path; source = child.source; rec = record (rec_in keeps at child under) { place = place } }

-- the rows of a list that is put at a place, with its records at another; a list that is kept has its own
abbrev pub rows_in_at : Keeps → (List ℕ → List Row) → ℕ → ℕ → Tree → List Row
rows_in_at keeps kept_rows at place Nothing = []
rows_in_at keeps kept_rows at place (Node child under behind) =
    row_in keeps at place child under
    ∷ (rows_unless (kept_of keeps child) (kept_rows child.path) (rows_in_at keeps kept_rows at (at + front_size_in keeps under) under) ++ rows_in_at keeps kept_rows (behind_in keeps at child under) (place + 44) behind)

-- those below a node
abbrev pub lower_rows : Keeps → (List ℕ → List Row) → ℕ → ChildData → Tree → List Row
lower_rows keeps kept_rows at child under = rows_unless (kept_of keeps child) (kept_rows child.path) (rows_in_at keeps kept_rows at (at + front_size_in keeps under) under)

-- where the texts of a node are read
abbrev pub path_place : Keeps → ℕ → ChildData → Tree → ℕ
path_place keeps at child under = text_start (keeps.text child.text_at) (at + under_size keeps child under)

abbrev pub copy_place : Keeps → ℕ → ChildData → Tree → ℕ
copy_place keeps at child under = text_start (keeps.text child.source_at) (at + under_size keeps child under + length (path_put keeps child))

base_short : (path : List ℕ) → length (base_of path) ≤ length path
base_short path = short (parent_of path) (joined_parent path)
  where
    short : (dir : Option (List ℕ)) → joined dir (base_of path) ≡ path → length (base_of path) ≤ length path
    short None e = let same : length (base_of path) ≡ length path = ap length e in omega (arith, same)
    short (Some dir) e =
        let same : length (dir ++ 47 ∷ base_of path) ≡ length path = ap length e in
        let both : length (dir ++ 47 ∷ base_of path) ≡ length dir + length (47 ∷ base_of path) = length-append dir (47 ∷ base_of path) in
        omega (arith, same, both)

pass : (t : Bool) (fault : NodeFault) (more : Option NodeFault) → t ≡ true → more ≡ None → cond (not t) (Some fault) more ≡ None
pass true fault more e h = h
pass false fault more e h = absurd (cc)

skip : (t : Bool) (fault : NodeFault) (more : Option NodeFault) → t ≡ false → more ≡ None → cond t (Some fault) more ≡ None
skip true fault more e h = absurd (cc)
skip false fault more e h = h

-- one node
pub record PlacedIn (keeps : Keeps) (bytes : List ℕ) (at place : ℕ) (child : ChildData) (under : Tree) : Type 0 where
  pub path : Has bytes (path_place keeps at child under) child.path
  pub source : Has bytes (copy_place keeps at child under) (source_text child.source)
  pub named : (s : List ℕ) → child.source ≡ Some s → 0 < copy_place keeps at child under
  pub rec : Has bytes place (bytes_of (rec_in keeps at child under))
  pub small : length bytes < 2 ^ 32
  pub start : under_start keeps at child under < 2 ^ 32
  pub count : under_count keeps child under < 2 ^ 32
  pub entries : under_number keeps tree.has_entry child under < 2 ^ 32
  pub tracked : under_number keeps is_tracked child under < 2 ^ 32

copy_small : (o : Option (List ℕ)) (place : ℕ) → place < 2 ^ 32 → copy_start o place < 2 ^ 32
copy_small None place fits = omega arith
copy_small (Some s) place fits = fits

and_off : (t : Bool) → (t && false) ≡ false
and_off true = refl
and_off false = refl

module _ (keeps : Keeps) (bytes : List ℕ) (at place : ℕ) (child : ChildData) (under : Tree) (placed : PlacedIn keeps bytes at place child under) (sound : IsWritable child) where
  source_length : (o : Option (List ℕ)) → child.source ≡ o → length (source_text o) ≤ 65535
  source_length None e = omega arith
  source_length (Some s) e = (path_parts s (sound.source s e).0).short

  texts_sized : AreTextsSized (rec_in keeps at child under)
  texts_sized =
      let end : path_place keeps at child under + length child.path ≤ length bytes = has_room bytes (path_place keeps at child under) child.path placed.path in
      let last : copy_place keeps at child under + length (source_text child.source) ≤ length bytes = has_room bytes (copy_place keeps at child under) (source_text child.source) placed.source in
      let short : length child.path ≤ 65535 = (path_parts child.path sound.path).short in
      let source : length (source_text child.source) ≤ 65535 = source_length child.source refl in
      let small : length bytes < 2 ^ 32 = placed.small in
      record {
        path_start = omega (arith, end, small);
        path_len = omega (arith, short);
        base_at = omega (arith, short);
        copy_start = copy_small child.source (copy_place keeps at child under) (omega (arith, last, small));
        copy_len = omega (arith, source);
        kids_start = placed.start;
        kids_count = placed.count;
      }

  facts_sized : AreFactsSized (rec_in keeps at child under)
  facts_sized = record {
    entries_below = placed.entries;
    tracked_below = placed.tracked;
    flags = sound.fields.flags;
    size = sound.fields.size;
    seconds = sound.fields.seconds;
    nanos = sound.fields.nanos;
  }

  pub read_in : record_at bytes place ≡ record (rec_in keeps at child under) { place = place }
  read_in = has_record bytes place (rec_in keeps at child under) texts_sized facts_sized placed.rec

  pub path_in : path_of bytes (record (rec_in keeps at child under) { place = place }) ≡ child.path
  path_in = has_part bytes (path_place keeps at child under) child.path placed.path

  -- the copy source, which stands at an entry
  source_named : (o : Option (List ℕ)) → child.source ≡ o → ((s : List ℕ) → child.source ≡ Some s → has_entry (fields_for child.entry child.cache).flags ≡ true)
      → source_of bytes (record (rec_in keeps at (record child { source = o }) under) { place = place }) ≡ o
  source_named None e there = ap (λ (t : Bool). cond t (Some (part_at bytes 0 0)) None) (and_off (has_entry (fields_for child.entry child.cache).flags))
  source_named (Some s) e there =
      let start = copy_place keeps at child under in
      let some : 0 < start = placed.named s e in
      let test : eqb start 0 ≡ false = ne_eqb start 0 (λ z. absurd (omega (arith, z, some))) in
      let both : (has_entry (fields_for child.entry child.cache).flags && not (eqb start 0)) ≡ true = and_from _ (not (eqb start 0)) (there s e) (ap not test) in
      let text : part_at bytes start (length s) ≡ s = subst (λ (o : Option (List ℕ)). part_at bytes start (length (source_text o)) ≡ source_text o) e (has_part bytes start (source_text child.source) placed.source) in
      ap (λ (t : Bool). cond t (Some (part_at bytes start (length s))) None) both ∙ ap Some text

  source_fine : (o : Option (List ℕ)) → child.source ≡ o → is_sourced bytes (record (rec_in keeps at (record child { source = o }) under) { place = place }) ≡ true
  unfolding is_text
  source_fine None e = refl
  source_fine (Some s) e =
      let start = copy_place keeps at child under in
      let has : Has bytes start s = subst (λ (o : Option (List ℕ)). Has bytes start (source_text o)) e placed.source in
      let text : part_at bytes start (length s) ≡ s = has_part bytes start s has in
      let room : leb (start + length s) (length bytes) ≡ true = le-leb (start + length s) (length bytes) (has_room bytes start s has) in
      or_right (eqb start 0) _ (and_from _ (is_path (part_at bytes start (length s)))
      (and_from (leb (start + length s) (length bytes)) (is_utf8 (part_at bytes start (length s))) room (ap is_utf8 text ∙ (sound.source s e).1)) (ap is_path text ∙ (sound.source s e).0))

  pub row_read : ((s : List ℕ) → child.source ≡ Some s → has_entry (fields_for child.entry child.cache).flags ≡ true) → row_of bytes (record_at bytes place) ≡ row_in keeps at place child under
  row_read there =
      let source : source_of bytes (record (rec_in keeps at child under) { place = place }) ≡ child.source = source_named child.source refl there in
      ap (row_of bytes) read_in ∙ λ i. record { path = path_in i; source = source i; rec = record (rec_in keeps at child under) { place = place } }

  text_fine : is_text bytes (path_place keeps at child under) (length child.path) ≡ true
  unfolding is_text
  text_fine =
      and_from (leb (path_place keeps at child under + length child.path) (length bytes)) _ (le-leb _ _ (has_room bytes (path_place keeps at child under) child.path placed.path)) (ap is_utf8 path_in ∙ sound.text)

  pub node_passes : (dir before : Option (List ℕ)) → parent_of child.path ≡ dir → is_after before (base_of child.path) ≡ true
      → node_fault bytes dir before (record (rec_in keeps at child under) { place = place }) ≡ None
  unfolding node_fault
  node_passes dir before parent order =
      let rec : Rec = record (rec_in keeps at child under) { place = place } in
      let path = path_of bytes rec in
      let short : length (base_of child.path) ≤ length child.path = base_short child.path in
      let refused : refusal path ≡ None = ap refusal path_in ∙ path_not_refused child.path sound.path in
      let base : eqb (rec.base_at + length (name_of bytes rec)) (length path) ≡ true =
      ap (λ (p : List ℕ). eqb (rec.base_at + length (base_of p)) (length p)) path_in ∙ eq-eqb (length child.path - length (base_of child.path) + length (base_of child.path)) (length child.path) (omega (arith, short)) in
      let same : is_same_dir dir (parent_of path) ≡ true = ap (λ (p : List ℕ). is_same_dir dir (parent_of p)) path_in ∙ ap (is_same_dir dir) parent ∙ same_dir_itself dir in
      let after : is_after before (name_of bytes rec) ≡ true = ap (λ (p : List ℕ). is_after before (base_of p)) path_in ∙ order in
      ap (λ (o : Option NodeFault). first_of o (place_fault bytes dir before rec))
      (pass (is_text bytes rec.path_start rec.path_len) _ _ text_fine (skip (breaks_rule (refusal path)) _ _ (ap breaks_rule refused) (skip (is_too_deep (refusal path)) _ _ (ap is_too_deep refused) refl)))
      ∙ pass (eqb (rec.base_at + length (name_of bytes rec)) (length path)) _ _ base
      (pass (is_same_dir dir (parent_of path)) _ _ same (pass (is_after before (name_of bytes rec)) _ _ after
      (pass (is_sourced bytes rec) _ _ (source_fine child.source refl) (pass (is_timely (fields_of rec)) _ _ sound.fields.timely refl))))

-- a list that is kept is one of those
pub kept_is : (some : Bool) (o : Option Kept) (list : Kept) → only_if some o ≡ Some list → o ≡ Some list
kept_is some None list e = absurd (cc)
kept_is true (Some l) list e = e
kept_is false (Some l) list e = absurd (cc)

-- a text is read where it is put, or where it lies
pub text_placed : (bytes : List ℕ) (o : Option ℕ) (p : ℕ) (text : List ℕ) → ((place : ℕ) → o ≡ Some place → Has bytes place text) → Has bytes p (new_text o text) → Has bytes (text_start o p) text
text_placed bytes None p text there has = has
text_placed bytes (Some place) p text there has = there place refl

source_starts : (o t : Option ℕ) (n : ℕ) (path : List ℕ) → ((place : ℕ) → o ≡ Some place → 0 < place) → ((place : ℕ) → t ≡ Some place → 0 < n) → 0 < length path → 0 < text_start o (n + length (new_text t path))
source_starts (Some place) t n path sources texts some = sources place refl
source_starts None None n path sources texts some = omega (arith, some)
source_starts None (Some place) n path sources texts some = let more : 0 < n = texts place refl in omega (arith, more)

-- a copy source doesn't begin at 0, which names none
module _ (held : Held) (keeps : Keeps) (base : ℕ) (started : AreStarted held keeps base) where
  pub copy_named : (dir : Option (List ℕ)) (at : ℕ) (child : ChildData) (under : Tree) → IsChild held dir child → is_path child.path ≡ true → base ≤ at → (s : List ℕ) → child.source ≡ Some s
      → 0 < copy_place keeps at child under
  copy_named dir at child under is good behind_base s e =
      source_starts (keeps.text child.source_at) (keeps.text child.text_at) (at + under_size keeps child under) child.path (λ p lies. started.sources dir child p s is e lies)
      (λ p lies. let some : 0 < base = started.texts dir child p is lies in omega (arith, some, behind_base)) (path_some child.path good)

pub start_small : (keeps : Keeps) (at : ℕ) (o : Option Kept) (t : Tree) → ((list : Kept) → o ≡ Some list → list.start < 2 ^ 32) → at + size_unless o (size_in keeps t) < 2 ^ 32
    → number_unless o (λ list. list.start) (start_in keeps at t) < 2 ^ 32
start_small keeps at (Some list) t fits small = fits list refl
start_small keeps at None Nothing fits small = omega arith
start_small keeps at None (Node c b r) fits small =
    let all : size_in keeps (Node c b r) ≡ front_size_in keeps (Node c b r) + 44 * length (heads (Node c b r)) = size_is_in keeps (Node c b r) in omega (arith, small, all)

pub count_small : (keeps : Keeps) (at : ℕ) (o : Option Kept) (t : Tree) → ((list : Kept) → o ≡ Some list → list.count < 2 ^ 32) → at + size_unless o (size_in keeps t) < 2 ^ 32
    → number_unless o (λ list. list.count) (length (heads t)) < 2 ^ 32
count_small keeps at (Some list) t fits small = fits list refl
count_small keeps at None t fits small = let all : size_in keeps t ≡ front_size_in keeps t + 44 * length (heads t) = size_is_in keeps t in omega (arith, small, all)
