-- The lists that are lent lie in the image, and in each longer file: what is appended behind it can keep them.
use Rattle.std.proofs.Common.{◌≡◌, ℕ, zero, suc, ◌+◌, ◌-◌, ◌*◌, ◌<◌, ◌≤◌, ◌^◌, Bool, true, false, ◌&&◌, ◌||◌, cond, List, [], ◌∷◌, ◌++◌, length, take, drop, map, Option, Some, None, inl, inr, refl, sym, ap, subst, ◌∙◌, arith, append_assoc, eqb, eqb-true, leb, leb-true, nat_cmp, Less, true≢false}
use Rattle.std.specs.Prelude.{count_by, is_some, option_map}
use Rattle.std.specs.Option.{option_and_then}
use Rattle.std.specs.List.{AllByRecursion, list_all, list_any}
use Rattle.std.specs.List.Sorted.{IsStrictlySortedBy}
use Rattle.std.specs.Cmp.Lexicographic.{slice_cmp}
use Rattle.std.proofs.lemmas.Bool.{and_parts, both_ways, false_from_ne_true, or_from}
use Rattle.std.proofs.lemmas.List.{length-take-le, take-append-drop, take_all}
use Rattle.std.proofs.lemmas.List.Sums.{count_by-le-length, sum_by-le-sum_by}
use Rattle.std.proofs.lemmas.Map.Keys.{sorted_head, sorted_tail}
use Rattle.hg_base.specs.PathText.{components, is_below, is_path, parent_of}
use Rattle.hg_base.proofs.Below.{below_compared, below_length, below_trans}
use Rattle.hg_base.proofs.Children.{below_by_parent, below_parent, parent_length}
use Rattle.hg_base.proofs.Within.{above_none}
use Rattle.hg_docket.specs.Docket.{Contents}
use Rattle.hg_docket.specs.Docket as docket
use Rattle.hg_entry.specs.Entry.{cache_of, entry_of}
use Rattle.hg_image.specs.Counts.{are_counted, count_below, is_copy, is_counted, is_entry, is_row_counted}
use Rattle.hg_image.specs.Counts as counts
use Rattle.hg_image.specs.Node.{fields_of}
use Rattle.hg_image.specs.Reading.{row_at}
use Rattle.hg_image.specs.Rows.{Row, list_rows, rows_of}
use Rattle.hg_image.specs.Walk.{levels, list_fault}
use Rattle.hg_image.specs.declared.opened.Image.{Image}
use Rattle.hg_image.proofs.Apart.{each_then}
use Rattle.hg_image.proofs.Counted.{count_cons}
use Rattle.hg_append.proofs.Parts.{each_both}
use Rattle.hg_append.proofs.Longer.{longer_by, rows_empty}
use Rattle.hg_image.proofs.Names.{less_differs}
use Rattle.hg_image.proofs.Sound.{list_sound}
use Rattle.hg_append.proofs.Under.{IsPart, Under, part_length, row_found, row_under, rows_rooted, under_below, under_own, under_path, under_rows, under_sound, under_source}
use Rattle.hg_mixed.specs.Children.{AreChildren, IsChild}
use Rattle.hg_nodes.specs.Children.{ChildData}
use Rattle.hg_nodes.specs.Edits.{IsFormed}
use Rattle.hg_mixed.specs.Held.{Held, has_list, is_lent, source_at, table, text_at}
use Rattle.hg_mixed.specs.Opened.{source_place}
use Rattle.hg_mixed.specs.Shown.{AreLentWhole, ArePlacesOfImage}
use Rattle.hg_mixed.proofs.Kept.{listed_by}
use Rattle.hg_append.specs.declared.kept.Kept.{Kept}
use Rattle.hg_append.specs.Keeps.{keeps_lent, kept_list, list_lent, number_unless, only_if, size_unless}
use Rattle.hg_append.specs.Layout.{size_in, source_text}
use Rattle.hg_append.specs.Put.{AreFew}
use Rattle.hg_append.specs.Tree.{AreBelowIn, AreKids, Counting, Node, Nothing, Tree, has_entry, heads, is_tracked, kept_of, number_in}
use Rattle.hg_append.proofs.Has.{Has}
use Rattle.hg_append.specs.Appended.{IsOverImage}
use Rattle.hg_append.proofs.KeptIn.{AreKeptIn, IsKeptIn, IsRight}

-- as one is that was opened as an image of which the counts are right
pub over_opened : (held : Held) (image : Image) → docket.view image.docket ≡ held.docket → image.bytes.now ≡ held.bytes → held.docket.used < 2 ^ 32 → AreLentWhole held → ArePlacesOfImage held
    → is_counted held.docket (rows_of held.docket held.bytes) ≡ true → IsFormed (table held) → IsOverImage held
over_opened held image said bytes small whole places counted formed = record {
  sound = (λ k. list_fault levels (sym bytes k) None (sym said k).root_start (sym said k).root_count) ∙ image.is_sound;
  used = ap length (sym bytes) ∙ image.is_used ∙ ap (λ (d : Contents). d.used) said;
  small = small;
  whole = whole;
  places = places;
  counted = counted;
  formed = formed;
}

-- the rows of the list that a row names
abbrev pub rows_named : List ℕ → List ℕ → Option Row → List Row
rows_named bytes path None = []
rows_named bytes path (Some row) = list_rows (2049 - length (components path)) bytes row.rec.kids_start row.rec.kids_count

-- the image's rows below a directory
abbrev pub lent_rows : Held → List ℕ → List Row
lent_rows held path = rows_named held.bytes path (row_at (rows_of held.docket held.bytes) path)

-- ---- a list that is lent

-- where it lies, by the row of its directory
pub record IsLentBy (held : Held) (path : List ℕ) (list : Kept) : Type 0 where
  pub row : Row
  pub found : row_at (rows_of held.docket held.bytes) path ≡ Some row
  pub is : kept_list row ≡ list
  pub lent : is_lent held (Some path) ≡ true

some_list : (a b : Kept) → Some a ≡ Some b → a ≡ b
some_list a b e = cc

pub lent_by : (held : Held) (path : List ℕ) (list : Kept) → list_lent held path ≡ Some list → IsLentBy held path list
lent_by held path list h = told (is_lent held (Some path)) refl (row_at (rows_of held.docket held.bytes) path) refl h
  where
    told : (t : Bool) → is_lent held (Some path) ≡ t → (o : Option Row) → row_at (rows_of held.docket held.bytes) path ≡ o → cond t (option_map kept_list o) None ≡ Some list → IsLentBy held path list
    told false lent o found h = absurd (cc)
    told true lent None found h = absurd (cc)
    told true lent (Some row) found h = record { row = row; found = found; is = some_list (kept_list row) list h; lent = lent }

only_some : (some : Bool) (o : Option Kept) (list : Kept) → only_if some o ≡ Some list → o ≡ Some list
only_some some None list h = absurd (cc)
only_some true (Some l) list h = h
only_some false (Some l) list h = absurd (cc)

-- a text within the bytes stands in a longer file too
has_part_of : (bytes more : List ℕ) (start len : ℕ) (text : List ℕ) → IsPart bytes start len text → Has (bytes ++ more) start text
has_part_of bytes more start len text part =
    let room : start + len ≤ length bytes = part.room in
    let front = take start bytes in
    let rest = drop len (drop start bytes) in
    let parts : bytes ≡ front ++ (text ++ rest) =
    sym (take-append-drop start bytes)
    ∙ ap (λ (l : List ℕ). front ++ l) (sym (take-append-drop len (drop start bytes)) ∙ ap (λ (l : List ℕ). l ++ rest) (sym part.is)) in record {
      before = front;
      after = rest ++ more;
      whole = ap (λ (l : List ℕ). l ++ more) parts ∙ append_assoc front (text ++ rest) more ∙ ap (λ (l : List ℕ). front ++ l) (append_assoc text rest more);
      place = length-take-le start bytes (omega (arith, room));
    }

counted_all : (a b c d : Bool) → (a && b && c && d) ≡ true → (c ≡ true) × (d ≡ true)
counted_all a b c d h =
    let last = and_parts (a && b && c) d h in
    ((and_parts (a && b) c last.0).1, last.1)

-- the counts of an image are right, and there are bytes for each of its rows
pub counts_right : (held : Held) → is_counted held.docket (rows_of held.docket held.bytes) ≡ true
    → (are_counted (rows_of held.docket held.bytes) ≡ true) × (44 * length (rows_of held.docket held.bytes) ≤ held.docket.used)
counts_right held counted =
    let rows = rows_of held.docket held.bytes in
    let both = counted_all (eqb held.docket.entries (count_by is_entry rows)) (eqb held.docket.copies (count_by is_copy rows)) (are_counted rows) (leb (44 * length rows) held.docket.used) counted in
    (both.0, leb-true (44 * length rows) held.docket.used both.1)

module _ (held : Held) (over : IsOverImage held) where
  image_rows_are : rows_of held.docket held.bytes ≡ list_rows levels held.bytes held.docket.root_start held.docket.root_count
  image_rows_are =
      let used : length held.bytes ≡ held.docket.used = over.used in
      ap (λ (bytes : List ℕ). list_rows levels bytes held.docket.root_start held.docket.root_count) (take_all held.docket.used held.bytes (omega (arith, used)))

  pub image_row : (path : List ℕ) (row : Row) → row_at (rows_of held.docket held.bytes) path ≡ Some row → Under held.bytes 2049 (rows_of held.docket held.bytes) row × (row.path ≡ path)
  image_row =
      subst (λ (all : List Row). (path : List ℕ) (row : Row) → row_at all path ≡ Some row → Under held.bytes 2049 all row × (row.path ≡ path)) (sym image_rows_are)
      (row_under held.bytes held.docket.root_start held.docket.root_count over.sound)

  pub image_rooted : (dir at : List ℕ) → is_below dir at ≡ true → is_some (row_at (rows_of held.docket held.bytes) at) ≡ true → is_some (row_at (rows_of held.docket held.bytes) dir) ≡ true
  image_rooted =
      subst (λ (all : List Row). (dir at : List ℕ) → is_below dir at ≡ true → is_some (row_at all at) ≡ true → is_some (row_at all dir) ≡ true) (sym image_rows_are)
      (rows_rooted held.bytes held.docket.root_start held.docket.root_count over.sound)

  pub image_path : (at : List ℕ) → is_some (row_at (rows_of held.docket held.bytes) at) ≡ true → is_path at ≡ true
  image_path at some = by_row (row_at (rows_of held.docket held.bytes) at) refl some
    where
      by_row : (o : Option Row) → row_at (rows_of held.docket held.bytes) at ≡ o → is_some o ≡ true → is_path at ≡ true
      by_row None found some = absurd (cc)
      by_row (Some row) found some = let under = image_row at row found in sym (ap is_path under.1) ∙ under.0.path

  -- ---- the texts that a row names

  pub image_text : (path : List ℕ) (row : Row) → row_at (rows_of held.docket held.bytes) path ≡ Some row → IsPart held.bytes row.rec.path_start row.rec.path_len path
  image_text path row found =
      let under = image_row path row found in
      subst (IsPart held.bytes row.rec.path_start row.rec.path_len) under.1 (under_path held.bytes (rows_of held.docket held.bytes) row under.0)

  pub image_source : (path : List ℕ) (row : Row) (s : List ℕ) → row_at (rows_of held.docket held.bytes) path ≡ Some row → row.source ≡ Some s → (eqb row.rec.copy_start 0 ≡ false) × IsPart held.bytes row.rec.copy_start row.rec.copy_len s
  image_source path row s found named = under_source held.bytes (rows_of held.docket held.bytes) row (image_row path row found).0 s named

  pub text_long : (path : List ℕ) (row : Row) → row_at (rows_of held.docket held.bytes) path ≡ Some row → row.rec.path_len ≡ length path
  text_long path row found = sym (part_length held.bytes row.rec.path_start row.rec.path_len path (image_text path row found))

  pub text_room : (path : List ℕ) (row : Row) → row_at (rows_of held.docket held.bytes) path ≡ Some row → row.rec.path_start + row.rec.path_len ≤ length held.bytes
  text_room path row found = (image_text path row found).room

  pub source_long : (path : List ℕ) (row : Row) (s : List ℕ) → row_at (rows_of held.docket held.bytes) path ≡ Some row → row.source ≡ Some s → row.rec.copy_len ≡ length s
  source_long path row s found named = sym (part_length held.bytes row.rec.copy_start row.rec.copy_len s (image_source path row s found named).1)

  pub source_start : (path : List ℕ) (row : Row) (s : List ℕ) → row_at (rows_of held.docket held.bytes) path ≡ Some row → row.source ≡ Some s → 0 < row.rec.copy_start
  source_start path row s found named = some_start row.rec.copy_start (image_source path row s found named).0
    where
      some_start : (n : ℕ) → eqb n 0 ≡ false → 0 < n
      some_start zero h = absurd (true≢false h)
      some_start (suc n) h = omega arith

  -- ---- a list that is lent

  module _ (more : List ℕ) (row : Row) (under : Under held.bytes 2049 (rows_of held.docket held.bytes) row) (lent : is_lent held (Some row.path) ≡ true) where
    -- it has nodes
    some_kids : (n : ℕ) → row.rec.kids_count ≡ n → 0 < n
    some_kids (suc n) e = omega arith
    some_kids zero e =
        let kid = listed_by (rows_of held.docket held.bytes) (Some row.path) (and_parts (has_list (rows_of held.docket held.bytes) (Some row.path)) _ lent).0 in
        let none : list_rows under.level held.bytes row.rec.kids_start row.rec.kids_count ≡ [] =
        ap (list_rows under.level held.bytes row.rec.kids_start) e ∙ rows_empty under.level held.bytes row.rec.kids_start in
        let missed : row_at (rows_of held.docket held.bytes) kid.at ≡ None =
        sym (under.same kid.at (below_parent row.path kid.at kid.parent)) ∙ ap (λ (rows : List Row). row_at rows kid.at) none in
        absurd (true≢false (sym kid.some ∙ ap is_some missed))

    named_room : row.rec.kids_start + 44 * row.rec.kids_count ≤ length held.bytes
    named_room = (list_sound under.level held.bytes (Some row.path) row.rec.kids_start row.rec.kids_count (some_kids row.rec.kids_count refl) under.sound).room

    pub row_kept : IsKeptIn held (held.bytes ++ more) row.path (kept_list row) (list_rows under.level held.bytes row.rec.kids_start row.rec.kids_count)
    row_kept =
        let room : row.rec.kids_start + 44 * row.rec.kids_count ≤ length held.bytes = named_room in
        let some : 0 < row.rec.kids_count = some_kids row.rec.kids_count refl in
        let used : length held.bytes ≡ held.docket.used = over.used in
        let small : held.docket.used < 2 ^ 32 = over.small in
        let image = rows_of held.docket held.bytes in
        let below = list_rows under.level held.bytes row.rec.kids_start row.rec.kids_count in
        let told = under.told (counts_right held over.counted).0 in record {
          sound = λ fuel enough. under_sound held.bytes image row under (held.bytes ++ more) (longer_by held.bytes more) fuel enough;
          rows_are = λ fuel enough. under_rows held.bytes image row under (held.bytes ++ more) (longer_by held.bytes more) fuel enough;
          start = omega (arith, room, used, small);
          count = omega (arith, room, used, small);
          counted = told.counted;
          entries = told.entries;
          tracked = told.tracked;
          right = each_then (λ r. (is_below row.path r.path ≡ true) × (row_at image r.path ≡ Some r)) (IsRight (table held)) right_one below
              (each_both (λ r. is_below row.path r.path ≡ true) (λ r. row_at image r.path ≡ Some r) below (under_below held.bytes image row under) (under_own held.bytes image row under));
          below = under_below held.bytes image row under;
          all = λ p inside node. ap is_some (under.same p inside) ∙ (sym ((over.whole (Some row.path) lent).each p inside).node ∙ node);
        }
      where
        right_one : (r : Row) → (is_below row.path r.path ≡ true) × (row_at (rows_of held.docket held.bytes) r.path ≡ Some r) → IsRight (table held) r
        right_one r h =
            let as_image = (over.whole (Some row.path) lent).each r.path h.0 in record {
              node = as_image.node ∙ ap is_some h.1;
              entry = sym (as_image.entry ∙ ap (option_and_then (λ row. entry_of (fields_of row.rec))) h.1);
              source = sym (as_image.source ∙ ap (option_and_then (λ row. row.source)) h.1);
              cache = sym (as_image.cache ∙ ap (option_and_then (λ row. cache_of (fields_of row.rec))) h.1);
            }

  -- the rows of a list that is lent, by the row of its directory
  named_rows : (path : List ℕ) (row : Row) → row_at (rows_of held.docket held.bytes) path ≡ Some row → (under : Under held.bytes 2049 (rows_of held.docket held.bytes) row) → row.path ≡ path
      → list_rows under.level held.bytes row.rec.kids_start row.rec.kids_count ≡ lent_rows held path
  named_rows path row found under same =
      let depth : under.level + length (components row.path) ≡ 2049 = under.depth in
      let named : length (components row.path) ≡ length (components path) = ap (λ (p : List ℕ). length (components p)) same in
      let level : under.level ≡ 2049 - length (components path) = omega (arith, depth, named) in
      ap (λ (n : ℕ). list_rows n held.bytes row.rec.kids_start row.rec.kids_count) level ∙ sym (ap (rows_named held.bytes path) found)

  pub lent_kept : (more path : List ℕ) (list : Kept) → list_lent held path ≡ Some list → IsKeptIn held (held.bytes ++ more) path list (lent_rows held path)
  lent_kept more path list h =
      let by = lent_by held path list h in
      let under = image_row path by.row by.found in
      let lent : is_lent held (Some by.row.path) ≡ true = ap (λ (p : List ℕ). is_lent held (Some p)) under.1 ∙ by.lent in
      subst (IsKeptIn held (held.bytes ++ more) path list) (named_rows path by.row by.found under.0 under.1)
      (subst (λ (l : Kept). IsKeptIn held (held.bytes ++ more) path l (list_rows under.0.level held.bytes by.row.rec.kids_start by.row.rec.kids_count)) by.is
      (subst (λ (p : List ℕ). IsKeptIn held (held.bytes ++ more) p (kept_list by.row) (list_rows under.0.level held.bytes by.row.rec.kids_start by.row.rec.kids_count)) under.1
      (row_kept more by.row under.0 lent)))

  -- each of its rows is the image's row of its path
  pub lent_own : (path : List ℕ) (list : Kept) → list_lent held path ≡ Some list → AllByRecursion (λ row. row_at (rows_of held.docket held.bytes) row.path ≡ Some row) (lent_rows held path)
  lent_own path list h =
      let by = lent_by held path list h in
      let under = image_row path by.row by.found in
      subst (AllByRecursion (λ row. row_at (rows_of held.docket held.bytes) row.path ≡ Some row)) (named_rows path by.row by.found under.0 under.1)
      (under_own held.bytes (rows_of held.docket held.bytes) by.row under.0)

  -- ---- a text that is lent

  some_nat : (a b : ℕ) → Some a ≡ Some b → a ≡ b
  some_nat a b e = cc

  text_kept : (more : List ℕ) (dir : Option (List ℕ)) (child : ChildData) (place : ℕ) → IsChild held dir child → child.text_at ≡ Some place → Has (held.bytes ++ more) place child.path
  text_kept more dir child place is h =
      let here : text_at held child.path ≡ Some place = sym is.text ∙ h in
      by_row (row_at (rows_of held.docket held.bytes) child.path) refl (sym (over.places.texts child.path (ap is_some here)) ∙ here)
    where
      by_row : (o : Option Row) → row_at (rows_of held.docket held.bytes) child.path ≡ o → option_map (λ row. row.rec.path_start) o ≡ Some place → Has (held.bytes ++ more) place child.path
      by_row None found e = absurd (cc)
      by_row (Some row) found e =
          subst (λ (at : ℕ). Has (held.bytes ++ more) at child.path) (some_nat row.rec.path_start place e)
          (has_part_of held.bytes more row.rec.path_start row.rec.path_len child.path (image_text child.path row found))

  source_kept : (more : List ℕ) (dir : Option (List ℕ)) (child : ChildData) (place : ℕ) → IsChild held dir child → child.source_at ≡ Some place → Has (held.bytes ++ more) place (source_text child.source)
  source_kept more dir child place is h =
      let here : source_at held child.path ≡ Some place = sym is.source_text ∙ h in
      let image = over.places.sources child.path (ap is_some here) in
      by_row (row_at (rows_of held.docket held.bytes) child.path) refl (sym image.0 ∙ here) (is.source ∙ image.1)
    where
      by_source : (row : Row) → row_at (rows_of held.docket held.bytes) child.path ≡ Some row → (o : Option (List ℕ)) → row.source ≡ o → option_map (λ source. row.rec.copy_start) o ≡ Some place → child.source ≡ o
          → Has (held.bytes ++ more) place (source_text child.source)
      by_source row found None named e same = absurd (cc)
      by_source row found (Some s) named e same =
          subst (Has (held.bytes ++ more) place) (sym (ap source_text same))
          (subst (λ (at : ℕ). Has (held.bytes ++ more) at s) (some_nat row.rec.copy_start place e)
          (has_part_of held.bytes more row.rec.copy_start row.rec.copy_len s (image_source child.path row s found named).1))

      by_row : (o : Option Row) → row_at (rows_of held.docket held.bytes) child.path ≡ o → option_and_then source_place o ≡ Some place → child.source ≡ option_and_then (λ row. row.source) o
          → Has (held.bytes ++ more) place (source_text child.source)
      by_row None found e same = absurd (cc)
      by_row (Some row) found e same = by_source row found row.source refl e same

  -- ---- all that is lent

  pub kept_lent : (more : List ℕ) → AreKeptIn held (keeps_lent held) (held.bytes ++ more) (lent_rows held)
  kept_lent more = record {
    lists = λ path list good h. lent_kept more path list h;
    texts = λ dir child place is h. text_kept more dir child place is h;
    sources = λ dir child place is h. source_kept more dir child place is h;
  }

-- ---- how many are counted

count_le : (f g : Row → Bool) (rows : List Row) → ((r : Row) → f r ≡ true → g r ≡ true) → count_by f rows ≤ count_by g rows
count_le f g rows less = sum_by-le-sum_by (λ r. cond (f r) 1 0) (λ r. cond (g r) 1 0) rows (λ r. one (f r) (g r) (less r))
  where
    one : (a b : Bool) → (a ≡ true → b ≡ true) → cond a 1 0 ≤ cond b 1 0
    one true true h = omega arith
    one true false h = absurd (true≢false (sym (h refl)))
    one false b h = omega arith

-- of two tests that nothing passes both
count_both : (f g : Row → Bool) (rows : List Row) → ((r : Row) → f r ≡ true → g r ≡ false) → count_by (λ r. f r || g r) rows ≡ count_by f rows + count_by g rows
count_both f g [] apart = refl
count_both f g (r ∷ rows) apart =
    let here : ◌≡◌ {A = ℕ} (cond (f r || g r) 1 0) (cond (f r) 1 0 + cond (g r) 1 0) = one (f r) (g r) (apart r) in
    let rest : count_by (λ r. f r || g r) rows ≡ count_by f rows + count_by g rows = count_both f g rows apart in
    let a : count_by (λ r. f r || g r) (r ∷ rows) ≡ cond (f r || g r) 1 0 + count_by (λ r. f r || g r) rows = count_cons (λ r. f r || g r) r rows in
    let b : count_by f (r ∷ rows) ≡ cond (f r) 1 0 + count_by f rows = count_cons f r rows in
    let c : count_by g (r ∷ rows) ≡ cond (g r) 1 0 + count_by g rows = count_cons g r rows in
    omega (arith, here, rest, a, b, c)
  where
    one : (a b : Bool) → (a ≡ true → b ≡ false) → ◌≡◌ {A = ℕ} (cond (a || b) 1 0) (cond a 1 0 + cond b 1 0)
    one true true h = absurd (true≢false (h refl))
    one true false h = refl
    one false true h = refl
    one false false h = refl

-- a path stands below one of some nodes
abbrev is_under : List ChildData → List ℕ → Bool
is_under children path = list_any (λ child. is_below child.path path) children

-- no node of a directory stands above another one
not_over : (dir : Option (List ℕ)) (a b : List ℕ) → is_path b ≡ true → parent_of a ≡ dir → parent_of b ≡ dir → is_below a b ≡ true → ⊥
not_over None a b good p q h = both_ways (is_below a b) (above_none b good q a) h
not_over (Some d) a b good p q h =
    let longer : length d < length a = parent_length d a p in
    elim (below_by_parent a d b good q h) [
      | inl e ↦ let same : length a ≡ length d = ap length e in absurd (omega (arith, longer, same))
      | inr above ↦ let less : length a < length d = below_length a d above in absurd (omega (arith, longer, less))
    ]

below_one : (dir : Option (List ℕ)) (a b path : List ℕ) → is_path a ≡ true → is_path b ≡ true → parent_of a ≡ dir → parent_of b ≡ dir → slice_cmp nat_cmp a b ≡ Less
    → is_below a path ≡ true → is_below b path ≡ true → ⊥
below_one dir a b path good_a good_b p q less under_a under_b =
    elim (below_compared a b path under_a under_b) [
      | inl e ↦ less_differs a b less e
      | inr (inl h) ↦ not_over dir a b good_b p q h
      | inr (inr h) ↦ not_over dir b a good_a q p h
    ]

module _ (held : Held) (formed : IsFormed (table held)) where
  -- what stands below a node stands below none of those behind it
  none_behind : (dir : Option (List ℕ)) (child : ChildData) → IsChild held dir child → (others : List ChildData) → AllByRecursion (IsChild held dir) others
      → AllByRecursion (λ other. slice_cmp nat_cmp child.path other ≡ Less) (map (λ c. c.path) others) → (path : List ℕ) → is_below child.path path ≡ true → is_under others path ≡ false
  none_behind dir child is [] are less path h = refl
  none_behind dir child is (other ∷ others) are less path h =
      or_from (is_below other.path path) (is_under others path)
      (false_from_ne_true (is_below other.path path) (λ t.
      below_one dir child.path other.path path (formed.paths child.path is.node) (formed.paths other.path are.0.node) is.parent are.0.parent less.0 h t))
      (none_behind dir child is others are.1 less.1 path h)

  -- what stands below a child of a node stands below the node
  under_kids : (path : List ℕ) (kids : List ChildData) → AllByRecursion (IsChild held (Some path)) kids → (at : List ℕ) → is_under kids at ≡ true → is_below path at ≡ true
  under_kids path [] are at h = absurd (true≢false (sym h))
  under_kids path (kid ∷ kids) are at h = step (is_below kid.path at) refl h (under_kids path kids are.1 at)
    where
      step : (t : Bool) → is_below kid.path at ≡ t → (t || is_under kids at) ≡ true → (is_under kids at ≡ true → is_below path at ≡ true) → is_below path at ≡ true
      step true inside h more = below_trans path kid.path at (below_parent path kid.path are.0.parent) inside
      step false inside h more = more h

  module _ (counting : Counting) (few : (path : List ℕ) (list : Kept) → list_lent held path ≡ Some list → counting.below list ≤ count_by (λ row. is_below path row.path) (rows_of held.docket held.bytes)) where
    few_in : (dir : Option (List ℕ)) (tree : Tree) → AllByRecursion (IsChild held dir) (heads tree) → IsStrictlySortedBy (slice_cmp nat_cmp) (map (λ child. child.path) (heads tree))
        → AreBelowIn held (keeps_lent held) tree
        → 44 * number_in (keeps_lent held) counting tree ≤ size_in (keeps_lent held) tree + 44 * count_by (λ row. is_under (heads tree) row.path) (rows_of held.docket held.bytes)
    few_in dir Nothing are sorted below_are = omega arith
    few_in dir (Node child below behind) are sorted below_are =
        let rows = rows_of held.docket held.bytes in
        let paths = map (λ c. c.path) (heads behind) in
        let rest : 44 * number_in (keeps_lent held) counting behind ≤ size_in (keeps_lent held) behind + 44 * count_by (λ row. is_under (heads behind) row.path) rows =
        few_in dir behind are.1 (sorted_tail (slice_cmp nat_cmp) child.path paths sorted) below_are.1.1 in
        let lower : 44 * number_unless (kept_of (keeps_lent held) child) counting.below (number_in (keeps_lent held) counting below)
        ≤ size_unless (kept_of (keeps_lent held) child) (size_in (keeps_lent held) below) + 44 * count_by (λ row. is_below child.path row.path) rows =
        by_list (kept_of (keeps_lent held) child) refl below_are.0 (λ kids. few_in (Some child.path) below kids.each kids.ascending below_are.1.0) in
        let both : count_by (λ row. is_below child.path row.path || is_under (heads behind) row.path) rows ≡ count_by (λ row. is_below child.path row.path) rows + count_by (λ row. is_under (heads behind) row.path) rows =
        count_both (λ row. is_below child.path row.path) (λ row. is_under (heads behind) row.path) rows
        (λ row h. none_behind dir child are.0 (heads behind) are.1 (sorted_head (slice_cmp nat_cmp) child.path paths sorted) row.path h) in
        let one : cond (counting.test child) 1 0 ≤ 1 = at_most (counting.test child) in
        omega (arith, rest, lower, both, one)
      where
        at_most : (t : Bool) → cond t 1 0 ≤ 1
        at_most true = omega arith
        at_most false = omega arith

        by_list : (o : Option Kept) → kept_of (keeps_lent held) child ≡ o → AreKids held o child.path (heads below)
            → (AreChildren held (Some child.path) (heads below)
            → 44 * number_in (keeps_lent held) counting below ≤ size_in (keeps_lent held) below + 44 * count_by (λ row. is_under (heads below) row.path) (rows_of held.docket held.bytes))
            → 44 * number_unless o counting.below (number_in (keeps_lent held) counting below)
            ≤ size_unless o (size_in (keeps_lent held) below) + 44 * count_by (λ row. is_below child.path row.path) (rows_of held.docket held.bytes)
        by_list None is kids more =
            let own : 44 * number_in (keeps_lent held) counting below ≤ size_in (keeps_lent held) below + 44 * count_by (λ row. is_under (heads below) row.path) (rows_of held.docket held.bytes) = more kids in
            let less : count_by (λ row. is_under (heads below) row.path) (rows_of held.docket held.bytes) ≤ count_by (λ row. is_below child.path row.path) (rows_of held.docket held.bytes) =
            count_le (λ row. is_under (heads below) row.path) (λ row. is_below child.path row.path) (rows_of held.docket held.bytes) (λ row h. under_kids child.path (heads below) kids.each row.path h) in
            omega (arith, own, less)
        by_list (Some list) is kids more =
            let own : counting.below list ≤ count_by (λ row. is_below child.path row.path) (rows_of held.docket held.bytes) = few child.path list (only_some child.has_kids (list_lent held child.path) list is) in
            omega (arith, own)

-- the number that a row records
each_true : (test : Row → Bool) (rows : List Row) → list_all test rows ≡ true → AllByRecursion (λ r. test r ≡ true) rows
each_true test [] h = tt
each_true test (r ∷ rows) h = let both = and_parts (test r) (list_all test rows) h in (both.0, each_true test rows both.1)

module _ (held : Held) (counted : is_counted held.docket (rows_of held.docket held.bytes) ≡ true) where
  row_counts : (path : List ℕ) (list : Kept) → list_lent held path ≡ Some list
      → (list.entries ≡ count_below is_entry path (rows_of held.docket held.bytes)) × (list.tracked ≡ count_below counts.is_tracked path (rows_of held.docket held.bytes))
  row_counts path list h =
      let rows = rows_of held.docket held.bytes in
      let by = lent_by held path list h in
      let row = row_found (λ r. is_row_counted rows r ≡ true) rows path by.row (each_true (is_row_counted rows) rows (counts_right held counted).0) by.found in
      let both = and_parts (eqb by.row.rec.entries_below (count_below is_entry by.row.path rows)) (eqb by.row.rec.tracked_below (count_below counts.is_tracked by.row.path rows)) row.0 in (
        sym (ap (λ (l : Kept). l.entries) by.is) ∙ eqb-true by.row.rec.entries_below (count_below is_entry by.row.path rows) both.0 ∙ ap (λ (p : List ℕ). count_below is_entry p rows) row.1,
        sym (ap (λ (l : Kept). l.tracked) by.is) ∙ eqb-true by.row.rec.tracked_below (count_below counts.is_tracked by.row.path rows) both.1 ∙ ap (λ (p : List ℕ). count_below counts.is_tracked p rows) row.1,
      )

  few_below : (test : Row → Bool) (path : List ℕ) (n : ℕ) → n ≡ count_below test path (rows_of held.docket held.bytes) → n ≤ count_by (λ row. is_below path row.path) (rows_of held.docket held.bytes)
  few_below test path n e =
      let rows = rows_of held.docket held.bytes in
      let less : count_below test path rows ≤ count_by (λ row. is_below path row.path) rows =
      count_le (λ row. is_below path row.path && test row) (λ row. is_below path row.path) rows (λ row h. (and_parts (is_below path row.path) (test row) h).0) in
      omega (arith, e, less)

  few_by : (n size : ℕ) (test : Row → Bool) → 44 * n ≤ size + 44 * count_by test (rows_of held.docket held.bytes) → 44 * n ≤ held.docket.used + size
  few_by n size test h =
      let rows = rows_of held.docket held.bytes in
      let all : count_by test rows ≤ length rows = count_by-le-length test rows in
      let room : 44 * length rows ≤ held.docket.used = (counts_right held counted).1 in
      omega (arith, h, all, room)

  -- what is counted of a tree has a record each, in the image or behind it
  pub few_lent : IsFormed (table held) → AreFew held (keeps_lent held) held.docket.used
  few_lent formed = record {
    entries = λ dir tree is.
        few_by (number_in (keeps_lent held) has_entry tree) (size_in (keeps_lent held) tree) (λ row. is_under (heads tree) row.path)
        (few_in held formed has_entry (λ path list h. few_below is_entry path list.entries (row_counts path list h).0) dir tree is.children.each is.children.ascending is.below);
    tracked = λ dir tree is.
        few_by (number_in (keeps_lent held) is_tracked tree) (size_in (keeps_lent held) tree) (λ row. is_under (heads tree) row.path)
        (few_in held formed is_tracked (λ path list h. few_below counts.is_tracked path list.tracked (row_counts path list h).1) dir tree is.children.each is.children.ascending is.below);
  }
