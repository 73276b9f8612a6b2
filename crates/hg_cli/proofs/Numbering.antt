-- How many rows of each letter a full listing of the copy has.
use Rattle.std.proofs.Common.{ℕ, ◌≡◌, ◌*◌, ◌%◌, ◌/◌, ◌<◌, ◌≤◌, ◌^◌, Bool, true, false, List, [], ◌∷◌, ◌++◌, get_or, Option, Some, None, inl, inr, refl, sym, ap, subst, ◌∙◌, arith, eqb, true≢false}
use Rattle.std.specs.Prelude.{codes, is_some, option_map}
use Rattle.std.specs.List.{AllByRecursion, Contains}
use Rattle.std.specs.List.Sorted.{IsStrictlySortedBy}
use Rattle.std.specs.declared.cmp.Ordering.TheVariants.{Less}
use Rattle.std.proofs.lemmas.Bool.{both_ways}
use Rattle.std.proofs.lemmas.List.{append_cancel_left}
use Rattle.std.proofs.lemmas.List.Elements.{Contains-append_left, Contains-append_right, Contains-push}
use Rattle.hg_base.specs.PathText.{is_below}
use Rattle.hg_base.proofs.Below.{below_joined}
use Rattle.hg_compare.specs.Tracked.{ParentRow, is_file_or_link, tracked_letter}
use Rattle.hg_compare.specs.declared.letter.Letter.{Letter}
use Rattle.hg_compare.specs.declared.letter.Letter.TheVariants as a_letter
use Rattle.hg_entry.specs.Table.{Flat, Marks, marks_of}
use Rattle.hg_flat.proofs.Alone.{first_or_later, never_itself}
use Rattle.hg_gen.specs.Copy.{AreFiles, dir_of, name_of, path_of, placed, text_of}
use Rattle.hg_gen.specs.Manifest.{is_in_parent}
use Rattle.hg_gen.specs.Recorded.{entry_of}
use Rattle.hg_gen.proofs.Naming.{above_dir, files_differ, only_above}
use Rattle.hg_listing.specs.Full.{HasLetter, HasLetterBy, IsFull, IsTold, IsVisible, wants}
use Rattle.hg_listing.specs.Order.{row_order}
use Rattle.hg_listing.specs.declared.row.Row.{Row}
use Rattle.hg_listing.specs.declared.row.Wanted.{Wanted}
use Rattle.hg_tree.specs.Moment.{Moment, Things, is_dir}
use Rattle.hg_tree.specs.declared.thing.Placed.{Placed}
use Rattle.hg_tree.specs.declared.thing.Thing.TheVariants as a_thing
use Rattle.hg_cli.specs.Lines.{lines_with}
use Rattle.hg_report.specs.Status.{sign_of, text_of as status_text}
use Rattle.hg_cli.proofs.Letters.{Tells, letter_of, parent_of, tells}
use Rattle.hg_cli.proofs.Lining.{HasLine, all_style, has_sign, lines_of_rows, solid_path}
use Rattle.hg_cli.proofs.Tallying.{AreOnce, In, count_tally, in_upto, of_upto, once_upto, same_count, tally, tally_rests, upto}

abbrev pub all_wanted : Wanted
all_wanted = record { m = true; a = true; r = true; d = true; u = true; i = true; c = true }

-- what a status goes by is that of the copy of so many directories: marks and sources, what stands in the working copy, what the first parent has, and no
-- path is ignored
pub record Stands (dirs : ℕ) (flat : Flat) (moment : Moment) (rows : List ℕ → Option ParentRow) (Ignored : List ℕ → Type 0) : Type 0 where
  pub marks : (i : ℕ) → i < 16 * dirs → flat.marks (path_of i) ≡ option_map marks_of (entry_of i)
  pub only : (at : List ℕ) → is_some (flat.marks at) ≡ true → (i : ℕ) × (i < 16 * dirs) × (at ≡ path_of i)
  pub sources : (at : List ℕ) → flat.sources at ≡ None
  pub things : AreFiles (16 * dirs) moment.things
  pub parent : (i : ℕ) → i < 16 * dirs → is_in_parent i ≡ true → rows (path_of i) ≡ Some (parent_of (text_of i))
  pub none : (at : List ℕ) → Ignored at → ⊥

-- the row of a file
abbrev pub row_of : ℕ → Row
row_of i = record { letter = letter_of (i % 16); path = path_of i; source = None }

-- ---- rows in order

in_all : (P : Row → Type 0) (rows : List Row) (row : Row) → AllByRecursion P rows → In rows row → P row
in_all P [] row all has = absurd has
in_all P (r ∷ rows) row all (inl is) = subst P is all.0
in_all P (r ∷ rows) row all (inr later) = in_all P rows row all.1 later

all_in : (P : Row → Type 0) (rows : List Row) → ((row : Row) → In rows row → P row) → AllByRecursion P rows
all_in P [] each = tt
all_in P (r ∷ rows) each = (each r (inl refl), all_in P rows (λ row has. each row (inr has)))

once : (rows : List Row) → IsStrictlySortedBy row_order rows → AreOnce rows
unfolding IsStrictlySortedBy
once [] up = tt
once (r ∷ rows) up = (λ has. never_itself r (in_all (λ row. row_order r row ≡ Less) rows r up.0 has), once rows up.1)

contains_in : (rows : List Row) (row : Row) → Contains rows row → In rows row
contains_in [] row has = let inside = has.1 in absurd (omega arith)
contains_in (r ∷ rows) row has = elim (first_or_later r rows row has) [ inl is ↦ inl is | inr later ↦ inr (contains_in rows row later) ]

in_contains : (rows : List Row) (row : Row) → In rows row → Contains rows row
in_contains [] row has = absurd has
in_contains (r ∷ rows) row (inl is) = subst (Contains (r ∷ rows)) is (Contains-append_left (r ∷ []) rows r (Contains-push [] r))
in_contains (r ∷ rows) row (inr later) = Contains-append_right (r ∷ []) rows row (in_contains rows row later)

-- ---- what stands there

file_there : (o : Option Placed) → is_file_or_link o ≡ true → is_some o ≡ true
file_there None h = absurd (true≢false (sym h))
file_there (Some there) h = refl

pub none_there : (o : Option Placed) → (is_some o ≡ true → ⊥) → o ≡ None
none_there None gone = refl
none_there (Some there) gone = absurd (gone refl)

abbrev some_letter : Option Letter → Letter
some_letter None = a_letter.C
some_letter (Some letter) = letter

wants_each : (letter : Letter) → wants all_wanted letter ≡ true
wants_each a_letter.M = refl
wants_each a_letter.A = refl
wants_each a_letter.R = refl
wants_each a_letter.Gone = refl
wants_each a_letter.Unknown = refl
wants_each a_letter.I = refl
wants_each a_letter.C = refl

module _ (dirs : ℕ) (things : Things) (files : AreFiles (16 * dirs) things) (few : dirs ≤ 2000) where
  -- no directory of the copy is a repository of its own
  pub no_hg : (d : ℕ) → d < 2 ^ 64 → things (dir_of d ++ 47 ∷ codes ".hg") ≡ None
  no_hg d small =
      none_there (things (dir_of d ++ 47 ∷ codes ".hg"))
      (λ there.
      let at = files.only (dir_of d ++ 47 ∷ codes ".hg") there in
      let below : at.0 < 16 * dirs = at.1 in
      let j : at.0 < 2 ^ 64 = omega (arith, below, few) in
      elim at.2 [
        | inl file ↦
            let above : is_below (dir_of d) (path_of at.0) ≡ true = subst (λ (p : List ℕ). is_below (dir_of d) p ≡ true) file (below_joined (dir_of d) (codes ".hg")) in
            let same : dir_of d ≡ dir_of (at.0 / 16) = only_above (dir_of d) at.0 j above in
            let names : 47 ∷ codes ".hg" ≡ 47 ∷ name_of (at.0 % 16) =
            append_cancel_left (dir_of (at.0 / 16)) (47 ∷ codes ".hg") (47 ∷ name_of (at.0 % 16)) (ap (λ (dir : List ℕ). dir ++ 47 ∷ codes ".hg") (sym same) ∙ file) in
            let first : 46 ≡ 102 = ap (λ (l : List ℕ). get_or l 1 0) names in
            absurd (omega (arith, first))
        | inr dir ↦
            both_ways (is_below (dir_of d) (dir_of (at.0 / 16))) (above_dir (dir_of d) (at.0 / 16) (omega (arith, j)))
            (subst (λ (p : List ℕ). is_below (dir_of d) p ≡ true) dir (below_joined (dir_of d) (codes ".hg")))
      ])

module _ (dirs : ℕ) (few : dirs ≤ 2000) (flat : Flat) (moment : Moment) (rows : List ℕ → Option ParentRow) (Ignored : List ℕ → Type 0) (stands : Stands dirs flat moment rows Ignored) where
  small : (i : ℕ) → i < 16 * dirs → i < 2 ^ 64
  small i below = omega (arith, below, few)

  tells_at : (i : ℕ) → i < 16 * dirs → Tells (flat.marks (path_of i)) (rows (path_of i)) (moment.things (path_of i)) (letter_of (i % 16))
  tells_at i below =
      subst (λ (m : Option Marks). Tells m (rows (path_of i)) (moment.things (path_of i)) (letter_of (i % 16))) (sym (stands.marks i below))
      (subst (λ (o : Option Placed). Tells (option_map marks_of (entry_of i)) (rows (path_of i)) o (letter_of (i % 16))) (sym (stands.things.file i below))
      (tells i (small i below) (rows (path_of i)) (stands.parent i below)))

  visible : (i : ℕ) → i < 16 * dirs → IsVisible moment (path_of i)
  visible i below dir above =
      let same : dir ≡ dir_of (i / 16) = only_above dir i (small i below) above in
      ap (λ (d : List ℕ). is_dir (moment.things (d ++ 47 ∷ codes ".hg"))) same
      ∙ ap is_dir (no_hg dirs moment.things stands.things few (i / 16) (let s : i < 2 ^ 64 = small i below in omega (arith, s)))

  unsourced : (at : List ℕ) → is_some (flat.sources at) ≡ false
  unsourced at = ap is_some (stands.sources at)

  -- a letter that is told is one that the path has, and no other is
  has_told : (i : ℕ) → i < 16 * dirs → (m : Option Marks) (letter : Letter) → Tells m (rows (path_of i)) (moment.things (path_of i)) letter → HasLetterBy m flat moment rows Ignored (path_of i) letter
  has_told i below None letter told = (told.1, visible i below, inr (told.0, stands.none (path_of i)))
  has_told i below (Some marks) letter told = ap (λ (b : Bool). tracked_letter (rows (path_of i)) marks b (moment.things (path_of i))) (unsourced (path_of i)) ∙ told

  one_letter : (path : List ℕ) (m : Option Marks) (letter other : Letter) → Tells m (rows path) (moment.things path) letter → HasLetterBy m flat moment rows Ignored path other → letter ≡ other
  one_letter path None letter other told has = elim has.2 [
    | inl ignored ↦ absurd (stands.none path ignored.1)
    | inr unknown ↦ told.0 ∙ sym unknown.0
  ]
  one_letter path (Some marks) letter other told has =
      ap some_letter (sym told ∙ ap (λ (b : Bool). tracked_letter (rows path) marks b (moment.things path)) (sym (unsourced path)) ∙ has)

  -- only files of the copy have letters
  file_of : (path : List ℕ) (letter : Letter) (m : Option Marks) → flat.marks path ≡ m → HasLetterBy m flat moment rows Ignored path letter → (i : ℕ) × (i < 16 * dirs) × (path ≡ path_of i)
  file_of path letter (Some marks) is has = stands.only path (ap is_some is)
  file_of path letter None is has =
      let at = stands.things.only path (file_there (moment.things path) has.0) in
      elim at.2 [
        | inl file ↦ (at.0, at.1, file)
        | inr dir ↦
            let stood : moment.things path ≡ Some (placed a_thing.Dir) = ap moment.things dir ∙ stands.things.dir at.0 at.1 in
            absurd (true≢false (sym has.0 ∙ ap is_file_or_link stood))
      ]

  told_row : (i : ℕ) → i < 16 * dirs → IsTold flat moment rows Ignored all_wanted (row_of i)
  told_row i below = (
    wants_each (letter_of (i % 16)),
    has_told i below (flat.marks (path_of i)) (letter_of (i % 16)) (tells_at i below),
    sym (stands.sources (path_of i)),
  )

  same_row : (a b : Row) → a.letter ≡ b.letter → a.path ≡ b.path → a.source ≡ b.source → a ≡ b
  same_row a b letter path source = λ k. record { letter = letter k; path = path k; source = source k }

  row_told : (row : Row) → IsTold flat moment rows Ignored all_wanted row → (i : ℕ) × (i < 16 * dirs) × (row_of i ≡ row)
  row_told row told =
      let at = file_of row.path row.letter (flat.marks row.path) refl told.1 in
      let has : HasLetter flat moment rows Ignored (path_of at.0) row.letter = subst (λ (p : List ℕ). HasLetter flat moment rows Ignored p row.letter) at.2 told.1 in (
        at.0,
        at.1,
        same_row (row_of at.0) row (one_letter (path_of at.0) (flat.marks (path_of at.0)) (letter_of (at.0 % 16)) row.letter (tells_at at.0 at.1) has) (sym at.2)
            (sym (told.2 ∙ stands.sources row.path)),
      )

  module _ (listing : List Row) (full : IsFull flat moment rows Ignored all_wanted listing) where
    lined : AllByRecursion HasLine listing
    lined =
        all_in HasLine listing
        (λ row has.
        let at = row_told row (full.sound row (in_contains listing row has)) in
        subst HasLine at.2 (record { source = refl; path = solid_path at.0 (small at.0 at.1) }))

    there : (row : Row) → In listing row → In (upto row_of (16 * dirs)) row
    there row has =
        let at = row_told row (full.sound row (in_contains listing row has)) in
        subst (In (upto row_of (16 * dirs))) at.2 (in_upto row_of (16 * dirs) at.0 at.1)

    back : (row : Row) → In (upto row_of (16 * dirs)) row → In listing row
    back row has =
        let at = of_upto row_of (16 * dirs) row has in
        contains_in listing row (full.all row (subst (IsTold flat moment rows Ignored all_wanted) at.2 (told_row at.0 at.1)))

    apart : AreOnce (upto row_of (16 * dirs))
    apart = once_upto row_of (16 * dirs) (λ i j i_below j_below same. files_differ i j (small i i_below) (small j j_below) (ap (λ (row : Row). row.path) same))

    -- so many lines of its text begin with a letter, where so many of sixteen files have it
    pub numbered : (sign each : ℕ) → tally (λ i. eqb (sign_of (letter_of (i % 16))) sign) 16 ≡ each → lines_with sign (status_text all_style listing) ≡ each * dirs
    numbered sign each is =
        lines_of_rows sign listing lined
        ∙ same_count (has_sign sign) listing (upto row_of (16 * dirs)) (once listing full.ascending) apart there back
        ∙ count_tally (has_sign sign) row_of (16 * dirs)
        ∙ tally_rests (λ r. eqb (sign_of (letter_of r)) sign) dirs each is
