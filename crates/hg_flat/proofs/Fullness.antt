-- That the rows of the paths with an entry and of what else stands in the working copy are the full listing.
use Rattle.std.proofs.Common.{ℕ, ◌≡◌, Bool, true, false, ◌&&◌, ◌||◌, List, [], ◌∷◌, map, Option, Some, None, is_some, option_map, refl, sym, ap, ◌∙◌, subst, inl, inr, ◌⊎◌, arith}
use Rattle.std.specs.List.{AllByRecursion, Contains, IsDistinct, dedup}
use Rattle.std.specs.List.Sorted.{IsPermutation, IsSorted, IsStrictlySortedBy}
use Rattle.std.specs.Ordering.{eq_by_cmp}
use Rattle.std.specs.Str.{bytes_eq}
use Rattle.std.proofs.lemmas.Bool.{and_parts}
use Rattle.std.proofs.lemmas.Slice.Eq.{bytes_eq-Decides}
use Rattle.std.proofs.lemmas.List.Elements.{Contains-append_cases, Contains-append_left, Contains-append_right, Contains-push_cases}
use Rattle.hg_base.specs.declared.id.Id20.{Id20}
use Rattle.hg_entry.specs.Entry.{view}
use Rattle.hg_entry.specs.Table.{Flat, marks_of}
use Rattle.hg_shelf.specs.History as shelves
use Rattle.hg_tree.specs.Moment.{Moment}
use Rattle.hg_ignore.specs.State.{Ignore, Piece}
use Rattle.hg_compare.specs.Tracked.{ParentRow, is_file_or_link, tracked_letter}
use Rattle.hg_compare.specs.declared.letter.Letter.{Letter}
use Rattle.hg_listing.specs.Full.{HasLetter, HasLetterBy, IsFull, IsFullFor, IsTold, wants}
use Rattle.hg_flat.specs.Kept.{AreNamed, HaveOwnPaths, Kept, KeptRows, flat_from, source_of}
use Rattle.hg_flat.specs.Judged.{AddsBy, IsPutBy}
use Rattle.hg_flat.specs.Listing.{ArePutFor, Gives, GivesLetter, IsUnknownIn, IsUntrackedRow, ListsUnknown, letter_at, row_under, rows_under, untracked_row}
use Rattle.hg_listing.specs.Order.{row_order, whole_order}
use Rattle.hg_flat.specs.Parent.{Asking, IsAsked, IsServed, asked_by, is_compared, is_plain_entry, parent_rows}
use Rattle.hg_flat.specs.Patterns.{ignored_at, needs_patterns}
use Rattle.hg_flat.specs.declared.kept.FlatRow.{FlatRow}
use Rattle.hg_listing.specs.declared.row.Row.{Row}
use Rattle.hg_listing.specs.declared.row.Wanted.{Wanted}
use Rattle.hg_flat.proofs.Ascending.{ascending, distinct_paths, kept_by, kept_of, same_row}
use Rattle.hg_flat.proofs.Ignoring.{gives_needs, one_letter}
use Rattle.hg_flat.proofs.Tracking.{from_put, in_put, under_has, under_one}

-- these rows are what is kept, and no others
pub record Holds (kept : KeptRows) (rows : List FlatRow) : Type 0 where
  pub found : (row : FlatRow) → Contains rows row → kept row.path ≡ Some row
  pub all : (path : List ℕ) (row : FlatRow) → kept path ≡ Some row → Contains rows row

pub each_of : (P : List ℕ → Type 0) (rows : List FlatRow) → AllByRecursion P (map (λ row. row.path) rows) → (r : FlatRow) → Contains rows r → P r.path
each_of P [] all r (k, below, is) = absurd (omega (arith, below))
each_of P (row ∷ rows) all r has =
    elim (Contains-append_cases (row ∷ []) rows r has) [
      | inl first ↦ elim (Contains-push_cases [] row r first) [ inl (k, below, is) ↦ absurd (omega (arith, below)) | inr same ↦ subst (λ (q : FlatRow). P q.path) same all.0 ]
      | inr later ↦ each_of P rows all.1 r later
    ]

-- a test of which paths are compared asks for none but those that are compared by their marks
abbrev pub Narrows : Asking → Wanted → Flat → Type 0
Narrows asks wanted flat = (moment : Moment) (path : List ℕ) → IsAsked asks moment path → IsAsked (asked_by wanted flat) moment path

-- a path has no row where none is kept of it
pub none_is : (o : Option FlatRow) → is_some o ≡ false → o ≡ None
none_is None is = refl
none_is (Some row) is = absurd (cc (is))

module _ (p1 p2 : List ℕ) (kept : KeptRows) (files : shelves.Files) (id : Id20) (moment : Moment) (wanted : Wanted) (named : AreNamed kept) where
  abbrev flat : Flat
  flat = flat_from p1 p2 kept

  abbrev keeps : Kept
  keeps path = is_some (kept path)

  -- what is told of a path
  abbrev Tells : Row → Type 0
  Tells row = IsTold flat moment (parent_rows files id) (ignored_at moment) wanted row

  path_is : (path : List ℕ) (row : FlatRow) → kept path ≡ Some row → row.path ≡ path
  path_is path row is =
      let both = subst (λ (o : Option FlatRow). option_map (λ r. r.path) o ≡ option_map (λ r. path) o) is (named path) in cc (both)

  -- the letter of an entry is that of its path
  has_letter : (path : List ℕ) (k : FlatRow) (letter : Letter) → kept path ≡ Some k → k.path ≡ path → letter_at files id moment k ≡ Some letter → HasLetter flat moment (parent_rows files id) (ignored_at moment) path letter
  has_letter path k letter is at has =
      subst (λ (o : Option FlatRow). HasLetterBy (option_map (λ r. marks_of (view r.entry)) o) flat moment (parent_rows files id) (ignored_at moment) path letter) (sym is)
      (subst (λ (p : List ℕ). tracked_letter (parent_rows files id p) (marks_of (view k.entry)) (is_some (source_of (kept path))) (moment.things p) ≡ Some letter) at
      (ap (λ (o : Option FlatRow). tracked_letter (parent_rows files id k.path) (marks_of (view k.entry)) (is_some (source_of o)) (moment.things k.path)) is ∙ has))

  letter_back : (path : List ℕ) (k : FlatRow) (letter : Letter) → kept path ≡ Some k → k.path ≡ path → HasLetter flat moment (parent_rows files id) (ignored_at moment) path letter → letter_at files id moment k ≡ Some letter
  letter_back path k letter is at has =
      sym (ap (λ (o : Option FlatRow). tracked_letter (parent_rows files id k.path) (marks_of (view k.entry)) (is_some (source_of o)) (moment.things k.path)) is)
      ∙ subst (λ (p : List ℕ). tracked_letter (parent_rows files id p) (marks_of (view k.entry)) (is_some (source_of (kept path))) (moment.things p) ≡ Some letter) (sym at)
      (subst (λ (o : Option FlatRow). HasLetterBy (option_map (λ r. marks_of (view r.entry)) o) flat moment (parent_rows files id) (ignored_at moment) path letter) is has)

  told_tracked : (k : FlatRow) (letter : Letter) → kept k.path ≡ Some k → letter_at files id moment k ≡ Some letter → wants wanted letter ≡ true → Tells (row_under k letter)
  told_tracked k letter is has wants = (wants, has_letter k.path k letter is refl has, sym (ap source_of is))

  told_unknown : (letter : Letter) (path : List ℕ) → Gives wanted (Ignore moment) path letter → IsUnknownIn keeps moment None path → Tells (untracked_row letter path)
  told_unknown letter path gives u = (
    gives.0,
    subst (λ (o : Option FlatRow). HasLetterBy (option_map (λ r. marks_of (view r.entry)) o) flat moment (parent_rows files id) (ignored_at moment) path letter) (sym (none_is (kept path) u.untracked.1))
        (u.untracked.0, λ d below. u.visible d refl below, gives.1),
    sym (ap source_of (none_is (kept path) u.untracked.1)),
  )

  -- a row that is told is that of an entry, or of a path without one
  told_row : (row : Row) (o : Option FlatRow) → kept row.path ≡ o → Tells row
      → ((k : FlatRow) × (kept row.path ≡ Some k) × (letter_at files id moment k ≡ Some row.letter) × (row ≡ row_under k row.letter))
      ⊎ ((kept row.path ≡ None) × Gives wanted (Ignore moment) row.path row.letter × IsUnknownIn keeps moment None row.path × (row ≡ untracked_row row.letter row.path))
  told_row row None is tells =
      let letter = subst (λ (o : Option FlatRow). HasLetterBy (option_map (λ r. marks_of (view r.entry)) o) flat moment (parent_rows files id) (ignored_at moment) row.path row.letter) is tells.1 in
      inr (
        is,
        (tells.0, letter.2),
        record { inside = refl; untracked = (letter.0, ap is_some is); visible = λ d from below. letter.1 d below },
        same_row row (untracked_row row.letter row.path) refl refl (tells.2 ∙ ap source_of is),
      )
  told_row row (Some k) is tells =
      let same = path_is row.path k is in
      inl (k, is, letter_back row.path k row.letter is same tells.1, same_row row (row_under k row.letter) refl (sym same) (tells.2 ∙ ap source_of is))

  module _ (asks : Asking) (Premise : Type 0) (S : List ℕ → Type 0) (rows : List FlatRow) (holds : Holds kept rows) (a : List Row) (tracked : AddsBy asks Premise S files id moment wanted rows [] a) where
    -- what a comparison asked for was there
    pub served_path : Narrows asks wanted flat → (path : List ℕ) → S path → IsAsked asks moment path → IsServed files id moment path
    served_path narrow path meets asked = by (kept path) refl
      where
        test : Option FlatRow → Bool
        test o = (wanted.m || wanted.c) && is_plain_entry (option_map (λ r. marks_of (view r.entry)) o) (is_some (source_of o))

        both : (is_compared wanted flat path ≡ true) × (is_file_or_link (moment.things path) ≡ true)
        both = and_parts (is_compared wanted flat path) (is_file_or_link (moment.things path)) (narrow moment path asked)

        by : (o : Option FlatRow) → kept path ≡ o → IsServed files id moment path
        by None is = absurd (never (wanted.m || wanted.c) (sym (ap test is) ∙ both.0))
          where
            never : (b : Bool) → (b && false) ≡ true → ⊥
            never true same = absurd (cc (same))
            never false same = absurd (cc (same))
        by (Some k) is =
            let same : k.path ≡ path = path_is path k is in
            let of : Contains rows k = holds.all path k is in
            let from = in_put (IsPutBy asks Premise S files id moment wanted) rows tracked.0 tracked.2 k of in
            subst (IsServed files id moment) same
            (from.1.found.served (subst S (sym same) meets) (subst (IsAsked asks moment) (sym same) asked))

  module _ (asks : Asking) (Premise : Type 0) (S : List ℕ → Type 0) (rows : List FlatRow) (own : HaveOwnPaths rows) (holds : Holds kept rows) (a b : List Row)
      (tracked : AddsBy asks Premise S files id moment wanted rows [] a) (state : List Piece) (begun : (path : List ℕ) → S path → keeps path ≡ false → needs_patterns wanted ≡ true → state ≡ Ignore moment)
      (lists : ListsUnknown keeps (Gives wanted state) S (IsUnknownIn keeps moment None) a b) where
    abbrev Put : FlatRow → List Row → Type 0
    Put = IsPutBy asks Premise S files id moment wanted

    -- a row is that of an entry, or of a path without one
    cases : (row : Row) → Contains b row → ((k : FlatRow) × (more : List Row) × Contains rows k × Put k more × Contains more row) ⊎ Contains lists.0 row
    cases row has =
        elim (Contains-append_cases a lists.0 row (subst (λ (l : List Row). Contains l row) lists.1 has)) [
          | inl first ↦ inl (from_put Put rows tracked.0 tracked.2 row (subst (λ (l : List Row). Contains l row) tracked.1 first))
          | inr second ↦ inr second
        ]

    -- what is put for an entry
    put_row : (k : FlatRow) (more : List Row) → Put k more → (row : Row) → Contains more row → (wants wanted row.letter ≡ true) × (row ≡ row_under k row.letter)
    put_row k more put row has = let one = under_one wanted k put.letter row (subst (λ (l : List Row). Contains l row) put.one has) in (one.1, one.2)

    put_letter : Premise → (k : FlatRow) (more : List Row) → Put k more → S k.path → (row : Row) → Contains more row → letter_at files id moment k ≡ Some row.letter
    put_letter premise k more put here row has =
        let one = under_one wanted k (letter_at files id moment k) row (subst (λ (l : List Row). Contains l row) (put.one ∙ put.found.right premise here) has) in one.0

    told : Premise → (row : Row) → Contains b row → S row.path → Tells row
    told premise row has meets =
        elim (cases row has) [
          | inl (k, more, of, put, within) ↦
              let is = put_row k more put row within in
              let here : S k.path = subst S (ap (λ (r : Row). r.path) is.1) meets in
              subst Tells (sym is.1) (told_tracked k row.letter (holds.found k of) (put_letter premise k more put here row within) is.0)
          | inr second ↦
              let e = lists.2.each row second in
              let at : state ≡ Ignore moment = begun row.path meets e.none (gives_needs wanted state row.path row.letter e.given) in
              subst Tells (sym e.is)
              (told_unknown row.letter row.path (subst (λ (t : List Piece). Gives wanted t row.path row.letter) at e.given) (lists.2.sound row second meets))
        ]

    has_told : Premise → (row : Row) → S row.path → Tells row → Contains b row
    has_told premise row meets tells =
        subst (λ (l : List Row). Contains l row) (sym lists.1)
        (elim (told_row row (kept row.path) refl tells) [
          | inl (k, is, letter, same) ↦
              let of : Contains rows k = holds.all row.path k is in
              let from = in_put Put rows tracked.0 tracked.2 k of in
              let here : S k.path = subst S (sym (path_is row.path k is)) meets in
              let put : Contains (rows_under wanted k (Some row.letter)) row = subst (Contains (rows_under wanted k (Some row.letter))) (sym same) (under_has wanted k row.letter tells.0) in
              Contains-append_left a lists.0 row
              (subst (λ (l : List Row). Contains l row) (sym tracked.1)
              (from.2 row (subst (λ (l : List Row). Contains l row) (sym (from.1.one ∙ from.1.found.right premise here ∙ ap (rows_under wanted k) letter)) put)))
          | inr (none, gives, unknown, same) ↦
              let at : state ≡ Ignore moment = begun row.path meets (ap is_some none) (gives_needs wanted (Ignore moment) row.path row.letter gives) in
              Contains-append_right a lists.0 row
              (subst (Contains lists.0) (sym same)
              (lists.2.all row.path row.letter meets unknown (subst (λ (t : List Piece). Gives wanted t row.path row.letter) (sym at) gives)))
        ])

    -- the source of a row follows from its path
    sourced : (row : Row) → Contains b row → row.source ≡ source_of (kept row.path)
    sourced row has =
        elim (cases row has) [
          | inl (k, more, of, put, within) ↦
              let is : row ≡ row_under k row.letter = (put_row k more put row within).1 in
              ap (λ (r : Row). r.source) is ∙ sym (ap source_of (ap (λ (r : Row). kept r.path) is ∙ holds.found k of))
          | inr second ↦ let e = lists.2.each row second in ap (λ (r : Row). r.source) e.is ∙ sym (ap source_of (none_is (kept row.path) e.none))
        ]

    one_row : (k : FlatRow) (more : List Row) → Put k more → (x y : Row) → Contains more x → Contains more y → x ≡ y
    one_row k more put x y left right =
        let a = under_one wanted k put.letter x (subst (λ (l : List Row). Contains l x) put.one left) in
        let b = under_one wanted k put.letter y (subst (λ (l : List Row). Contains l y) put.one right) in
        let letters : x.letter ≡ y.letter = let p = a.0 in let q = b.0 in cc (p, q) in
        a.2 ∙ ap (row_under k) letters ∙ sym b.2

    -- an entry's row is the only one of its path, and so is that of a path without one
    one_each : (rest : List FlatRow) (more : List Row) → HaveOwnPaths rest → ArePutFor Put rest more → (x y : Row) → Contains more x → Contains more y → x.path ≡ y.path → x ≡ y
    unfolding IsDistinct
    one_each [] more distinct none x y left right same = let (n, below, is) = subst (λ (l : List Row). Contains l x) none left in absurd (omega (arith, below))
    one_each (k ∷ rest) more distinct (here, later, is, put, puts) x y left right same =
        elim (Contains-append_cases here later x (subst (λ (l : List Row). Contains l x) is left)) [
          | inl here_x ↦
              elim (Contains-append_cases here later y (subst (λ (l : List Row). Contains l y) is right)) [
                | inl here_y ↦ one_row k here put x y here_x here_y
                | inr later_y ↦ absurd (clash x y here_x later_y same)
              ]
          | inr later_x ↦
              elim (Contains-append_cases here later y (subst (λ (l : List Row). Contains l y) is right)) [
                | inl here_y ↦ absurd (clash y x here_y later_x (sym same))
                | inr later_y ↦ one_each rest later distinct.1 puts x y later_x later_y same
              ]
        ]
      where
        clash : (p q : Row) → Contains here p → Contains later q → p.path ≡ q.path → ⊥
        clash p q first second at =
            let from = from_put Put rest later puts q second in
            let never : bytes_eq k.path from.0.path ≡ false = each_of (λ path. bytes_eq k.path path ≡ false) rest distinct.0 from.0 from.2 in
            let mine : p.path ≡ k.path = ap (λ (r : Row). r.path) (put_row k here put p first).1 in
            let other : q.path ≡ from.0.path = ap (λ (r : Row). r.path) (put_row from.0 from.1 from.3 q from.4).1 in
            let is : bytes_eq k.path from.0.path ≡ true = (bytes_eq-Decides k.path from.0.path).1 (sym mine ∙ at ∙ other) in
            absurd (cc (never, is))

    one_other : (x y : Row) → IsUntrackedRow keeps (Gives wanted state) x → IsUntrackedRow keeps (Gives wanted state) y → x.path ≡ y.path → x ≡ y
    one_other x y left right same =
        let letters : x.letter ≡ y.letter = one_letter state y.path x.letter y.letter (subst (λ (p : List ℕ). GivesLetter state p x.letter) same left.given.1) right.given.1 in
        left.is ∙ ap (untracked_row x.letter) same ∙ ap (λ (l : Letter). untracked_row l y.path) letters ∙ sym right.is

    one_of_path : (x y : Row) → Contains b x → Contains b y → x.path ≡ y.path → x ≡ y
    one_of_path x y left right same =
        elim (Contains-append_cases a lists.0 x (subst (λ (l : List Row). Contains l x) lists.1 left)) [
          | inl first_x ↦
              elim (Contains-append_cases a lists.0 y (subst (λ (l : List Row). Contains l y) lists.1 right)) [
                | inl first_y ↦
                    one_each rows tracked.0 own tracked.2 x y (subst (λ (l : List Row). Contains l x) tracked.1 first_x) (subst (λ (l : List Row). Contains l y) tracked.1 first_y) same
                | inr second_y ↦ absurd (apart x y first_x second_y same)
              ]
          | inr second_x ↦
              elim (Contains-append_cases a lists.0 y (subst (λ (l : List Row). Contains l y) lists.1 right)) [
                | inl first_y ↦ absurd (apart y x first_y second_x (sym same))
                | inr second_y ↦ one_other x y (lists.2.each x second_x) (lists.2.each y second_y) same
              ]
        ]
      where
        apart : (p q : Row) → Contains a p → Contains lists.0 q → p.path ≡ q.path → ⊥
        apart p q first second at =
            let from = from_put Put rows tracked.0 tracked.2 p (subst (λ (l : List Row). Contains l p) tracked.1 first) in
            let mine : p.path ≡ from.0.path = ap (λ (r : Row). r.path) (put_row from.0 from.1 from.3 p from.4).1 in
            let there : kept q.path ≡ Some from.0 = ap kept (sym at ∙ mine) ∙ holds.found from.0 from.2 in
            let none = none_is (kept q.path) (lists.2.each q second).none in absurd (cc (there, none))

    -- these rows put in order without doubles are the full listing of the paths that meet S
    pub full_for : Premise → (c d : List Row) → IsPermutation b c → IsSorted whole_order c → d ≡ dedup (eq_by_cmp whole_order) c → IsFullFor S flat moment (parent_rows files id) (ignored_at moment) wanted d
    full_for premise c d moved sorted once =
        let up : IsStrictlySortedBy row_order d = ascending (λ path. source_of (kept path)) b c d moved sorted once sourced in record {
          sound = λ row has meets. told premise row (kept_of b c d row moved once has) meets;
          all = λ row meets tells. kept_by b c d row moved once (has_told premise row meets tells);
          once =
              distinct_paths d up
              (λ x y left right same. one_of_path x y (kept_of b c d x moved once left) (kept_of b c d y moved once right) same);
          ascending = up;
        }

-- where each path meets S it is the full listing
pub full_of : (S : List ℕ → Type 0) (flat : Flat) (moment : Moment) (parents : List ℕ → Option ParentRow) (Ignored : List ℕ → Type 0) (wanted : Wanted) (listing : List Row) → ((path : List ℕ) → S path)
    → IsFullFor S flat moment parents Ignored wanted listing → IsFull flat moment parents Ignored wanted listing
full_of S flat moment parents Ignored wanted listing meets is = record {
  sound = λ row has. is.sound row has (meets row.path);
  all = λ row tells. is.all row (meets row.path) tells;
  ascending = is.ascending;
}
