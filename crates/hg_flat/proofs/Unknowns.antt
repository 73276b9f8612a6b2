-- Which rows the files and links without an entry below a directory have, from those at its names.
use Rattle.std.proofs.Common.{ℕ, ◌≡◌, ◌+◌, ◌<◌, true, false, List, [], ◌∷◌, ◌++◌, length, take, get_or, Option, Some, None, is_some, refl, sym, ap, ◌∙◌, subst, inl, inr, ◌⊎◌, arith}
use Rattle.std.specs.List.{Contains}
use Rattle.std.specs.Str.{bytes_eq}
use Rattle.std.proofs.lemmas.List.{append-nil, append_assoc}
use Rattle.std.proofs.lemmas.List.Elements.{Contains-append_cases, Contains-append_left, Contains-append_right, Contains-push, Contains-push_cases}
use Rattle.std.proofs.lemmas.List.Folds.{list_any_more}
use Rattle.std.proofs.lemmas.Slice.Eq.{bytes_eq-Decides}
use Rattle.std.proofs.lemmas.Bool.{or_cases, or_left, or_right}
use Rattle.hg_base.specs.PathText.{has_slash, is_below, joined}
use Rattle.hg_base.proofs.Below.{below_compared, below_itself, below_joined, below_name, below_not_back, below_of_joined, below_trans}
use Rattle.hg_tree.specs.Moment.{Moment, AreNames, IsFormed, has_dir, is_among, is_dir}
use Rattle.hg_tree.specs.declared.thing.Placed.{Placed}
use Rattle.hg_tree.specs.declared.thing.Thing.TheVariants as a_thing
use Rattle.hg_tree.specs.declared.thing.Thing.{Thing}
use Rattle.hg_compare.specs.Tracked.{is_file_or_link, is_file_or_link_thing}
use Rattle.hg_compare.specs.declared.letter.Letter.{Letter}
use Rattle.hg_tree.specs.Moment.{is_dir_thing}
use Rattle.hg_listing.specs.Full.{is_repository}
use Rattle.hg_flat.specs.Kept.{Kept}
use Rattle.hg_flat.specs.Listing.{AreUnknown, IsUnknownAmong, IsUnknownFrom, IsUnknownIn, IsVisibleFrom, IsUntrackedRow, ListsUnknown, holds_repository, is_from, is_inside, untracked_row}
use Rattle.hg_listing.specs.declared.row.Row.{Row}
use Rattle.hg_flat.proofs.Among.{reached, Reached}

-- ---- listings

unknown_none : (kept : Kept) (L : List ℕ → Letter → Type 0) (S P : List ℕ → Type 0) → ((p : List ℕ) (l : Letter) → S p → P p → L p l → ⊥) → AreUnknown kept L S P []
unknown_none kept L S P never = record {
  each = λ row (k, below, is). absurd (omega (arith, below));
  sound = λ row (k, below, is). absurd (omega (arith, below));
  all = λ path letter meets here given. absurd (never path letter meets here given);
}

the_one : (row other : Row) → Contains (row ∷ []) other → other ≡ row
the_one row other has = elim (Contains-push_cases [] row other has) [ inl (k, below, is) ↦ absurd (omega (arith, below)) | inr same ↦ sym same ]

unknown_one : (kept : Kept) (L : List ℕ → Letter → Type 0) (S P : List ℕ → Type 0) (path : List ℕ) (letter : Letter) → kept path ≡ false → L path letter → ((l : Letter) → L path l → l ≡ letter) → (S path → P path)
    → ((p : List ℕ) → S p → P p → p ≡ path) → AreUnknown kept L S P (untracked_row letter path ∷ [])
unknown_one kept L S P path letter none given one here only = record {
  each = λ row has.
      subst (IsUntrackedRow kept L) (sym (the_one (untracked_row letter path) row has)) (record { is = refl; none = none; given = given });
  sound = λ row has. let is = the_one (untracked_row letter path) row has in subst (λ (r : Row). S r.path → P r.path) (sym is) here;
  all = λ p l meets there also.
      let at = only p meets there in
      let is : untracked_row l p ≡ untracked_row letter path =
      ap (untracked_row l) at ∙ ap (λ (m : Letter). untracked_row m path) (one l (subst (λ (q : List ℕ). L q l) at also)) in
      subst (Contains (untracked_row letter path ∷ [])) (sym is) (Contains-push [] (untracked_row letter path));
}

unknown_append : (kept : Kept) (L : List ℕ → Letter → Type 0) (S P Q : List ℕ → Type 0) (xs ys : List Row) → AreUnknown kept L S P xs → AreUnknown kept L S Q ys → AreUnknown kept L S (λ p. P p ⊎ Q p) (xs ++ ys)
unknown_append kept L S P Q xs ys first second = record {
  each = λ row has. elim (Contains-append_cases xs ys row has) [ inl left ↦ first.each row left | inr right ↦ second.each row right ];
  sound = λ row has meets.
      elim (Contains-append_cases xs ys row has) [ inl left ↦ inl (first.sound row left meets) | inr right ↦ inr (second.sound row right meets) ];
  all = λ path letter meets here given.
      elim here [
        | inl p ↦ Contains-append_left xs ys (untracked_row letter path) (first.all path letter meets p given)
        | inr q ↦ Contains-append_right xs ys (untracked_row letter path) (second.all path letter meets q given)
      ];
}

unknown_moved : (kept : Kept) (L : List ℕ → Letter → Type 0) (S T P Q : List ℕ → Type 0) (xs : List Row) → ((p : List ℕ) → T p → S p) → ((p : List ℕ) → T p → P p → Q p) → ((p : List ℕ) → T p → Q p → P p) → AreUnknown kept L S P xs → AreUnknown kept L T Q xs
unknown_moved kept L S T P Q xs meets there back are = record {
  each = are.each;
  sound = λ row has m. there row.path m (are.sound row has (meets row.path m));
  all = λ path letter m here given. are.all path letter (meets path m) (back path m here) given;
}

pub lists_none : (kept : Kept) (L : List ℕ → Letter → Type 0) (S P : List ℕ → Type 0) (rows : List Row) → ((p : List ℕ) (l : Letter) → S p → P p → L p l → ⊥) → ListsUnknown kept L S P rows rows
lists_none kept L S P rows never = ([], sym (append-nil rows), unknown_none kept L S P never)

pub lists_one : (kept : Kept) (L : List ℕ → Letter → Type 0) (S P : List ℕ → Type 0) (old new : List Row) (path : List ℕ) (letter : Letter) → new ≡ old ++ untracked_row letter path ∷ [] → kept path ≡ false → L path letter
    → ((l : Letter) → L path l → l ≡ letter) → (S path → P path) → ((p : List ℕ) → S p → P p → p ≡ path) → ListsUnknown kept L S P old new
lists_one kept L S P old new path letter is none given one here only =
    (untracked_row letter path ∷ [], is, unknown_one kept L S P path letter none given one here only)

pub lists_trans : (kept : Kept) (L : List ℕ → Letter → Type 0) (S P Q : List ℕ → Type 0) (a b c : List Row) → ListsUnknown kept L S P a b → ListsUnknown kept L S Q b c → ListsUnknown kept L S (λ p. P p ⊎ Q p) a c
lists_trans kept L S P Q a b c (xs, is, first) (ys, also, second) =
    (xs ++ ys, also ∙ ap (λ (l : List Row). l ++ ys) is ∙ append_assoc a xs ys, unknown_append kept L S P Q xs ys first second)

pub lists_moved : (kept : Kept) (L : List ℕ → Letter → Type 0) (S T P Q : List ℕ → Type 0) (old new : List Row) → ((p : List ℕ) → T p → S p) → ((p : List ℕ) → T p → P p → Q p) → ((p : List ℕ) → T p → Q p → P p) → ListsUnknown kept L S P old new → ListsUnknown kept L T Q old new
lists_moved kept L S T P Q old new meets there back (xs, is, are) = (xs, is, unknown_moved kept L S T P Q xs meets there back are)

-- the same, where what Q says of a path has to imply P only under a letter that it has
pub lists_moved_by : (kept : Kept) (L : List ℕ → Letter → Type 0) (S T P Q : List ℕ → Type 0) (old new : List Row) → ((p : List ℕ) → T p → S p) → ((p : List ℕ) → T p → P p → Q p)
    → ((p : List ℕ) (l : Letter) → T p → Q p → L p l → P p) → ListsUnknown kept L S P old new → ListsUnknown kept L T Q old new
lists_moved_by kept L S T P Q old new meets there back (xs, is, are) = (
  xs,
  is,
  record {
    each = are.each;
    sound = λ row has m. there row.path m (are.sound row has (meets row.path m));
    all = λ path letter m here given. are.all path letter (meets path m) (back path letter m here given) given;
  },
)

-- ---- things

pub some_of_file : (o : Option Placed) → is_file_or_link o ≡ true → is_some o ≡ true
some_of_file None h = h
some_of_file (Some placed) h = refl

some_of_dir : (o : Option Placed) → is_dir o ≡ true → is_some o ≡ true
some_of_dir None h = h
some_of_dir (Some placed) h = refl

thing_not_dir : (t : Thing) → is_file_or_link_thing t ≡ true → is_dir_thing t ≡ false
thing_not_dir (a_thing.File exec bytes) h = refl
thing_not_dir (a_thing.Link target) h = refl
thing_not_dir a_thing.Dir h = sym h
thing_not_dir a_thing.Other h = refl

pub not_dir : (o : Option Placed) → is_file_or_link o ≡ true → is_dir o ≡ false
not_dir None h = refl
not_dir (Some placed) h = thing_not_dir placed.thing h

pub same_of : (a b : List ℕ) → bytes_eq a b ≡ true → a ≡ b
same_of a b = (bytes_eq-Decides a b).0

pub from_same : (a b : List ℕ) → a ≡ b → is_from (Some a) b ≡ true
from_same a b same = or_left (bytes_eq a b) (is_below a b) ((bytes_eq-Decides a b).1 same)

pub from_below : (a b : List ℕ) → is_below a b ≡ true → is_from (Some a) b ≡ true
from_below a b below = or_right (bytes_eq a b) (is_below a b) below

pub from_cases : (a b : List ℕ) → is_from (Some a) b ≡ true → (a ≡ b) ⊎ (is_below a b ≡ true)
from_cases a b from = elim (or_cases (bytes_eq a b) (is_below a b) from) [ inl same ↦ inl (same_of a b same) | inr below ↦ inr below ]

pub back : (a b : List ℕ) → is_below a b ≡ true → is_below b a ≡ true → ⊥
back a b there again = let never = below_not_back a b there in absurd (cc)

-- what is from a name of a directory is in the directory
pub inside_joined : (dir : Option (List ℕ)) (name p : List ℕ) → is_from (Some (joined dir name)) p ≡ true → is_inside dir p ≡ true
inside_joined None name p from = refl
inside_joined (Some dir) name p from =
    elim (from_cases (joined (Some dir) name) p from) [
      | inl same ↦ subst (λ (q : List ℕ). is_below dir q ≡ true) same (below_joined dir name)
      | inr below ↦ below_trans dir (joined (Some dir) name) p (below_joined dir name) below
    ]

-- ---- what is visible from where

apart_by : (P : List ℕ → Type 0) (j path d : List ℕ) → is_from (Some j) path ≡ true → ((e : List ℕ) → is_from (Some j) e ≡ true → is_below e path ≡ true → P e) → (is_below d j ≡ true → ⊥) → is_below d path ≡ true → P d
apart_by P j path d from each not_above below =
    elim (from_cases j path from) [
      | inl same ↦ absurd (not_above (subst (λ (q : List ℕ). is_below d q ≡ true) (sym same) below))
      | inr under ↦
          elim (below_compared d j path below under) [
            | inl same ↦ each d (from_same j d (sym same)) below
            | inr compared ↦ elim compared [ inl above ↦ absurd (not_above above) | inr deeper ↦ each d (from_below j d deeper) below ]
          ]
    ]

not_above : (dir name d : List ℕ) → has_slash name ≡ false → is_below dir d ≡ true → is_below d (joined (Some dir) name) ≡ true → ⊥
not_above dir name d plain deeper above =
    elim (below_of_joined d dir name plain above) [
      | inl same ↦ let never = below_itself dir in absurd (cc (never, subst (λ (q : List ℕ). is_below dir q ≡ true) same deeper))
      | inr higher ↦ back d dir higher deeper
    ]

-- what holds of each directory between a name of a directory and a path does so of each between the directory and the path, if of the directory itself
pub apart_up : (P : List ℕ → Type 0) (dir : Option (List ℕ)) (name path : List ℕ) → has_slash name ≡ false → ((d : List ℕ) → dir ≡ Some d → P d) → is_from (Some (joined dir name)) path ≡ true
    → ((d : List ℕ) → is_from (Some (joined dir name)) d ≡ true → is_below d path ≡ true → P d) → (d : List ℕ) → is_from dir d ≡ true → is_below d path ≡ true → P d
apart_up P None name path plain own inside each d from below =
    apart_by P name path d inside each (λ above. let not = below_name d name plain in absurd (cc (not, above))) below
apart_up P (Some dir) name path plain own inside each d from below =
    elim (from_cases dir d from) [
      | inl same ↦ subst P same (own dir refl)
      | inr deeper ↦ apart_by P (joined (Some dir) name) path d inside each (not_above dir name d plain deeper) below
    ]

-- what is visible from a name of a directory is so from the directory, unless that is a repository of its own
pub visible_up : (moment : Moment) (dir : Option (List ℕ)) (name path : List ℕ) → has_slash name ≡ false → holds_repository moment dir ≡ false → is_from (Some (joined dir name)) path ≡ true
    → IsVisibleFrom moment (Some (joined dir name)) path → IsVisibleFrom moment dir path
visible_up moment dir name path plain never inside visible =
    apart_up (λ d. is_repository moment d ≡ false) dir name path plain (λ d is. sym (ap (holds_repository moment) is) ∙ never) inside visible

-- ---- what stands at a path or below it

module _ (kept : Kept) (moment : Moment) (formed : IsFormed moment) where
  -- nothing stands below what is never directory
  none_below : (path p : List ℕ) → is_dir (moment.things path) ≡ false → is_below path p ≡ true → is_file_or_link (moment.things p) ≡ true → ⊥
  none_below path p other below file = let dir = formed.rooted path p below (some_of_file (moment.things p) file) in absurd (cc)

  pub only_here : (path p : List ℕ) → is_dir (moment.things path) ≡ false → IsUnknownFrom kept moment path p → p ≡ path
  only_here path p other u =
      elim (from_cases path p u.inside) [ inl same ↦ sym same | inr below ↦ absurd (none_below path p other below u.untracked.0) ]

  -- nothing is from a path at which neither a directory nor a file nor a link stands
  pub nothing_from : (path p : List ℕ) → is_dir (moment.things path) ≡ false → is_file_or_link (moment.things path) ≡ false → IsUnknownFrom kept moment path p → ⊥
  nothing_from path p other never u =
      let is = ap (λ (q : List ℕ). is_file_or_link (moment.things q)) (only_here path p other u) in absurd (cc (u.untracked.0, is, never))

  pub here_from : (path : List ℕ) → is_file_or_link (moment.things path) ≡ true → kept path ≡ false → IsUnknownFrom kept moment path path
  here_from path file none = record {
    inside = from_same path path refl;
    untracked = (file, none);
    visible = λ d from below.
        elim (from_cases path d from) [
          | inl same ↦ absurd (back path d (subst (λ (q : List ℕ). is_below q d ≡ true) (sym same) (subst (λ (q : List ℕ). is_below d q ≡ true) same below)) below)
          | inr under ↦ absurd (back path d under below)
        ];
  }

  -- from a directory is what is in it
  pub from_in : (path p : List ℕ) → IsUnknownIn kept moment (Some path) p → IsUnknownFrom kept moment path p
  from_in path p u = record { inside = from_below path p u.inside; untracked = u.untracked; visible = u.visible }

  pub in_from : (path p : List ℕ) → is_dir (moment.things path) ≡ true → IsUnknownFrom kept moment path p → IsUnknownIn kept moment (Some path) p
  in_from path p dir u = record {
    inside =
        elim (from_cases path p u.inside) [
          | inl same ↦
              let file = not_dir (moment.things p) u.untracked.0 in let is = ap (λ (q : List ℕ). is_dir (moment.things q)) same in absurd (cc (file, is, dir))
          | inr below ↦ below
        ];
    untracked = u.untracked;
    visible = u.visible;
  }

  -- ---- what stands in a directory

  -- nothing stands in what is never directory
  pub no_dir_in : (dir : Option (List ℕ)) (p : List ℕ) → has_dir moment dir ≡ false → IsUnknownIn kept moment dir p → ⊥
  no_dir_in None p never u = absurd (cc (never))
  no_dir_in (Some dir) p never u = none_below dir p never u.inside u.untracked.0

  -- nothing in a repository is visible
  pub nested_in : (dir : Option (List ℕ)) (p : List ℕ) → holds_repository moment dir ≡ true → IsUnknownIn kept moment dir p → ⊥
  nested_in None p never u = absurd (cc (never))
  nested_in (Some dir) p holds u = let never = u.visible dir (from_same dir dir refl) u.inside in absurd (cc (never, holds))

  pub forward : (dir : Option (List ℕ)) (name path : List ℕ) → has_slash name ≡ false → holds_repository moment dir ≡ false → IsUnknownFrom kept moment (joined dir name) path → IsUnknownIn kept moment dir path
  forward dir name path plain never u = record {
    inside = inside_joined dir name path u.inside;
    untracked = u.untracked;
    visible = visible_up moment dir name path plain never u.inside u.visible;
  }

  pub from_joined : (dir : Option (List ℕ)) (name d : List ℕ) → is_from (Some (joined dir name)) d ≡ true → is_from dir d ≡ true
  from_joined None name d from = refl
  from_joined (Some dir) name d from =
      elim (from_cases (joined (Some dir) name) d from) [
        | inl same ↦ from_below dir d (subst (λ (q : List ℕ). is_below dir q ≡ true) same (below_joined dir name))
        | inr below ↦ from_below dir d (below_trans dir (joined (Some dir) name) d (below_joined dir name) below)
      ]

  pub stands_at : (j path : List ℕ) → is_from (Some j) path ≡ true → is_file_or_link (moment.things path) ≡ true → is_some (moment.things j) ≡ true
  stands_at j path from file =
      elim (from_cases j path from) [
        | inl same ↦ subst (λ (q : List ℕ). is_some (moment.things q) ≡ true) (sym same) (some_of_file (moment.things path) file)
        | inr below ↦ some_of_dir (moment.things j) (formed.rooted j path below (some_of_file (moment.things path) file))
      ]

  backward_by : (dir : Option (List ℕ)) (names : List (List ℕ)) (path : List ℕ) → AreNames moment dir names → (r : Reached dir path) → IsUnknownIn kept moment dir path → IsUnknownAmong kept moment dir names path
  backward_by dir names path are r u = (
    r.name,
    are.all r.name r.component (stands_at (joined dir r.name) path r.from u.untracked.0),
    record { inside = r.from; untracked = u.untracked; visible = λ d from below. u.visible d (from_joined dir r.name d from) below },
  )

  -- what stands in a directory stands at its names or below them
  pub backward : (dir : Option (List ℕ)) (names : List (List ℕ)) (p : List ℕ) → AreNames moment dir names → IsUnknownIn kept moment dir p → IsUnknownAmong kept moment dir names p
  backward dir names p are u = backward_by dir names p are (reached dir p (formed.paths p (some_of_file (moment.things p) u.untracked.0)) u.inside) u

-- ---- the names one by one

pub among_none : (kept : Kept) (L : List ℕ → Letter → Type 0) (S : List ℕ → Type 0) (moment : Moment) (dir : Option (List ℕ)) (rows : List Row) → ListsUnknown kept L S (IsUnknownAmong kept moment dir []) rows rows
among_none kept L S moment dir rows = lists_none kept L S (IsUnknownAmong kept moment dir []) rows (λ p l meets (name, among, u) given. absurd (cc (among)))

pub among_more : (kept : Kept) (L : List ℕ → Letter → Type 0) (S : List ℕ → Type 0) (moment : Moment) (dir : Option (List ℕ)) (names : List (List ℕ)) (i : ℕ) (name : List ℕ) (a b c : List Row) → i < length names → get_or names i name ≡ name
    → ListsUnknown kept L S (IsUnknownAmong kept moment dir (take i names)) a b → ListsUnknown kept L S (IsUnknownFrom kept moment (joined dir name)) b c → ListsUnknown kept L S (IsUnknownAmong kept moment dir (take (i + 1) names)) a c
among_more kept L S moment dir names i name a b c below is first second =
    lists_moved kept L S S (λ p. IsUnknownAmong kept moment dir (take i names) p ⊎ IsUnknownFrom kept moment (joined dir name) p) (IsUnknownAmong kept moment dir (take (i + 1) names)) a c
    (λ p meets. meets)
    (λ p meets.
    elim [
      | inl (n, among, u) ↦ (n, list_any_more (bytes_eq n) names i name below ∙ or_left _ _ among, u)
      | inr u ↦
          (name, list_any_more (bytes_eq name) names i name below ∙ or_right _ _ ((bytes_eq-Decides name (get_or names i name)).1 (sym is)), u)
    ])
    (λ p meets (n, among, u).
    elim (or_cases (is_among n (take i names)) (bytes_eq n (get_or names i name)) (sym (list_any_more (bytes_eq n) names i name below) ∙ among)) [
      | inl before ↦ inl (n, before, u)
      | inr same ↦
          inr (subst (λ (q : List ℕ). IsUnknownFrom kept moment (joined dir q) p) (same_of n (get_or names i name) same ∙ is) u)
    ])
    (lists_trans kept L S (IsUnknownAmong kept moment dir (take i names)) (IsUnknownFrom kept moment (joined dir name)) a b c first second)
