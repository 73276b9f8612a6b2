-- The nodes that serve as the names of a directory, one by one: which rows what stands at them and below has, and what is asked there.
use Rattle.std.proofs.Common.{ℕ, zero, suc, ◌≡◌, ◌+◌, ◌≤◌, Bool, true, false, List, [], ◌∷◌, length, take, get_or, Option, Some, None, is_some, option_map, refl, sym, ap, ◌∙◌, subst, inl, inr, ◌⊎◌, arith}
use Rattle.std.specs.Prelude.{Err, IsTrue, false}
use Rattle.std.specs.Str.{bytes_eq}
use Rattle.std.proofs.lemmas.Bool.{and_from, and_parts, cases_Bool, or_cases, or_left, or_right}
use Rattle.std.proofs.lemmas.List.{take_all}
use Rattle.std.proofs.lemmas.List.Folds.{list_any_more}
use Rattle.std.proofs.lemmas.Slice.Eq.{bytes_eq-Decides}
use Rattle.hg_base.specs.PathRefusal.{Makes, refusal}
use Rattle.hg_base.specs.PathText.{child_of, has_slash, is_path, is_same_dir, joined}
use Rattle.hg_base.specs.declared.path.PathFault.{PathFault}
use Rattle.hg_base.specs.declared.path.PathFault.TheVariants as a_fault
use Rattle.hg_base.proofs.Children.{child_is, child_joined, child_parent}
use Rattle.hg_base.proofs.Paths.{component_plain, path_base_plain, path_not_refused}
use Rattle.hg_tree.specs.History.{AreFormed, Extends, History, IsOurs, Passes, now}
use Rattle.hg_tree.specs.Moment.{IsFormed, Moment, is_among, is_dir, kind_of}
use Rattle.hg_tree.specs.Still.{Untouched, hg_in, kind_at}
use Rattle.hg_tree.specs.declared.thing.Placed.{Placed}
use Rattle.hg_tree.proofs.Histories.{extends_trans}
use Rattle.hg_tree.proofs.Spans.{now_same, ours_first, ours_second}
use Rattle.hg_tree.proofs.Stillness.{ours_untouched, untouched_first}
use Rattle.hg_ignore.specs.State.{Piece}
use Rattle.hg_compare.specs.declared.letter.Letter.{Letter}
use Rattle.hg_flat.specs.Asked.{AsksFor, AsksNothing, IsDirBelow, IsDirFrom, IsDirIn}
use Rattle.hg_flat.specs.Kept.{Kept}
use Rattle.hg_flat.specs.Listing.{Gives, HoldsFor, IsUnknownFrom, IsUnknownIn, ListsUnknown, holds_repository, is_from, is_inside}
use Rattle.hg_flat.specs.Passed.{AreKnown, AreServed, Known, ListsFormed, WasFormed, WasNoDir, WasServed}
use Rattle.hg_flat.specs.Serving.{IsDirAt, IsDirWithin, IsNodeAt, IsSpanOf, IsUnknownAt, is_node_in}
use Rattle.hg_flat.specs.declared.span.Span.{Span}
use Rattle.hg_listing.specs.declared.row.Row.{Row}
use Rattle.hg_listing.specs.declared.row.Wanted.{Wanted}
use Rattle.hg_flat.proofs.Alike.{from_moved, in_moved}
use Rattle.hg_flat.proofs.Among.{Reached, no_dir, reached}
use Rattle.hg_flat.proofs.Asks.{among_take, asks_none, asks_then, asks_trans, asks_weaker, distinct_take, from_longer, none_longer, one_from}
use Rattle.hg_flat.proofs.Steps.{alike_now, alike_since, alike_then, first_part, formed_later, kind_stays, known_later, served_later, untouched_since}
use Rattle.hg_flat.proofs.Unknowns.{apart_up, from_joined, from_same, inside_joined, lists_moved, lists_moved_by, lists_none, lists_trans, same_of, some_of_file, stands_at, visible_up}

-- ---- a directory in which `.hg` would make no path

refused : (text : List ℕ) (f : PathFault) → refusal text ≡ Some f → is_path text ≡ false
refused text f e = by_path (is_path text) refl
  where
    by_path : (is : Bool) → is_path text ≡ is → is_path text ≡ false
    by_path false is = is
    by_path true is = absurd (cc (path_not_refused text is, e))

pub no_path_made : (text : List ℕ) (f : PathFault) → (f ≡ a_fault.OutOfMemory → ⊥) → Makes text (Err f) → is_path text ≡ false
no_path_made text a_fault.OutOfMemory other made = absurd (other refl)
no_path_made text a_fault.Empty other made = refused text a_fault.Empty made
no_path_made text (a_fault.TooLong len) other made = refused text (a_fault.TooLong len) made
no_path_made text (a_fault.Component at) other made = refused text (a_fault.Component at) made
no_path_made text a_fault.Reserved other made = refused text a_fault.Reserved made
no_path_made text (a_fault.TooDeep n) other made = refused text (a_fault.TooDeep n) made

-- nothing stands at what is no path
none_there : (moment : Moment) → IsFormed moment → (text : List ℕ) → is_path text ≡ false → is_dir (moment.things text) ≡ false
none_there moment formed text bad = no_dir (moment.things text) (λ some. let good = formed.paths text some in absurd (cc (bad, good)))

pub no_hg : (old new : History) → Extends old new → AreFormed new → (dir : List ℕ) → is_path (hg_in dir) ≡ false → WasNoDir new old.last (hg_in dir)
no_hg old new past formed dir bad =
    record { moment = new.last; begun = past.later; past = omega arith; none = none_there (now new) (formed.each new.last (omega arith)) (hg_in dir) bad }

pub no_hg_then : (old new : History) → Extends old new → AreFormed new → (dir : List ℕ) → is_path (hg_in dir) ≡ false → false ≡ holds_repository (now old) (Some dir)
no_hg_then old new past formed dir bad =
    sym (none_there (now old) (subst IsFormed (past.stay old.last (omega arith)) (formed.each old.last past.later)) (hg_in dir) bad)

-- ---- nodes

among_longer : (name : List ℕ) (nodes : List (List ℕ)) (k i : ℕ) → k ≤ i → is_among name (take k nodes) ≡ true → is_among name (take i nodes) ≡ true
among_longer name [] zero i order among = absurd (cc (among))
among_longer name [] (suc k) i order among = absurd (cc (among))
among_longer name (x ∷ xs) zero i order among = absurd (cc (among))
among_longer name (x ∷ xs) (suc k) zero order among = absurd (omega (arith, order))
among_longer name (x ∷ xs) (suc k) (suc i) order among =
    elim (or_cases (bytes_eq name x) (is_among name (take k xs)) among) [
      | inl here ↦ or_left _ _ here
      | inr later ↦ or_right _ _ (among_longer name xs k i (omega (arith, order)) later)
    ]

some_of : (o : Option (List ℕ)) → is_some o ≡ true → (x : List ℕ) × (o ≡ Some x)
some_of None is = absurd (cc (is))
some_of (Some x) is = (x, refl)

none_of : (o : Option (List ℕ)) → o ≡ None → is_some o ≡ true → ⊥
none_of None none is = absurd (cc (is))
none_of (Some x) none is = absurd (cc (none))

-- what stands right in a directory, with its name there
record Child (dir at : List ℕ) : Type 0 where
  pub name : List ℕ
  pub plain : has_slash name ≡ false
  pub is : at ≡ joined (Some dir) name

module _ (nodes : List (List ℕ)) (dir : List ℕ) where
  node_among : (at : List ℕ) → is_node_in dir nodes at ≡ true → is_among at nodes ≡ true
  node_among at there = (and_parts (is_among at nodes) (is_some (child_of (Some dir) at)) there).0

  child_some : (at : List ℕ) (l : List (List ℕ)) → is_node_in dir l at ≡ true → is_some (child_of (Some dir) at) ≡ true
  child_some at l there = (and_parts (is_among at l) (is_some (child_of (Some dir) at)) there).1

  longer : (k i : ℕ) → k ≤ i → (at : List ℕ) → is_node_in dir (take k nodes) at ≡ true → is_node_in dir (take i nodes) at ≡ true
  longer k i order at there =
      let parts = and_parts (is_among at (take k nodes)) (is_some (child_of (Some dir) at)) there in
      and_from (is_among at (take i nodes)) (is_some (child_of (Some dir) at)) (among_longer at nodes k i order parts.0) parts.1

  front : (i : ℕ) (at : List ℕ) → is_node_in dir (take i nodes) at ≡ true → is_node_in dir nodes at ≡ true
  front i at there =
      let parts = and_parts (is_among at (take i nodes)) (is_some (child_of (Some dir) at)) there in
      and_from (is_among at nodes) (is_some (child_of (Some dir) at)) (among_take at nodes i parts.0) parts.1

  -- one node more
  more_cases : (i : ℕ) (q : List ℕ) → IsNodeAt nodes i q → (at : List ℕ) → is_node_in dir (take (i + 1) nodes) at ≡ true → (is_node_in dir (take i nodes) at ≡ true) ⊎ (at ≡ q)
  more_cases i q node at there =
      let parts = and_parts (is_among at (take (i + 1) nodes)) (is_some (child_of (Some dir) at)) there in
      elim (or_cases (is_among at (take i nodes)) (bytes_eq at (get_or nodes i q)) (sym (list_any_more (bytes_eq at) nodes i q node.within) ∙ parts.0)) [
        | inl before ↦ inl (and_from (is_among at (take i nodes)) (is_some (child_of (Some dir) at)) before parts.1)
        | inr same ↦ inr (same_of at (get_or nodes i q) same ∙ node.is)
      ]

  more_before : (i : ℕ) (at : List ℕ) → is_node_in dir (take i nodes) at ≡ true → is_node_in dir (take (i + 1) nodes) at ≡ true
  more_before i at there = longer i (i + 1) (omega arith) at there

  more_here : (i : ℕ) (q : List ℕ) → IsNodeAt nodes i q → is_some (child_of (Some dir) q) ≡ true → is_node_in dir (take (i + 1) nodes) q ≡ true
  more_here i q node some =
      and_from (is_among q (take (i + 1) nodes)) (is_some (child_of (Some dir) q))
      (list_any_more (bytes_eq q) nodes i q node.within ∙ or_right (is_among q (take i nodes)) (bytes_eq q (get_or nodes i q)) (subst (λ (x : List ℕ). bytes_eq q x ≡ true) (sym node.is) (equal q)))
      some
    where
      equal : (x : List ℕ) → bytes_eq x x ≡ true
      equal x = (bytes_eq-Decides x x).1 refl

  -- a node that stands elsewhere
  more_other : (i : ℕ) (q : List ℕ) → IsNodeAt nodes i q → child_of (Some dir) q ≡ None → (at : List ℕ) → is_node_in dir (take (i + 1) nodes) at ≡ true → is_node_in dir (take i nodes) at ≡ true
  more_other i q node none at there =
      elim (more_cases i q node at there) [
        | inl before ↦ before
        | inr same ↦ absurd (none_of (child_of (Some dir) at) (ap (child_of (Some dir)) same ∙ none) (child_some at (take (i + 1) nodes) there))
      ]

  module _ (span : Span) (of : IsSpanOf nodes dir span) where
    child_by : (at : List ℕ) → is_node_in dir nodes at ≡ true → Child dir at
    child_by at there =
        let name = some_of (child_of (Some dir) at) (child_some at nodes there) in record {
          name = name.0;
          plain =
              subst (λ (n : List ℕ). has_slash n ≡ false) (child_parent (Some dir) at name.0 name.1).1
              (path_base_plain at (of.paths at (node_among at there)));
          is = child_is (Some dir) at name.0 name.1;
        }

    -- all nodes that stand right in the directory are among those up to the end of the range
    pub whole_from : (i : ℕ) → span.upto ≤ i → (at : List ℕ) → is_node_in dir nodes at ≡ true → is_node_in dir (take i nodes) at ≡ true
    whole_from i order at there = longer span.upto i order at (of.all at there)

    -- and among all
    pub whole_end : (i : ℕ) → length nodes ≤ i → (at : List ℕ) → is_node_in dir nodes at ≡ true → is_node_in dir (take i nodes) at ≡ true
    whole_end i order at there = subst (λ (l : List (List ℕ)). is_node_in dir l at ≡ true) (sym (take_all i nodes order)) there

-- ---- rows

-- before the range nothing is
pub at_none : (kept : Kept) (L : List ℕ → Letter → Type 0) (S : List ℕ → Type 0) (moment : Moment) (dir : List ℕ) (nodes : List (List ℕ)) (rows : List Row) → ((at : List ℕ) → is_node_in dir nodes at ≡ false)
    → ListsUnknown kept L S (IsUnknownAt kept moment dir nodes) rows rows
at_none kept L S moment dir nodes rows never =
    lists_none kept L S (IsUnknownAt kept moment dir nodes) rows (λ p l meets (at, there, u) given. let none = never at in absurd (cc (none, there)))

-- the same nodes
pub at_same : (kept : Kept) (L : List ℕ → Letter → Type 0) (S : List ℕ → Type 0) (moment : Moment) (dir : List ℕ) (some others : List (List ℕ)) (a b : List Row) → ((at : List ℕ) → is_node_in dir some at ≡ true → is_node_in dir others at ≡ true)
    → ((at : List ℕ) → is_node_in dir others at ≡ true → is_node_in dir some at ≡ true) → ListsUnknown kept L S (IsUnknownAt kept moment dir some) a b → ListsUnknown kept L S (IsUnknownAt kept moment dir others) a b
at_same kept L S moment dir some others a b there back lists =
    lists_moved kept L S S (IsUnknownAt kept moment dir some) (IsUnknownAt kept moment dir others) a b (λ p meets. meets)
    (λ p meets (at, is, u). (at, there at is, u)) (λ p meets (at, is, u). (at, back at is, u)) lists

-- one node more
at_more : (kept : Kept) (L : List ℕ → Letter → Type 0) (S : List ℕ → Type 0) (moment : Moment) (dir : List ℕ) (nodes : List (List ℕ)) (i : ℕ) (q : List ℕ) → IsNodeAt nodes i q → is_some (child_of (Some dir) q) ≡ true → (a b c : List Row)
    → ListsUnknown kept L S (IsUnknownAt kept moment dir (take i nodes)) a b → ListsUnknown kept L S (IsUnknownFrom kept moment q) b c → ListsUnknown kept L S (IsUnknownAt kept moment dir (take (i + 1) nodes)) a c
at_more kept L S moment dir nodes i q node some a b c first second =
    lists_moved kept L S S (λ p. IsUnknownAt kept moment dir (take i nodes) p ⊎ IsUnknownFrom kept moment q p) (IsUnknownAt kept moment dir (take (i + 1) nodes)) a c
    (λ p meets. meets)
    (λ p meets. elim [ inl (at, there, u) ↦ (at, more_before nodes dir i at there, u) | inr u ↦ (q, more_here nodes dir i q node some, u) ])
    (λ p meets (at, there, u).
    elim (more_cases nodes dir i q node at there) [
      | inl before ↦ inl (at, before, u)
      | inr same ↦ inr (subst (λ (x : List ℕ). IsUnknownFrom kept moment x p) same u)
    ])
    (lists_trans kept L S (IsUnknownAt kept moment dir (take i nodes)) (IsUnknownFrom kept moment q) a b c first second)

pub nodes_more : (kept : Kept) (known : Known) (wanted : Wanted) (state : List Piece) (old mid new : History) → Extends old mid → Extends mid new → (dir : List ℕ) (nodes : List (List ℕ)) (i : ℕ) (q : List ℕ) → IsNodeAt nodes i q
    → is_some (child_of (Some dir) q) ≡ true → (a b c : List Row) → ListsFormed kept known (Gives wanted state) old mid (IsUnknownAt kept (now old) dir (take i nodes)) a b
    → ListsFormed kept known (Gives wanted state) mid new (IsUnknownFrom kept (now mid) q) b c → ListsFormed kept known (Gives wanted state) old new (IsUnknownAt kept (now old) dir (take (i + 1) nodes)) a c
nodes_more kept known wanted state old mid new first second dir nodes i q node some a b c before one start are serve formed =
    at_more kept (Gives wanted state) (Untouched new start) (now old) dir nodes i q node some a b c
    (lists_moved kept (Gives wanted state) (Untouched mid start) (Untouched new start) (IsUnknownAt kept (now old) dir (take i nodes)) (IsUnknownAt kept (now old) dir (take i nodes)) a b
    (λ p meets. untouched_first mid new start p second (omega (arith, are.begun, first.later)) meets) (λ p meets u. u) (λ p meets u. u) (before start are serve formed))
    (lists_moved kept (Gives wanted state) (Untouched new start) (Untouched new start) (IsUnknownFrom kept (now mid) q) (IsUnknownFrom kept (now old) q) b c
    (λ p meets. meets)
    (λ p meets u. from_moved kept (now mid) (now old) p (alike_now old mid new first second p (own p meets)) q u)
    (λ p meets u. from_moved kept (now old) (now mid) p (alike_then old mid new first second p (own p meets)) q u)
    (one start (known_later known old mid start first are) (served_later known (Gives wanted state) old mid start first serve) (λ told. formed_later old mid start first (formed (sym first.told ∙ told)))))
  where
    own : (p : List ℕ) → Untouched new start p → Untouched new old.last p
    own p is = untouched_since old new start are.begun (extends_trans old mid new first second) p is

-- a node that stands elsewhere
pub nodes_other : (kept : Kept) (known : Known) (wanted : Wanted) (state : List Piece) (old new : History) (dir : List ℕ) (nodes : List (List ℕ)) (i : ℕ) (q : List ℕ) → IsNodeAt nodes i q → child_of (Some dir) q ≡ None → (a b : List Row)
    → ListsFormed kept known (Gives wanted state) old new (IsUnknownAt kept (now old) dir (take i nodes)) a b → ListsFormed kept known (Gives wanted state) old new (IsUnknownAt kept (now old) dir (take (i + 1) nodes)) a b
nodes_other kept known wanted state old new dir nodes i q node none a b lists start are serve formed =
    at_same kept (Gives wanted state) (Untouched new start) (now old) dir (take i nodes) (take (i + 1) nodes) a b (more_before nodes dir i) (more_other nodes dir i q node none) (lists start are serve formed)

-- all nodes, from a front in which each is that stands right in the directory
pub nodes_whole : (kept : Kept) (known : Known) (wanted : Wanted) (state : List Piece) (old new : History) (dir : List ℕ) (nodes : List (List ℕ)) (i : ℕ) (a b : List Row)
    → ((at : List ℕ) → is_node_in dir nodes at ≡ true → is_node_in dir (take i nodes) at ≡ true)
    → ListsFormed kept known (Gives wanted state) old new (IsUnknownAt kept (now old) dir (take i nodes)) a b → ListsFormed kept known (Gives wanted state) old new (IsUnknownAt kept (now old) dir nodes) a b
nodes_whole kept known wanted state old new dir nodes i a b all lists start are serve formed =
    at_same kept (Gives wanted state) (Untouched new start) (now old) dir (take i nodes) nodes a b (front nodes dir i) all (lists start are serve formed)

-- ---- a directory whose nodes serve as its names

kind_some : (o : Option Placed) → is_some (option_map (λ placed. kind_of placed.thing) o) ≡ is_some o
kind_some None = refl
kind_some (Some placed) = refl

stands_by : (m n : Moment) (path : List ℕ) → kind_at m path ≡ kind_at n path → is_some (m.things path) ≡ true → is_some (n.things path) ≡ true
stands_by m n path same is = sym (kind_some (n.things path)) ∙ ap is_some (sym same) ∙ kind_some (m.things path) ∙ is

-- what stood at a moment where an untouched path is from stood there at any
stands_then : (h : History) (start : ℕ) (at p : List ℕ) → is_from (Some at) p ≡ true → Untouched h start p → (k j : ℕ) → start ≤ k → k ≤ h.last → start ≤ j → j ≤ h.last
    → is_some ((h.at k).things at) ≡ true → is_some ((h.at j).things at) ≡ true
stands_then h start at p from is k j begun_k past_k begun_j past_j there =
    stands_by (h.at k) (h.at j) at (kind_stays h start at p from is k begun_k past_k ∙ sym (kind_stays h start at p from is j begun_j past_j)) there

-- a repository of its own has no rows
pub served_nested : (kept : Kept) (known : Known) (wanted : Wanted) (state : List Piece) (old new : History) → Extends old new → (dir : List ℕ) (holds : Bool) → HoldsFor (Untouched new old.last) (now old) (Some dir) holds → holds ≡ true → (rows : List Row)
    → ListsFormed kept known (Gives wanted state) old new (IsUnknownIn kept (now old) (Some dir)) rows rows
served_nested kept known wanted state old new past dir holds found is rows start are serve formed =
    lists_none kept (Gives wanted state) (Untouched new start) (IsUnknownIn kept (now old) (Some dir)) rows
    (λ p l meets u given.
    let held = found p (untouched_since old new start are.begun past p meets) u.inside in
    let never = u.visible dir (from_same dir dir refl) u.inside in absurd (cc (never, held, is)))

module _ (kept : Kept) (known : Known) (wanted : Wanted) (state : List Piece) (old mid new : History) (first : Extends old mid) (second : Extends mid new) (dir : List ℕ) (span : Span) (of : IsSpanOf known.nodes dir span)
    (served : known.served dir ≡ true) (holds : Bool) (found : HoldsFor (Untouched mid old.last) (now old) (Some dir) holds) (apart : holds ≡ false) where
  past : Extends old new
  past = extends_trans old mid new first second

  module _ (start : ℕ) (are : AreKnown known old start) (serve : AreServed known (Gives wanted state) old start) (formed : IsTrue old.told → WasFormed old start) where
    own : (p : List ℕ) → Untouched new start p → Untouched new old.last p
    own p is = untouched_since old new start are.begun past p is

    told : (p : List ℕ) → Untouched new start p → IsTrue old.told
    told p is = sym past.told ∙ is.told

    -- what stands at a node that serves stands in the directory
    in_dir : (p : List ℕ) → Untouched new start p → (at : List ℕ) → Child dir at → IsUnknownFrom kept (now old) at p → IsUnknownIn kept (now old) (Some dir) p
    in_dir p is at child u =
        let from : is_from (Some (joined (Some dir) child.name)) p ≡ true = subst (λ (q : List ℕ). is_from (Some q) p ≡ true) child.is u.inside in
        let inside : is_inside (Some dir) p ≡ true = inside_joined (Some dir) child.name p from in
        record {
          inside = inside;
          untracked = u.untracked;
          visible =
              visible_up (now old) (Some dir) child.name p child.plain (sym (found p (first_part old mid new first second p (own p is)) inside) ∙ apart) from
              (subst (λ (q : List ℕ). IsUnknownFrom kept (now old) q p) child.is u).visible;
        }

    -- what stands in the directory and has a letter does so at a node that serves
    at_node : (p : List ℕ) (l : Letter) (is : Untouched new start p) → Gives wanted state p l → (u : IsUnknownIn kept (now old) (Some dir) p) → IsUnknownAt kept (now old) dir known.nodes p
    at_node p l is gives u = by (formed (told p is))
      where
        within : Untouched old start p
        within = untouched_first old new start p past are.begun is

        by_name : (f : WasFormed old start) (r : Reached (Some dir) p) → is_some ((old.at f.moment).things (joined (Some dir) r.name)) ≡ true → IsUnknownAt kept (now old) dir known.nodes p
        by_name f r stands =
            let was : WasServed known (Gives wanted state) old start dir = serve (told p is) dir served in
            elim (was.names r.name r.component (stands_then old start (joined (Some dir) r.name) p r.from within f.moment was.moment f.begun f.past was.begun was.past stands)) [
              | inl node ↦ (
                joined (Some dir) r.name,
                and_from (is_among (joined (Some dir) r.name) known.nodes) (is_some (child_of (Some dir) (joined (Some dir) r.name))) node
                    (ap is_some (child_joined (Some dir) r.name (component_plain r.name r.component))),
                record {
                  inside = r.from;
                  untracked = u.untracked;
                  visible = λ d from below. u.visible d (from_joined kept (old.at f.moment) f.formed (Some dir) r.name d from) below;
                },
              )
              | inr none ↦ absurd (none p l r.from gives)
            ]

        by : WasFormed old start → IsUnknownAt kept (now old) dir known.nodes p
        by f =
            let then : IsUnknownIn kept (old.at f.moment) (Some dir) p = in_moved kept (now old) (old.at f.moment) p (alike_since old start f are.begun p within) (Some dir) u in
            let r : Reached (Some dir) p = reached (Some dir) p (f.formed.paths p (some_of_file ((old.at f.moment).things p) then.untracked.0)) then.inside in
            by_name f r (stands_at kept (old.at f.moment) f.formed (joined (Some dir) r.name) p r.from then.untracked.0)

  pub served_rest : (a b : List Row) → ListsFormed kept known (Gives wanted state) mid new (IsUnknownAt kept (now mid) dir known.nodes) a b → ListsFormed kept known (Gives wanted state) old new (IsUnknownIn kept (now old) (Some dir)) a b
  served_rest a b lists start are serve formed =
      lists_moved_by kept (Gives wanted state) (Untouched new start) (Untouched new start) (IsUnknownAt kept (now mid) dir known.nodes) (IsUnknownIn kept (now old) (Some dir)) a b
      (λ p is. is)
      (λ p is (at, there, u).
      in_dir start are serve formed p is at (child_by known.nodes dir span of at there)
      (from_moved kept (now mid) (now old) p (alike_now old mid new first second p (own start are serve formed p is)) at u))
      (λ p l is u gives.
      moved p (own start are serve formed p is) (at_node start are serve formed p l is gives u))
      (lists start (known_later known old mid start first are) (served_later known (Gives wanted state) old mid start first serve) (λ told. formed_later old mid start first (formed (sym first.told ∙ told))))
    where
      moved : (p : List ℕ) → Untouched new old.last p → IsUnknownAt kept (now old) dir known.nodes p → IsUnknownAt kept (now mid) dir known.nodes p
      moved p is (at, there, u) = (at, there, from_moved kept (now old) (now mid) p (alike_then old mid new first second p is) at u)

-- ---- what is asked

pub nodes_none : (E : List ℕ → Type 0) (since h : History) (dir : List ℕ) (nodes : List (List ℕ)) → AsksFor (IsDirAt E since h dir nodes) h h
nodes_none E since h dir nodes = asks_none (IsDirAt E since h dir nodes) h h refl

-- among all nodes
pub nodes_asks : (E : List ℕ → Type 0) (since old new : History) (dir : List ℕ) (nodes : List (List ℕ)) (i : ℕ) → AsksFor (IsDirAt E since new dir (take i nodes)) old new → AsksFor (IsDirAt E since new dir nodes) old new
nodes_asks E since old new dir nodes i asks =
    asks_weaker (IsDirAt E since new dir (take i nodes)) (IsDirAt E since new dir nodes) old new (λ asked (at, there, f). (at, front nodes dir i at there, f)) asks

-- one node more at which nothing is asked
pub nodes_next_asks : (E : List ℕ → Type 0) (since old new : History) (dir : List ℕ) (nodes : List (List ℕ)) (i : ℕ) → AsksFor (IsDirAt E since new dir (take i nodes)) old new → AsksFor (IsDirAt E since new dir (take (i + 1) nodes)) old new
nodes_next_asks E since old new dir nodes i asks =
    asks_weaker (IsDirAt E since new dir (take i nodes)) (IsDirAt E since new dir (take (i + 1) nodes)) old new (λ asked (at, there, f). (at, more_before nodes dir i at there, f)) asks

module _ (E : List ℕ → Type 0) (since old mid new : History) (second : Extends mid new) (dir : List ℕ) (nodes : List (List ℕ)) (span : Span) (of : IsSpanOf nodes dir span) (i : ℕ) (q : List ℕ) (node : IsNodeAt nodes i q)
    (some : is_some (child_of (Some dir) q) ≡ true) where
  clash : (at p : List ℕ) → is_node_in dir (take i nodes) at ≡ true → is_from (Some at) p ≡ true → is_from (Some q) p ≡ true → ⊥
  clash at p there from_at from_q =
      let a : Child dir at = child_by nodes dir span of at (front nodes dir i at there) in
      let b : Child dir q = child_by nodes dir span of q (front nodes dir (i + 1) q (more_here nodes dir i q node some)) in
      let joins : joined (Some dir) a.name ≡ joined (Some dir) b.name =
      one_from (Some dir) a.name b.name p a.plain b.plain (subst (λ (x : List ℕ). is_from (Some x) p ≡ true) a.is from_at) (subst (λ (x : List ℕ). is_from (Some x) p ≡ true) b.is from_q) in
      let one : at ≡ get_or nodes i q = a.is ∙ joins ∙ sym b.is ∙ sym node.is in
      distinct_take nodes i q of.own node.within
      (subst (λ (x : List ℕ). is_among x (take i nodes) ≡ true) one (node_among (take i nodes) dir at there))

  apart_nodes : (x y : Option (List ℕ)) → IsDirAt E since mid dir (take i nodes) x → IsDirFrom E since new q y → is_same_dir x y ≡ false
  apart_nodes x y (at, there, f) g =
      rw (f.is, g.is) (elim (cases_Bool (bytes_eq f.path g.path)) [
        | inl same ↦
            absurd (clash at g.path there (subst (λ (p : List ℕ). is_from (Some at) p ≡ true) (same_of f.path g.path same) f.inside) g.inside)
        | inr other ↦ other
      ])

  pub nodes_more_asks : AsksFor (IsDirAt E since mid dir (take i nodes)) old mid → AsksFor (IsDirFrom E since new q) mid new → AsksFor (IsDirAt E since new dir (take (i + 1) nodes)) old new
  nodes_more_asks before one =
      asks_weaker (λ asked. IsDirAt E since mid dir (take i nodes) asked ⊎ IsDirFrom E since new q asked) (IsDirAt E since new dir (take (i + 1) nodes)) old new
      (λ asked.
      elim [
        | inl (at, there, f) ↦ (at, more_before nodes dir i at there, from_longer E since mid new second at asked f)
        | inr f ↦ (q, more_here nodes dir i q node some, f)
      ])
      (asks_trans (IsDirAt E since mid dir (take i nodes)) (IsDirFrom E since new q) old mid new apart_nodes before one)

-- a directory that is listed, whose nodes don't serve
pub listed_asks : (known : Known) (E : List ℕ → Type 0) (since old new : History) (dir : List ℕ) → known.served dir ≡ false → AsksFor (IsDirIn E since new (Some dir)) old new → AsksFor (IsDirWithin known E since new dir) old new
listed_asks known E since old new dir none asks =
    asks_weaker (IsDirIn E since new (Some dir)) (IsDirWithin known E since new dir) old new (λ asked. elim [ inl is ↦ inl (is, none) | inr d ↦ inr d ]) asks

-- one whose nodes do
pub served_asks : (known : Known) (E : List ℕ → Type 0) (since old mid new : History) → Passes since old → Passes old mid → Extends mid new → (dir : List ℕ) (span : Span) → IsSpanOf known.nodes dir span → (holds : Bool)
    → HoldsFor (Untouched mid old.last) (now old) (Some dir) holds → holds ≡ false → WasNoDir mid old.last (hg_in dir) → AsksNothing old mid → AsksFor (IsDirAt E since new dir known.nodes) mid new
    → AsksFor (IsDirWithin known E since new dir) old new
served_asks known E since old mid new before first second dir span of holds found never apart none asks =
    asks_then (IsDirWithin known E since new dir) old mid new none
    (asks_weaker (IsDirAt E since new dir known.nodes) (IsDirWithin known E since new dir) mid new
    (λ asked (at, there, f). inr (in_dir asked at (child_by known.nodes dir span of at there) f)) asks)
  where
    no_repository : (path : List ℕ) → is_inside (Some dir) path ≡ true → IsOurs since new → holds_repository (now since) (Some dir) ≡ false
    no_repository path inside ours =
        let start : IsOurs since mid = ours_first since mid new second ours in
        let within : IsOurs old mid = ours_second since old mid before.past start in
        ap (λ (m : Moment). holds_repository m (Some dir)) (sym (now_same since old before (ours_first since old mid first.past start)))
        ∙ sym (found path (ours_untouched old mid first within path) inside) ∙ never

    own_none : (d : List ℕ) → Some dir ≡ Some d → WasNoDir new since.last (hg_in d)
    own_none d is =
        let same : dir ≡ d = cc is in
        let was = none_longer mid new second old.last (hg_in d) (subst (λ (x : List ℕ). WasNoDir mid old.last (hg_in x)) same apart) in
        record { moment = was.moment; begun = omega (arith, before.past.later, was.begun); past = was.past; none = was.none }

    in_dir : (asked : Option (List ℕ)) (at : List ℕ) → Child dir at → IsDirFrom E since new at asked → IsDirBelow E since new (Some dir) asked
    in_dir asked at child found_there =
        let f : IsDirFrom E since new (joined (Some dir) child.name) asked = subst (λ (x : List ℕ). IsDirFrom E since new x asked) child.is found_there in
        let inside : is_inside (Some dir) f.path ≡ true = inside_joined (Some dir) child.name f.path f.inside in record {
          path = f.path;
          is = f.is;
          entered = f.entered;
          inside = inside;
          was = f.was;
          apart = apart_up (λ d. WasNoDir new since.last (hg_in d)) (Some dir) child.name f.path child.plain own_none f.inside f.apart;
          stands = f.stands;
          visible = λ ours. visible_up (now since) (Some dir) child.name f.path child.plain (no_repository f.path inside ours) f.inside (f.visible ours);
        }

-- a repository of its own, in which nothing is asked
pub nested_asks : (known : Known) (E : List ℕ → Type 0) (since old new : History) (dir : List ℕ) → AsksNothing old new → AsksFor (IsDirWithin known E since new dir) old new
nested_asks known E since old new dir none = asks_none (IsDirWithin known E since new dir) old new none
