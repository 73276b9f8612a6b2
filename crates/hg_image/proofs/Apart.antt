-- No two rows of a data file without fault have one path.
use Rattle.std.proofs.Common.{◌≡◌, ℕ, zero, suc, ◌+◌, ◌-◌, true, false, List, [], ◌∷◌, ◌++◌, length, map, Option, Some, None, ◌⊎◌, inl, inr, refl, sym, ap, ◌∙◌, subst, arith, true≢false, Ordering, Less, Equal, Greater, nat_cmp}
use Rattle.std.specs.Ordering.{is_lt, ordering_reverse}
use Rattle.std.specs.Cmp.Lexicographic.{slice_cmp, nat_list_cmp_total}
use Rattle.std.specs.List.{AllByRecursion, IsDistinct}
use Rattle.std.specs.Str.{bytes_eq}
use Rattle.std.proofs.lemmas.Bool.{false_from_ne_true}
use Rattle.std.proofs.lemmas.List.{length-append}
use Rattle.std.proofs.lemmas.Slice.Eq.{bytes_eq-Decides}
use Rattle.std.proofs.lemmas.Map.Keys.{IsDistinct-cons, IsDistinct-head, IsDistinct-tail}
use Rattle.hg_base.specs.PathText.{has_slash, joined, is_below}
use Rattle.hg_base.proofs.Below.{below_joined, below_trans, below_compared, below_of_joined, below_name, below_length, below_itself}
use Rattle.hg_base.proofs.Components.{joined_same, joined_parent}
use Rattle.hg_base.proofs.Paths.{path_base_plain}
use Rattle.hg_node.specs.declared.record.Rec.{Rec}
use Rattle.hg_image.specs.declared.fault.NodeFault.{NodeFault}
use Rattle.hg_image.specs.Node.{record_at, path_of, name_of, is_after, node_fault}
use Rattle.hg_image.specs.Walk.{nodes_fault, list_fault}
use Rattle.hg_image.specs.Rows.{Row, row_of, nodes_rows, list_rows}
use Rattle.hg_image.proofs.Walk.{below, nodes_end}
use Rattle.hg_image.proofs.Sound.{Sound, node_sound, both_none, list_sound}

-- the order of names
pub less_is : (o : Ordering) → is_lt o ≡ true → o ≡ Less
less_is Less h = refl
less_is Equal h = absurd (true≢false (sym h))
less_is Greater h = absurd (true≢false (sym h))

own_reverse : (o : Ordering) → o ≡ ordering_reverse o → is_lt o ≡ true → ⊥
own_reverse Less e h = absurd (true≢false (ap is_lt e))
own_reverse Equal e h = absurd (true≢false (sym h))
own_reverse Greater e h = absurd (true≢false (sym h))

pub not_after_itself : (name : List ℕ) → is_lt (slice_cmp nat_cmp name name) ≡ true → ⊥
not_after_itself name h = own_reverse (slice_cmp nat_cmp name name) (nat_list_cmp_total.antisymm name name) h

after_trans : (before : Option (List ℕ)) (a b : List ℕ) → is_after before a ≡ true → is_after (Some a) b ≡ true → is_after before b ≡ true
after_trans None a b p q = refl
after_trans (Some before) a b p q =
    ap is_lt (nat_list_cmp_total.trans before a b (less_is (slice_cmp nat_cmp before a) p) (less_is (slice_cmp nat_cmp a b) q))

-- a path stands at a name in a directory, or below it
pub record In (dir : Option (List ℕ)) (name path : List ℕ) : Type 0 where
  pub plain : has_slash name ≡ false
  pub place : (path ≡ joined dir name) ⊎ (is_below (joined dir name) path ≡ true)

-- no name in a directory stands below another one
not_below : (dir : Option (List ℕ)) (m n : List ℕ) → has_slash m ≡ false → is_below (joined dir n) (joined dir m) ≡ true → ⊥
not_below None m n plain h = true≢false (sym h ∙ below_name n m plain)
not_below (Some dir) m n plain h =
    elim (below_of_joined (dir ++ 47 ∷ n) dir m plain h) [
      | inl e ↦ omega (arith, ap length e, length-append dir (47 ∷ n))
      | inr e ↦ omega (arith, below_length (dir ++ 47 ∷ n) dir e, length-append dir (47 ∷ n))
    ]

-- so a path stands at one name alone
pub one_name : (dir : Option (List ℕ)) (m n path : List ℕ) → In dir m path → In dir n path → m ≡ n
one_name dir m n path p q =
    elim p.place [
      | inl a ↦ elim q.place [
        | inl b ↦ (joined_same dir m dir n p.plain q.plain (sym a ∙ b)).1
        | inr b ↦ absurd (not_below dir m n p.plain (ap (is_below (joined dir n)) (sym a) ∙ b))
      ]
      | inr a ↦ elim q.place [
        | inl b ↦ absurd (not_below dir n m q.plain (ap (is_below (joined dir m)) (sym b) ∙ a))
        | inr b ↦ elim (below_compared (joined dir m) (joined dir n) path a b) [
          | inl e ↦ (joined_same dir m dir n p.plain q.plain e).1
          | inr (inl e) ↦ absurd (not_below dir n m q.plain e)
          | inr (inr e) ↦ absurd (not_below dir m n p.plain e)
        ]
      ]
    ]

-- a path stands at a name behind one, or below it
pub record Later (dir before : Option (List ℕ)) (path : List ℕ) : Type 0 where
  pub name : List ℕ
  pub after : is_after before name ≡ true
  pub stands : In dir name path

later_than : (dir before : Option (List ℕ)) (a path : List ℕ) → is_after before a ≡ true → Later dir (Some a) path → Later dir before path
later_than dir before a path first later = record { name = later.name; after = after_trans before a later.name first later.after; stands = later.stands }

-- what stands in a directory is below it
later_below : (dir path : List ℕ) → Later (Some dir) None path → is_below dir path ≡ true
later_below dir path later =
    elim later.stands.place [
      | inl e ↦ ap (is_below dir) e ∙ below_joined dir later.name
      | inr e ↦ below_trans dir (dir ++ 47 ∷ later.name) path (below_joined dir later.name) e
    ]

-- where different names are, different paths are
apart_names : (dir : Option (List ℕ)) (m a b : List ℕ) → In dir m a → Later dir (Some m) b → bytes_eq a b ≡ false
apart_names dir m a b stands later =
    false_from_ne_true (bytes_eq a b) (λ t.
    let same : a ≡ b = (bytes_eq-Decides a b).0 t in
    let other : In dir m b = subst (In dir m) same stands in
    let one : m ≡ later.name = one_name dir m later.name b other later.stands in
    not_after_itself m (ap (λ (n : List ℕ). is_lt (slice_cmp nat_cmp m n)) one ∙ later.after))

-- facts of each row
each_append : (P : Row → Type 0) (a b : List Row) → AllByRecursion P a → AllByRecursion P b → AllByRecursion P (a ++ b)
each_append P [] b p q = q
each_append P (r ∷ a) b p q = (p.0, each_append P a b p.1 q)

pub each_then : (P Q : Row → Type 0) → ((r : Row) → P r → Q r) → (a : List Row) → AllByRecursion P a → AllByRecursion Q a
each_then P Q f [] p = tt
each_then P Q f (r ∷ a) p = (f r p.0, each_then P Q f a p.1)

-- each row of some nodes stands behind the name before them, and below what is above them
abbrev pub Kids : (List ℕ → ℕ → ℕ → Option NodeFault) → (ℕ → ℕ → List Row) → Type 0
Kids faults rows = (path : List ℕ) (start count : ℕ) → faults path start count ≡ None → AllByRecursion (λ r. is_below path r.path ≡ true) (rows start count)

-- a node that passes stands at its name
pub stands_at_name : (bytes : List ℕ) (dir before : Option (List ℕ)) (rec : Rec) → Sound bytes dir before rec → In dir (name_of bytes rec) (path_of bytes rec)
stands_at_name bytes dir before rec node = record {
  plain = path_base_plain (path_of bytes rec) node.path;
  place = inl (sym (joined_parent (path_of bytes rec)) ∙ ap (λ (d : Option (List ℕ)). joined d (name_of bytes rec)) node.parent);
}

stands_below : (dir : Option (List ℕ)) (name path other : List ℕ) → In dir name path → path ≡ joined dir name → is_below path other ≡ true → In dir name other
stands_below dir name path other stands e h = record { plain = stands.plain; place = inr (ap (λ (p : List ℕ). is_below p other) (sym e) ∙ h) }

-- no two rows have one path
abbrev pub Dist : List Row → Type 0
Dist rows = IsDistinct bytes_eq (map (λ r. r.path) rows)

-- the path is none of theirs
Apart : List ℕ → List Row → Type 0
Apart path rows = AllByRecursion (λ r. bytes_eq path r.path ≡ false) rows

apart_paths : (path : List ℕ) (rows : List Row) → Apart path rows → AllByRecursion (λ other. bytes_eq path other ≡ false) (map (λ r. r.path) rows)
unfolding Apart
apart_paths path [] h = tt
apart_paths path (r ∷ rows) h = (h.0, apart_paths path rows h.1)

paths_apart : (path : List ℕ) (rows : List Row) → AllByRecursion (λ other. bytes_eq path other ≡ false) (map (λ r. r.path) rows) → Apart path rows
unfolding Apart
paths_apart path [] h = tt
paths_apart path (r ∷ rows) h = (h.0, paths_apart path rows h.1)

dist_none : Dist []
unfolding IsDistinct
dist_none = tt

dist_cons : (r : Row) (rows : List Row) → Apart r.path rows → Dist rows → Dist (r ∷ rows)
dist_cons r rows apart dist = IsDistinct-cons bytes_eq r.path (map (λ s. s.path) rows) (apart_paths r.path rows apart) dist

dist_append : (a b : List Row) → Dist a → Dist b → AllByRecursion (λ r. Apart r.path b) a → Dist (a ++ b)
unfolding Apart
dist_append [] b p q cross = q
dist_append (r ∷ a) b p q cross =
    dist_cons r (a ++ b)
    (each_append (λ s. bytes_eq r.path s.path ≡ false) a b
    (paths_apart r.path a (IsDistinct-head bytes_eq r.path (map (λ s. s.path) a) p)) cross.0)
    (dist_append a b (IsDistinct-tail bytes_eq r.path (map (λ s. s.path) a) p) q cross.1)

apart_append : (path : List ℕ) (a b : List Row) → Apart path a → Apart path b → Apart path (a ++ b)
unfolding Apart
apart_append path a b p q = each_append (λ r. bytes_eq path r.path ≡ false) a b p q

apart_below : (path : List ℕ) (rows : List Row) → AllByRecursion (λ r. is_below path r.path ≡ true) rows → Apart path rows
unfolding Apart
apart_below path rows h =
    each_then (λ r. is_below path r.path ≡ true) (λ r. bytes_eq path r.path ≡ false)
    (λ r below. false_from_ne_true (bytes_eq path r.path) (λ t.
    true≢false (sym below ∙ ap (is_below path) (sym ((bytes_eq-Decides path r.path).0 t)) ∙ below_itself path)))
    rows h

apart_later : (dir : Option (List ℕ)) (m path : List ℕ) (rows : List Row) → In dir m path → AllByRecursion (λ r. Later dir (Some m) r.path) rows → Apart path rows
unfolding Apart
apart_later dir m path rows stands h =
    each_then (λ r. Later dir (Some m) r.path) (λ r. bytes_eq path r.path ≡ false) (λ r later. apart_names dir m path r.path stands later) rows h

module _ (faults : List ℕ → ℕ → ℕ → Option NodeFault) (rows : ℕ → ℕ → List Row) (kids : Kids faults rows) (bytes : List ℕ) (dir : Option (List ℕ)) where
  -- what stands at a node that passes, or below it, stands at its name or below that
  pub under_name : (before : Option (List ℕ)) (rec : Rec) → Sound bytes dir before rec → faults (path_of bytes rec) rec.kids_start rec.kids_count ≡ None
      → AllByRecursion (λ r. In dir (name_of bytes rec) r.path) (rows rec.kids_start rec.kids_count)
  under_name before rec node none =
      let whole : path_of bytes rec ≡ joined dir (name_of bytes rec) =
      sym (joined_parent (path_of bytes rec)) ∙ ap (λ (d : Option (List ℕ)). joined d (name_of bytes rec)) node.parent in
      each_then (λ r. is_below (path_of bytes rec) r.path ≡ true) (λ r. In dir (name_of bytes rec) r.path)
      (λ r h. stands_below dir (name_of bytes rec) (path_of bytes rec) r.path (stands_at_name bytes dir before rec node) whole h)
      (rows rec.kids_start rec.kids_count) (kids (path_of bytes rec) rec.kids_start rec.kids_count none)

  pub nodes_later : (before : Option (List ℕ)) (at n : ℕ) → nodes_fault faults bytes dir before at n ≡ None → AllByRecursion (λ r. Later dir before r.path) (nodes_rows rows bytes at n)
  unfolding nodes_fault nodes_rows
  nodes_later before at zero h = tt
  nodes_later before at (suc n) h =
      let rec = record_at bytes at in
      let name = name_of bytes rec in
      let first = both_none (node_fault bytes dir before rec) _ h in
      let second = both_none (faults (path_of bytes rec) rec.kids_start rec.kids_count) _ first.1 in
      let node = node_sound bytes dir before rec first.0 in (
        record { name = name; after = node.order; stands = stands_at_name bytes dir before rec node },
        each_append (λ r. Later dir before r.path) (rows rec.kids_start rec.kids_count) (nodes_rows rows bytes (at + 44) n)
            (each_then (λ r. In dir name r.path) (λ r. Later dir before r.path) (λ r stands. record { name = name; after = node.order; stands = stands })
            (rows rec.kids_start rec.kids_count) (under_name before rec node second.0))
            (each_then (λ r. Later dir (Some name) r.path) (λ r. Later dir before r.path) (λ r later. later_than dir before name r.path node.order later)
            (nodes_rows rows bytes (at + 44) n) (nodes_later (Some name) (at + 44) n second.1)),
      )

  module _ (dists : (path : List ℕ) (start count : ℕ) → faults path start count ≡ None → Dist (rows start count)) where
    nodes_dist : (before : Option (List ℕ)) (at n : ℕ) → nodes_fault faults bytes dir before at n ≡ None → Dist (nodes_rows rows bytes at n)
    unfolding nodes_fault nodes_rows
    nodes_dist before at zero h = dist_none
    nodes_dist before at (suc n) h =
        let rec = record_at bytes at in
        let name = name_of bytes rec in
        let path = path_of bytes rec in
        let under = rows rec.kids_start rec.kids_count in
        let rest = nodes_rows rows bytes (at + 44) n in
        let first = both_none (node_fault bytes dir before rec) _ h in
        let second = both_none (faults path rec.kids_start rec.kids_count) _ first.1 in
        let node = node_sound bytes dir before rec first.0 in
        let later = nodes_later (Some name) (at + 44) n second.1 in
        dist_cons (row_of bytes rec) (under ++ rest)
        (apart_append path under rest (apart_below path under (kids path rec.kids_start rec.kids_count second.0))
        (apart_later dir name path rest (stands_at_name bytes dir before rec node) later))
        (dist_append under rest (dists path rec.kids_start rec.kids_count second.0) (nodes_dist (Some name) (at + 44) n second.1)
        (each_then (λ r. In dir name r.path) (λ r. Apart r.path rest) (λ r stands. apart_later dir name r.path rest stands later) under (under_name before rec node second.0)))

-- the nodes of a list without fault have none
list_nodes : (depth : ℕ) (bytes : List ℕ) (dir : Option (List ℕ)) (start count : ℕ) → list_fault (suc depth) bytes dir start count ≡ None → nodes_fault (below depth bytes) bytes dir None start count ≡ None
list_nodes depth bytes dir start zero h = nodes_end (below depth bytes) bytes dir None start 0 refl
list_nodes depth bytes dir start (suc n) h =
    let same : suc depth - 1 ≡ depth = omega arith in
    rw same at (list_sound (suc depth) bytes dir start (suc n) (omega arith) h).nodes

pub kids_of : (depth : ℕ) (bytes : List ℕ)
    → ((dir : Option (List ℕ)) (start count : ℕ) → list_fault depth bytes dir start count ≡ None → AllByRecursion (λ r. Later dir None r.path) (list_rows depth bytes start count))
    → Kids (below depth bytes) (list_rows depth bytes)
kids_of depth bytes all = λ path start count none.
    each_then (λ r. Later (Some path) None r.path) (λ r. is_below path r.path ≡ true) (λ r later. later_below path r.path later) (list_rows depth bytes start count) (all (Some path) start count none)

-- each row of a list stands in its directory
pub list_later : (depth : ℕ) (bytes : List ℕ) (dir : Option (List ℕ)) (start count : ℕ) → list_fault depth bytes dir start count ≡ None → AllByRecursion (λ r. Later dir None r.path) (list_rows depth bytes start count)
unfolding list_rows
list_later zero bytes dir start count h = tt
list_later (suc depth) bytes dir start count h =
    nodes_later (below depth bytes) (list_rows depth bytes) (kids_of depth bytes (list_later depth bytes)) bytes dir None start count (list_nodes depth bytes dir start count h)

-- and no two have one path
pub list_dist : (depth : ℕ) (bytes : List ℕ) (dir : Option (List ℕ)) (start count : ℕ) → list_fault depth bytes dir start count ≡ None → Dist (list_rows depth bytes start count)
unfolding list_rows
list_dist zero bytes dir start count h = dist_none
list_dist (suc depth) bytes dir start count h =
    nodes_dist (below depth bytes) (list_rows depth bytes) (kids_of depth bytes (list_later depth bytes)) bytes dir
    (λ path first n none. list_dist depth bytes (Some path) first n none) None start count (list_nodes depth bytes dir start count h)
