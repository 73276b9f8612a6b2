-- The paths of a record that come before one, where all of them ascend.
use Rattle.std.proofs.Common.{ℕ, true, zero, suc, ◌≡◌, ◌<◌, ◌||◌, List, [], ◌∷◌, ◌++◌, length, take, get_or, Option, Some, None, option_map, true≢false, is_some, inl, inr, refl, sym, ap, ◌∙◌, subst, arith}
use Rattle.std.specs.List.{AllByRecursion, Contains, IsDistinct}
use Rattle.std.specs.List.Sorted.{IsStrictlySortedBy}
use Rattle.std.specs.Ordering.{nat_cmp, ordering_reverse}
use Rattle.std.specs.Cmp.Lexicographic.{nat_list_cmp_total, slice_cmp}
use Rattle.std.specs.Str.{bytes_eq}
use Rattle.std.proofs.lemmas.Bool.{and_parts}
use Rattle.std.proofs.lemmas.List.{map-append}
use Rattle.std.proofs.lemmas.List.Elements.{Contains-append_left, Contains-append_right, Contains-push}
use Rattle.hg_base.specs.declared.id.Id20.{Id20}
use Rattle.hg_entry.specs.Entry.{EntryData, view}
use Rattle.hg_entry.specs.Table.{Table, flat_of, marks_of}
use Rattle.hg_entry.specs.declared.entry.Entry.{Entry}
use Rattle.hg_flat.specs.First.{IsBefore}
use Rattle.hg_flat.specs.Met.{Status}
use Rattle.hg_flat.specs.Needed.{ReadsNeeded, ReadsPath, ReadsPaths}
use Rattle.hg_flat.specs.Parent.{IsAsked, asked_by, is_compared, is_plain_entry}
use Rattle.hg_flat.specs.declared.kept.FlatRow.{FlatRow}
use Rattle.hg_flat.proofs.Needing.{own_front, reads_next, reads_once}
use Rattle.hg_listing.specs.declared.row.Wanted.{Wanted}
use Rattle.hg_mixed.specs.Gathered.{AreGathered, path_of, paths_of}
use Rattle.hg_mixed.specs.Held.{Held, table}
use Rattle.hg_mixed.specs.declared.line.Line.{Line}
use Rattle.hg_nodes.specs.Edits.{IsFormed}
use Rattle.hg_shelf.specs.History as shelves
use Rattle.hg_tree.specs.History as trees
use Rattle.hg_tree.specs.Moment.{Moment}
use Rattle.hg_walk.specs.Telling.{AreAllOf, AreOf, ReadsFront, tracked_row, tracked_rows}
use Rattle.hg_walk.specs.Walking.{asked_unvouched, walk_status}
use Rattle.hg_walk.proofs.Rows.{either, node_of, row_in}

-- no path comes both before and behind another
never_both : (a b : List ℕ) → IsBefore a b → IsBefore b a → ⊥
never_both a b before behind = let turned = nat_list_cmp_total.antisymm a b in absurd (cc (sym before ∙ turned ∙ ap ordering_reverse behind))

never_before : (path : List ℕ) → (children : List Line) → AllByRecursion (λ p. IsBefore path p) (paths_of children) → (other : Line) → Contains children other → IsBefore (path_of other) path → ⊥
never_before path [] all other (n, below, is) before = absurd (omega (arith, below))
never_before path (first ∷ rest) all other has before =
    elim (either first rest other has) [
      | inl same ↦ never_both path (path_of first) all.0 (subst (λ (c : Line). IsBefore (path_of c) path) (sym same) before)
      | inr later ↦ never_before path rest all.1 other later before
    ]

-- a child whose path comes before that of another stands before it
earlier : (children : List Line) → IsStrictlySortedBy (slice_cmp nat_cmp) (paths_of children) → (i : ℕ) (child other : Line) → i < length children → get_or children i child ≡ child → Contains children other
    → IsBefore (path_of other) (path_of child) → Contains (take i children) other
unfolding IsStrictlySortedBy
earlier [] up i child other below is has before = absurd (omega (arith, below))
earlier (first ∷ rest) up zero child other below is has before =
    let here : first ≡ child = is in
    elim (either first rest other has) [
      | inl same ↦
          let less : IsBefore (path_of other) (path_of other) = subst (λ (c : Line). IsBefore (path_of other) (path_of c)) (sym here ∙ same) before in absurd (never_both (path_of other) (path_of other) less less)
      | inr later ↦ absurd (never_before (path_of first) rest up.0 other later (subst (λ (c : Line). IsBefore (path_of other) (path_of c)) (sym here) before))
    ]
earlier (first ∷ rest) up (suc i) child other below is has before =
    elim (either first rest other has) [
      | inl same ↦ subst (λ (c : Line). Contains (first ∷ take i rest) c) same (Contains-append_left (first ∷ []) (take i rest) first (Contains-push [] first))
      | inr later ↦ Contains-append_right (first ∷ []) (take i rest) other (earlier rest up.1 i child other (omega (arith, below)) is later before)
    ]

-- a path that is compared has an entry
asked_entry : (wanted : Wanted) (t : Table) (m : Moment) (path : List ℕ) → IsAsked (asked_unvouched wanted t) m path → (entry : EntryData) × (t.entries path ≡ Some entry)
asked_entry wanted t m path asked = by (t.entries path) refl
  where
    by : (o : Option EntryData) → t.entries path ≡ o → (entry : EntryData) × (t.entries path ≡ Some entry)
    by (Some entry) is = (entry, is)
    by None is =
        let one = and_parts (asked_by wanted (flat_of t) m path) _ asked in
        let two = and_parts (is_compared wanted (flat_of t) path) _ one.0 in
        let three = and_parts (wanted.m || wanted.c) _ two.0 in
        absurd (true≢false (sym three.1 ∙ ap (λ (o : Option EntryData). is_plain_entry (option_map marks_of o) (is_some (t.sources path))) is))

entry_shown : (o : Option Entry) (entry : EntryData) → option_map view o ≡ Some entry → (e : Entry) × (o ≡ Some e)
entry_shown None entry is = absurd (true≢false (sym (ap is_some is)))
entry_shown (Some e) entry is = (e, refl)

-- each path that is compared before a child's is of a child before it
pub row_before : (wanted : Wanted) (t : Table) (id : Id20) (children : List Line) → AreOf t id children → AreAllOf t children → (m : Moment) (i : ℕ) (child : Line) → i < length children → get_or children i child ≡ child
    → (other : List ℕ) → IsBefore other (path_of child) → IsAsked (asked_unvouched wanted t) m other → (row : FlatRow) × Contains (tracked_rows (take i children)) row × (row.path ≡ other)
row_before wanted t id children of all m i child below is other before asked =
    let entry = asked_entry wanted t m other asked in
    let node = all.all other entry.0 entry.1 in
    let first = earlier children all.ascending i child node.0 below is node.1 (subst (λ (p : List ℕ). IsBefore p (path_of child)) (sym node.2) before) in
    let e = entry_shown node.0.entry entry.0 ((of.each node.0 node.1).entry ∙ ap t.entries node.2 ∙ entry.1) in
    (tracked_row node.0 e.0, row_in (take i children) node.0 e.0 first e.1, node.2)

-- what was gathered is all of the record
pub all_of : (held : Held) (children : List Line) (are : AreGathered held (λ path. true) children) (formed : IsFormed (table held)) → IsStrictlySortedBy (slice_cmp nat_cmp) (paths_of children) → AreAllOf (table held) children
all_of held children are formed up = record {
  ascending = up;
  all = λ path entry is. let node = node_of held children are formed path entry is in (node.0, node.2, node.3);
}

-- ---- what is read

-- of the children so far, and of one more
pub reads_more : (wanted : Wanted) (t : Table) (old mid new : trees.History) (begun files later : shelves.History) (so_far : List Line) (child : Line) (all : List Line) → all ≡ so_far ++ child ∷ [] → trees.Passes mid new
    → shelves.Passes begun files → shelves.Passes files later → ReadsPaths (walk_status wanted t old mid begun files) (paths_of so_far) → ReadsPath (walk_status wanted t old new begun later) mid (path_of child)
    → ReadsPaths (walk_status wanted t old new begun later) (paths_of all)
reads_more wanted t old mid new begun files later so_far child all is second third fourth reads one =
    subst (ReadsPaths (walk_status wanted t old new begun later)) (sym (ap paths_of is ∙ map-append path_of so_far (child ∷ [])))
    (reads_next (walk_status wanted t old mid begun files) mid new files later second third fourth (paths_of so_far) (path_of child) reads one)

-- no two of them are of one path
pub reads_own : (s : Status) (children : List Line) → IsDistinct bytes_eq (paths_of children) → ReadsFront s children → ReadsNeeded s
reads_own s children own (n, reads) = reads_once s (paths_of (take n children)) (own_front path_of n children own) reads
