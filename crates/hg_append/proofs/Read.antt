-- A table that was written anew is read again: the case of an append that keeps nothing, at place 0.
use Rattle.std.proofs.Common.{◌≡◌, ℕ, ◌+◌, ◌-◌, ◌*◌, ◌<◌, ◌≤◌, ◌^◌, Bool, true, false, cond, List, [], ◌∷◌, ◌++◌, length, take, Option, Some, None, refl, sym, ap, subst, ◌∙◌, arith, eqb, ltb, eq-eqb, le-leb}
use Rattle.std.specs.Prelude.{count_by, is_some}
use Rattle.std.specs.List.{sum_by}
use Rattle.std.proofs.lemmas.Bool.{and_from, ne_eqb}
use Rattle.std.proofs.lemmas.Bool.Decides.{nat_tests}
use Rattle.std.proofs.lemmas.List.{length-append, take_all}
use Rattle.std.proofs.lemmas.List.Sums.{sum_by-append, sum_by-cons}
use Rattle.hg_base.proofs.Paths.{path_some}
use Rattle.hg_docket.specs.Docket.{Contents, docket_of}
use Rattle.hg_docket.specs.declared.fault.DocketFault.{DocketFault}
use Rattle.hg_image.specs.Counts.{are_counted, is_copy, is_counted}
use Rattle.hg_image.specs.Reading.{data_reading, docket_reading, of_data, reading_of, sound_reading, table_of}
use Rattle.hg_image.specs.Rows.{Row, list_rows, rows_of}
use Rattle.hg_image.specs.Walk.{image_fault, levels, list_fault}
use Rattle.hg_image.specs.declared.fault.NodeFault.{NodeFault}
use Rattle.hg_image.specs.declared.fault.NodeFault.TheVariants as a_fault
use Rattle.hg_nodes.specs.Children.{ChildData}
use Rattle.hg_nodes.specs.Edits.{IsFormed, IsSame}
use Rattle.hg_mixed.specs.Held.{Held, table}
use Rattle.hg_append.specs.declared.encoding.Encoded.{Encoded}
use Rattle.hg_append.specs.Encoded.{IsSoundly, ReadsAs, contents_of}
use Rattle.hg_append.specs.Keeps.{keeps_nothing}
use Rattle.hg_append.specs.Layout.{behind_node, front_size, list_start, rec_of, size_of, source_text}
use Rattle.hg_append.specs.Lost.{named_length, reached, waste}
use Rattle.hg_append.specs.Put.{AreSound, IsWritable}
use Rattle.hg_append.specs.Tree as tree
use Rattle.hg_append.specs.Tree.{IsTreeOf, Nothing, Node, Tree, count_in, heads, is_tracked}
use Rattle.hg_append.proofs.Has.{Has, has_all}
use Rattle.hg_append.proofs.KeptIn.{AreKeptIn}
use Rattle.hg_append.proofs.Node.{AreStarted, rows_in_at}
use Rattle.hg_append.proofs.Right.{reached_all_in, right_in, rows_same}
use Rattle.hg_append.proofs.Sizes.{counted_few, put_length}
use Rattle.hg_append.proofs.Snoc.{sound_behind, sound_below}
use Rattle.hg_append.proofs.Walk.{counted_as, entries_in, whole_in}

-- ---- nothing is kept

no_rows : List ℕ → List Row
no_rows path = []

abbrev rows_at : ℕ → ℕ → Tree → List Row
rows_at at place t = rows_in_at keeps_nothing no_rows at place t

none_kept : (held : Held) (file : List ℕ) → AreKeptIn held keeps_nothing file no_rows
none_kept held file = record {
  lists = λ path list good is. absurd (cc is);
  texts = λ dir child place is some. absurd (cc some);
  sources = λ dir child place is some. absurd (cc some);
}

started : (held : Held) → AreStarted held keeps_nothing 0
started held = record {
  texts = λ dir child place is some. absurd (cc some);
  sources = λ dir child place s is source some. absurd (cc some);
}

copies_counted : (at place : ℕ) (t : Tree) → AreSound t → count_by is_copy (rows_at at place t) ≡ count_in tree.has_source t
copies_counted = counted_as keeps_nothing no_rows is_copy tree.has_source (λ child list kept good. absurd (cc kept)) (λ child r sound source fields. ap is_some source)

-- a row reaches what its node takes
reached_one : (at place : ℕ) (child : ChildData) (under : Tree) → IsWritable child
    → reached (record { path = child.path; source = child.source; rec = record (rec_of at child under) { place = place } }) ≡ 44 + length child.path + length (source_text child.source)
reached_one at place child under sound = ap (λ (n : ℕ). 44 + length child.path + n) (named child.source)
  where
    named : (o : Option (List ℕ)) → named_length (record { path = child.path; source = child.source; rec = record (rec_of at (record child { source = o }) under) { place = place } }) ≡ length (source_text o)
    named None = refl
    named (Some s) =
        let some : 0 < length child.path = path_some child.path sound.path in
        let start = at + size_of under + length child.path in
        let test : eqb start 0 ≡ false = ne_eqb start 0 (λ z. absurd (omega (arith, z, some))) in
        ap (λ (t : Bool). cond t 0 (length s)) test

reached_is : (at place : ℕ) (t : Tree) → AreSound t → sum_by reached (rows_at at place t) ≡ size_of t
reached_is at place Nothing sound = refl
reached_is at place (Node child under behind) sound =
    let head : Row = record { path = child.path; source = child.source; rec = record (rec_of at child under) { place = place } } in
    let lower = rows_at at (at + front_size under) under in
    let later = rows_at (behind_node at child under) (place + 44) behind in
    let one : sum_by reached (head ∷ (lower ++ later)) ≡ reached head + sum_by reached (lower ++ later) = sum_by-cons reached head (lower ++ later) in
    let two : sum_by reached (lower ++ later) ≡ sum_by reached lower + sum_by reached later = sum_by-append reached lower later in
    let here : reached head ≡ 44 + length child.path + length (source_text child.source) = reached_one at place child under sound.0 in
    let a : sum_by reached lower ≡ size_of under = reached_is at (at + front_size under) under (sound_below child under behind sound) in
    let b : sum_by reached later ≡ size_of behind = reached_is (behind_node at child under) (place + 44) behind (sound_behind child under behind sound) in
    omega (arith, one, two, here, a, b)

rows_few : (at place : ℕ) (t : Tree) → 44 * length (rows_at at place t) ≤ size_of t
rows_few at place Nothing = omega arith
rows_few at place (Node child under behind) =
    let lower = rows_at at (at + front_size under) under in
    let later = rows_at (behind_node at child under) (place + 44) behind in
    let both : length (lower ++ later) ≡ length lower + length later = length-append lower later in
    let a : 44 * length lower ≤ size_of under = rows_few at (at + front_size under) under in
    let b : 44 * length later ≤ size_of behind = rows_few (behind_node at child under) (place + 44) behind in
    omega (arith, both, a, b)

module _ (held : Held) (formed : IsFormed (table held)) where
  module _ (e : Encoded) (s : IsSoundly held e) where
    whole : Tree
    whole = s.written.tree

    contents : Contents
    contents = contents_of held e.id whole

    rows_are : List Row
    rows_are = rows_at 0 (0 + front_size whole) whole

    size : length e.bytes.items ≡ size_of whole
    unfolding whole
    size = ap length s.written.bytes ∙ put_length 0 whole

    used : take (size_of whole) e.bytes.items ≡ e.bytes.items
    unfolding whole
    used = let same : length e.bytes.items ≡ size_of whole = size in take_all (size_of whole) e.bytes.items (omega (arith, same))

    walked : (list_fault levels e.bytes.items None (list_start 0 whole) (length (heads whole)) ≡ None)
        × ((list_rows levels e.bytes.items (list_start 0 whole) (length (heads whole)) ≡ rows_at 0 (0 + front_size whole) whole) × (are_counted (rows_at 0 (0 + front_size whole) whole) ≡ true))
    unfolding whole
    walked =
        let same : length e.bytes.items ≡ size_of whole = size in
        let small : size_of whole < 2 ^ 32 = s.written.small in
        let few : 44 * count_in tree.has_entry whole ≤ size_of whole = counted_few tree.has_entry whole in
        let less : 44 * count_in is_tracked whole ≤ size_of whole = counted_few is_tracked whole in
        whole_in held keeps_nothing e.bytes.items no_rows (none_kept held e.bytes.items) formed (omega (arith, same, small)) 0 (started held) 0 whole s.written.is s.sound (omega arith)
        (omega (arith, few, small)) (omega (arith, less, small)) (subst (Has e.bytes.items 0) s.written.bytes (has_all e.bytes.items))

    no_fault : image_fault (docket_of e.docket.items) e.bytes.items ≡ None
    unfolding whole
    no_fault =
        let same : length e.bytes.items ≡ size_of whole = size in
        let long : ltb (length e.bytes.items) (size_of whole) ≡ false = grind (arith, nat_tests, same) in
        ap (λ (c : Contents). image_fault c e.bytes.items) s.back.same
        ∙ ap (λ (t : Bool). cond t (Some (a_fault.DataShort (length e.bytes.items) (size_of whole))) (list_fault levels (take (size_of whole) e.bytes.items) None (list_start 0 whole) (length (heads whole)))) long
        ∙ ap (λ (b : List ℕ). list_fault levels b None (list_start 0 whole) (length (heads whole))) used
        ∙ walked.0

    rows_read : rows_of (docket_of e.docket.items) e.bytes.items ≡ rows_at 0 (0 + front_size whole) whole
    unfolding whole
    rows_read =
        ap (λ (c : Contents). rows_of c e.bytes.items) s.back.same
        ∙ ap (λ (b : List ℕ). list_rows levels b (list_start 0 whole) (length (heads whole))) used
        ∙ walked.1.0

    pub reads : ReadsAs (table held) (reading_of e.docket.items e.bytes.items)
    unfolding whole
    reads = record {
      found = table_of (docket_of e.docket.items) (rows_of (docket_of e.docket.items) e.bytes.items);
      is = ap (λ (o : Option DocketFault). docket_reading o (data_reading (docket_of e.docket.items) e.bytes.items)) s.back.whole
          ∙ ap (λ (o : Option NodeFault). of_data (sound_reading o (table_of (docket_of e.docket.items) (rows_of (docket_of e.docket.items) e.bytes.items)))) no_fault;
      same = subst (λ (rows : List Row). IsSame (table_of (docket_of e.docket.items) rows) (table held)) (sym rows_read)
          (rows_same held formed (rows_at 0 (0 + front_size whole) whole)
          (right_in held formed keeps_nothing e.bytes.items no_rows (none_kept held e.bytes.items) None 0 (0 + front_size whole) whole s.written.is.children.each s.written.is.below s.sound)
          (reached_all_in held formed keeps_nothing e.bytes.items no_rows (none_kept held e.bytes.items) 0 (0 + front_size whole) whole s.written.is s.sound) (docket_of e.docket.items) (ap (λ (c : Contents). c.p1) s.back.same) (ap (λ (c : Contents). c.p2) s.back.same) (ap (λ (c : Contents). c.hash) s.back.same));
    }

    pub counted : is_counted (docket_of e.docket.items) (rows_of (docket_of e.docket.items) e.bytes.items) ≡ true
    unfolding whole
    counted =
        ap (λ (c : Contents). is_counted c (rows_of (docket_of e.docket.items) e.bytes.items)) s.back.same
        ∙ ap (is_counted (contents_of held e.id whole)) rows_read
        ∙ and_from _ _ (and_from _ _ (and_from _ _ (eq-eqb _ _ (sym (entries_in held keeps_nothing e.bytes.items no_rows (none_kept held e.bytes.items) 0 (0 + front_size whole) whole s.sound))) (eq-eqb _ _ (sym (copies_counted 0 (0 + front_size whole) whole s.sound)))) walked.1.1)
        (le-leb _ _ (rows_few 0 (0 + front_size whole) whole))

    pub wasted : waste (docket_of e.docket.items) (rows_of (docket_of e.docket.items) e.bytes.items) ≡ 0
    unfolding whole
    wasted =
        let all : sum_by reached (rows_at 0 (0 + front_size whole) whole) ≡ size_of whole = reached_is 0 (0 + front_size whole) whole s.sound in
        ap (λ (c : Contents). waste c (rows_of (docket_of e.docket.items) e.bytes.items)) s.back.same
        ∙ ap (λ (rows : List Row). size_of whole - sum_by reached rows) rows_read
        ∙ omega (arith, all)
