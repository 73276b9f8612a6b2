-- A table that was put whole is written, or too large.
use Rattle.std.proofs.Common.{◌≡◌, ℕ, ◌+◌, ◌*◌, ◌<◌, ◌≤◌, ◌^◌, List, [], ◌++◌, length, Some, None, Result, Ok, Err, inl, inr, true, true≢false, refl, sym, ap, subst, ◌∙◌, arith, append-nil}
use Rattle.std.specs.Prelude.{IfErr, IfOk, is_some, take}
use Rattle.hg_docket.specs.Docket.{Contents}
use Rattle.hg_docket.specs.Number.{next_name}
use Rattle.hg_docket.specs.Written as docket
use Rattle.hg_mixed.specs.Held.{Held}
use Rattle.hg_append.specs.declared.encoding.Encoded.{Encoded}
use Rattle.hg_append.specs.declared.fault.EncodeFault.{EncodeFault}
use Rattle.hg_append.specs.declared.fault.EncodeFault.TheVariants as a_fault
use Rattle.hg_append.specs.declared.lists.Put.{Put}
use Rattle.hg_append.specs.Keeps.{keeps_nothing}
use Rattle.hg_append.specs.Tree.{IsTreeOf, Nothing, Node, Tree, count_in, has_entry, has_source, heads}
use Rattle.hg_append.specs.Layout.{front_size, list_start, put_of, size_of}
use Rattle.hg_append.specs.Put.{IsPut, kept}
use Rattle.hg_append.specs.Either.{file_of}
use Rattle.hg_append.specs.Encoded.{HasCause, IsFit, IsSoundly, IsWritten, Yields, contents_of, contents_with}
use Rattle.hg_append.proofs.OneTree.{one_tree}
use Rattle.hg_append.proofs.Sizes.{counted_few, size_is}

-- the docket reads back
pub back_is : (items old front : List ℕ) (d e : Contents) → items ≡ old ++ docket.bytes_of d → old ≡ [] → ((rest : List ℕ) → docket.ReadsAs (docket.bytes_of d ++ rest) d) → d ≡ e → docket.ReadsAs items e
back_is items old front d e is none back same =
    subst (docket.ReadsAs items) same
    (subst (λ (b : List ℕ). docket.ReadsAs b d) (append-nil (docket.bytes_of d) ∙ sym (ap (λ (l : List ℕ). l ++ docket.bytes_of d) none) ∙ sym is) (back []))

module _ (held : Held) (put : Put) (old new old_records new_records : List ℕ) (p : IsPut held keeps_nothing None 0 put old new old_records new_records) where
  pub too_large : 2 ^ 32 ≤ put.sums.end → (id : List ℕ) → next_name held.docket.id ≡ Some id → (e : EncodeFault) → e ≡ a_fault.TooLarge put.sums.end → HasCause held e
  too_large large id next e is =
      let end : put.sums.end ≡ kept (0 + size_of p.tree) = p.sums_are.ends in
      subst (HasCause held) (sym is) (record { tree = p.tree; is = p.is; large = omega (arith, large, end); size = omega (arith, end); next = (id, next) })

  pub fit : put.sums.end < 2 ^ 32 → IsFit put
  fit small =
      let end : put.sums.end ≡ kept (0 + size_of p.tree) = p.sums_are.ends in
      let all : size_of p.tree ≡ front_size p.tree + 44 * length (heads p.tree) = size_is p.tree in
      let few : 44 * count_in has_entry p.tree ≤ size_of p.tree = counted_few has_entry p.tree in
      let less : 44 * count_in has_source p.tree ≤ size_of p.tree = counted_few has_source p.tree in
      let count : put.sums.count ≡ kept (length (heads p.tree)) = p.sums_are.count in
      let entries : put.sums.entries ≡ kept (count_in has_entry p.tree) = p.sums_are.entries in
      let copies : put.sums.copies ≡ kept (count_in has_source p.tree) = p.sums_are.copies in
      record {
        start = starts p.tree (omega (arith, small, end)) (p.start (omega (arith, small, end)));
        count = omega (arith, small, end, all, count);
        entries = omega (arith, small, end, few, entries);
        copies = omega (arith, small, end, less, copies);
      }
    where
      starts : (tree : Tree) → 0 + size_of tree < 2 ^ 32 → put.start ≡ list_start 0 tree → put.start < 2 ^ 32
      starts Nothing small is = omega (arith, is)
      starts (Node child below behind) small is = let all : size_of (Node child below behind) ≡ front_size (Node child below behind) + 44 * length (heads (Node child below behind)) = size_is (Node child below behind) in omega (arith, is, small, all)

  pub soundly : (e : Encoded) (used : ℕ) → e.place ≡ 0 → e.bytes.items ≡ new → old ≡ [] → next_name held.docket.id ≡ Some e.id → used ≡ put.sums.end → put.sums.end < 2 ^ 32
      → e.docket.items ≡ docket.bytes_of (contents_with held e.id put used) → docket.ReadsAs e.docket.items (contents_with held e.id put used) → IsSoundly held e
  soundly e used place bytes none next is small written back =
      let end : put.sums.end ≡ kept (0 + size_of p.tree) = p.sums_are.ends in
      let fits : 0 + size_of p.tree < 2 ^ 32 = omega (arith, small, end) in
      let all : size_of p.tree ≡ front_size p.tree + 44 * length (heads p.tree) = size_is p.tree in
      let few : 44 * count_in has_entry p.tree ≤ size_of p.tree = counted_few has_entry p.tree in
      let less : 44 * count_in has_source p.tree ≤ size_of p.tree = counted_few has_source p.tree in
      let c : put.sums.count ≡ kept (length (heads p.tree)) = p.sums_are.count in
      let n : put.sums.entries ≡ kept (count_in has_entry p.tree) = p.sums_are.entries in
      let s : put.sums.copies ≡ kept (count_in has_source p.tree) = p.sums_are.copies in
      let start : put.start ≡ list_start 0 p.tree = p.start fits in
      let count : put.sums.count ≡ length (heads p.tree) = omega (arith, fits, all, c) in
      let entries : put.sums.entries ≡ count_in has_entry p.tree = omega (arith, fits, few, n) in
      let copies : put.sums.copies ≡ count_in has_source p.tree = omega (arith, fits, less, s) in
      let size : used ≡ size_of p.tree = omega (arith, is, end, fits) in
      let same : contents_with held e.id put used ≡ contents_of held e.id p.tree = λ i. record {
        p1 = held.p1;
        p2 = held.p2;
        root_start = start i;
        root_count = count i;
        entries = entries i;
        copies = copies i;
        unreachable = 0;
        hash = held.hash;
        used = size i;
        id = e.id;
      } in
      record {
        written = record {
          tree = p.tree;
          is = p.is;
          place = place;
          next = next;
          bytes = bytes ∙ p.bytes fits ∙ ap (λ (l : List ℕ). l ++ put_of 0 p.tree) none;
          docket = written ∙ ap docket.bytes_of same;
          small = omega (arith, fits);
        };
        sound = p.sound;
        back = subst (docket.ReadsAs e.docket.items) same back;
      }

-- what follows of each success
pub ok_then : {E : Type 0} (P Q : Encoded → Type 0) → ((e : Encoded) → P e → Q e) → (r : Result Encoded E) → IfOk r P → IfOk r Q
ok_then P Q f (Ok e) p = f e p
ok_then P Q f (Err e) p = tt

-- a size that is too great is told
pub told_large : (held : Held) (r : Result Encoded EncodeFault) → IfOk r (IsSoundly held) → IfErr r (HasCause held)
    → (tree : Tree) → IsTreeOf held None tree → 2 ^ 32 ≤ size_of tree → is_some (next_name held.docket.id) ≡ true → Yields (a_fault.TooLarge (kept (size_of tree))) r
told_large held (Ok e) ok err tree is large next =
    let same : tree ≡ ok.written.tree = one_tree held None tree ok.written.tree is ok.written.is in
    let size : size_of tree ≡ size_of ok.written.tree = ap size_of same in
    let small : size_of ok.written.tree < 2 ^ 32 = ok.written.small in
    absurd (omega (arith, size, small, large))
told_large held (Err a_fault.OutOfMemory) ok err tree is large next = inr refl
told_large held (Err (a_fault.TooLarge size)) ok err tree is large next =
    let same : err.tree ≡ tree = one_tree held None err.tree tree err.is is in
    inl (ap a_fault.TooLarge (err.size ∙ ap (λ (t : Tree). kept (size_of t)) same))
told_large held (Err a_fault.IdsSpent) ok err tree is large next = absurd (true≢false (sym next ∙ ap is_some err))

-- of a table that was written anew the data file has what was encoded alone
pub file_anew : (held : Held) (e : Encoded) → IsWritten held e → file_of held e ≡ e.bytes.items
file_anew held e written = ap (λ (place : ℕ). take place held.bytes ++ e.bytes.items) written.place
