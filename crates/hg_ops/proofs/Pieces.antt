-- What is put, piece by piece, is what putting all comes to.
use Rattle.std.proofs.Common.{ℕ, suc, ◌≡◌, ◌+◌, ◌≤◌, ◌<◌, min, Bool, true, false, cond, List, [], ◌∷◌, take, drop, length, Option, Some, None, Result, Ok, Err, refl, sym, ap, ◌∙◌, subst, true≢false, inl, inr, arith}
use Rattle.std.specs.Prelude.{IfOk, IsTrue, nat_lt}
use Rattle.std.proofs.lemmas.Bool.{cases_lt, ltb-true}
use Rattle.std.proofs.lemmas.List.{append-nil, length-drop, length-take, take-append-le, take_all}
use Rattle.hg_base.specs.Reads.{ReadsBytes, ReadsPast}
use Rattle.hg_base.specs.declared.stat.Got.TheVariants as a_got
use Rattle.hg_base.specs.declared.stat.Kind.{Kind}
use Rattle.hg_base.specs.declared.stat.Kind.TheVariants as a_kind
use Rattle.hg_base.specs.declared.stat.Stat.{Stat}
use Rattle.hg_compare.specs.Same.{InPieces, Reads}
use Rattle.hg_ops.specs.Parts.{GoesUpTo, PutsPart, PutsPieces}
use Rattle.hg_ops.specs.Putting.{CanCopy, Completes, FailsPiece, IsGrown, IsPutting, Puts, PutsOn, PutsWhole, is_link_kind, piece_of}
use Rattle.hg_ops.specs.declared.copy_refusal.CopyRefusal.{CopyRefusal}
use Rattle.hg_ops.specs.declared.putting.Piece.{Piece}
use Rattle.hg_ops.specs.declared.putting.Piece.TheVariants as a_piece
use Rattle.hg_ops.specs.declared.refusal.OpFault.{OpFault}
use Rattle.hg_ops.specs.declared.refusal.OpFault.TheVariants as a_fault
use Rattle.hg_tree.specs.declared.asked.Asked.{Asked}
use Rattle.hg_tree.specs.declared.asked.Asked.TheVariants as an_ask
use Rattle.hg_tree.specs.History.{History, Extends, IsOurs, Passes, now}
use Rattle.hg_tree.specs.Moment.{Moment, bytes_at}
use Rattle.hg_tree.specs.Own.{Acts, CanPut, CannotPut, IsPut, IsPuttable}
use Rattle.hg_tree.specs.Touched.{ChangesOnly}
use Rattle.hg_tree.proofs.Histories.{extends_same, extends_trans}
use Rattle.hg_tree.proofs.Spans.{now_same, ours_first, ours_second, passes_same, who_apart}
use Rattle.hg_tree.proofs.Touching.{changes_passes, changes_trans}
use Rattle.hg_ops.proofs.Grown.{first_can, first_grown, grown_done, grown_piece, link_whole, size_is}
use Rattle.hg_ops.proofs.OwnPuts.{all_ended, all_over, none_put, some_failed}

-- ---- one read, and one put

pub read_whole : (old new bytes : List ℕ) (place n : ℕ) → ReadsPast bytes place old new n → place + length old ≤ length bytes → (n ≡ length old) × (take n new ≡ piece_of bytes place (length old))
read_whole old new bytes place n reads fits =
    let count = reads.count in
    let rest = length-drop place bytes in
    let all : n ≡ length old = omega (arith, count, fits) in
    let enough : n ≤ length (take n (drop place bytes)) = let cut = length-take n (drop place bytes) in omega (arith, cut, rest, all, fits) in
    let few : length (take n (drop place bytes)) ≤ n = let cut = length-take n (drop place bytes) in omega (arith, cut) in (
      all,
      ap (take n) reads.filled ∙ take-append-le n (take n (drop place bytes)) (drop n old) enough ∙ take_all n (take n (drop place bytes)) few
          ∙ ap (λ (k : ℕ). take k (drop place bytes)) all,
    )

-- the read of no bytes more says that the source ended where there was room for some
pub read_end : (old new bytes : List ℕ) (place n : ℕ) → ReadsPast bytes place old new n → n < length old → length bytes ≤ place + n
read_end old new bytes place n reads less = let count = reads.count in omega (arith, count, less)

pub end_at : (there : Option (List ℕ)) (old new : List ℕ) (place n : ℕ) → ReadsBytes there place old new (a_got.Bytes n) → n < length old → GoesUpTo (place + n) there
end_at None old new place n reads less = reads
end_at (Some bytes) old new place n reads less = read_end old new bytes place n reads less

-- ---- one put, where nobody else steps

pub acts_alone : (step : Moment → Moment → Type 0) (a b c : History) → Passes a b → IsOurs a c → Acts step b c → step (now a) (now c)
acts_alone step a b c passes ours acts =
    let later = acts.later in
    let last = acts.last in
    let ours_then = ours_second a b c passes.past ours in
    elim (cases_lt b.last acts.before) [
      | inl less ↦ absurd (who_apart (sym (ours_then.ours b.last (omega arith) (omega (arith, less, last))) ∙ acts.by_others b.last (omega arith) less))
      | inr most ↦
          let here : acts.before ≡ b.last = omega (arith, most, later) in
          subst (λ (m : Moment). step m (now c)) (ap c.at here ∙ acts.past.stay b.last (omega arith) ∙ now_same a b passes (ours_first a b c acts.past ours))
          (subst (λ (k : ℕ). step (c.at acts.before) (c.at k)) (sym last) acts.made)
    ]

not_less : (n : ℕ) → nat_lt n n ≡ false
not_less n = by_cases (nat_lt n n) refl
  where
    by_cases : (b : Bool) → nat_lt n n ≡ b → nat_lt n n ≡ false
    by_cases false is = is
    by_cases true is = absurd (omega (arith, ltb-true n n is))

module _ (to : List ℕ) (stat : Stat) (place width n : ℕ) (bytes room : List ℕ) (read : (n ≡ width) × (take n room ≡ piece_of bytes place width)) where
  pub put_whole : (a b c : History) (piece : Piece) → Passes a b → IsOurs a c → piece ≡ cond (nat_lt n width) a_piece.End a_piece.More
      → Acts (IsPut stat.kind stat.exec place (take n room) to) b c → PutsWhole to stat place (piece_of bytes place width) (now a) (now c) piece
  put_whole a b c piece passes ours is acts = record {
    more = is ∙ ap (λ (k : ℕ). cond (nat_lt n k) a_piece.End a_piece.More) (sym read.0) ∙ ap (λ (b : Bool). cond b a_piece.End a_piece.More) (not_less n);
    made = subst (λ (part : List ℕ). IsPut stat.kind stat.exec place part to (now a) (now c)) read.1 (acts_alone (IsPut stat.kind stat.exec place (take n room) to) a b c passes ours acts);
  }

  pub put_refused : (a b c : History) (goal : Type 0) → Passes a b → IsOurs a c → Passes b c → CannotPut stat.kind stat.exec place (take n room) to (now c).things
      → CanPut stat.kind stat.exec place (piece_of bytes place width) to (now a).things → goal
  put_refused a b c goal first ours second cannot can = refused cannot_then
    where
      same : now c ≡ now a
      same = now_same b c second (ours_second a b c first.past ours) ∙ now_same a b first (ours_first a b c second.past ours)

      cannot_then : CannotPut stat.kind stat.exec place (piece_of bytes place width) to (now a).things
      cannot_then =
          subst (λ (m : Moment). CannotPut stat.kind stat.exec place (piece_of bytes place width) to m.things) same
          (subst (λ (part : List ℕ). CannotPut stat.kind stat.exec place part to (now c).things) read.1 cannot)

      refused : CannotPut stat.kind stat.exec place (piece_of bytes place width) to (now a).things → goal
      refused (inl not_here) = absurd (true≢false (sym can.here ∙ not_here))
      refused (inr barred) = absurd (true≢false (sym (can.above barred.at barred.above barred.there) ∙ barred.other))

-- ---- the first piece

pub file_kind : (kind : Kind) → IsPuttable kind → is_link_kind kind ≡ false → kind ≡ a_kind.File
file_kind a_kind.File can not = refl
file_kind a_kind.Link can not = absurd (true≢false not)
file_kind a_kind.Dir can not = absurd can
file_kind a_kind.Other can not = absurd can

pub link_kind : (kind : Kind) → is_link_kind kind ≡ true → kind ≡ a_kind.Link
link_kind a_kind.File is = absurd (true≢false (sym is))
link_kind a_kind.Link is = refl
link_kind a_kind.Dir is = absurd (true≢false (sym is))
link_kind a_kind.Other is = absurd (true≢false (sym is))

module _ (from to : List ℕ) (stat : Stat) (a b : History) (width : ℕ) (wide : width ≡ min stat.size 65536) (past : Extends a b) (asked : IsTrue a.told → Reads width from a b)
    (only : IsTrue a.told → ChangesOnly (to ∷ []) a b) where
  reads : IsTrue a.told → Reads stat.size from a b
  reads told = record { pieces = (asked told).pieces; few = let few = (asked told).few in omega (arith, few, wide); asked = (asked told).asked }

  small : width ≤ 65536
  small = omega (arith, wide)

  pub putting_failed : (fault : OpFault) → fault ≡ a_fault.TreeFailed → (width ≤ 65536 → IsTrue a.told → FailsPiece from to stat 0 a b) → IsPutting from to stat a b (Err fault)
  putting_failed fault is fails = record {
    past = past;
    reads = reads;
    only = only;
    puts = λ one told. some_failed from to stat a a b 0 (λ _. none_put from to stat a) (fault ≡ a_fault.TreeFailed) is (fails small) told;
    whole = λ ours bytes can. tt;
  }

  module _ (piece : Piece) (found : width ≤ 65536 → Puts from to stat 0 width a b piece)
      (whole : IsOurs a b → (bytes : List ℕ) → bytes_at (now a) from ≡ Some bytes → 0 + width ≤ length bytes → CanPut stat.kind stat.exec 0 (piece_of bytes 0 width) to (now a).things
      → PutsWhole to stat 0 (piece_of bytes 0 width) (now a) (now b) piece) where
    first_piece : IsOurs a b → (bytes : List ℕ) → CanCopy from to stat bytes (now a) → (piece ≡ a_piece.More) × IsGrown to stat bytes (now a) width (now b)
    first_piece ours bytes can =
        let size = size_is from to stat bytes (now a) can in
        let is = whole ours bytes can.read (omega (arith, size, wide)) (first_can from to stat bytes (now a) can width) in
        (is.more, first_grown from to stat bytes (now a) can width (now b) is.made)

    pub putting_over : (refusal : CopyRefusal) → piece ≡ a_piece.Over refusal → IsPutting from to stat a b (Ok (Some refusal))
    putting_over refusal is = record {
      past = past;
      reads = reads;
      only = only;
      puts = λ one. all_over from to stat a a b 0 (λ _. none_put from to stat a) width refusal (subst (Puts from to stat 0 width a b) is (found small));
      whole = λ ours bytes can. absurd (over_more (sym is ∙ (first_piece ours bytes can).0));
    }
      where
        over_more : a_piece.Over refusal ≡ a_piece.More → ⊥
        over_more h = absurd (cc h)

    pub putting_end : piece ≡ a_piece.End → IsPutting from to stat a b (Ok None)
    putting_end is = record {
      past = past;
      reads = reads;
      only = only;
      puts = λ one. all_ended from to stat a a b 0 (λ _. none_put from to stat a) width (subst (Puts from to stat 0 width a b) is (found small));
      whole = λ ours bytes can. absurd (end_more (sym is ∙ (first_piece ours bytes can).0));
    }
      where
        end_more : a_piece.End ≡ a_piece.More → ⊥
        end_more h = absurd (cc h)

    module _ (is : piece ≡ a_piece.More) where
      first_put : IsTrue a.told → PutsPieces from to stat 1 width a b
      first_put told = (a, (refl, refl), subst (λ (n : ℕ). PutsPart from to stat 0 n a b) (omega arith) (subst (Puts from to stat 0 width a b) is (found small) told))

      pub putting_link : stat.kind ≡ a_kind.Link → IsPutting from to stat a b (Ok None)
      putting_link link = record {
        past = past;
        reads = reads;
        only = only;
        puts = λ one told.
            let fits = one told link in
            record { more = 0; size = width; put = record { mid = b; put = first_put told; passes = passes_same b }; all = inl (omega (arith, wide, fits)) };
        whole = λ ours bytes can.
            let size = size_is from to stat bytes (now a) can in
            let small = link_whole from to stat bytes (now a) can link in
            record {
              none = refl;
              copy = grown_done from to stat bytes (now a) can width (now b) (first_piece ours bytes can).1 (omega (arith, size, small, wide));
            };
      }

      module _ (c : History) (more : Extends b c)
          (first : ℕ) (same : first ≡ width)
          (rest_asked : IsTrue b.told → (before : List Asked) → InPieces first (an_ask.Read from) before b.asked → InPieces stat.size (an_ask.Read from) before c.asked)
          (rest_only : IsTrue b.told → ChangesOnly (to ∷ []) b c) where
        pub putting_rest : stat.kind ≡ a_kind.File → (result : Result (Option CopyRefusal) OpFault) → PutsOn from to stat first b c result
            → (IsOurs b c → Completes from to stat first b c result) → IsPutting from to stat a c result
        putting_rest file result puts rest = record {
          past = extends_trans a b c past more;
          reads = λ told. rest_asked (past.told ∙ told) a.asked (subst (λ (w : ℕ). InPieces w (an_ask.Read from) a.asked b.asked) (sym same) (asked told));
          only = λ told. changes_trans (to ∷ []) a b c more (only told) (rest_only (past.told ∙ told));
          puts = λ one. puts a (λ told. subst (λ (w : ℕ). PutsPieces from to stat 1 w a b) (sym same) (first_put told));
          whole = λ ours bytes can.
              rest (ours_second a b c past ours) bytes (now a) can file
              (subst (λ (w : ℕ). IsGrown to stat bytes (now a) w (now b)) (sym same) (first_piece (ours_first a b c more ours) bytes can).1);
        }

-- ---- what is left where no piece is asked for, or where a fault follows

pub putting_none : (from to : List ℕ) (stat : Stat) (a : History) (fault : OpFault) → IsPutting from to stat a a (Err fault)
putting_none from to stat a fault = record {
  past = extends_same a;
  reads = λ told. record { pieces = 0; few = omega arith; asked = sym (append-nil a.asked) };
  only = λ told. changes_passes (to ∷ []) a a (passes_same a);
  puts = λ one told. record { pieces = 0; size = 0; mid = a; put = (refl, refl); rest = inl (passes_same a) };
  whole = λ ours bytes can. tt;
}

pub putting_behind : (from to : List ℕ) (stat : Stat) (a b : History) → IsPutting from to stat a b (Ok None) → (result : Result (Option CopyRefusal) OpFault) → IfOk result (λ refused. refused ≡ None)
    → IsPutting from to stat a b result
putting_behind from to stat a b put (Ok refused) is = subst (λ (r : Option CopyRefusal). IsPutting from to stat a b (Ok r)) (sym is) put
putting_behind from to stat a b put (Err fault) is = record {
  past = put.past;
  reads = put.reads;
  only = put.only;
  puts = λ one told.
      let all = put.puts one told in
      record { pieces = suc all.more; size = all.size; mid = all.put.mid; put = all.put.put; rest = inl all.put.passes };
  whole = λ ours bytes can. tt;
}

-- ---- a piece behind the first

pub end_never : a_piece.End ≡ a_piece.More → ⊥
end_never h = absurd (cc h)

pub over_never : (refusal : CopyRefusal) → a_piece.Over refusal ≡ a_piece.More → ⊥
over_never refusal h = absurd (cc h)

pub take_small : (width : ℕ) (room : List ℕ) → length room ≡ 65536 → length (take width room) ≤ 65536
take_small width room is = let cut = length-take width room in omega (arith, cut, is)

pub rest_piece : (from to : List ℕ) (stat : Stat) (bytes : List ℕ) (start : Moment) → CanCopy from to stat bytes start → (place width wide : ℕ) → wide ≡ width → (before after : Moment)
    → IsGrown to stat bytes start place before → stat.kind ≡ a_kind.File → 0 < place → place + width ≤ stat.size → (piece : Piece)
    → (bytes_at before from ≡ Some bytes → place + wide ≤ length bytes → CanPut stat.kind stat.exec place (piece_of bytes place wide) to before.things
    → PutsWhole to stat place (piece_of bytes place wide) before after piece)
    → (piece ≡ a_piece.More) × IsGrown to stat bytes start (place + width) after
rest_piece from to stat bytes start can place width wide same before after grown file some fits piece whole =
    let size = size_is from to stat bytes start can in
    let is = grown_piece from to stat bytes start can place before grown file some wide (omega (arith, fits, size, same)) after piece whole in
    (is.0, subst (λ (w : ℕ). IsGrown to stat bytes start (place + w) after) same is.1)
