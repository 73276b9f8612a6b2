-- Steps that put parts of a source, and what they leave.
use Rattle.std.proofs.Common.{ℕ, zero, suc, ◌≡◌, ◌+◌, ◌-◌, ◌*◌, ◌≤◌, ◌<◌, min, Bool, true, false, cond, List, [], ◌∷◌, length, take, Option, Some, None, Result, Ok, Err, refl, sym, ap, ◌∙◌, subst, inl, inr, ◌⊎◌, arith}
use Rattle.std.specs.Prelude.{IsTrue, nat_lt}
use Rattle.std.proofs.lemmas.Bool.{cases_lt, ltb-false, ltb-true}
use Rattle.std.proofs.lemmas.List.{length-take}
use Rattle.hg_base.specs.declared.stat.Stat.{Stat}
use Rattle.hg_compare.specs.Pieces.{Once}
use Rattle.hg_compare.specs.Same.{InPieces}
use Rattle.hg_ops.specs.Parts.{GoesUpTo, HasPart, IsPart, PutsAll, PutsInPart, PutsPart, PutsPieces, PutsSome, PutsSource}
use Rattle.hg_ops.specs.Putting.{EndsPutting, FailsPiece, IsKeptOut, PutsBy, Puts, ReadsEnd, ReadsPiece}
use Rattle.hg_ops.specs.Seen.{Was}
use Rattle.hg_ops.specs.declared.copy_refusal.CopyRefusal.{CopyRefusal}
use Rattle.hg_ops.specs.declared.copy_refusal.CopyRefusal.TheVariants as a_word
use Rattle.hg_ops.specs.declared.putting.Piece.{Piece}
use Rattle.hg_ops.specs.declared.putting.Piece.TheVariants as a_piece
use Rattle.hg_ops.specs.declared.refusal.OpFault.{OpFault}
use Rattle.hg_ops.specs.declared.refusal.OpFault.TheVariants as a_fault
use Rattle.hg_ops.specs.declared.refusal.Refusal.TheVariants as a_refusal
use Rattle.hg_tree.specs.History.{History, AreFormed, Extends, Passes}
use Rattle.hg_tree.specs.Moment.{Moment, bytes_at}
use Rattle.hg_tree.specs.Own.{Acts, CannotPut, IsPut, IsPutInPart, MayPut}
use Rattle.hg_tree.specs.Own as own
use Rattle.hg_tree.specs.Touched.{ChangesOnly}
use Rattle.hg_tree.proofs.Histories.{extends_same, extends_trans}
use Rattle.hg_tree.proofs.Spans.{passes_same, passes_trans}
use Rattle.hg_tree.proofs.Touching.{changes_passes, changes_trans, may_put_only, puts_only}
use Rattle.hg_ops.proofs.Moments.{was_last, was_wider}

-- a step behind a span in which the caller made none
acts_behind : (step : Moment → Moment → Type 0) (a b c : History) → Passes a b → Acts step b c → Acts step a c
acts_behind step a b c first acts = record {
  past = extends_trans a b c first.past acts.past;
  before = acts.before;
  last = acts.last;
  later = omega (arith, first.past.later, acts.later);
  by_others = λ k from below. elim (cases_lt k b.last) [
    | inl early ↦ acts.past.who k early ∙ first.by_others k from early
    | inr late ↦ acts.by_others k late below
  ];
  by_us = acts.by_us;
  made = acts.made;
}

-- whole pieces were put up to a place
abbrev pub PutsWholePieces : List ℕ → List ℕ → Stat → ℕ → History → History → Type 0
PutsWholePieces from to stat place a b = (k : ℕ) × PutsPieces from to stat k (65536 * k) a b × (place ≡ 65536 * k)

-- pieces were put up to a place, one at least; they are whole, or the place is as far as a look showed
pub record HasPieces (from to : List ℕ) (stat : Stat) (place : ℕ) (a b : History) : Type 0 where
  pub more : ℕ
  pub put : PutsPieces from to stat (suc more) place a b
  pub whole : (place ≡ 65536 * suc more) ⊎ (place ≡ stat.size)

pub taken : (room : List ℕ) (n width : ℕ) → length room ≡ width → n ≤ width → length (take n room) ≡ n
taken room n width same few = let short = length-take n room in omega (arith, short, same, few)

module _ (from to : List ℕ) (stat : Stat) where
  -- ---- one step

  -- what was read up to b is a part of the source by c
  pub part_of : (a b c : History) (place width n : ℕ) (room : List ℕ) → Passes a b → Extends b c → IsTrue b.told → place + width ≤ stat.size → width ≤ 65536 → length room ≡ width
      → (place ≡ 0) ⊎ (0 < n) → ReadsPiece from place width room b (Some n) → IsPart from a c stat.size place (take n room)
  part_of a b c place width n room first more told within small same some read =
      let short = length-take n room in
      let all : length (take n room) ≡ n = omega (arith, short, same, read.0) in
      record {
        within = omega (arith, within, read.0, all);
        few = omega (arith, small, read.0, all);
        some = elim some [ inl start ↦ inl start | inr more ↦ inr (omega (arith, more, all)) ];
        read = elim (read.1 told) [
          | inl nothing ↦ inl (ap (λ (k : ℕ). take k room) nothing)
          | inr has ↦ inr (was_wider a b b c (λ moment. HasPart place (take n room) (bytes_at moment from)) first.past.later more (was_last b b (λ moment. HasPart place (take n room) (bytes_at moment from)) (omega arith) has))
        ];
      }

  module _ (a b c : History) (place : ℕ) (part : List ℕ) (first : Passes a b) where
    pub only_put : (done : Bool) → AreFormed c → own.Puts stat.kind stat.exec place part to done b c → ChangesOnly (to ∷ []) a c
    only_put true formed acts = changes_trans (to ∷ []) a b c acts.past (changes_passes (to ∷ []) a b first) (puts_only to b c formed stat.kind stat.exec place part true acts)
    only_put false formed none = changes_passes (to ∷ []) a c (passes_trans a b c first none.0)

    pub only_failed : AreFormed c → MayPut stat.kind stat.exec place part to b c → ChangesOnly (to ∷ []) a c
    only_failed formed (inl none) = changes_passes (to ∷ []) a c (passes_trans a b c first none)
    only_failed formed (inr acts) = changes_trans (to ∷ []) a b c acts.past (changes_passes (to ∷ []) a b first) (may_put_only to b c formed stat.kind stat.exec place part (inr acts))

    module _ (part_is : IsPart from a c stat.size place part) where
      pub put_failed : MayPut stat.kind stat.exec place part to b c → FailsPiece from to stat place a c
      put_failed (inl none) = inl (passes_trans a b c first none)
      put_failed (inr acts) = inr (record { part = part; source = part_is; made = acts_behind (IsPutInPart stat.kind stat.exec place part to) a b c first acts })

      pub kept_out : own.Puts stat.kind stat.exec place part to false b c → IsKeptOut from to stat place a c
      kept_out none = record { passes = passes_trans a b c first none.0; part = part; source = part_is; cannot = none.1 }

    put_of : IsPart from a c stat.size place part → Acts (IsPut stat.kind stat.exec place part to) b c → (size : ℕ) → size ≡ place + length part → PutsPart from to stat place size a c
    put_of part_is acts size is = record { part = part; upto = is; source = part_is; made = acts_behind (IsPut stat.kind stat.exec place part to) a b c first acts }

    pub puts_made : (width n : ℕ) → length part ≡ n → n ≤ width → (IsTrue a.told → IsPart from a c stat.size place part) → ReadsEnd from place width b (Some n)
        → (IsTrue a.told → Acts (IsPut stat.kind stat.exec place part to) b c) → (piece : Piece) → piece ≡ cond (nat_lt n width) a_piece.End a_piece.More → Puts from to stat place width a c piece
    puts_made width n all few part_is end acts piece = by_less (nat_lt n width) refl
      where
        by_less : (less : Bool) → nat_lt n width ≡ less → piece ≡ cond less a_piece.End a_piece.More → Puts from to stat place width a c piece
        by_less true less is =
            subst (Puts from to stat place width a c) (sym is)
            (λ told. record {
              size = place + n;
              put = inl (put_of (part_is told) (acts told) (place + n) (omega (arith, all)));
              end =
                  was_wider a b b c (λ moment. GoesUpTo (place + n) (bytes_at moment from)) first.past.later (acts told).past
                  (was_last b b (λ moment. GoesUpTo (place + n) (bytes_at moment from)) (omega arith) (end (first.past.told ∙ told) (ltb-true n width less)));
            })
        by_less false less is =
            let most = ltb-false n width less in
            subst (Puts from to stat place width a c) (sym is) (λ told. put_of (part_is told) (acts told) (place + width) (omega (arith, all, few, most)))

  -- the source ended behind the pieces in front
  pub ended : (a b : History) (place width n : ℕ) → Passes a b → (n ≡ 0) × (0 < place) → (place ≡ 0) ⊎ (0 < width) → ReadsEnd from place width b (Some n) → Puts from to stat place width a b a_piece.End
  ended a b place width n passes (none, some) wide end told = record {
    size = place;
    put = inr (some, refl, passes);
    end =
        was_last a b (λ moment. GoesUpTo place (bytes_at moment from)) passes.past.later
        (subst (λ (k : ℕ). GoesUpTo k (bytes_at (b.at b.last) from)) (omega (arith, none)) (end (passes.past.told ∙ told) (room wide)));
  }
    where
      room : (place ≡ 0) ⊎ (0 < width) → n < width
      room (inl start) = absurd (omega (arith, start, some))
      room (inr more) = omega (arith, none, more)

  -- ---- pieces

  pub pieces_past : (k size : ℕ) (a b : History) → PutsPieces from to stat k size a b → Extends a b
  pieces_past zero size a b (none, same) = subst (Extends a) (sym same) (extends_same a)
  pieces_past (suc k) size a b (mid, put, part) = extends_trans a mid b (pieces_past k (65536 * k) a mid put) part.made.past

  pub none_put : (a : History) → PutsWholePieces from to stat 0 a a
  none_put a = (0, (refl, refl), refl)

  module _ (start a b : History) (place : ℕ) (whole : IsTrue start.told → PutsWholePieces from to stat place start a) where
    told_on : IsTrue start.told → IsTrue a.told
    told_on told = let put = whole told in (pieces_past put.0 (65536 * put.0) start a put.1).told ∙ told

    pub all_over : (width : ℕ) (refusal : CopyRefusal) → Puts from to stat place width a b (a_piece.Over refusal) → PutsAll from to stat start b (Some refusal)
    all_over width (a_word.Source a_refusal.NotThere) over = λ told.
        let put = whole told in
        let lost = over (told_on told) in
        record { pieces = put.0; put = record { mid = a; put = put.1; passes = lost.passes }; gone = lost.gone }
    all_over width (a_word.Target a_refusal.Exists) over = λ told.
        let put = whole told in
        let kept = over (told_on told) in
        record {
          pieces = put.0;
          put = record { mid = a; put = put.1; passes = kept.passes };
          part = kept.part;
          source = subst (λ (p : ℕ). IsPart from a b stat.size p kept.part) put.2 kept.source;
          cannot = subst (λ (p : ℕ). CannotPut stat.kind stat.exec p kept.part to (b.at b.last).things) put.2 kept.cannot;
        }
    all_over width (a_word.Source a_refusal.BadPath) over = over
    all_over width (a_word.Source a_refusal.NotTracked) over = over
    all_over width (a_word.Source a_refusal.Special) over = over
    all_over width (a_word.Source (a_refusal.Clash other)) over = over
    all_over width (a_word.Source a_refusal.Changed) over = over
    all_over width (a_word.Source a_refusal.Added) over = over
    all_over width (a_word.Source a_refusal.StillThere) over = over
    all_over width (a_word.Source a_refusal.Exists) over = over
    all_over width (a_word.Target a_refusal.BadPath) over = over
    all_over width (a_word.Target a_refusal.NotThere) over = over
    all_over width (a_word.Target a_refusal.NotTracked) over = over
    all_over width (a_word.Target a_refusal.Special) over = over
    all_over width (a_word.Target (a_refusal.Clash other)) over = over
    all_over width (a_word.Target a_refusal.Changed) over = over
    all_over width (a_word.Target a_refusal.Added) over = over
    all_over width (a_word.Target a_refusal.StillThere) over = over

    -- one piece more
    pub piece_more : IsTrue start.told → (size : ℕ) → PutsPart from to stat place size a b → (k : ℕ) × PutsPieces from to stat (suc k) size start b × (place ≡ 65536 * k)
    piece_more told size part =
        let put = whole told in
        (put.0, (a, put.1, subst (λ (p : ℕ). PutsPart from to stat p size a b) put.2 part), put.2)

    pub all_ended : (width : ℕ) → Puts from to stat place width a b a_piece.End → PutsAll from to stat start b None
    all_ended width ends told = by_put (whole told) end.put
      where
        end : EndsPutting from to stat place a b
        end = ends (told_on told)

        end_on : (past : Extends start a) → Was start b (λ moment. GoesUpTo end.size (bytes_at moment from))
        end_on past = was_wider start a b b (λ moment. GoesUpTo end.size (bytes_at moment from)) past.later (extends_same b) end.end

        by_put : PutsWholePieces from to stat place start a → PutsPart from to stat place end.size a b ⊎ ((0 < place) × (end.size ≡ place) × Passes a b) → PutsSource from to stat start b
        by_put (k, put, is) (inl part) = record {
          more = k;
          size = end.size;
          put = record { mid = b; put = (a, put, subst (λ (p : ℕ). PutsPart from to stat p end.size a b) is part); passes = passes_same b };
          all = inr (end_on (pieces_past k (65536 * k) start a put));
        }
        by_put (zero, put, is) (inr (some, same, passes)) = absurd (omega (arith, some, is))
        by_put (suc k, put, is) (inr (some, same, passes)) = record {
          more = k;
          size = end.size;
          put = record { mid = a; put = subst (λ (n : ℕ). PutsPieces from to stat (suc k) n start a) (sym (same ∙ is)) put; passes = passes };
          all = inr (end_on (pieces_past (suc k) (65536 * suc k) start a put));
        }

    pub some_failed : (Failed : Type 0) → Failed → (IsTrue a.told → FailsPiece from to stat place a b) → IsTrue start.told → PutsSome from to stat Failed start b
    some_failed Failed failed fails told =
        let put = whole told in
        record { pieces = put.0; size = 65536 * put.0; mid = a; put = put.1; rest = rest put.2 (fails (told_on told)) }
      where
        rest : {n : ℕ} → place ≡ n → FailsPiece from to stat place a b → Passes a b ⊎ (Failed × PutsInPart from to stat n a b)
        rest is (inl passes) = inl passes
        rest is (inr front) = inr (failed, subst (λ (p : ℕ). PutsInPart from to stat p a b) is front)

  -- ---- behind the first piece

  pub first_pieces : (first : ℕ) (a b : History) → first ≡ min stat.size 65536 → PutsPieces from to stat 1 first a b → HasPieces from to stat first a b
  first_pieces first a b is put = record {
    more = 0;
    put = put;
    whole = elim (cases_lt stat.size 65536) [ inl less ↦ inr (omega (arith, is, less)) | inr most ↦ inl (omega (arith, is, most)) ];
  }

  pub whole_pieces : (place : ℕ) (start a : History) → place < stat.size → (IsTrue start.told → HasPieces from to stat place start a) → IsTrue start.told → PutsWholePieces from to stat place start a
  whole_pieces place start a below has told =
      let put = has told in
      elim put.whole [
        | inl is ↦ (suc put.more, subst (λ (n : ℕ). PutsPieces from to stat (suc put.more) n start a) is put.put, is)
        | inr all ↦ absurd (omega (arith, all, below))
      ]

  pub more_pieces : (place width : ℕ) (start a b : History) → place < stat.size → width ≡ min (stat.size - place) 65536 → (IsTrue start.told → HasPieces from to stat place start a) → IsTrue start.told
      → Puts from to stat place width a b a_piece.More → HasPieces from to stat (place + width) start b
  more_pieces place width start a b below wide has told part =
      let whole = whole_pieces place start a below has in
      let more = piece_more start a b place whole told (place + width) (part (told_on start a b place whole told)) in
      record {
        more = more.0;
        put = more.1;
        whole = elim (cases_lt (stat.size - place) 65536) [ inl less ↦ inr (omega (arith, wide, less, below)) | inr most ↦ inl (omega (arith, wide, most, more.2)) ];
      }

  pub pieces_done : (place : ℕ) (start a : History) → place ≡ stat.size → (IsTrue start.told → HasPieces from to stat place start a) → PutsAll from to stat start a None
  pieces_done place start a all has told =
      let put = has told in
      record { more = put.more; size = place; put = record { mid = a; put = put.put; passes = passes_same a }; all = inl all }

  -- whatever came of the pieces, pieces were put
  pub some_put : (a b : History) (result : Result (Option CopyRefusal) OpFault) → PutsBy from to stat a b result → IsTrue a.told → PutsSome from to stat (result ≡ Err a_fault.TreeFailed) a b
  some_put a b (Ok None) by told = let all = by told in record { pieces = suc all.more; size = all.size; mid = all.put.mid; put = all.put.put; rest = inl all.put.passes }
  some_put a b (Ok (Some (a_word.Source a_refusal.NotThere))) by told =
      let lost = by told in record { pieces = lost.pieces; size = 65536 * lost.pieces; mid = lost.put.mid; put = lost.put.put; rest = inl lost.put.passes }
  some_put a b (Ok (Some (a_word.Target a_refusal.Exists))) by told =
      let met = by told in record { pieces = met.pieces; size = 65536 * met.pieces; mid = met.put.mid; put = met.put.put; rest = inl met.put.passes }
  some_put a b (Ok (Some (a_word.Source a_refusal.BadPath))) by told = absurd by
  some_put a b (Ok (Some (a_word.Source a_refusal.NotTracked))) by told = absurd by
  some_put a b (Ok (Some (a_word.Source a_refusal.Special))) by told = absurd by
  some_put a b (Ok (Some (a_word.Source (a_refusal.Clash other)))) by told = absurd by
  some_put a b (Ok (Some (a_word.Source a_refusal.Changed))) by told = absurd by
  some_put a b (Ok (Some (a_word.Source a_refusal.Added))) by told = absurd by
  some_put a b (Ok (Some (a_word.Source a_refusal.StillThere))) by told = absurd by
  some_put a b (Ok (Some (a_word.Source a_refusal.Exists))) by told = absurd by
  some_put a b (Ok (Some (a_word.Target a_refusal.BadPath))) by told = absurd by
  some_put a b (Ok (Some (a_word.Target a_refusal.NotThere))) by told = absurd by
  some_put a b (Ok (Some (a_word.Target a_refusal.NotTracked))) by told = absurd by
  some_put a b (Ok (Some (a_word.Target a_refusal.Special))) by told = absurd by
  some_put a b (Ok (Some (a_word.Target (a_refusal.Clash other)))) by told = absurd by
  some_put a b (Ok (Some (a_word.Target a_refusal.Changed))) by told = absurd by
  some_put a b (Ok (Some (a_word.Target a_refusal.Added))) by told = absurd by
  some_put a b (Ok (Some (a_word.Target a_refusal.StillThere))) by told = absurd by
  some_put a b (Err fault) by told =
      let some = by told in
      record {
        pieces = some.pieces;
        size = some.size;
        mid = some.mid;
        put = some.put;
        rest = elim some.rest [ inl passes ↦ inl passes | inr (failed, front) ↦ inr (ap Err failed, front) ];
      }

-- ---- what is asked

pub once_of : {A : Type 0} (width : ℕ) (ask : A) (old new : List A) → width ≤ 65536 → InPieces width ask old new → Once ask old new
once_of width ask old new small reads = record { times = reads.pieces; few = let few = reads.few in omega (arith, few, small); asked = reads.asked }
