-- A copy grows piece by piece, where nobody else steps.
use Rattle.std.proofs.Common.{ℕ, zero, suc, ◌≡◌, ◌+◌, ◌≤◌, ◌<◌, Bool, true, false, ◌||◌, ◌&&◌, List, [], ◌∷◌, ◌++◌, length, take, drop, Option, Some, None, refl, sym, ap, ◌∙◌, subst, inl, inr, arith}
use Rattle.std.specs.Prelude.{is_some, option_map, ◌==◌}
use Rattle.std.specs.Option.{option_and_then}
use Rattle.std.specs.Str.{bytes_eq}
use Rattle.std.proofs.lemmas.Bool.{cond-true, eq-eqb, le-leb, leb-true}
use Rattle.std.proofs.lemmas.List.{length-take, length-take-le, take_all}
use Rattle.hg_base.specs.declared.stat.Kind.{Kind}
use Rattle.hg_base.specs.declared.stat.Kind.TheVariants as a_kind
use Rattle.hg_base.specs.declared.stat.Stat.{Stat}
use Rattle.hg_base.specs.declared.time.Time.{Time}
use Rattle.hg_base.proofs.Within.{apart_below, equal_bytes}
use Rattle.hg_ops.specs.Parts.{HasCopy}
use Rattle.hg_ops.specs.Putting.{CanCopy, IsGrown, PutsWhole, piece_of}
use Rattle.hg_ops.specs.declared.putting.Piece.{Piece}
use Rattle.hg_ops.specs.declared.putting.Piece.TheVariants as a_piece
use Rattle.hg_tree.specs.Moment.{Moment, Things, bytes_at, bytes_of, is_dir, is_short_thing, stat_of}
use Rattle.hg_tree.specs.Own.{CanPut, IsClear, IsPut, StaysDir, extended, has_length, is_loose, is_puttable_at, put_thing}
use Rattle.hg_tree.specs.Touched.{TouchesOnly}
use Rattle.hg_tree.specs.declared.thing.Placed.{Placed}
use Rattle.hg_tree.specs.declared.thing.Thing.{Thing}
use Rattle.hg_tree.specs.declared.thing.Thing.TheVariants as a_thing
use Rattle.hg_tree.proofs.Touching.{put_touches}

-- ---- what is touched by one step after another

stays_trans : (a b c : Option Placed) → StaysDir a b → StaysDir b c → StaysDir a c
stays_trans a b c first (inl same) = subst (λ (o : Option Placed). StaysDir a o) (sym same) first
stays_trans a b c (inl same) (inr made) = inr (ap is_some (sym same) ∙ made.0 ∙ ap is_dir same, made.1)
stays_trans a b c (inr first) (inr made) = inr (first.0, made.1)

touches_trans : (paths : List (List ℕ)) (a b c : Things) → TouchesOnly paths a b → TouchesOnly paths b c → TouchesOnly paths a c
touches_trans paths a b c p q = record {
  above = λ at out up. stays_trans (a at) (b at) (c at) (p.above at out up) (q.above at out up);
  apart = λ at out far. q.apart at out far ∙ p.apart at out far;
}

-- ---- the source

pub some_is : {A : Type 0} (a b : A) → Some a ≡ Some b → a ≡ b
some_is {A} a b same = ap value same
  where
    value : Option A → A
    value None = a
    value (Some x) = x

thing_is : (thing : Thing) (time : Time) (bytes : List ℕ) → bytes_of thing ≡ Some bytes
    → (thing ≡ put_thing (stat_of thing time).kind (stat_of thing time).exec bytes) × ((stat_of thing time).size ≡ length bytes)
thing_is (a_thing.File exec all) time bytes is = (ap (a_thing.File exec) (some_is all bytes is), ap length (some_is all bytes is))
thing_is (a_thing.Link all) time bytes is = (ap a_thing.Link (some_is all bytes is), ap length (some_is all bytes is))
thing_is a_thing.Dir time bytes is = absurd (cc is)
thing_is a_thing.Other time bytes is = absurd (cc is)

pub there_is : (there : Option Placed) (stat : Stat) (bytes : List ℕ) → option_map (λ placed. stat_of placed.thing placed.mtime) there ≡ Some stat
    → option_and_then (λ placed. bytes_of placed.thing) there ≡ Some bytes
    → (option_map (λ placed. placed.thing) there ≡ Some (put_thing stat.kind stat.exec bytes)) × (stat.size ≡ length bytes)
there_is None stat bytes shown read = absurd (cc shown)
there_is (Some placed) stat bytes shown read =
    let same : stat_of placed.thing placed.mtime ≡ stat = some_is (stat_of placed.thing placed.mtime) stat shown in
    let is = thing_is placed.thing placed.mtime bytes read in (
      ap Some (is.0 ∙ ap (λ (s : Stat). put_thing s.kind s.exec bytes) same),
      sym (ap (λ (s : Stat). s.size) same) ∙ is.1,
    )

-- a front of what is short is short
short_front : (kind : Kind) (exec : Bool) (bytes : List ℕ) (n : ℕ) → is_short_thing (put_thing kind exec bytes) ≡ true → is_short_thing (put_thing kind exec (take n bytes)) ≡ true
short_front a_kind.File exec bytes n short = refl
short_front a_kind.Link exec bytes n short =
    let small = leb-true (length bytes) 4095 short in
    let cut = length-take n bytes in
    le-leb (length (take n bytes)) 4095 (omega (arith, small, cut))
short_front a_kind.Dir exec bytes n short = refl
short_front a_kind.Other exec bytes n short = refl

link_short : (exec : Bool) (bytes : List ℕ) → is_short_thing (put_thing a_kind.Link exec bytes) ≡ true → length bytes ≤ 4095
link_short exec bytes short = leb-true (length bytes) 4095 short

-- two pieces are one
nothing : (m : ℕ) → take {A = ℕ} m [] ≡ []
nothing zero = refl
nothing (suc m) = refl

piece_more : (n m : ℕ) (bytes : List ℕ) → take n bytes ++ take m (drop n bytes) ≡ take (n + m) bytes
piece_more zero m bytes = let same : m ≡ 0 + m = omega arith in ap (λ (k : ℕ). take k bytes) same
piece_more (suc n) m [] = nothing m ∙ sym (nothing (suc n + m))
piece_more (suc n) m (b ∷ bytes) =
    let same : suc (n + m) ≡ suc n + m = omega arith in
    ap (λ (l : List ℕ). b ∷ l) (piece_more n m bytes) ∙ ap (λ (k : ℕ). take k (b ∷ bytes)) same

same_length : (n : ℕ) → (n == n) ≡ true
same_length n = eq-eqb n n refl

module _ (from to : List ℕ) (stat : Stat) (bytes : List ℕ) (start : Moment) (can : CanCopy from to stat bytes start) where
  source_is : (option_map (λ placed. placed.thing) (start.things from) ≡ Some (put_thing stat.kind stat.exec bytes)) × (stat.size ≡ length bytes)
  source_is = there_is (start.things from) stat bytes can.shown can.read

  pub size_is : stat.size ≡ length bytes
  size_is = source_is.1

  pub first_can : (width : ℕ) → CanPut stat.kind stat.exec 0 (piece_of bytes 0 width) to start.things
  first_can width = record {
    here = ap (λ (o : Option Placed). is_loose o && is_short_thing (put_thing stat.kind stat.exec (take width bytes))) can.here ∙ short_front stat.kind stat.exec bytes width can.short;
    above = can.above;
  }

  pub first_grown : (width : ℕ) (moment : Moment) → IsPut stat.kind stat.exec 0 (piece_of bytes 0 width) to start moment → IsGrown to stat bytes start width moment
  first_grown width moment step = record {
    time = moment.clock;
    there = step.things to ∙ cond-true (bytes_eq to to) _ _ (equal_bytes to);
    others = put_touches to start moment stat.kind stat.exec 0 (piece_of bytes 0 width) step;
  }

  module _ (place : ℕ) (moment : Moment) (grown : IsGrown to stat bytes start place moment) where
    source_stays : moment.things from ≡ start.things from
    source_stays = grown.others.apart from (ap (λ (b : Bool). b || false) can.apart) (ap (λ (b : Bool). b || false) can.beside)

    pub grown_read : bytes_at moment from ≡ Some bytes
    grown_read = ap (option_and_then (λ (placed : Placed). bytes_of placed.thing)) source_stays ∙ can.read

    grown_clear : IsClear to moment.things
    grown_clear dir below some = elim (grown.others.above dir (ap (λ (b : Bool). b || false) (apart_below dir to below)) (ap (λ (b : Bool). b || false) below)) [
      | inl same ↦ ap is_dir same ∙ can.above dir below (ap is_some (sym same) ∙ some)
      | inr made ↦ made.1
    ]

    pub grown_can : stat.kind ≡ a_kind.File → 0 < place → place ≤ length bytes → (part : List ℕ) → CanPut stat.kind stat.exec place part to moment.things
    grown_can file some within part = record { here = here place refl some; above = grown_clear }
      where
        here : (n : ℕ) → n ≡ place → 0 < n → is_puttable_at stat.kind stat.exec n part (moment.things to) ≡ true
        here zero is some = absurd (omega (arith, some))
        here (suc n) is some =
            ap (has_length (suc n)) (grown.there ∙ ap (λ (k : Kind). Some (record { thing = put_thing k stat.exec (take place bytes); mtime = grown.time })) file)
            ∙ ap (λ (l : ℕ). l == suc n) (length-take-le place bytes within ∙ sym is)
            ∙ same_length (suc n)

    pub grown_more : stat.kind ≡ a_kind.File → 0 < place → (width : ℕ) (after : Moment) → IsPut stat.kind stat.exec place (piece_of bytes place width) to moment after
        → IsGrown to stat bytes start (place + width) after
    grown_more file some width after step = record {
      time = after.clock;
      there = there place refl some step;
      others = touches_trans (to ∷ []) start.things moment.things after.things grown.others (put_touches to moment after stat.kind stat.exec place (piece_of bytes place width) step);
    }
      where
        there : (n : ℕ) → n ≡ place → 0 < n → IsPut stat.kind stat.exec n (piece_of bytes place width) to moment after
            → after.things to ≡ Some (record { thing = put_thing stat.kind stat.exec (take (place + width) bytes); mtime = after.clock })
        there zero is some step = absurd (omega (arith, some))
        there (suc n) is some step =
            step.things to ∙ cond-true (bytes_eq to to) _ _ (equal_bytes to)
            ∙ ap (extended (piece_of bytes place width) after.clock) (grown.there ∙ ap (λ (k : Kind). Some (record { thing = put_thing k stat.exec (take place bytes); mtime = grown.time })) file)
            ∙ ap (λ (l : List ℕ). Some (record { thing = a_thing.File stat.exec l; mtime = after.clock })) (piece_more place width bytes)
            ∙ ap (λ (k : Kind). Some (record { thing = put_thing k stat.exec (take (place + width) bytes); mtime = after.clock })) (sym file)

    -- a piece behind what has grown
    pub grown_piece : stat.kind ≡ a_kind.File → 0 < place → (width : ℕ) → place + width ≤ length bytes → (after : Moment) (piece : Piece)
        → (bytes_at moment from ≡ Some bytes → place + width ≤ length bytes → CanPut stat.kind stat.exec place (piece_of bytes place width) to moment.things
        → PutsWhole to stat place (piece_of bytes place width) moment after piece)
        → (piece ≡ a_piece.More) × IsGrown to stat bytes start (place + width) after
    grown_piece file some width fits after piece whole =
        let is = whole grown_read fits (grown_can file some (omega (arith, fits)) (piece_of bytes place width)) in
        (is.more, grown_more file some width after is.made)

    pub grown_done : length bytes ≤ place → HasCopy from to start moment
    grown_done all = record {
      here = ap (option_map (λ (placed : Placed). placed.thing)) grown.there ∙ ap (λ (l : List ℕ). Some (put_thing stat.kind stat.exec l)) (take_all place bytes all) ∙ sym source_is.0;
      others = grown.others;
    }

  pub link_whole : stat.kind ≡ a_kind.Link → length bytes ≤ 4095
  link_whole link = link_short stat.exec bytes (subst (λ (k : Kind). is_short_thing (put_thing k stat.exec bytes) ≡ true) link can.short)
