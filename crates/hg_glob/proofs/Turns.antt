-- A row from the row before, as the texts that it speaks of; a row without marks stays without.
use Rattle.std.proofs.Common.{◌≡◌, ℕ, zero, suc, ◌≤◌, length, arith, Bool, true, false, not, cond, ◌&&◌, ◌||◌, ◌==◌, List, [], ◌∷◌, ◌++◌, drop, reverse, Option, Some, None, refl, sym, ap, subst, ◌∙◌}
use Rattle.std.specs.Bool.{Decides}
use Rattle.std.proofs.lemmas.Bool.{false≢true}
use Rattle.std.proofs.lemmas.List.{reverse-append}
use Rattle.std.proofs.lemmas.Bool.Decides.{Decides-like, not_from_Decides}
use Rattle.hg_glob.specs.Accepted.{Ends, Accepts, BracesAre, HitIs}
use Rattle.hg_glob.specs.Part.{before, reading}
use Rattle.hg_glob.specs.Row.{first, step, turned, plain, is_end, no_mark, Turned, put, open_step, comma_step, is_char, is_inside, IsOff, OffBelow}
use Rattle.std.specs.Prelude.{is_some}
use Rattle.hg_glob.specs.declared.part.Part.{Part}
use Rattle.hg_glob.specs.declared.part.Part.TheVariants as a_part
use Rattle.hg_glob.specs.declared.mark.Mark.{Mark}
use Rattle.hg_glob.specs.declared.mark.Brace.{Brace}
use Rattle.hg_glob.specs.declared.mark.Going.{Going}
use Rattle.hg_glob.proofs.Then.{empty_then, then_empty}
use Rattle.hg_glob.proofs.Rows.{BehindIs, RowIs, grown, IfThere, step_is}

pub record TurnedIs (inner : Bool) (c : Option ℕ) (parts : List Part) (d : Turned) (t : List ℕ) : Type 0 where
  pub row : RowIs inner parts d.marks t
  pub hit : HitIs c (reading parts).spans d.going.hit
  pub braces_are : BracesAre inner (reading parts).frames d.going.braces t

-- the first mark of a row
pub first_is : (inner : Bool) (parts : List Part) (marks : List Mark) (t : List ℕ) → RowIs inner parts marks t → Decides (first marks).here (Accepts inner (reading parts) t)
first_is inner [] [] t h = absurd h
first_is inner [] (m ∷ marks) t h = h
first_is inner (p ∷ parts) [] t h = absurd h
first_is inner (p ∷ parts) (m ∷ marks) t h = h.0

pub end_is : (inner : Bool) (c : Option ℕ) (t : List ℕ) → Decides (is_end inner c) (Ends inner (grown c t))
end_is inner None t = (λ e. tt, λ e. refl)
end_is inner (Some c) t = (λ e. e, λ e. e)

first_there : (inner : Bool) (c : Option ℕ) (p : Part) (parts : List Part) (m : Mark) (marks : List Mark) (t : List ℕ) → IfThere c (RowIs inner (p ∷ parts) (m ∷ marks) t) → IfThere c (Decides m.here (Accepts inner (before p (reading parts)) t))
first_there inner None p parts m marks t h = tt
first_there inner (Some c) p parts m marks t h = h.0

behind_there : (inner : Bool) (c : Option ℕ) (p : Part) (parts : List Part) (m : Mark) (marks : List Mark) (t : List ℕ) → IfThere c (RowIs inner (p ∷ parts) (m ∷ marks) t) → IfThere c (BehindIs inner p (reading parts) m t)
behind_there inner None p parts m marks t h = tt
behind_there inner (Some c) p parts m marks t h = h.1

rest_there : (inner : Bool) (c : Option ℕ) (p : Part) (parts : List Part) (m : Mark) (marks : List Mark) (t : List ℕ) → IfThere c (RowIs inner (p ∷ parts) (m ∷ marks) t) → IfThere c (RowIs inner parts marks t)
rest_there inner None p parts m marks t h = tt
rest_there inner (Some c) p parts m marks t h = h.2

next_there : (inner : Bool) (c : Option ℕ) (parts : List Part) (marks : List Mark) (t : List ℕ) → IfThere c (RowIs inner parts marks t) → IfThere c (Decides (first marks).here (Accepts inner (reading parts) t))
next_there inner None parts marks t h = tt
next_there inner (Some c) parts marks t h = first_is inner parts marks t h

none_there : (inner : Bool) (c : Option ℕ) (p : Part) (parts : List Part) (t : List ℕ) → IfThere c (RowIs inner (p ∷ parts) [] t) → IfThere c ⊥
none_there inner None p parts t h = tt
none_there inner (Some c) p parts t h = h

from_none : (c : Option ℕ) (P : Type 0) → IfThere c ⊥ → IfThere c P
from_none None P h = tt
from_none (Some c) P h = absurd h

put_is : (inner : Bool) (c : Option ℕ) (p : Part) (parts : List Part) (t : List ℕ) (below : Turned) (was next : Mark) → TurnedIs inner c parts below (grown c t)
    → IfThere c (Decides was.here (Accepts inner (before p (reading parts)) t)) → IfThere c (BehindIs inner p (reading parts) was t) → IfThere c (Decides next.here (Accepts inner (reading parts) t))
    → TurnedIs inner c (p ∷ parts) (put below (step c p was next (first below.marks).here below.going)) (grown c t)
put_is inner c p parts t below was next h was_is was_behind next_is =
    let s = step_is inner c t p (reading parts) was next (first below.marks).here below.going (record {
      was_is = was_is;
      was_behind = was_behind;
      next_is = next_is;
      now_is = first_is inner parts below.marks (grown c t) h.row;
      hit_is = h.hit;
      braces_are = h.braces_are;
    }) in
    record { row = (s.here, s.behind, h.row); hit = s.hit; braces_are = s.braces_are }

-- the row over the longer text, where the row before was that of the text
pub turned_is : (inner : Bool) (c : Option ℕ) (t : List ℕ) (parts : List Part) (old : List Mark) → IfThere c (RowIs inner parts old t) → TurnedIs inner c parts (turned inner c parts old) (grown c t)
unfolding turned
turned_is inner None t [] old h = record { row = Decides-like true (then_empty (Ends inner) []) (empty_then (Ends inner) []) (end_is inner None t); hit = tt; braces_are = tt }
turned_is inner (Some c) t [] old h = record { row = Decides-like (inner && c == 47) (then_empty (Ends inner) (c ∷ t)) (empty_then (Ends inner) (c ∷ t)) (end_is inner (Some c) t); hit = refl; braces_are = tt }
turned_is inner c t (p ∷ parts) [] h =
    let missing = none_there inner c p parts t h in
    put_is inner c p parts t (turned inner c parts []) no_mark no_mark (turned_is inner c t parts [] (from_none c (RowIs inner parts [] t) missing))
    (from_none c _ missing) (from_none c _ missing) (from_none c _ missing)
turned_is inner c t (p ∷ parts) (m ∷ old) h =
    put_is inner c p parts t (turned inner c parts old) m (first old) (turned_is inner c t parts old (rest_there inner c p parts m old t h))
    (first_there inner c p parts m old t h) (behind_there inner c p parts m old t h) (next_there inner c parts old t (rest_there inner c p parts m old t h))

-- without marks
abbrev pub AreOff : List Mark → Type 0
AreOff [] = Unit {0}
AreOff (m ∷ marks) = IsOff m × AreOff marks

abbrev pub AreShut : List Brace → Type 0
AreShut [] = Unit {0}
AreShut (b ∷ bs) = (b.after ≡ false) × (b.found ≡ false) × AreShut bs

pub or_first : (a b : Bool) → (a || b) ≡ false → a ≡ false
or_first false b h = refl
or_first true b h = absurd (false≢true (sym h))

pub or_second : (a b : Bool) → (a || b) ≡ false → b ≡ false
or_second false b h = h
or_second true b h = absurd (false≢true (sym h))

or_no : (a b : Bool) → a ≡ false → b ≡ false → (a || b) ≡ false
or_no a b p q = ap (λ v. v || b) p ∙ q

and_no : (a b : Bool) → b ≡ false → (a && b) ≡ false
and_no false b q = refl
and_no true b q = q

off_in_front_of : (low : ℕ) (m : Mark) (marks : List Mark) → OffBelow (suc low) (m ∷ marks) → OffBelow low marks
off_in_front_of low m marks h j below = h (suc j) (omega arith)

pub are_off : (low : ℕ) (marks : List Mark) → OffBelow low marks → length marks ≤ low → AreOff marks
are_off low [] h few = tt
are_off zero (m ∷ marks) h few = absurd (omega arith)
are_off (suc low) (m ∷ marks) h few = (h zero (omega arith), are_off low marks (off_in_front_of low m marks h) (omega arith))

first_off : (marks : List Mark) → AreOff marks → IsOff (first marks)
first_off [] h = record { here = refl; behind = refl }
first_off (m ∷ marks) h = h.0

rest_off : (marks : List Mark) → AreOff marks → AreOff (drop 1 marks)
rest_off [] h = tt
rest_off (m ∷ marks) h = h.1

plain_off : (here : Bool) → here ≡ false → IsOff (plain here)
plain_off here h = record { here = h; behind = refl }

open_off : (now hit : Bool) (bs : List Brace) → now ≡ false → AreShut bs → IsOff (open_step now hit bs).mark × AreShut (open_step now hit bs).going.braces
open_off now hit [] off shut = (plain_off now off, tt)
open_off now hit (b ∷ bs) off shut = (plain_off (now || b.found) (or_no now b.found off shut.1), shut.2)

comma_off : (now hit : Bool) (bs : List Brace) → now ≡ false → AreShut bs → IsOff (comma_step now hit bs).mark × AreShut (comma_step now hit bs).going.braces
comma_off now hit [] off shut = (plain_off now off, tt)
comma_off now hit (b ∷ bs) off shut = (plain_off b.after shut.0, (shut.0, or_no b.found now shut.1 off, shut.2))

-- a part that nothing reaches gives no mark
pub step_off : (c : Option ℕ) (p : Part) (was next : Mark) (now : Bool) (going : Going) → IsOff was → IsOff next → now ≡ false → AreShut going.braces → IsOff (step c p was next now going).mark × AreShut (step c p was next now going).going.braces
step_off c (a_part.Literal x) was next now going was_off next_off now_off shut = (plain_off (is_char x c && next.here) (and_no (is_char x c) next.here next_off.here), shut)
step_off c a_part.One was next now going was_off next_off now_off shut = (plain_off (is_some c && next.here) (and_no (is_some c) next.here next_off.here), shut)
step_off c (a_part.Class negated) was next now going was_off next_off now_off shut =
    (plain_off _ (and_no (is_some c && cond negated (not going.hit) going.hit) next.here next_off.here), shut)
step_off c (a_part.Range at low high) was next now going was_off next_off now_off shut = (plain_off now now_off, shut)
step_off c a_part.Star was next now going was_off next_off now_off shut =
    (plain_off (now || (is_inside c && was.here)) (or_no now (is_inside c && was.here) now_off (and_no (is_inside c) was.here was_off.here)), shut)
step_off c a_part.Any was next now going was_off next_off now_off shut =
    (plain_off (now || (is_some c && was.here)) (or_no now (is_some c && was.here) now_off (and_no (is_some c) was.here was_off.here)), shut)
step_off c a_part.Slashes was next now going was_off next_off now_off shut =
    let past = or_no (is_char 47 c && next.here) (is_some c && was.behind) (and_no (is_char 47 c) next.here next_off.here) (and_no (is_some c) was.behind was_off.behind) in
    (record { here = or_no now ((is_char 47 c && next.here) || (is_some c && was.behind)) now_off past; behind = past }, shut)
step_off c (a_part.Open at) was next now going was_off next_off now_off shut = open_off now going.hit going.braces now_off shut
step_off c a_part.Comma was next now going was_off next_off now_off shut = comma_off now going.hit going.braces now_off shut
step_off c a_part.Close was next now going was_off next_off now_off shut = (plain_off now now_off, (now_off, refl, shut))

-- a row without marks stays without, where no end comes
pub turned_off : (inner : Bool) (c : Option ℕ) (parts : List Part) (old : List Mark) → is_end inner c ≡ false → AreOff old → AreOff (turned inner c parts old).marks × AreShut (turned inner c parts old).going.braces
unfolding turned
turned_off inner c [] old end off = ((plain_off (is_end inner c) end, tt), tt)
turned_off inner c (p ∷ parts) old end off =
    let below = turned_off inner c parts (drop 1 old) end (rest_off old off) in
    let d : Turned = turned inner c parts (drop 1 old) in
    let s = step_off c p (first old) (first (drop 1 old)) (first d.marks).here d.going (first_off old off) (first_off (drop 1 old) (rest_off old off)) (first_off d.marks below.0).here below.1 in
    ((s.0, below.0), s.1)

-- characters in front of a text, the nearest first
abbrev pub onto : List ℕ → List ℕ → List ℕ
onto [] t = t
onto (x ∷ xs) t = onto xs (x ∷ t)

pub onto-append : (xs ys t : List ℕ) → onto (xs ++ ys) t ≡ onto ys (onto xs t)
onto-append [] ys t = refl
onto-append (x ∷ xs) ys t = onto-append xs ys (x ∷ t)

pub onto_reverse : (xs t : List ℕ) → onto (reverse xs) t ≡ xs ++ t
onto_reverse [] t = refl
onto_reverse (x ∷ xs) t = ap (λ v. onto v t) (reverse-append (x ∷ []) xs) ∙ onto-append (reverse xs) (x ∷ []) t ∙ ap (λ v. x ∷ v) (onto_reverse xs t)

-- over no longer text is the glob accepted, where no mark is left
pub off_stays : (parts : List Part) (xs t : List ℕ) (marks : List Mark) → RowIs false parts marks t → AreOff marks → Accepts false (reading parts) (onto xs t) → ⊥
off_stays parts [] t marks row off h = not_from_Decides (first marks).here (first_is false parts marks t row) (first_off marks off).here h
off_stays parts (x ∷ xs) t marks row off h =
    off_stays parts xs (x ∷ t) (turned false (Some x) parts marks).marks (turned_is false (Some x) t parts marks row).row (turned_off false (Some x) parts marks refl off).0 h

pub off_in_front : (parts : List Part) (xs t : List ℕ) (marks : List Mark) → RowIs false parts marks t → AreOff marks → Accepts false (reading parts) (xs ++ t) → ⊥
off_in_front parts xs t marks row off h = off_stays parts (reverse xs) t marks row off (subst (Accepts false (reading parts)) (sym (onto_reverse xs t)) h)

-- what is carried along stays without marks, where the part behind is without
pub step_shut : (c : Option ℕ) (p : Part) (was next : Mark) (now : Bool) (going : Going) → now ≡ false → AreShut going.braces → AreShut (step c p was next now going).going.braces
step_shut c (a_part.Open at) was next now going off shut = (open_off now going.hit going.braces off shut).1
step_shut c a_part.Comma was next now going off shut = (comma_off now going.hit going.braces off shut).1
step_shut c a_part.Close was next now going off shut = (off, refl, shut)
step_shut c (a_part.Literal x) was next now going off shut = shut
step_shut c a_part.One was next now going off shut = shut
step_shut c (a_part.Class negated) was next now going off shut = shut
step_shut c (a_part.Range at low high) was next now going off shut = shut
step_shut c a_part.Star was next now going off shut = shut
step_shut c a_part.Any was next now going off shut = shut
step_shut c a_part.Slashes was next now going off shut = shut
