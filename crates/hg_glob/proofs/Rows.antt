-- What the marks of a row say: whether the text is accepted from each part on.
use Rattle.std.proofs.Common.{◌≡◌, ℕ, Bool, true, false, not, cond, ◌&&◌, ◌||◌, ◌==◌, ◌⊎◌, inl, inr, List, [], ◌∷◌, Option, Some, None, IsTrue, refl, sym, ap, ◌∙◌, nat_le}
use Rattle.std.specs.Bool.{Decides}
use Rattle.std.proofs.lemmas.Bool.{false≢true}
use Rattle.std.proofs.lemmas.Bool.Decides.{Decides-eqb, Decides-and, Decides-or, Decides-like}
use Rattle.hg_glob.specs.Pattern.{Pattern, Choices, Span, in_class, in_spans}
use Rattle.hg_glob.specs.Accepted.{Then, Chosen, Follows, Accepts, ChosenSoFar, BracesAre, HitIs}
use Rattle.hg_glob.specs.Part.{Frame, Reading, before, reading, with_choice, opened, parted}
use Rattle.hg_glob.specs.Row.{step, Stepped, open_step, comma_step}
use Rattle.hg_glob.specs.declared.part.Part.{Part}
use Rattle.hg_glob.specs.declared.part.Part.TheVariants as a_part
use Rattle.hg_glob.specs.declared.mark.Mark.{Mark}
use Rattle.hg_glob.specs.declared.mark.Brace.{Brace}
use Rattle.hg_glob.specs.declared.mark.Going.{Going}
use Rattle.hg_glob.proofs.Then.{Past, empty_then, then_empty, literal_head, head_literal, literal_none, one_head, head_one, one_none, listed_head, head_listed, listed_none, star_head, star_nothing, star_more, star_none, any_head, any_nothing, any_more, any_none, slashes_then, then_slashes, past_head, head_past, past_none, braces_then, then_braces, choice_chosen, chosen_choice}

abbrev pub BehindIs : Bool → Part → Reading → Mark → List ℕ → Type 0
BehindIs inner a_part.Slashes r mark t = Decides mark.behind (Past (Accepts inner r) t)
BehindIs inner _ r mark t = Unit {0}

-- the marks of the parts, and one behind them
abbrev pub RowIs : Bool → List Part → List Mark → List ℕ → Type 0
RowIs inner [] [] t = ⊥
RowIs inner [] (m ∷ marks) t = Decides m.here (Accepts inner (reading []) t)
RowIs inner (p ∷ parts) [] t = ⊥
RowIs inner (p ∷ parts) (m ∷ marks) t = Decides m.here (Accepts inner (before p (reading parts)) t) × BehindIs inner p (reading parts) m t × RowIs inner parts marks t

-- the text with the character in front; no text without one
abbrev pub grown : Option ℕ → List ℕ → List ℕ
grown None t = []
grown (Some c) t = c ∷ t

abbrev pub IfThere : Option ℕ → Type 0 → Type 0
IfThere None P = Unit {0}
IfThere (Some c) P = P

pub record BelowIs (inner : Bool) (c : Option ℕ) (p : Part) (r : Reading) (was next : Mark) (now : Bool) (going : Going) (t : List ℕ) : Type 0 where
  pub was_is : IfThere c (Decides was.here (Accepts inner (before p r) t))
  pub was_behind : IfThere c (BehindIs inner p r was t)
  pub next_is : IfThere c (Decides next.here (Accepts inner r t))
  pub now_is : Decides now (Accepts inner r (grown c t))
  pub hit_is : HitIs c r.spans going.hit
  pub braces_are : BracesAre inner r.frames going.braces (grown c t)

pub record StepIs (inner : Bool) (c : Option ℕ) (p : Part) (r : Reading) (s : Stepped) (t : List ℕ) : Type 0 where
  pub here : Decides s.mark.here (Accepts inner (before p r) (grown c t))
  pub behind : BehindIs inner p r s.mark (grown c t)
  pub hit : HitIs c (before p r).spans s.going.hit
  pub braces_are : BracesAre inner (before p r).frames s.going.braces (grown c t)

decides_not : (P : Type 0) → (P → ⊥) → Decides false P
decides_not P h = (λ e. absurd (false≢true e), λ p. absurd (h p))

decides_false : (b : Bool) → Decides (not b) (b ≡ false)
decides_false false = (λ e. refl, λ e. refl)
decides_false true = (λ e. absurd (false≢true e), λ e. absurd (false≢true (sym e)))

decides_same : (a b : Bool) → a ≡ b → Decides a (IsTrue b)
decides_same a b h = (λ e. sym h ∙ e, λ e. h ∙ e)

member_same : (negated hit member : Bool) → hit ≡ member → cond negated (not hit) hit ≡ cond negated (not member) member
member_same negated hit member h = ap (λ v. cond negated (not v) v) h

chosen_with : (g : Pattern) (o : Option Choices) (K : List ℕ → Type 0) (t : List ℕ) → Chosen (with_choice g o) K t → Then g K t ⊎ ChosenSoFar o K t
chosen_with g None K t h = inl h
chosen_with g (Some choices) K t h = choice_chosen g choices K t h

with_chosen : (g : Pattern) (o : Option Choices) (K : List ℕ → Type 0) (t : List ℕ) → Then g K t ⊎ ChosenSoFar o K t → Chosen (with_choice g o) K t
with_chosen g None K t (inl h) = h
with_chosen g None K t (inr h) = absurd h
with_chosen g (Some choices) K t h = chosen_choice g choices K t h

swapped : {P Q : Type 0} → P ⊎ Q → Q ⊎ P
swapped (inl p) = inr p
swapped (inr q) = inl q

literal_is : (inner : Bool) (c : Option ℕ) (t : List ℕ) (x : ℕ) (r : Reading) (was next : Mark) (now : Bool) (going : Going) → BelowIs inner c (a_part.Literal x) r was next now going t → StepIs inner c (a_part.Literal x) r (step c (a_part.Literal x) was next now going) t
literal_is inner None t x r was next now going h = record {
  here = decides_not _ (literal_none x r.pattern (Follows inner r.frames));
  behind = tt;
  hit = h.hit_is;
  braces_are = h.braces_are;
}
literal_is inner (Some c) t x r was next now going h =
    let K : List ℕ → Type 0 = Follows inner r.frames in
    record {
      here = Decides-like (c == x && next.here) (head_literal x c r.pattern K t) (literal_head x c r.pattern K t) (Decides-and (c == x) next.here (Decides-eqb c x) h.next_is);
      behind = tt;
      hit = h.hit_is;
      braces_are = h.braces_are;
    }

one_is : (inner : Bool) (c : Option ℕ) (t : List ℕ) (r : Reading) (was next : Mark) (now : Bool) (going : Going) → BelowIs inner c a_part.One r was next now going t → StepIs inner c a_part.One r (step c a_part.One was next now going) t
one_is inner None t r was next now going h = record {
  here = decides_not _ (one_none r.pattern (Follows inner r.frames));
  behind = tt;
  hit = h.hit_is;
  braces_are = h.braces_are;
}
one_is inner (Some c) t r was next now going h =
    let K : List ℕ → Type 0 = Follows inner r.frames in
    record {
      here = Decides-like next.here (head_one c r.pattern K t) (one_head c r.pattern K t) h.next_is;
      behind = tt;
      hit = h.hit_is;
      braces_are = h.braces_are;
    }

class_is : (inner : Bool) (c : Option ℕ) (t : List ℕ) (negated : Bool) (r : Reading) (was next : Mark) (now : Bool) (going : Going) → BelowIs inner c (a_part.Class negated) r was next now going t → StepIs inner c (a_part.Class negated) r (step c (a_part.Class negated) was next now going) t
class_is inner None t negated r was next now going h = record {
  here = decides_not _ (listed_none negated r.spans r.pattern (Follows inner r.frames));
  behind = tt;
  hit = tt;
  braces_are = h.braces_are;
}
class_is inner (Some c) t negated r was next now going h =
    let K : List ℕ → Type 0 = Follows inner r.frames in
    let member : Decides (cond negated (not going.hit) going.hit) (IsTrue (in_class negated r.spans c)) =
    decides_same (cond negated (not going.hit) going.hit) (in_class negated r.spans c) (member_same negated going.hit (in_spans c r.spans) h.hit_is) in
    record {
      here = Decides-like (cond negated (not going.hit) going.hit && next.here) (head_listed negated r.spans c r.pattern K t) (listed_head negated r.spans c r.pattern K t)
          (Decides-and (cond negated (not going.hit) going.hit) next.here member h.next_is);
      behind = tt;
      hit = refl;
      braces_are = h.braces_are;
    }

range_is : (inner : Bool) (c : Option ℕ) (t : List ℕ) (at low high : ℕ) (r : Reading) (was next : Mark) (now : Bool) (going : Going) → BelowIs inner c (a_part.Range at low high) r was next now going t → StepIs inner c (a_part.Range at low high) r (step c (a_part.Range at low high) was next now going) t
range_is inner None t at low high r was next now going h = record {
  here = h.now_is;
  behind = tt;
  hit = tt;
  braces_are = h.braces_are;
}
range_is inner (Some c) t at low high r was next now going h = record {
  here = h.now_is;
  behind = tt;
  hit = ap (λ v. nat_le low c && nat_le c high || v) h.hit_is;
  braces_are = h.braces_are;
}

or_nothing : (P : Type 0) (b : Bool) → Decides b P → Decides (b || false) (P ⊎ ⊥)
or_nothing P b h = Decides-or b false h (decides_not ⊥ (λ x. x))

star_is : (inner : Bool) (c : Option ℕ) (t : List ℕ) (r : Reading) (was next : Mark) (now : Bool) (going : Going) → BelowIs inner c a_part.Star r was next now going t → StepIs inner c a_part.Star r (step c a_part.Star was next now going) t
star_is inner None t r was next now going h =
    let K : List ℕ → Type 0 = Follows inner r.frames in
    record {
      here = Decides-like (now || false) (elim [ inl p ↦ star_nothing r.pattern K [] p | inr q ↦ absurd q ]) (λ p. inl (star_none r.pattern K p)) (or_nothing (Then r.pattern K []) now h.now_is);
      behind = tt;
      hit = h.hit_is;
      braces_are = h.braces_are;
    }
star_is inner (Some c) t r was next now going h =
    let K : List ℕ → Type 0 = Follows inner r.frames in
    record {
      here = Decides-like (now || (not (c == 47) && was.here)) (elim [ inl p ↦ star_nothing r.pattern K (c ∷ t) p | inr q ↦ star_more c r.pattern K t q.0 q.1 ]) (star_head c r.pattern K t)
          (Decides-or now (not (c == 47) && was.here) h.now_is (Decides-and (not (c == 47)) was.here (decides_false (c == 47)) h.was_is));
      behind = tt;
      hit = h.hit_is;
      braces_are = h.braces_are;
    }

any_is : (inner : Bool) (c : Option ℕ) (t : List ℕ) (r : Reading) (was next : Mark) (now : Bool) (going : Going) → BelowIs inner c a_part.Any r was next now going t → StepIs inner c a_part.Any r (step c a_part.Any was next now going) t
any_is inner None t r was next now going h =
    let K : List ℕ → Type 0 = Follows inner r.frames in
    record {
      here = Decides-like (now || false) (elim [ inl p ↦ any_nothing r.pattern K [] p | inr q ↦ absurd q ]) (λ p. inl (any_none r.pattern K p)) (or_nothing (Then r.pattern K []) now h.now_is);
      behind = tt;
      hit = h.hit_is;
      braces_are = h.braces_are;
    }
any_is inner (Some c) t r was next now going h =
    let K : List ℕ → Type 0 = Follows inner r.frames in
    record {
      here = Decides-like (now || was.here) (elim [ inl p ↦ any_nothing r.pattern K (c ∷ t) p | inr q ↦ any_more c r.pattern K t q ]) (any_head c r.pattern K t)
          (Decides-or now was.here h.now_is h.was_is);
      behind = tt;
      hit = h.hit_is;
      braces_are = h.braces_are;
    }

slashes_is : (inner : Bool) (c : Option ℕ) (t : List ℕ) (r : Reading) (was next : Mark) (now : Bool) (going : Going) → BelowIs inner c a_part.Slashes r was next now going t → StepIs inner c a_part.Slashes r (step c a_part.Slashes was next now going) t
slashes_is inner None t r was next now going h =
    let K : List ℕ → Type 0 = Follows inner r.frames in
    let past : Decides false (Past (Then r.pattern K) []) = decides_not _ (past_none (Then r.pattern K)) in
    record {
      here = Decides-like (now || false) (then_slashes r.pattern K []) (slashes_then r.pattern K []) (Decides-or now false h.now_is past);
      behind = past;
      hit = h.hit_is;
      braces_are = h.braces_are;
    }
slashes_is inner (Some c) t r was next now going h =
    let K : List ℕ → Type 0 = Follows inner r.frames in
    let past : Decides ((c == 47 && next.here) || was.behind) (Past (Then r.pattern K) (c ∷ t)) =
    Decides-like ((c == 47 && next.here) || was.behind) (head_past (Then r.pattern K) c t) (past_head (Then r.pattern K) c t)
    (Decides-or (c == 47 && next.here) was.behind (Decides-and (c == 47) next.here (Decides-eqb c 47) h.next_is) h.was_behind) in
    record {
      here = Decides-like (now || ((c == 47 && next.here) || was.behind)) (then_slashes r.pattern K (c ∷ t)) (slashes_then r.pattern K (c ∷ t))
          (Decides-or now ((c == 47 && next.here) || was.behind) h.now_is past);
      behind = past;
      hit = h.hit_is;
      braces_are = h.braces_are;
    }

pub record Opened (inner : Bool) (r : Reading) (c : Option ℕ) (s : Stepped) (t : List ℕ) : Type 0 where
  pub here : Decides s.mark.here (Accepts inner r t)
  pub hit : HitIs c r.spans s.going.hit
  pub braces_are : BracesAre inner r.frames s.going.braces t

open_is : (inner : Bool) (c : Option ℕ) (t : List ℕ) (g : Pattern) (spans : List Span) (frames : List Frame) (now hit : Bool) (bs : List Brace) → Decides now (Then g (Follows inner frames) t) → HitIs c spans hit → BracesAre inner frames bs t
    → Opened inner (opened (record { pattern = g; spans = spans; frames = frames }) frames) c (open_step now hit bs) t
open_is inner c t g spans [] now hit [] now_is hit_is braces_are = record { here = now_is; hit = hit_is; braces_are = tt }
open_is inner c t g spans [] now hit (b ∷ bs) now_is hit_is braces_are = absurd braces_are
open_is inner c t g spans (f ∷ frames) now hit [] now_is hit_is braces_are = absurd braces_are
open_is inner c t g spans (f ∷ frames) now hit (b ∷ bs) now_is hit_is braces_are =
    let K : List ℕ → Type 0 = Follows inner frames in
    let L : List ℕ → Type 0 = Follows inner (f ∷ frames) in
    record {
      here = Decides-like (now || b.found) (λ p. then_braces (with_choice g f.choices) f.behind K t (with_chosen g f.choices L t p)) (λ p. chosen_with g f.choices L t (braces_then (with_choice g f.choices) f.behind K t p))
          (Decides-or now b.found now_is braces_are.1);
      hit = hit_is;
      braces_are = braces_are.2;
    }

comma_is : (inner : Bool) (c : Option ℕ) (t : List ℕ) (g : Pattern) (spans : List Span) (frames : List Frame) (now hit : Bool) (bs : List Brace) → Decides now (Then g (Follows inner frames) t) → HitIs c spans hit → BracesAre inner frames bs t
    → Opened inner (parted (record { pattern = g; spans = spans; frames = frames }) frames) c (comma_step now hit bs) t
comma_is inner c t g spans [] now hit [] now_is hit_is braces_are = record { here = now_is; hit = hit_is; braces_are = tt }
comma_is inner c t g spans [] now hit (b ∷ bs) now_is hit_is braces_are = absurd braces_are
comma_is inner c t g spans (f ∷ frames) now hit [] now_is hit_is braces_are = absurd braces_are
comma_is inner c t g spans (f ∷ frames) now hit (b ∷ bs) now_is hit_is braces_are =
    let L : List ℕ → Type 0 = Follows inner (f ∷ frames) in
    record {
      here = Decides-like b.after (then_empty L t) (empty_then L t) braces_are.0;
      hit = hit_is;
      braces_are = (braces_are.0, Decides-like (b.found || now) (λ p. with_chosen g f.choices L t (swapped p)) (λ p. swapped (chosen_with g f.choices L t p)) (Decides-or b.found now braces_are.1 now_is), braces_are.2);
    }

-- the mark of a part says whether the text is accepted from it on, where those before and behind it do
pub step_is : (inner : Bool) (c : Option ℕ) (t : List ℕ) (p : Part) (r : Reading) (was next : Mark) (now : Bool) (going : Going) → BelowIs inner c p r was next now going t → StepIs inner c p r (step c p was next now going) t
step_is inner c t (a_part.Literal x) r was next now going h = literal_is inner c t x r was next now going h
step_is inner c t a_part.One r was next now going h = one_is inner c t r was next now going h
step_is inner c t (a_part.Class negated) r was next now going h = class_is inner c t negated r was next now going h
step_is inner c t (a_part.Range at low high) r was next now going h = range_is inner c t at low high r was next now going h
step_is inner c t a_part.Star r was next now going h = star_is inner c t r was next now going h
step_is inner c t a_part.Any r was next now going h = any_is inner c t r was next now going h
step_is inner c t a_part.Slashes r was next now going h = slashes_is inner c t r was next now going h
step_is inner c t (a_part.Open at) r was next now going h =
    let o = open_is inner c (grown c t) r.pattern r.spans r.frames now going.hit going.braces h.now_is h.hit_is h.braces_are in
    record { here = o.here; behind = tt; hit = o.hit; braces_are = o.braces_are }
step_is inner c t a_part.Comma r was next now going h =
    let o = comma_is inner c (grown c t) r.pattern r.spans r.frames now going.hit going.braces h.now_is h.hit_is h.braces_are in
    record { here = o.here; behind = tt; hit = o.hit; braces_are = o.braces_are }
step_is inner c t a_part.Close r was next now going h =
    let K : List ℕ → Type 0 = Follows inner r.frames in
    record {
      here = Decides-like now (then_empty (Then r.pattern K) (grown c t)) (empty_then (Then r.pattern K) (grown c t)) h.now_is;
      behind = tt;
      hit = h.hit_is;
      braces_are = (h.now_is, decides_not ⊥ (λ x. x), h.braces_are);
    }
