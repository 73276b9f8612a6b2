-- Where no end of the path is accepted from the last parts on, none is from any part in front of them on.
use Rattle.std.proofs.Common.{◌≡◌, ℕ, zero, suc, ◌-◌, ◌≤◌, Bool, false, List, [], ◌∷◌, ◌++◌, length, take, drop, reverse, refl, sym, ap, subst, ◌∙◌, arith, append_assoc}
use Rattle.std.proofs.lemmas.Bool.Decides.{not_from_Decides}
use Rattle.std.proofs.lemmas.List.{take-append-drop}
use Rattle.hg_glob.specs.Pattern.{Pattern, Span, literal}
use Rattle.hg_glob.specs.Part.{Frame, Reading, before, reading, with_choice, opened, parted}
use Rattle.hg_glob.specs.Line.{Stands}
use Rattle.hg_glob.specs.Refusal.{closers}
use Rattle.hg_glob.specs.Accepted.{Then, Follows, Accepts, BracesAre, end_at, ColumnIs}
use Rattle.hg_glob.specs.Column.{bit}
use Rattle.hg_glob.specs.Many.{last_parts}
use Rattle.hg_glob.specs.declared.part.Part.{Part}
use Rattle.hg_glob.specs.declared.part.Part.TheVariants as a_part
use Rattle.hg_glob.specs.declared.fork.Fork.{Fork}
use Rattle.hg_glob.proofs.Bits.{bit_of_none}
use Rattle.hg_glob.proofs.Then.{empty_then, braces_then}
use Rattle.hg_glob.proofs.Bounding.{Rest, one_rest, listed_rest, star_rest, any_rest, slashes_rest}
use Rattle.hg_glob.proofs.Sweeps.{end_all}
use Rattle.hg_glob.proofs.Lines.{accepts_behind}

-- some end of the text is accepted from what was read on
abbrev Reaches : Reading → List ℕ → Type 0
Reaches r t = (front : List ℕ) × (rest : List ℕ) × (t ≡ front ++ rest) × Accepts false r rest

-- so does what follows the braces around
abbrev FramesReach : Reading → List Frame → Type 0
FramesReach r [] = Unit {0}
FramesReach r (f ∷ frames) = ((t : List ℕ) → Follows false (f ∷ frames) t → Reaches r t) × FramesReach r frames

record ReadingReaches (r more : Reading) : Type 0 where
  pub all : (t : List ℕ) → Accepts false more t → Reaches r t
  pub around : FramesReach r more.frames

reaches_behind : (r : Reading) (front rest t : List ℕ) → t ≡ front ++ rest → Reaches r rest → Reaches r t
reaches_behind r front rest t e (a, b, same, k) = (front ++ a, b, e ∙ ap (λ v. front ++ v) same ∙ sym (append_assoc front a b), k)

literal_rest : (c : ℕ) (g : Pattern) (K : List ℕ → Type 0) (t : List ℕ) → Then (literal c g) K t → Rest g K t
literal_rest c g K t (front, rest, e, (r, f, i), k) = (c ∷ [], r ++ rest, e ∙ ap (λ v. v ++ rest) f, (r, rest, refl, i, k))

-- a part in front of which stands some text
anew : (r more : Reading) (t : List ℕ) → ((t : List ℕ) → Accepts false more t → Reaches r t) → Rest more.pattern (Follows false more.frames) t → Reaches r t
anew r more t all (front, rest, e, h) = reaches_behind r front rest t e (all rest h)

open_all : (r : Reading) (g : Pattern) (spans : List Span) (frames : List Frame) (t : List ℕ) → ((t : List ℕ) → Then g (Follows false frames) t → Reaches r t) → FramesReach r frames
    → Accepts false (opened (record { pattern = g; spans = spans; frames = frames }) frames) t → Reaches r t
open_all r g spans [] t all around h = all t h
open_all r g spans (f ∷ frames) t all around h =
    let (front, rest, e, i, k) = braces_then (with_choice g f.choices) f.behind (Follows false frames) t h in
    reaches_behind r front rest t e (around.0 rest k)

open_around : (r : Reading) (g : Pattern) (spans : List Span) (frames : List Frame) → FramesReach r frames → FramesReach r (opened (record { pattern = g; spans = spans; frames = frames }) frames).frames
open_around r g spans [] around = tt
open_around r g spans (f ∷ frames) around = around.1

comma_all : (r : Reading) (g : Pattern) (spans : List Span) (frames : List Frame) (t : List ℕ) → ((t : List ℕ) → Then g (Follows false frames) t → Reaches r t) → FramesReach r frames
    → Accepts false (parted (record { pattern = g; spans = spans; frames = frames }) frames) t → Reaches r t
comma_all r g spans [] t all around h = all t h
comma_all r g spans (f ∷ frames) t all around h = around.0 t (empty_then (Follows false (f ∷ frames)) t h)

comma_around : (r : Reading) (g : Pattern) (spans : List Span) (frames : List Frame) → FramesReach r frames → FramesReach r (parted (record { pattern = g; spans = spans; frames = frames }) frames).frames
comma_around r g spans [] around = tt
comma_around r g spans (f ∷ frames) around = (around.0, around.1)

reaches_more : (r : Reading) (p : Part) (more : Reading) → ReadingReaches r more → ReadingReaches r (before p more)
reaches_more r (a_part.Literal c) more h = record { all = λ t k. anew r more t h.all (literal_rest c more.pattern (Follows false more.frames) t k); around = h.around }
reaches_more r a_part.One more h = record { all = λ t k. anew r more t h.all (one_rest more.pattern (Follows false more.frames) t k); around = h.around }
reaches_more r (a_part.Class negated) more h = record { all = λ t k. anew r more t h.all (listed_rest negated more.spans more.pattern (Follows false more.frames) t k); around = h.around }
reaches_more r (a_part.Range at low high) more h = record { all = h.all; around = h.around }
reaches_more r a_part.Star more h = record { all = λ t k. anew r more t h.all (star_rest more.pattern (Follows false more.frames) t k); around = h.around }
reaches_more r a_part.Any more h = record { all = λ t k. anew r more t h.all (any_rest more.pattern (Follows false more.frames) t k); around = h.around }
reaches_more r a_part.Slashes more h = record { all = λ t k. anew r more t h.all (slashes_rest more.pattern (Follows false more.frames) t k); around = h.around }
reaches_more r (a_part.Open at) more h = record { all = λ t k. open_all r more.pattern more.spans more.frames t h.all h.around k; around = open_around r more.pattern more.spans more.frames h.around }
reaches_more r a_part.Comma more h = record { all = λ t k. comma_all r more.pattern more.spans more.frames t h.all h.around k; around = comma_around r more.pattern more.spans more.frames h.around }
reaches_more r a_part.Close more h = record { all = λ t k. h.all t (empty_then (Then more.pattern (Follows false more.frames)) t k); around = (h.all, h.around) }

no_frames_reach : (r : Reading) (frames : List Frame) → frames ≡ [] → FramesReach r frames
no_frames_reach r [] e = tt
no_frames_reach r (f ∷ frames) e = absurd (cc e)

reaches_all : (front base : List Part) → (reading base).frames ≡ [] → ReadingReaches (reading base) (reading (front ++ base))
reaches_all [] base none = record { all = λ t k. ([], t, refl, k); around = no_frames_reach (reading base) (reading base).frames none }
reaches_all (p ∷ front) base none = reaches_more (reading base) p (reading (front ++ base)) (reaches_all front base none)

length_end : (xs : List ℕ) (i : ℕ) → length (end_at xs i) ≡ i
length_end xs zero = refl
length_end xs (suc i) = ap suc (length_end xs i)

-- what ends an end is an end
pub end_of_end : (xs : List ℕ) (i : ℕ) (a rest : List ℕ) → end_at xs i ≡ a ++ rest → (end_at xs (length rest) ≡ rest) × (length rest ≤ i)
end_of_end xs i [] rest e = (ap (λ (t : List ℕ). end_at xs (length t)) (sym e) ∙ ap (end_at xs) (length_end xs i) ∙ e, (let n : length rest ≡ i = ap length (sym e) ∙ length_end xs i in omega (arith, n)))
end_of_end xs zero (d ∷ a) rest e = absurd (cc e)
end_of_end xs (suc i) (d ∷ a) rest e =
    let h = end_of_end xs i a rest (cc e) in
    (h.0, omega (arith, h.1))

frames_out : (frames : List Frame) (t : List ℕ) → BracesAre false frames [] t → frames ≡ []
frames_out [] t h = refl
frames_out (f ∷ frames) t h = absurd h

-- no end of the path is accepted from the last parts on
none_accepted : (xs : List ℕ) (r : Reading) (now hit : ℕ) (forks : List Fork) (a rest : List ℕ) → ColumnIs false xs r now hit forks → now ≡ 0 → reverse xs ≡ a ++ rest → Accepts false r rest → ⊥
none_accepted xs r now hit forks a rest h none e k =
    let (same, inside) = end_of_end xs (length xs) a rest (end_all xs ∙ e) in
    let off : bit now (length rest) ≡ false = ap (λ w. bit w (length rest)) none ∙ bit_of_none (length rest) in
    not_from_Decides (bit now (length rest)) (h.now_is (length rest) inside) off (subst (Accepts false r) (sym same) k)

-- where no end of the path is accepted from the last parts on, and no brace is around, the glob stands nowhere
pub none_stands : (path : List ℕ) (rooted : Bool) (parts : List Part) (k : ℕ) → (reading (last_parts k parts)).frames ≡ [] → ((a rest : List ℕ) → path ≡ a ++ rest → Accepts false (reading (last_parts k parts)) rest → ⊥) → closers parts ≡ 0
    → Stands false rooted (reading parts).pattern path → ⊥
none_stands path rooted parts k out none closed (a, b, c, e, in_front, i, back) =
    let n : ℕ = length parts - k in
    let base : List Part = drop n parts in
    let all : ReadingReaches (reading base) (reading parts) = subst (λ ps. ReadingReaches (reading base) (reading ps)) (take-append-drop n parts) (reaches_all (take n parts) base out) in
    let (front, rest, split, k) = all.all (b ++ c) (accepts_behind false parts b c closed i back) in
    none (a ++ front) rest (e ∙ ap (λ v. a ++ v) split ∙ sym (append_assoc a front rest)) k

pub column_out : (xs : List ℕ) (r : Reading) (now hit : ℕ) → ColumnIs false xs r now hit [] → r.frames ≡ []
column_out xs r now hit h = frames_out r.frames [] (h.braces_are 0 (omega arith))

pub dead_stands : (xs : List ℕ) (rooted : Bool) (parts : List Part) (k now hit : ℕ) → ColumnIs false xs (reading (last_parts k parts)) now hit [] → now ≡ 0 → closers parts ≡ 0 → Stands false rooted (reading parts).pattern (reverse xs) → ⊥
dead_stands xs rooted parts k now hit h none closed s =
    none_stands (reverse xs) rooted parts k (column_out xs (reading (last_parts k parts)) now hit h) (λ a rest e accepted. none_accepted xs (reading (last_parts k parts)) now hit [] a rest h none e accepted) closed s
