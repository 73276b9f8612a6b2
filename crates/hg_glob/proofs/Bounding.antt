-- A text in a glob begins and ends with the literal text that the glob's parts begin and end with.
use Rattle.std.proofs.Common.{◌≡◌, ℕ, Bool, true, false, ◌⊎◌, inl, inr, List, [], ◌∷◌, ◌++◌, chars, encode_utf8_all, IsUtf8, refl, sym, ap, subst, ◌∙◌, append_assoc, append-nil, lit<, arith, length, ◌≤◌}
use Rattle.std.proofs.lemmas.Bool.{false≢true}
use Rattle.std.proofs.lemmas.Str.{encodes-append, encodes-chars, encode_ascii, length-le-encodes}
use Rattle.hg_glob.specs.Pattern.{Pattern, Span, one, listed, star, any, slashes, InGlob}
use Rattle.hg_glob.specs.Accepted.{Then, Ends, Follows, Accepts}
use Rattle.hg_glob.specs.Part.{Frame, Reading, reading, parts_of, glob_of, head_of, tail_from, with_choice, opened, parted}
use Rattle.hg_glob.specs.Line.{IsFront, IsBack, Stands}
use Rattle.hg_glob.specs.Refusal.{closers}
use Rattle.hg_glob.specs.declared.part.Part.{Part}
use Rattle.hg_glob.specs.declared.part.Part.TheVariants as a_part
use Rattle.hg_glob.proofs.Then.{Past, empty_then, literal_head, literal_none, slashes_then, braces_then}
use Rattle.hg_glob.proofs.Ends.{frames_none}
use Rattle.hg_glob.proofs.Bounds.{closed, parts_few}

-- the whole text is accepted
abbrev Takes : List Part → List ℕ → Type 0
Takes parts t = Accepts false (reading parts) t

head_literal_in : (c : ℕ) (parts : List Part) (t : List ℕ) → ((t : List ℕ) → Takes parts t → (more : List ℕ) × (t ≡ head_of parts ++ more)) → Takes (a_part.Literal c ∷ parts) t → (more : List ℕ) × (t ≡ (c ∷ head_of parts) ++ more)
head_literal_in c parts [] behind h = absurd (literal_none c (reading parts).pattern (Follows false (reading parts).frames) h)
head_literal_in c parts (d ∷ t) behind h =
    let (same, rest) = literal_head c d (reading parts).pattern (Follows false (reading parts).frames) t h in
    let (more, e) = behind t rest in
    (more, cc (same, e))

pub head_in : (parts : List Part) (t : List ℕ) → Takes parts t → (more : List ℕ) × (t ≡ head_of parts ++ more)
head_in [] t h = (t, refl)
head_in (a_part.Literal c ∷ parts) t h = head_literal_in c parts t (head_in parts) h
head_in (_ ∷ parts) t h = (t, refl)

abbrev EndsIn : List ℕ → List ℕ → Type 0
EndsIn tail t = (front : List ℕ) × (t ≡ front ++ tail)

-- what follows the braces around ends so
abbrev FramesEnd : List ℕ → List Frame → Type 0
FramesEnd tail [] = Unit {0}
FramesEnd tail (f ∷ frames) = ((t : List ℕ) → Follows false (f ∷ frames) t → EndsIn tail t) × FramesEnd tail frames

record TailIs (text : List ℕ) (parts : List Part) : Type 0 where
  pub all : (t : List ℕ) → Takes parts t → EndsIn (tail_from text parts) (text ++ t)
  pub around : FramesEnd (tail_from text parts) (reading parts).frames

-- a part and then on: some end of the text is accepted without the part
abbrev pub Rest : Pattern → (List ℕ → Type 0) → List ℕ → Type 0
Rest g K t = (front : List ℕ) × (rest : List ℕ) × (t ≡ front ++ rest) × Then g K rest

pub one_rest : (g : Pattern) (K : List ℕ → Type 0) (t : List ℕ) → Then (one g) K t → Rest g K t
one_rest g K t (front, rest, e, (x, r, f, i), k) = (x ∷ [], r ++ rest, e ∙ ap (λ v. v ++ rest) f, (r, rest, refl, i, k))

pub listed_rest : (negated : Bool) (spans : List Span) (g : Pattern) (K : List ℕ → Type 0) (t : List ℕ) → Then (listed negated spans g) K t → Rest g K t
listed_rest negated spans g K t (front, rest, e, (x, r, f, member, i), k) = (x ∷ [], r ++ rest, e ∙ ap (λ v. v ++ rest) f, (r, rest, refl, i, k))

pub star_rest : (g : Pattern) (K : List ℕ → Type 0) (t : List ℕ) → Then (star g) K t → Rest g K t
star_rest g K t (front, rest, e, (f, r, split, quiet, i), k) = (f, r ++ rest, e ∙ ap (λ v. v ++ rest) split ∙ append_assoc f r rest, (r, rest, refl, i, k))

pub any_rest : (g : Pattern) (K : List ℕ → Type 0) (t : List ℕ) → Then (any g) K t → Rest g K t
any_rest g K t (front, rest, e, (f, r, split, i), k) = (f, r ++ rest, e ∙ ap (λ v. v ++ rest) split ∙ append_assoc f r rest, (r, rest, refl, i, k))

slashes_rest_from : (g : Pattern) (K : List ℕ → Type 0) (t : List ℕ) → Then g K t ⊎ Past (Then g K) t → Rest g K t
slashes_rest_from g K t (inl h) = ([], t, refl, h)
slashes_rest_from g K t (inr (front, rest, e, h)) = (front ++ 47 ∷ [], rest, e ∙ sym (append_assoc front (47 ∷ []) rest), h)

pub slashes_rest : (g : Pattern) (K : List ℕ → Type 0) (t : List ℕ) → Then (slashes g) K t → Rest g K t
slashes_rest g K t h = slashes_rest_from g K t (slashes_then g K t h)

-- what ends so with something in front ends so
ends_behind : (tail front rest t : List ℕ) → t ≡ front ++ rest → EndsIn tail rest → EndsIn tail t
ends_behind tail front rest t e (more, same) = (front ++ more, e ∙ ap (λ v. front ++ v) same ∙ sym (append_assoc front more tail))

-- a part that is no character begins the end anew
anew : (text tail : List ℕ) (parts : List Part) (t : List ℕ) (all : (t : List ℕ) → Takes parts t → EndsIn tail t) → Rest (reading parts).pattern (Follows false (reading parts).frames) t → EndsIn tail (text ++ t)
anew text tail parts t all (front, rest, e, h) = ends_behind tail (text ++ front) rest (text ++ t) (ap (λ v. text ++ v) e ∙ sym (append_assoc text front rest)) (all rest h)

literal_ends : (c : ℕ) (text tail : List ℕ) (parts : List Part) (t : List ℕ) → ((t : List ℕ) → Takes parts t → EndsIn tail ((text ++ c ∷ []) ++ t)) → Takes (a_part.Literal c ∷ parts) t → EndsIn tail (text ++ t)
literal_ends c text tail parts [] behind h = absurd (literal_none c (reading parts).pattern (Follows false (reading parts).frames) h)
literal_ends c text tail parts (d ∷ t) behind h =
    let (same, rest) = literal_head c d (reading parts).pattern (Follows false (reading parts).frames) t h in
    let (more, e) = behind t rest in
    (more, ap (λ v. text ++ v ∷ t) same ∙ sym (append_assoc text (c ∷ []) t) ∙ e)

open_ends : (text tail : List ℕ) (g : Pattern) (spans : List Span) (frames : List Frame) (t : List ℕ) → ((t : List ℕ) → Then g (Follows false frames) t → EndsIn tail t) → FramesEnd tail frames
    → Accepts false (opened (record { pattern = g; spans = spans; frames = frames }) frames) t → EndsIn tail (text ++ t)
open_ends text tail g spans [] t all around h = ends_behind tail text t (text ++ t) refl (all t h)
open_ends text tail g spans (f ∷ frames) t all around h =
    let (front, rest, e, i, k) = braces_then (with_choice g f.choices) f.behind (Follows false frames) t h in
    ends_behind tail (text ++ front) rest (text ++ t) (ap (λ v. text ++ v) e ∙ sym (append_assoc text front rest)) (around.0 rest k)

open_around : (tail : List ℕ) (g : Pattern) (spans : List Span) (frames : List Frame) → FramesEnd tail frames → FramesEnd tail (opened (record { pattern = g; spans = spans; frames = frames }) frames).frames
open_around tail g spans [] around = tt
open_around tail g spans (f ∷ frames) around = around.1

comma_ends : (text tail : List ℕ) (g : Pattern) (spans : List Span) (frames : List Frame) (t : List ℕ) → ((t : List ℕ) → Then g (Follows false frames) t → EndsIn tail t) → FramesEnd tail frames
    → Accepts false (parted (record { pattern = g; spans = spans; frames = frames }) frames) t → EndsIn tail (text ++ t)
comma_ends text tail g spans [] t all around h = ends_behind tail text t (text ++ t) refl (all t h)
comma_ends text tail g spans (f ∷ frames) t all around h =
    ends_behind tail text t (text ++ t) refl (around.0 t (empty_then (Follows false (f ∷ frames)) t h))

comma_around : (tail : List ℕ) (g : Pattern) (spans : List Span) (frames : List Frame) → FramesEnd tail frames → FramesEnd tail (parted (record { pattern = g; spans = spans; frames = frames }) frames).frames
comma_around tail g spans [] around = tt
comma_around tail g spans (f ∷ frames) around = (around.0, around.1)

nothing_follows : (t : List ℕ) → Ends false t → t ≡ []
nothing_follows [] h = refl
nothing_follows (c ∷ t) h = absurd (false≢true h)

nothing_taken : (t : List ℕ) → Takes [] t → t ≡ []
nothing_taken t h = nothing_follows t (empty_then (Ends false) t h)

tail_is : (text : List ℕ) (parts : List Part) → TailIs text parts
tail_is text [] = record { all = λ t h. ([], ap (λ v. text ++ v) (nothing_taken t h) ∙ append-nil text); around = tt }
tail_is text (a_part.Literal c ∷ parts) =
    let below = tail_is (text ++ c ∷ []) parts in
    record { all = λ t h. literal_ends c text (tail_from (text ++ c ∷ []) parts) parts t below.all h; around = below.around }
tail_is text (a_part.One ∷ parts) =
    let below = tail_is [] parts in
    record { all = λ t h. anew text (tail_from [] parts) parts t below.all (one_rest (reading parts).pattern (Follows false (reading parts).frames) t h); around = below.around }
tail_is text (a_part.Class negated ∷ parts) =
    let below = tail_is [] parts in
    record { all = λ t h. anew text (tail_from [] parts) parts t below.all (listed_rest negated (reading parts).spans (reading parts).pattern (Follows false (reading parts).frames) t h); around = below.around }
tail_is text (a_part.Range at low high ∷ parts) =
    let below = tail_is [] parts in
    record { all = λ t h. anew text (tail_from [] parts) parts t below.all ([], t, refl, h); around = below.around }
tail_is text (a_part.Star ∷ parts) =
    let below = tail_is [] parts in
    record { all = λ t h. anew text (tail_from [] parts) parts t below.all (star_rest (reading parts).pattern (Follows false (reading parts).frames) t h); around = below.around }
tail_is text (a_part.Any ∷ parts) =
    let below = tail_is [] parts in
    record { all = λ t h. anew text (tail_from [] parts) parts t below.all (any_rest (reading parts).pattern (Follows false (reading parts).frames) t h); around = below.around }
tail_is text (a_part.Slashes ∷ parts) =
    let below = tail_is [] parts in
    record { all = λ t h. anew text (tail_from [] parts) parts t below.all (slashes_rest (reading parts).pattern (Follows false (reading parts).frames) t h); around = below.around }
tail_is text (a_part.Open at ∷ parts) =
    let below = tail_is [] parts in
    let r : Reading = reading parts in
    record { all = λ t h. open_ends text (tail_from [] parts) r.pattern r.spans r.frames t below.all below.around h; around = open_around (tail_from [] parts) r.pattern r.spans r.frames below.around }
tail_is text (a_part.Comma ∷ parts) =
    let below = tail_is [] parts in
    let r : Reading = reading parts in
    record { all = λ t h. comma_ends text (tail_from [] parts) r.pattern r.spans r.frames t below.all below.around h; around = comma_around (tail_from [] parts) r.pattern r.spans r.frames below.around }
tail_is text (a_part.Close ∷ parts) =
    let below = tail_is [] parts in
    let r : Reading = reading parts in
    record { all = λ t h. ends_behind (tail_from [] parts) text t (text ++ t) refl (below.all t (empty_then (Then r.pattern (Follows false r.frames)) t h)); around = (below.all, below.around) }

pub tail_in : (parts : List Part) (t : List ℕ) → Takes parts t → (front : List ℕ) × (t ≡ front ++ tail_from [] parts)
tail_in parts t h = (tail_is [] parts).all t h

-- a text in the glob is taken whole
taken : (parts : List Part) (b : List ℕ) → closers parts ≡ 0 → InGlob (reading parts).pattern b → Takes parts b
taken parts b none i = (b, [], sym (append-nil b), i, subst (λ fs. Follows false fs []) (sym (frames_none parts none)) tt)

slash_bytes : (t : List ℕ) → encode_utf8_all (47 ∷ t) ≡ 47 ∷ encode_utf8_all t
slash_bytes t = ap (λ v. v ++ encode_utf8_all t) (encode_ascii 47 (lit< tt))

front_bytes : (rooted : Bool) (a : List ℕ) → IsFront rooted a → IsFront rooted (encode_utf8_all a)
front_bytes true a h = ap encode_utf8_all h
front_bytes false a (inl h) = inl (ap encode_utf8_all h)
front_bytes false a (inr (dir, h)) = inr (encode_utf8_all dir, ap encode_utf8_all h ∙ encodes-append dir (47 ∷ []) ∙ ap (λ v. encode_utf8_all dir ++ v) (slash_bytes []))

back_bytes : (inner : Bool) (c : List ℕ) → IsBack inner c → IsBack inner (encode_utf8_all c)
back_bytes false c h = ap encode_utf8_all h
back_bytes true c (inl h) = inl (ap encode_utf8_all h)
back_bytes true c (inr (below, h)) = inr (encode_utf8_all below, ap encode_utf8_all h ∙ slash_bytes below)

-- where the glob stands in a path, its beginning stands
pub stands_begin : (inner rooted : Bool) (parts : List Part) (path head : List ℕ) (may : Bool) → closers parts ≡ 0 → IsUtf8 path → head ≡ encode_utf8_all (head_of parts)
    → ((a rest : List ℕ) → path ≡ a ++ (head ++ rest) → IsFront rooted a → may ≡ true) → Stands inner rooted (reading parts).pattern (chars path) → may ≡ true
stands_begin inner rooted parts path head may none utf8 head_is test (a, b, c, e, in_front, i, back) =
    let (more, split) = head_in parts b (taken parts b none i) in
    let whole : path ≡ encode_utf8_all a ++ (head ++ encode_utf8_all (more ++ c)) =
    sym (encodes-chars path utf8) ∙ ap encode_utf8_all (e ∙ ap (λ v. a ++ (v ++ c)) split ∙ ap (λ v. a ++ v) (append_assoc (head_of parts) more c)) ∙ encodes-append a (head_of parts ++ (more ++ c))
    ∙ ap (λ v. encode_utf8_all a ++ v) (encodes-append (head_of parts) (more ++ c)) ∙ ap (λ v. encode_utf8_all a ++ (v ++ encode_utf8_all (more ++ c))) (sym head_is) in
    test (encode_utf8_all a) (encode_utf8_all (more ++ c)) whole (front_bytes rooted a in_front)

-- and its end
pub stands_end : (inner rooted : Bool) (parts : List Part) (path tail : List ℕ) (may : Bool) → closers parts ≡ 0 → IsUtf8 path → tail ≡ encode_utf8_all (tail_from [] parts)
    → ((front c : List ℕ) → path ≡ (front ++ tail) ++ c → IsBack inner c → may ≡ true) → Stands inner rooted (reading parts).pattern (chars path) → may ≡ true
stands_end inner rooted parts path tail may none utf8 tail_is test (a, b, c, e, in_front, i, back) =
    let w : List ℕ = tail_from [] parts in
    let (front, split) = tail_in parts b (taken parts b none i) in
    let whole : path ≡ (encode_utf8_all (a ++ front) ++ tail) ++ encode_utf8_all c =
    sym (encodes-chars path utf8) ∙ ap encode_utf8_all (e ∙ ap (λ v. a ++ (v ++ c)) split ∙ sym (append_assoc a (front ++ w) c) ∙ ap (λ v. v ++ c) (sym (append_assoc a front w))) ∙ encodes-append ((a ++ front) ++ w) c
    ∙ ap (λ v. v ++ encode_utf8_all c) (encodes-append (a ++ front) w) ∙ ap (λ v. (encode_utf8_all (a ++ front) ++ v) ++ encode_utf8_all c) (sym tail_is) in
    test (encode_utf8_all (a ++ front)) (encode_utf8_all c) whole (back_bytes inner c back)

-- what a glob keeps: its parts make the glob that its text spells, there is room for them, and each `}` stands behind its `{`
pub glob_same : (view text : List ℕ) (parts : List Part) → text ≡ view → parts ≡ parts_of (chars text) → (reading parts).pattern ≡ glob_of (chars view)
glob_same view text parts text_is parts_are = ap (λ ps. (reading ps).pattern) (parts_are ∙ ap (λ t. parts_of (chars t)) text_is)

pub glob_closed : (text : List ℕ) (parts : List Part) → parts ≡ parts_of (chars text) → closers parts ≡ 0
glob_closed text parts parts_are = omega (arith, ap closers parts_are, closed 0 0 0 (chars text))

pub glob_few : (text : List ℕ) (parts : List Part) → IsUtf8 text → length text ≤ 4095 → parts ≡ parts_of (chars text) → length parts ≤ 4095
glob_few text parts utf8 few parts_are = omega (arith, ap length parts_are, parts_few 0 0 0 (chars text), length-le-encodes (chars text), ap length (encodes-chars text utf8))

-- where the beginning or the end stands nowhere the glob does not
pub none_begins : (inner rooted : Bool) (view text : List ℕ) (parts : List Part) (path head there : List ℕ) (may : Bool) → text ≡ view → parts ≡ parts_of (chars text) → IsUtf8 path → head ≡ encode_utf8_all (head_of parts) → there ≡ head
    → ((a rest : List ℕ) → path ≡ a ++ (there ++ rest) → IsFront rooted a → may ≡ true) → may ≡ false → Stands inner rooted (glob_of (chars view)) (chars path) → ⊥
none_begins inner rooted view text parts path head there may text_is parts_are utf8 head_is same test never s =
    let s' : Stands inner rooted (reading parts).pattern (chars path) = subst (λ g. Stands inner rooted g (chars path)) (sym (glob_same view text parts text_is parts_are)) s in
    false≢true (sym never ∙ stands_begin inner rooted parts path there may (glob_closed text parts parts_are) utf8 (same ∙ head_is) test s')

pub none_ends : (inner rooted : Bool) (view text : List ℕ) (parts : List Part) (path tail there : List ℕ) (may : Bool) → text ≡ view → parts ≡ parts_of (chars text) → IsUtf8 path → tail ≡ encode_utf8_all (tail_from [] parts) → there ≡ tail
    → ((front c : List ℕ) → path ≡ (front ++ there) ++ c → IsBack inner c → may ≡ true) → may ≡ false → Stands inner rooted (glob_of (chars view)) (chars path) → ⊥
none_ends inner rooted view text parts path tail there may text_is parts_are utf8 tail_is same test never s =
    let s' : Stands inner rooted (reading parts).pattern (chars path) = subst (λ g. Stands inner rooted g (chars path)) (sym (glob_same view text parts text_is parts_are)) s in
    false≢true (sym never ∙ stands_end inner rooted parts path there may (glob_closed text parts parts_are) utf8 (same ∙ tail_is) test s')

-- where the glob stands, its end may
pub may_stand : (rooted : Bool) (view text : List ℕ) (parts : List Part) (path tail there : List ℕ) (may : Bool) → text ≡ view → parts ≡ parts_of (chars text) → IsUtf8 path → tail ≡ encode_utf8_all (tail_from [] parts) → there ≡ tail
    → ((front c : List ℕ) → path ≡ (front ++ there) ++ c → IsBack false c → may ≡ true) → Stands false rooted (glob_of (chars view)) (chars path) → may ≡ true
may_stand rooted view text parts path tail there may text_is parts_are utf8 tail_is same test s =
    stands_end false rooted parts path there may (glob_closed text parts parts_are) utf8 (same ∙ tail_is) test (subst (λ g. Stands false rooted g (chars path)) (sym (glob_same view text parts text_is parts_are)) s)
