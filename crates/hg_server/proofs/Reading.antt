-- What was taken of a request, piece by piece, and what is said of it at the end.
use Rattle.std.proofs.Common.{◌≡◌, ℕ, ◌+◌, ◌<◌, ◌≤◌, Bool, true, false, cond, eqb, ltb, List, [], ◌++◌, length, take, drop, Option, Some, None, Ok, Err, MatchBool, option_map, refl, sym, ap, ◌∙◌, subst, append_assoc, arith, inl, inr}
use Rattle.std.specs.Int.{w32, from_be_bytes}
use Rattle.std.specs.Str.{is_utf8}
use Rattle.std.proofs.lemmas.Bool.{le-ltb, ltb-false, ne_eqb}
use Rattle.std.proofs.lemmas.List.{append-nil, length-append, length-drop, take-append-le}
use Rattle.std.proofs.Math.Seq.{drop-append-le}
use Rattle.hg_server.specs.Requests.{IsAtEnd, Reads, Says, Took, refusal, room, size_in}
use Rattle.hg_server.specs.Steps.{AreWords, IsOpen, IsThere, Lacks, TakesSome}
use Rattle.hg_server.specs.declared.fault.ServeFault.{ServeFault}
use Rattle.hg_server.specs.declared.fault.ServeFault.TheVariants as a_fault

-- ---- what was taken

pub took_nothing : (left : Option (List ℕ)) → Took left left []
took_nothing None = refl
took_nothing (Some rest) = refl

pub took_twice : (from mid to : Option (List ℕ)) (first second : List ℕ) → Took from mid first → Took mid to second → Took from to (first ++ second)
took_twice from mid None first second e f = e ∙ ap (option_map (λ rest. first ++ rest)) f
took_twice from mid (Some rest) first second e f = e ∙ ap (option_map (λ r. first ++ r)) f ∙ ap Some (sym (append_assoc first second rest))

-- ---- how much may be taken

room_by : (over : Bool) (size : ℕ) → 15 ≤ cond over 15 (15 + size)
room_by true size = omega arith
room_by false size = omega arith

few_by : (over : Bool) (size : ℕ) → over ≡ ltb 1048576 size → cond over 15 (15 + size) ≤ 1048591
few_by true size is = omega arith
few_by false size is = omega (arith, ltb-false 1048576 size (sym is))

pub room_few : (part : List ℕ) → room part ≤ 1048591
room_few part = few_by (ltb 1048576 (size_in part)) (size_in part) refl

pub same_size : (part more : List ℕ) → 15 ≤ length part → size_in (part ++ more) ≡ size_in part
same_size part more long =
    ap (λ (l : List ℕ). from_be_bytes w32 (take 4 l)) (drop-append-le 11 part more (omega (arith, long)))
    ∙ ap (from_be_bytes w32) (take-append-le 4 (drop 11 part) more (omega (arith, long, length-drop 11 part)))

within_more : (n most : ℕ) (part more : List ℕ) → IsOpen n part most → length more ≤ most → length (part ++ more) ≤ room (part ++ more)
within_more n most part more begun few = elim begun.allowed [
  | inl low ↦ omega (arith, low, few, length-append part more, room_by (ltb 1048576 (size_in (part ++ more))) (size_in (part ++ more)))
  | inr high ↦
      let same = same_size part more high.0 in
      let is : room (part ++ more) ≡ 15 + size_in (part ++ more) =
      ap (λ (b : Bool). cond b 15 (15 + size_in (part ++ more))) (le-ltb 1048576 (size_in (part ++ more)) (omega (arith, high, same))) in
      omega (arith, high, same, is, few, length-append part more)
]

-- bytes of which some are missing
pub is_begun : (n most : ℕ) (bytes part : List ℕ) → bytes ≡ part → Lacks n bytes (Ok most) → 0 < most → IsOpen n part most
is_begun n most bytes part same lacks more =
    let test : eqb most 0 ≡ false = ne_eqb most 0 (λ none. omega (arith, none, more)) in
    subst (λ (l : List ℕ). IsOpen n l most) same (subst (λ (b : Bool). MatchBool b (IsThere n bytes) (IsOpen n bytes most)) test lacks)

pub allowed_few : (n most : ℕ) (part : List ℕ) → IsOpen n part most → length part + most ≤ 1048591
allowed_few n most part begun = elim begun.allowed [ inl low ↦ omega (arith, low) | inr high ↦ omega (arith, high) ]

-- one piece more
pub more_taken : (n most : ℕ) (some : Bool) (from mid to : Option (List ℕ)) (old new : List ℕ) → Took from mid old → IsOpen n old most → TakesSome old new mid to most some
    → (Took from to new) × (length new ≤ room new)
more_taken n most some from mid to old new before begun takes =
    subst (λ (l : List ℕ). (Took from to l) × (length l ≤ room l)) (sym takes.whole)
    (took_twice from mid to old takes.more before takes.took, within_more n most old takes.more begun takes.few)

pub grows : (most : ℕ) (some : Bool) (mid to : Option (List ℕ)) (old new : List ℕ) → TakesSome old new mid to most some → some ≡ true → length old < length new
grows most some mid to old new takes so =
    let more : 0 < length takes.more = subst (λ (b : Bool). MatchBool b (0 < length takes.more) ((takes.more ≡ []) × IsAtEnd to)) so takes.end in
    omega (arith, more, ap length takes.whole, length-append old takes.more)

-- ---- how it ends

-- bytes that are refused
pub refused : (n : ℕ) (part : List ℕ) (left : Option (List ℕ)) (fault : ServeFault) → Lacks n part (Err fault) → Says n part left (Err fault)
refused n part left a_fault.OutOfMemory lacks = absurd lacks
refused n part left a_fault.InFailed lacks = absurd lacks
refused n part left a_fault.OutFailed lacks = absurd lacks
refused n part left (a_fault.ServerCommand m) lacks = lacks
refused n part left (a_fault.ServerShort m) lacks = absurd lacks
refused n part left (a_fault.ServerTooLarge m size) lacks = lacks
refused n part left (a_fault.ServerText m) lacks = absurd lacks
refused n part left a_fault.ServerLimit lacks = lacks

text_by : (n : ℕ) (part : List ℕ) (is : Bool) → IsThere n part → is_utf8 (drop 15 part) ≡ is → refusal n part ≡ cond is None (Some (a_fault.ServerText n))
text_by n part is there text =
    there.judged ∙ ap (λ (l : List ℕ). cond (is_utf8 l) None (Some (a_fault.ServerText n))) there.text ∙ ap (λ (b : Bool). cond b None (Some (a_fault.ServerText n))) text

-- words that aren't text, or for which there is no memory
pub unread : (n : ℕ) (part : List ℕ) (left : Option (List ℕ)) (fault : ServeFault) → IsThere n part → AreWords n (drop 15 part) (Err fault) → Says n part left (Err fault)
unread n part left a_fault.OutOfMemory there are = inr (text_by n part true there are)
unread n part left a_fault.InFailed there are = absurd are
unread n part left a_fault.OutFailed there are = absurd are
unread n part left (a_fault.ServerCommand m) there are = absurd are
unread n part left (a_fault.ServerShort m) there are = absurd are
unread n part left (a_fault.ServerTooLarge m size) there are = absurd are
unread n part left (a_fault.ServerText m) there are = text_by n part false there are.1 ∙ ap (λ (k : ℕ). Some (a_fault.ServerText k)) (sym are.0)
unread n part left a_fault.ServerLimit there are = absurd are

-- a request that is there
pub read : (n : ℕ) (part : List ℕ) (left : Option (List ℕ)) (words : List (List ℕ)) → IsThere n part → AreWords n (drop 15 part) (Ok words) → Says n part left (Ok (Some words))
read n part left words there are = (drop 15 part, there.whole, record { short = there.short; utf8 = are.1 }, there.number, are.0)

-- the input ends
nothing_more : (most : ℕ) (some : Bool) (mid to : Option (List ℕ)) (old new : List ℕ) → TakesSome old new mid to most some → some ≡ false → (new ≡ old) × IsAtEnd to
nothing_more most some mid to old new takes so =
    let end : (takes.more ≡ []) × IsAtEnd to = subst (λ (b : Bool). MatchBool b (0 < length takes.more) ((takes.more ≡ []) × IsAtEnd to)) so takes.end in
    (takes.whole ∙ ap (λ (l : List ℕ). old ++ l) end.0 ∙ append-nil old, end.1)

pub ends_between : (n most : ℕ) (some : Bool) (from mid to : Option (List ℕ)) (old new : List ℕ) → Took from mid old → IsOpen n old most → TakesSome old new mid to most some → some ≡ false → new ≡ []
    → Reads n from to (Ok None)
ends_between n most some from mid to old new before begun takes so none =
    let taken = more_taken n most some from mid to old new before begun takes in
    record { part = new; took = taken.0; within = taken.1; says = (none, (nothing_more most some mid to old new takes so).1) }

pub ends_inside : (n most : ℕ) (some : Bool) (from mid to : Option (List ℕ)) (old new : List ℕ) → Took from mid old → IsOpen n old most → TakesSome old new mid to most some → some ≡ false → 0 < length new
    → Reads n from to (Err (a_fault.ServerShort n))
ends_inside n most some from mid to old new before begun takes so inside =
    let taken = more_taken n most some from mid to old new before begun takes in
    let rest = nothing_more most some mid to old new takes so in
    record { part = new; took = taken.0; within = taken.1; says = (ap (refusal n) rest.0 ∙ begun.judged, inside, rest.1) }
