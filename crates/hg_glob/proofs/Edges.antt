-- A text that begins or ends with another, in a path.
use Rattle.std.proofs.Common.{◌≡◌, ℕ, ◌-◌, Bool, true, false, ◌⊎◌, inl, inr, List, [], ◌∷◌, ◌++◌, length, drop, nat_eq, refl, sym, ap, ◌∙◌, append_assoc, append-nil, arith, length-append, ◌||◌, ◌==◌}
use Rattle.std.specs.List.{starts_with, ends_with}
use lib.Pointwise.{pointwise}
use Rattle.std.proofs.lemmas.Bool.{false≢true}
use Rattle.std.proofs.lemmas.Cmp.{nat_list_eq_equiv}
use Rattle.std.proofs.Math.Seq.{take-append_seam, drop-append_seam}
use Rattle.hg_base.specs.PathText.{has_slash}
use Rattle.hg_glob.specs.Line.{IsFront, IsBack}
use Rattle.hg_glob.proofs.Then.{or_false}

pub begins_so : (head rest : List ℕ) → starts_with nat_eq (head ++ rest) head ≡ true
begins_so head rest = ap (pointwise nat_eq head) (take-append_seam head rest) ∙ nat_list_eq_equiv.refl head

pub ends_so : (front tail : List ℕ) → ends_with nat_eq (front ++ tail) tail ≡ true
ends_so front tail =
    let n : length (front ++ tail) - length tail ≡ length front = omega (arith, length-append front tail) in
    ap (λ k. pointwise nat_eq tail (drop k (front ++ tail))) n ∙ ap (pointwise nat_eq tail) (drop-append_seam front tail) ∙ nat_list_eq_equiv.refl tail

or_true : (a b : Bool) → b ≡ true → (a || b) ≡ true
or_true false b h = h
or_true true b h = refl

-- every place where the beginning stands in the path is in what is left of it
abbrev pub BeginsLeft : List ℕ → List ℕ → List ℕ → Type 0
BeginsLeft path head left = (a rest : List ℕ) → path ≡ a ++ (head ++ rest) → IsFront false a → (b : List ℕ) × (left ≡ b ++ (head ++ rest)) × IsFront false b

-- no slash stands before the first one
slash_inside : (front rest dir end : List ℕ) → front ++ 47 ∷ rest ≡ dir ++ 47 ∷ end → has_slash front ≡ false → ((dir ≡ front) × (end ≡ rest)) ⊎ ((more : List ℕ) × (rest ≡ more ++ 47 ∷ end))
slash_inside [] rest [] end e quiet = inl (refl, cc e)
slash_inside [] rest (d ∷ dir) end e quiet = inr (dir, cc e)
slash_inside (f ∷ front) rest [] end e quiet =
    let slash : f ≡ 47 = cc e in
    absurd (false≢true (sym (or_false (f == 47) (has_slash front) quiet).0 ∙ ap (λ v. v == 47) slash))
slash_inside (f ∷ front) rest (d ∷ dir) end e quiet =
    elim (slash_inside front rest dir end (cc e) (or_false (f == 47) (has_slash front) quiet).1) [
      | inl p ↦ inl (let same : d ≡ f = cc e in cc (same, p.0), p.1)
      | inr q ↦ inr q
    ]

slash_in : (dir rest : List ℕ) → has_slash (dir ++ 47 ∷ rest) ≡ true
slash_in [] rest = refl
slash_in (d ∷ dir) rest = or_true (d == 47) (has_slash (dir ++ 47 ∷ rest)) (slash_in dir rest)

pub begins_first : (path head : List ℕ) → BeginsLeft path head path
begins_first path head a rest e in_front = (a, e, in_front)

begins_here : (head rest b left : List ℕ) → starts_with nat_eq left head ≡ false → left ≡ b ++ (head ++ rest) → b ≡ [] → ⊥
begins_here head rest b left other e nothing =
    false≢true (sym other ∙ ap (λ v. starts_with nat_eq v head) (e ∙ ap (λ v. v ++ (head ++ rest)) nothing) ∙ begins_so head rest)

cut_front : (dir end left b : List ℕ) → left ≡ b ++ end → b ≡ dir ++ 47 ∷ [] → left ≡ dir ++ 47 ∷ end
cut_front dir end left b e slash = e ∙ ap (λ v. v ++ end) slash ∙ append_assoc dir (47 ∷ []) end

-- without a slash the beginning stands nowhere else
no_slash_left : (head rest left b : List ℕ) → starts_with nat_eq left head ≡ false → has_slash left ≡ false → left ≡ b ++ (head ++ rest) → IsFront false b → ⊥
no_slash_left head rest left b other quiet e (inl nothing) = begins_here head rest b left other e nothing
no_slash_left head rest left b other quiet e (inr (dir, slash)) = false≢true (sym quiet ∙ ap has_slash (cut_front dir (head ++ rest) left b e slash) ∙ slash_in dir (head ++ rest))

pub begins_nowhere : (path head left : List ℕ) → BeginsLeft path head left → starts_with nat_eq left head ≡ false → has_slash left ≡ false → (a rest : List ℕ) → path ≡ a ++ (head ++ rest) → IsFront false a → ⊥
begins_nowhere path head left all other quiet a rest e in_front =
    let (b, split, there) = all a rest e in_front in
    no_slash_left head rest left b other quiet split there

begins_behind : (head rest left b x y : List ℕ) → starts_with nat_eq left head ≡ false → left ≡ x ++ 47 ∷ y → has_slash x ≡ false → left ≡ b ++ (head ++ rest) → IsFront false b → (b' : List ℕ) × (y ≡ b' ++ (head ++ rest)) × IsFront false b'
begins_behind head rest left b x y other cut quiet e (inl nothing) = absurd (begins_here head rest b left other e nothing)
begins_behind head rest left b x y other cut quiet e (inr (dir, slash)) =
    elim (slash_inside x y dir (head ++ rest) (sym cut ∙ cut_front dir (head ++ rest) left b e slash) quiet) [
      | inl p ↦ ([], sym p.1, inl refl)
      | inr q ↦ (q.0 ++ 47 ∷ [], q.1 ∙ sym (append_assoc q.0 (47 ∷ []) (head ++ rest)), inr (q.0, refl))
    ]

pub begins_more : (path head left x y : List ℕ) → BeginsLeft path head left → starts_with nat_eq left head ≡ false → left ≡ x ++ 47 ∷ y → has_slash x ≡ false → BeginsLeft path head y
begins_more path head left x y all other cut quiet a rest e in_front =
    let (b, split, there) = all a rest e in_front in
    begins_behind head rest left b x y other cut quiet split there

-- every place where the end stands in the path is in what is left of it
abbrev pub EndsLeft : List ℕ → List ℕ → List ℕ → Type 0
EndsLeft path tail left = (front c : List ℕ) → path ≡ (front ++ tail) ++ c → IsBack true c → (d : List ℕ) × (left ≡ (front ++ tail) ++ d) × IsBack true d

pub ends_first : (path tail : List ℕ) → EndsLeft path tail path
ends_first path tail front c e back = (c, e, back)

ends_here : (front tail d left : List ℕ) → ends_with nat_eq left tail ≡ false → left ≡ (front ++ tail) ++ d → d ≡ [] → ⊥
ends_here front tail d left other e nothing =
    false≢true (sym other ∙ ap (λ v. ends_with nat_eq v tail) (e ∙ ap (λ v. (front ++ tail) ++ v) nothing ∙ append-nil (front ++ tail)) ∙ ends_so front tail)

-- no slash stands behind the last one
slash_last : (a below x y : List ℕ) → a ++ 47 ∷ below ≡ x ++ 47 ∷ y → has_slash y ≡ false → (x ≡ a) ⊎ ((more : List ℕ) × (x ≡ a ++ 47 ∷ more))
slash_last [] below [] y e quiet = inl refl
slash_last [] below (d ∷ x) y e quiet =
    let slash : d ≡ 47 = cc e in
    inr (x, ap (λ v. v ∷ x) slash)
slash_last (p ∷ a) below [] y e quiet =
    let rest : y ≡ a ++ 47 ∷ below = cc e in
    absurd (false≢true (sym quiet ∙ ap has_slash rest ∙ slash_in a below))
slash_last (p ∷ a) below (d ∷ x) y e quiet =
    let same : d ≡ p = cc e in
    elim (slash_last a below x y (cc e) quiet) [ inl q ↦ inl (cc (same, q)) | inr q ↦ inr (q.0, cc (same, q.1)) ]

no_slash_last : (front tail d left : List ℕ) → ends_with nat_eq left tail ≡ false → has_slash left ≡ false → left ≡ (front ++ tail) ++ d → IsBack true d → ⊥
no_slash_last front tail d left other quiet e (inl nothing) = ends_here front tail d left other e nothing
no_slash_last front tail d left other quiet e (inr (below, slash)) = false≢true (sym quiet ∙ ap has_slash (e ∙ ap (λ v. (front ++ tail) ++ v) slash) ∙ slash_in (front ++ tail) below)

pub ends_nowhere : (path tail left : List ℕ) → EndsLeft path tail left → ends_with nat_eq left tail ≡ false → has_slash left ≡ false → (front c : List ℕ) → path ≡ (front ++ tail) ++ c → IsBack true c → ⊥
ends_nowhere path tail left all other quiet front c e back =
    let (d, split, there) = all front c e back in
    no_slash_last front tail d left other quiet split there

ends_before : (front tail d left x y : List ℕ) → ends_with nat_eq left tail ≡ false → left ≡ x ++ 47 ∷ y → has_slash y ≡ false → left ≡ (front ++ tail) ++ d → IsBack true d → (d' : List ℕ) × (x ≡ (front ++ tail) ++ d') × IsBack true d'
ends_before front tail d left x y other cut quiet e (inl nothing) = absurd (ends_here front tail d left other e nothing)
ends_before front tail d left x y other cut quiet e (inr (below, slash)) =
    elim (slash_last (front ++ tail) below x y (sym (e ∙ ap (λ v. (front ++ tail) ++ v) slash) ∙ cut) quiet) [
      | inl q ↦ ([], q ∙ sym (append-nil (front ++ tail)), inl refl)
      | inr q ↦ (47 ∷ q.0, q.1, inr (q.0, refl))
    ]

pub ends_more : (path tail left x y : List ℕ) → EndsLeft path tail left → ends_with nat_eq left tail ≡ false → left ≡ x ++ 47 ∷ y → has_slash y ≡ false → EndsLeft path tail x
ends_more path tail left x y all other cut quiet front c e back =
    let (d, split, there) = all front c e back in
    ends_before front tail d left x y other cut quiet split there

pub begins_rooted : (path head a rest : List ℕ) (result : Bool) → result ≡ starts_with nat_eq path head → path ≡ a ++ (head ++ rest) → a ≡ [] → result ≡ true
begins_rooted path head a rest result is e nothing = is ∙ ap (λ v. starts_with nat_eq v head) (e ∙ ap (λ v. v ++ (head ++ rest)) nothing) ∙ begins_so head rest

pub ends_whole : (path tail front c : List ℕ) (result : Bool) → result ≡ ends_with nat_eq path tail → path ≡ (front ++ tail) ++ c → c ≡ [] → result ≡ true
ends_whole path tail front c result is e nothing = is ∙ ap (λ v. ends_with nat_eq v tail) (e ∙ ap (λ v. (front ++ tail) ++ v) nothing ∙ append-nil (front ++ tail)) ∙ ends_so front tail
