-- One part over all ends at once: each part is one lemma.
use Rattle.std.proofs.Common.{◌≡◌, ℕ, zero, suc, ◌+◌, ◌<◌, ◌≤◌, Bool, true, false, not, cond, ◌&&◌, ◌||◌, ◌==◌, nat_le, List, ◌∷◌, length, get_or, map, refl, sym, ap, subst, ◌∙◌, arith, add-one}
use Rattle.std.specs.Int.Bits.{bit_and, bit_or}
use Rattle.hg_glob.specs.Column.{bit, IsUp, IsSmeared, IsWord, brace_at, going_at, stepped_at, StepsTo}
use Rattle.hg_glob.specs.declared.part.Part.{Part}
use Rattle.hg_glob.specs.declared.part.Part.TheVariants as a_part
use Rattle.hg_glob.specs.declared.mark.Going.{Going}
use Rattle.hg_glob.specs.declared.fork.Fork.{Fork}
use Rattle.hg_glob.proofs.Bits.{bit_of_and, bit_of_or, bit_of_none, or_false}
use Rattle.hg_glob.proofs.Masks.{and_false}

pub literal_steps : (xs : List ℕ) (x now hit table shifted : ℕ) (forks : List Fork) → length xs ≤ 63 → IsWord xs (λ c. c == x) table → IsUp now shifted → StepsTo (a_part.Literal x) xs now hit forks (bit_and table shifted) hit forks
literal_steps xs x now hit table shifted forks few t u = record { mark = mark; going = going }
  where
    mark : (i : ℕ) → i ≤ length xs → bit (bit_and table shifted) i ≡ (stepped_at (a_part.Literal x) xs now hit forks i).mark.here
    mark zero below = bit_of_and table shifted 0 ∙ ap (λ v. v && bit shifted 0) t.front
    mark (suc i) below = bit_of_and table shifted (suc i) ∙ ap (λ v. v && bit shifted (suc i)) (t.at i (omega arith)) ∙ ap (λ v. get_or xs i 0 == x && v) (u.more i (omega arith))

    going : (i : ℕ) → i ≤ length xs → going_at hit forks i ≡ (stepped_at (a_part.Literal x) xs now hit forks i).going
    going zero below = refl
    going (suc i) below = refl

pub one_steps : (xs : List ℕ) (now hit shifted : ℕ) (forks : List Fork) → length xs ≤ 63 → IsUp now shifted → StepsTo a_part.One xs now hit forks shifted hit forks
one_steps xs now hit shifted forks few u = record { mark = mark; going = going }
  where
    mark : (i : ℕ) → i ≤ length xs → bit shifted i ≡ (stepped_at a_part.One xs now hit forks i).mark.here
    mark zero below = u.front
    mark (suc i) below = u.more i (omega arith)

    going : (i : ℕ) → i ≤ length xs → going_at hit forks i ≡ (stepped_at a_part.One xs now hit forks i).going
    going zero below = refl
    going (suc i) below = refl

pub class_steps : (xs : List ℕ) (negated : Bool) (now hit taken shifted : ℕ) (forks : List Fork) → length xs ≤ 63 → ((i : ℕ) → i < 64 → bit taken i ≡ cond negated (not (bit hit i)) (bit hit i)) → IsUp now shifted
    → StepsTo (a_part.Class negated) xs now hit forks (bit_and taken shifted) 0 forks
class_steps xs negated now hit taken shifted forks few t u = record { mark = mark; going = going }
  where
    mark : (i : ℕ) → i ≤ length xs → bit (bit_and taken shifted) i ≡ (stepped_at (a_part.Class negated) xs now hit forks i).mark.here
    mark zero below = bit_of_and taken shifted 0 ∙ ap (λ v. bit taken 0 && v) u.front ∙ and_false (bit taken 0)
    mark (suc i) below = bit_of_and taken shifted (suc i) ∙ ap (λ v. v && bit shifted (suc i)) (t (suc i) (omega arith)) ∙ ap (λ v. cond negated (not (bit hit (suc i))) (bit hit (suc i)) && v) (u.more i (omega arith))

    cleared : (i : ℕ) → going_at 0 forks i ≡ (record { hit = false; braces = map (brace_at i) forks })
    cleared i = ap (λ v. let g : Going = record { hit = v; braces = map (brace_at i) forks } in g) (bit_of_none i)

    going : (i : ℕ) → i ≤ length xs → going_at 0 forks i ≡ (stepped_at (a_part.Class negated) xs now hit forks i).going
    going zero below = cleared 0
    going (suc i) below = cleared (suc i)

pub range_steps : (xs : List ℕ) (at low high now hit table : ℕ) (forks : List Fork) → length xs ≤ 63 → IsWord xs (λ c. nat_le low c && nat_le c high) table → StepsTo (a_part.Range at low high) xs now hit forks now (bit_or table hit) forks
range_steps xs at low high now hit table forks few t = record { mark = mark; going = going }
  where
    mark : (i : ℕ) → i ≤ length xs → bit now i ≡ (stepped_at (a_part.Range at low high) xs now hit forks i).mark.here
    mark zero below = refl
    mark (suc i) below = refl

    more : (i : ℕ) (v : Bool) → bit table i ≡ v → going_at (bit_or table hit) forks i ≡ (record { hit = v || bit hit i; braces = map (brace_at i) forks })
    more i v h = ap (λ w. let g : Going = record { hit = w; braces = map (brace_at i) forks } in g) (bit_of_or table hit i ∙ ap (λ w. w || bit hit i) h)

    going : (i : ℕ) → i ≤ length xs → going_at (bit_or table hit) forks i ≡ (stepped_at (a_part.Range at low high) xs now hit forks i).going
    going zero below = more 0 false t.front
    going (suc i) below = more (suc i) (nat_le low (get_or xs i 0) && nat_le (get_or xs i 0) high) (t.at i (omega arith))

pub star_steps : (xs : List ℕ) (now hit inside on : ℕ) (forks : List Fork) → length xs ≤ 63 → IsWord xs (λ c. not (c == 47)) inside → IsSmeared now inside on → StepsTo a_part.Star xs now hit forks on hit forks
star_steps xs now hit inside on forks few t s = record { mark = mark; going = going }
  where
    mark : (i : ℕ) → i ≤ length xs → bit on i ≡ (stepped_at a_part.Star xs now hit forks i).mark.here
    mark zero below = s.front ∙ sym (or_false (bit now 0))
    mark (suc i) below =
        s.more i (omega arith) ∙ ap (λ v. bit now (suc i) || (v && bit on i)) (t.at i (omega arith))
        ∙ ap (λ v. bit now (suc i) || (not (get_or xs i 0 == 47) && v)) (mark i (omega arith))

    going : (i : ℕ) → i ≤ length xs → going_at hit forks i ≡ (stepped_at a_part.Star xs now hit forks i).going
    going zero below = refl
    going (suc i) below = refl

-- all ends but that of no character
pub record IsLonger (word : ℕ) : Type 0 where
  pub front : bit word 0 ≡ false
  pub more : (i : ℕ) → i + 1 < 64 → bit word (i + 1) ≡ true

longer_at : (word i : ℕ) → IsLonger word → i < 63 → bit word (suc i) ≡ true
longer_at word i h below = subst (λ n. bit word n ≡ true) (add-one i) (h.more i (omega arith))

pub any_steps : (xs : List ℕ) (now hit longer on : ℕ) (forks : List Fork) → length xs ≤ 63 → IsLonger longer → IsSmeared now longer on → StepsTo a_part.Any xs now hit forks on hit forks
any_steps xs now hit longer on forks few l s = record { mark = mark; going = going }
  where
    mark : (i : ℕ) → i ≤ length xs → bit on i ≡ (stepped_at a_part.Any xs now hit forks i).mark.here
    mark zero below = s.front ∙ sym (or_false (bit now 0))
    mark (suc i) below =
        s.more i (omega arith) ∙ ap (λ v. bit now (suc i) || (v && bit on i)) (longer_at longer i l (omega arith))
        ∙ ap (λ v. bit now (suc i) || v) (mark i (omega arith))

    going : (i : ℕ) → i ≤ length xs → going_at hit forks i ≡ (stepped_at a_part.Any xs now hit forks i).going
    going zero below = refl
    going (suc i) below = refl

pub slashes_steps : (xs : List ℕ) (now slash shifted longer past : ℕ) → length xs ≤ 63 → IsWord xs (λ c. c == 47) slash → IsUp now shifted → IsLonger longer → IsSmeared (bit_and slash shifted) longer past
    → (hit : ℕ) (forks : List Fork) → StepsTo a_part.Slashes xs now hit forks (bit_or now past) hit forks
slashes_steps xs now slash shifted longer past few t u l s hit forks = record { mark = mark; going = going }
  where
    seeds : (i : ℕ) → i < length xs → bit (bit_and slash shifted) (suc i) ≡ (get_or xs i 0 == 47 && bit now i)
    seeds i below = bit_of_and slash shifted (suc i) ∙ ap (λ v. v && bit shifted (suc i)) (t.at i below) ∙ ap (λ v. get_or xs i 0 == 47 && v) (u.more i (omega arith))

    behind : (i : ℕ) → i ≤ length xs → bit past i ≡ (stepped_at a_part.Slashes xs now hit forks i).mark.behind
    behind zero below = s.front ∙ bit_of_and slash shifted 0 ∙ ap (λ v. v && bit shifted 0) t.front
    behind (suc i) below =
        s.more i (omega arith) ∙ ap (λ v. v || (bit longer (suc i) && bit past i)) (seeds i (omega arith))
        ∙ ap (λ v. (get_or xs i 0 == 47 && bit now i) || (v && bit past i)) (longer_at longer i l (omega arith))
        ∙ ap (λ v. (get_or xs i 0 == 47 && bit now i) || v) (behind i (omega arith))

    mark : (i : ℕ) → i ≤ length xs → bit (bit_or now past) i ≡ (stepped_at a_part.Slashes xs now hit forks i).mark.here
    mark zero below = bit_of_or now past 0 ∙ ap (λ v. bit now 0 || v) (behind 0 below)
    mark (suc i) below = bit_of_or now past (suc i) ∙ ap (λ v. bit now (suc i) || v) (behind (suc i) below)

    going : (i : ℕ) → i ≤ length xs → going_at hit forks i ≡ (stepped_at a_part.Slashes xs now hit forks i).going
    going zero below = refl
    going (suc i) below = refl

pub open_steps : (xs : List ℕ) (at now hit : ℕ) (f : Fork) (forks known : List Fork) → known ≡ f ∷ forks → StepsTo (a_part.Open at) xs now hit known (bit_or now f.found) hit forks
open_steps xs at now hit f forks known same = subst (λ fs. StepsTo (a_part.Open at) xs now hit fs (bit_or now f.found) hit forks) (sym same) (record { mark = mark; going = going })
  where
    mark : (i : ℕ) → i ≤ length xs → bit (bit_or now f.found) i ≡ (stepped_at (a_part.Open at) xs now hit (f ∷ forks) i).mark.here
    mark zero below = bit_of_or now f.found 0
    mark (suc i) below = bit_of_or now f.found (suc i)

    going : (i : ℕ) → i ≤ length xs → going_at hit forks i ≡ (stepped_at (a_part.Open at) xs now hit (f ∷ forks) i).going
    going zero below = refl
    going (suc i) below = refl

pub comma_steps : (xs : List ℕ) (now hit : ℕ) (f : Fork) (forks known on : List Fork) → known ≡ f ∷ forks → on ≡ (record { after = f.after; found = bit_or f.found now }) ∷ forks → StepsTo a_part.Comma xs now hit known f.after hit on
comma_steps xs now hit f forks known on same on_is =
    let g : Fork = record { after = f.after; found = bit_or f.found now } in
    let e : on ≡ g ∷ forks = on_is in
    subst (λ fs. StepsTo a_part.Comma xs now hit fs f.after hit on) (sym same) (subst (λ fs. StepsTo a_part.Comma xs now hit (f ∷ forks) f.after hit fs) (sym e) (record { mark = mark; going = going }))
  where
    mark : (i : ℕ) → i ≤ length xs → bit f.after i ≡ (stepped_at a_part.Comma xs now hit (f ∷ forks) i).mark.here
    mark zero below = refl
    mark (suc i) below = refl

    more : (i : ℕ) → going_at hit ((record { after = f.after; found = bit_or f.found now }) ∷ forks) i ≡ (record { hit = bit hit i; braces = (record { after = bit f.after i; found = bit f.found i || bit now i }) ∷ map (brace_at i) forks })
    more i = ap (λ v. let g : Going = record { hit = bit hit i; braces = (record { after = bit f.after i; found = v }) ∷ map (brace_at i) forks } in g) (bit_of_or f.found now i)

    going : (i : ℕ) → i ≤ length xs → going_at hit ((record { after = f.after; found = bit_or f.found now }) ∷ forks) i ≡ (stepped_at a_part.Comma xs now hit (f ∷ forks) i).going
    going zero below = more 0
    going (suc i) below = more (suc i)

pub close_steps : (xs : List ℕ) (now hit : ℕ) (known on : List Fork) → on ≡ (record { after = now; found = 0 }) ∷ known → StepsTo a_part.Close xs now hit known now hit on
close_steps xs now hit known on on_is = subst (λ fs. StepsTo a_part.Close xs now hit known now hit fs) (sym on_is) (record { mark = mark; going = going })
  where
    mark : (i : ℕ) → i ≤ length xs → bit now i ≡ (stepped_at a_part.Close xs now hit known i).mark.here
    mark zero below = refl
    mark (suc i) below = refl

    more : (i : ℕ) → going_at hit ((record { after = now; found = 0 }) ∷ known) i ≡ (record { hit = bit hit i; braces = (record { after = bit now i; found = false }) ∷ map (brace_at i) known })
    more i = ap (λ v. let g : Going = record { hit = bit hit i; braces = (record { after = bit now i; found = v }) ∷ map (brace_at i) known } in g) (bit_of_none i)

    going : (i : ℕ) → i ≤ length xs → going_at hit ((record { after = now; found = 0 }) ∷ known) i ≡ (stepped_at a_part.Close xs now hit known i).going
    going zero below = more 0
    going (suc i) below = more (suc i)

-- the part is known by the arm of a match
pub at_part : {p q : Part} {xs : List ℕ} {now hit : ℕ} {forks : List Fork} {on on_hit : ℕ} {on_forks : List Fork} → p ≡ q → StepsTo q xs now hit forks on on_hit on_forks → StepsTo p xs now hit forks on on_hit on_forks
at_part {p} {q} {xs} {now} {hit} {forks} {on} {on_hit} {on_forks} same s = subst (λ r. StepsTo r xs now hit forks on on_hit on_forks) (sym same) s
