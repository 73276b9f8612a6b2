-- The columns of the last parts that are kept, from one part to the next and from one glob to the next.
use Rattle.std.proofs.Common.{◌≡◌, ℕ, ◌+◌, ◌-◌, ◌<◌, ◌≤◌, Bool, true, false, List, [], length, get_or, set, drop, refl, sym, ap, subst, ◌∙◌, arith, length-drop, eqb-true, eq-eqb, ◌==◌, ◌≢◌}
use Rattle.std.proofs.lemmas.Bool.{false≢true}
use Rattle.std.proofs.lemmas.List.{get_or-set_same, get_or-set_other}
use Rattle.hg_glob.specs.Part.{reading}
use Rattle.hg_glob.specs.Refusal.{closers}
use Rattle.hg_glob.specs.Accepted.{ColumnIs}
use Rattle.hg_glob.specs.Column.{stack, StepsTo}
use Rattle.hg_glob.specs.Many.{last_parts, SharesEnd}
use Rattle.hg_glob.specs.Trail.{column_at, TrailIs}
use Rattle.hg_glob.specs.declared.part.Part.{Part}
use Rattle.hg_glob.specs.declared.fork.Column.{Column}
use Rattle.hg_glob.specs.declared.fork.Fork.{Fork}
use Rattle.hg_glob.proofs.Sweeps.{column_first, column_down, braces_len, stack_len, closers_few}
use Rattle.hg_glob.proofs.Masks.{end_alone}
use Rattle.hg_glob.proofs.Ends.{frames_len}

abbrev no_column : Column
no_column = record { now = 0; hit = 0; depth = 0 }

-- as many braces are around as parts behind them at most
pub room_on : (xs : List ℕ) (parts : List Part) (k now hit depth : ℕ) (forks : List Fork) → ColumnIs false xs (reading (last_parts k parts)) now hit (stack depth forks) → k ≤ length parts → depth ≤ length forks → depth ≤ k
room_on xs parts k now hit depth forks h inside room =
    let last : List Part = last_parts k parts in
    let same : length (reading last).frames ≡ length (stack depth forks) = braces_len false (reading last).frames 0 (stack depth forks) [] (h.braces_are 0 (omega arith)) in
    let around : depth ≡ closers last = sym (stack_len depth forks room) ∙ sym same ∙ frames_len last in
    omega (arith, around, closers_few last, length-drop (length parts - k) parts)

-- one part in front
pub column_on : (xs : List ℕ) (parts : List Part) (k : ℕ) (part other : Part) (now hit : ℕ) (forks : List Fork) (on on_hit : ℕ) (on_forks : List Fork) → ColumnIs false xs (reading (last_parts k parts)) now hit forks → k < length parts → part ≡ get_or parts (length parts - 1 - k) other
    → StepsTo part xs now hit forks on on_hit on_forks → ColumnIs false xs (reading (last_parts (k + 1) parts)) on on_hit on_forks
column_on xs parts k part other now hit forks on on_hit on_forks h inside part_is s =
    let same : length parts - 1 - k ≡ length parts - (k + 1) = omega arith in
    subst (λ n. ColumnIs false xs (reading (drop n parts)) on on_hit on_forks) same
    (column_down false xs parts (length parts - k) (length parts - 1 - k) part other now hit forks on on_hit on_forks h (omega arith) (omega arith) part_is s)

-- outside braces there are none around
outside : (xs : List ℕ) (parts : List Part) (k now hit depth : ℕ) (forks : List Fork) → ColumnIs false xs (reading (last_parts k parts)) now hit (stack depth forks) → depth ≡ 0 → ColumnIs false xs (reading (last_parts k parts)) now hit []
outside xs parts k now hit depth forks h none =
    let first : ColumnIs false xs (reading (last_parts k parts)) now hit (stack 0 forks) = subst (λ n. ColumnIs false xs (reading (last_parts k parts)) now hit (stack n forks)) none h in
    first

-- the columns that were kept and one more
one_of : (xs : List ℕ) (parts : List Part) (k j : ℕ) (columns : List Column) (column : Column) (forks : List Fork) (b : Bool) → (j == k + 1) ≡ b → TrailIs xs parts k columns → k + 1 < length columns
    → ColumnIs false xs (reading (last_parts (k + 1) parts)) column.now column.hit (stack column.depth forks) → j ≤ k + 1 → (column_at (set columns (k + 1) column) j).depth ≡ 0
    → ColumnIs false xs (reading (last_parts j parts)) (column_at (set columns (k + 1) column) j).now (column_at (set columns (k + 1) column) j).hit []
one_of xs parts k j columns column forks true same h room column_is below out =
    let at : j ≡ k + 1 = eqb-true j (k + 1) same in
    let is : column_at (set columns (k + 1) column) j ≡ column = ap (column_at (set columns (k + 1) column)) at ∙ get_or-set_same columns (k + 1) column no_column room in
    subst (λ (c : Column). ColumnIs false xs (reading (last_parts j parts)) c.now c.hit []) (sym is)
    (subst (λ n. ColumnIs false xs (reading (last_parts n parts)) column.now column.hit []) (sym at) (outside xs parts (k + 1) column.now column.hit column.depth forks column_is (sym (ap (λ (c : Column). c.depth) is) ∙ out)))
one_of xs parts k j columns column forks false other h room column_is below out =
    let apart : j ≢ k + 1 = λ e. absurd (false≢true (sym other ∙ eq-eqb j (k + 1) e)) in
    let is : column_at (set columns (k + 1) column) j ≡ column_at columns j = get_or-set_other columns (k + 1) j column no_column apart in
    subst (λ (c : Column). ColumnIs false xs (reading (last_parts j parts)) c.now c.hit []) (sym is) (h.at j (omega (arith, apart)) (sym (ap (λ (c : Column). c.depth) is) ∙ out))

pub trail_more : (xs : List ℕ) (parts : List Part) (k : ℕ) (columns : List Column) (column : Column) (forks : List Fork) → TrailIs xs parts k columns → k < length parts → k + 1 < length columns
    → ColumnIs false xs (reading (last_parts (k + 1) parts)) column.now column.hit (stack column.depth forks) → TrailIs xs parts (k + 1) (set columns (k + 1) column)
trail_more xs parts k columns column forks h more room column_is =
    let apart : 0 ≢ k + 1 = λ e. absurd (omega (arith, e)) in
    record {
      inside = omega arith;
      first = ap (λ (c : Column). c.depth) (get_or-set_other columns (k + 1) 0 column no_column apart) ∙ h.first;
      at = λ j below out. one_of xs parts k j columns column forks (j == k + 1) refl h room column_is below out;
    }

-- of no parts
pub trail_first : (xs : List ℕ) (columns : List Column) → 0 < length columns → TrailIs xs [] 0 (set columns 0 (record { now = 1; hit = 0; depth = 0 }))
trail_first xs columns room =
    let column : Column = record { now = 1; hit = 0; depth = 0 } in
    let is : column_at (set columns 0 column) 0 ≡ column = get_or-set_same columns 0 column no_column room in
    record {
      inside = omega arith;
      first = ap (λ (c : Column). c.depth) is;
      at = λ j below out.
          let none : j ≡ 0 = omega arith in
          subst (λ n. ColumnIs false xs (reading (last_parts n [])) (column_at (set columns 0 column) n).now (column_at (set columns 0 column) n).hit []) (sym none)
          (subst (λ (c : Column). ColumnIs false xs (reading []) c.now c.hit []) (sym is) (column_first false xs 1 [] 0 [] (end_alone xs) (omega arith)));
    }

-- what two globs have in common serves the second as well
pub trail_shared : (xs : List ℕ) (a b : List Part) (count len n : ℕ) (columns : List Column) → TrailIs xs a len columns → SharesEnd count a b → n ≤ len → n ≤ count → TrailIs xs b n columns
trail_shared xs a b count len n columns h s few common = record {
  inside = omega (arith, s.second);
  first = h.first;
  at = λ j below out. subst (λ r. ColumnIs false xs r (column_at columns j).now (column_at columns j).hit []) (s.same j (omega arith)) (h.at j (omega arith) out);
}
