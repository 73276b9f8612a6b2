-- The reading of the entries, as far as it has come.
use Rattle.std.proofs.Common.{ℕ, zero, suc, ◌≡◌, ◌+◌, ◌-◌, ◌<◌, ◌≤◌, ◌||◌, ◌&&◌, Bool, true, false, cond, eqb, List, [], ◌∷◌, ◌++◌, length, drop, Option, Some, None, Result, Ok, Err, refl, sym, ap, ◌∙◌, arith, not, true≢false}
use Rattle.std.specs.Prelude.{is_none}
use Rattle.std.specs.Str.{bytes_eq}
use Rattle.std.proofs.lemmas.Bool.{cond-true, cond-false}
use Rattle.std.proofs.lemmas.List.{length-append, length-drop, drop-drop}
use Rattle.std.proofs.lemmas.List.Folds.{list_any-append}
use Rattle.hg_vone.specs.Format.{is_named, is_short, is_sourced, marks_in, own_fault, path_in, size_in, source_in}
use Rattle.hg_vone.specs.Items.{Item, entry_fault, has_path, item_in, items_from, items_in, or_twice, unless}
use Rattle.hg_vone.specs.Refusing.{Refuses}
use Rattle.hg_vone.specs.declared.fault.VoneFault.{VoneFault}
use Rattle.hg_vone.specs.declared.fault.VoneFault.TheVariants as a_fault

-- the entries before a place were read, and the rest says what the whole says
pub record SoFar (bytes : List ℕ) (at : ℕ) (items : List Item) : Type 0 where
  pub most : ℕ
  pub enough : length bytes - at ≤ most
  pub within : at ≤ length bytes
  pub few : length items ≤ at
  pub same : items_from most at items (drop at bytes) ≡ items_in bytes

pub starts : (bytes : List ℕ) → 40 ≤ length bytes → SoFar bytes 40 []
starts bytes long = record { most = length bytes; enough = omega arith; within = long; few = omega arith; same = refl }

-- no entry is too large
not_large_by : (short none named : Bool) (at size : ℕ) → cond short (Some (a_fault.V1Short at)) (cond none (Some (a_fault.V1State at)) (cond named None (Some (a_fault.V1Path at)))) ≡ Some (a_fault.V1TooLarge size) → ⊥
not_large_by true none named at size h = cc
not_large_by false true named at size h = cc
not_large_by false false true at size h = cc
not_large_by false false false at size h = cc

not_large : (at size : ℕ) (rest : List ℕ) → own_fault at rest ≡ Some (a_fault.V1TooLarge size) → ⊥
unfolding own_fault
not_large at size rest h = not_large_by (is_short rest) (is_none (marks_in rest)) (is_named (path_in rest) && is_sourced (source_in rest)) at size h

refuses : {T : Type 0} (read : Result T VoneFault) (fault : VoneFault) → ((size : ℕ) → fault ≡ a_fault.V1TooLarge size → ⊥) → read ≡ Err fault → Refuses read fault
refuses read a_fault.OutOfMemory small h = tt
refuses read (a_fault.V1Short at) small h = h
refuses read (a_fault.V1State at) small h = h
refuses read (a_fault.V1Path at) small h = h
refuses read (a_fault.V1Twice at) small h = h
refuses read (a_fault.V1TooLarge size) small h = small size refl

-- nothing is left
done : (at : ℕ) (items : List Item) (rest : List ℕ) → length rest ≡ 0 → (most : ℕ) → items_from most at items rest ≡ Ok items
unfolding items_from
done at items rest none zero = refl
done at items rest none (suc most) = rw none refl

pub ends : (bytes : List ℕ) (at : ℕ) (items : List Item) → SoFar bytes at items → length bytes ≤ at → items_in bytes ≡ Ok items
ends bytes at items so past =
    let n = length-drop at bytes in
    let none : length (drop at bytes) ≡ 0 = omega (arith, n) in
    sym so.same ∙ done at items (drop at bytes) none so.most

-- an entry is looked at
step : (at : ℕ) (items : List Item) (rest : List ℕ) (most : ℕ) → 0 < length rest
    → items_from (suc most) at items rest
    ≡ unless (entry_fault at items rest) (items_from most (at + size_in rest) (items ++ item_in rest ∷ []) (drop (size_in rest) rest))
unfolding items_from
step at items rest most inside =
    let some : eqb (length rest) 0 ≡ false = grind arith in
    cond-false (eqb (length rest) 0) _ _ some

fails_at : (bytes : List ℕ) (at : ℕ) (items : List Item) (fault : VoneFault) (most : ℕ) → length bytes - at ≤ most → at < length bytes → entry_fault at items (drop at bytes) ≡ Some fault → items_from most at items (drop at bytes) ≡ Err fault
fails_at bytes at items fault zero e inside h = absurd (omega arith)
fails_at bytes at items fault (suc most) e inside h =
    let n = length-drop at bytes in
    step at items (drop at bytes) most (omega (arith, n)) ∙ ap (λ (o : Option VoneFault). unless o (items_from most (at + size_in (drop at bytes)) (items ++ item_in (drop at bytes) ∷ []) (drop (size_in (drop at bytes)) (drop at bytes)))) h

-- an entry has a fault
pub fails : (bytes : List ℕ) (at : ℕ) (items : List Item) (fault : VoneFault) → ((size : ℕ) → fault ≡ a_fault.V1TooLarge size → ⊥) → SoFar bytes at items → at < length bytes → entry_fault at items (drop at bytes) ≡ Some fault → Refuses (items_in bytes) fault
fails bytes at items fault small so inside h = refuses (items_in bytes) fault small (sym so.same ∙ fails_at bytes at items fault so.most so.enough inside h)

-- one has none
goes_at : (bytes : List ℕ) (at size : ℕ) (items : List Item) (item : Item) (most : ℕ) → length items ≤ at → length bytes - at ≤ most → items_from most at items (drop at bytes) ≡ items_in bytes → at < length bytes → entry_fault at items (drop at bytes) ≡ None
    → size ≡ size_in (drop at bytes) → item ≡ item_in (drop at bytes) → size ≤ length (drop at bytes) → SoFar bytes (at + size) (items ++ item ∷ [])
goes_at bytes at size items item zero few e same inside h s i room = absurd (omega arith)
goes_at bytes at size items item (suc most) few e same inside h s i room =
    let n = length-drop at bytes in record {
      most = most;
      enough = omega (arith, n, s);
      within = omega (arith, n);
      few = let more = length-append items (item ∷ []) in omega (arith, more, few, s);
      same =
          rw (s, i, ← drop-drop (size_in (drop at bytes)) at bytes)
          (sym (step at items (drop at bytes) most (omega (arith, n))
          ∙ ap (λ (o : Option VoneFault). unless o (items_from most (at + size_in (drop at bytes)) (items ++ item_in (drop at bytes) ∷ []) (drop (size_in (drop at bytes)) (drop at bytes)))) h) ∙ same);
    }

pub goes : (bytes : List ℕ) (at size : ℕ) (items : List Item) (item : Item) → SoFar bytes at items → at < length bytes → entry_fault at items (drop at bytes) ≡ None → size ≡ size_in (drop at bytes) → item ≡ item_in (drop at bytes)
    → size ≤ length (drop at bytes) → SoFar bytes (at + size) (items ++ item ∷ [])
goes bytes at size items item so inside h s i room = goes_at bytes at size items item so.most so.few so.enough so.same inside h s i room

-- ---- what is wrong with an entry

pub own_wrong : (at : ℕ) (items : List Item) (rest : List ℕ) (fault : VoneFault) → Some fault ≡ own_fault at rest → entry_fault at items rest ≡ Some fault
unfolding entry_fault
own_wrong at items rest fault h = ap (λ (o : Option VoneFault). or_twice o (has_path items (path_in rest)) at) (sym h)

pub twice : (at : ℕ) (items : List Item) (rest : List ℕ) (item : Item) → None ≡ own_fault at rest → item ≡ item_in rest → has_path items item.path ≡ true → entry_fault at items rest ≡ Some (a_fault.V1Twice at)
unfolding entry_fault item_in
twice at items rest item h i has =
    ap (λ (o : Option VoneFault). or_twice o (has_path items (path_in rest)) at) (sym h)
    ∙ cond-true (has_path items (path_in rest)) (Some (a_fault.V1Twice at)) None (ap (λ (j : Item). has_path items j.path) (sym i) ∙ has)

pub fine : (at : ℕ) (items : List Item) (rest : List ℕ) (item : Item) → None ≡ own_fault at rest → item ≡ item_in rest → has_path items item.path ≡ false → entry_fault at items rest ≡ None
unfolding entry_fault item_in
fine at items rest item h i has =
    ap (λ (o : Option VoneFault). or_twice o (has_path items (path_in rest)) at) (sym h)
    ∙ cond-false (has_path items (path_in rest)) (Some (a_fault.V1Twice at)) None (ap (λ (j : Item). has_path items j.path) (sym i) ∙ has)

-- ---- the paths so far

pub or_cond : (a b : Bool) → cond a true b ≡ (a || b)
or_cond true b = refl
or_cond false b = refl

or_false : (a : Bool) → (a || false) ≡ a
or_false true = refl
or_false false = refl

or_swap : (a b : Bool) → (a || b) ≡ (b || a)
or_swap true true = refl
or_swap true false = refl
or_swap false true = refl
or_swap false false = refl

pub one_more : (items : List Item) (item : Item) (q : List ℕ) → (bytes_eq item.path q || has_path items q) ≡ has_path (items ++ item ∷ []) q
one_more items item q =
    or_swap (bytes_eq item.path q) (has_path items q)
    ∙ ap (λ (b : Bool). has_path items q || b) (sym (or_false (bytes_eq item.path q)))
    ∙ sym (list_any-append (λ i. bytes_eq i.path q) items (item ∷ []))

pub was_there : (new there : Bool) → new ≡ not there → new ≡ false → there ≡ true
was_there new true is h = refl
was_there new false is h = absurd (true≢false (sym is ∙ h))

pub was_new : (new there : Bool) → new ≡ not there → new ≡ true → there ≡ false
was_new new true is h = absurd (true≢false (sym h ∙ is))
was_new new false is h = refl

-- what is wrong with an entry by itself is no size
pub small : (at : ℕ) (rest : List ℕ) (fault : VoneFault) → Some fault ≡ own_fault at rest → (size : ℕ) → fault ≡ a_fault.V1TooLarge size → ⊥
small at rest fault h size is = not_large at size rest (sym h ∙ ap (λ (f : VoneFault). Some f) is)
