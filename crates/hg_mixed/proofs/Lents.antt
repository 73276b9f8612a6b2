-- The lists that are lent, as a map from texts has them.
use Rattle.std.proofs.Common.{ℕ, ◌≡◌, Bool, true, false, cond, ◌||◌, List, [], ◌∷◌, length, eqb, eqb-true, Option, Some, None, inl, inr, String, refl, sym, ap, ◌∙◌, true≢false, arith}
use Rattle.std.specs.Prelude.{is_some}
use Rattle.std.specs.Option.{option_map, IfSome}
use Rattle.std.specs.Map.{lookup, remove_entry, update}
use Rattle.std.specs.BTreeMap.{BTreeMap, get_by_text, insert_entry, is_at}
use Rattle.std.specs.Str.{bytes_eq}
use Rattle.std.specs.String.{string_bytes, string_cmp}
use Rattle.std.specs.Ordering.{is_eq, match_ordering}
use Rattle.std.specs.declared.cmp.Ordering.{Ordering}
use Rattle.std.specs.declared.cmp.Ordering.TheVariants.{Less, Equal, Greater}
use Rattle.std.proofs.lemmas.Bool.{cases_Bool, cond-true, false_from_ne_true, ne_eqb, or_left, or_right}
use Rattle.std.proofs.lemmas.Map.Text.{text_cmp, is_eq-slice_cmp}
use Rattle.hg_base.specs.Within.{is_above}
use Rattle.hg_base.proofs.Within.{equal_bytes, same_bytes}
use Rattle.hg_image.specs.Rows.{Row}
use Rattle.hg_image.specs.View.{dir_of, rows_in}
use Rattle.hg_image.specs.declared.opened.List.{List as NodeList}
use Rattle.hg_mixed.specs.Lent.{AreByDir, IsLentPut, as_dir, covers, lent_at, lists_of, with_root}
use Rattle.hg_nodes.specs.Lists.{or_root}

-- ---- what a list that is lent has

-- a path that some list has is below the directory of one
pub covers_some : (lent : List (List ℕ × List Row)) (at : List ℕ) → covers lent at ≡ true → (dir : List ℕ) × ((is_some (lent_at lent dir) ≡ true) × (is_above (as_dir dir) at ≡ true))
covers_some [] at h = absurd (true≢false (sym h))
covers_some (l ∷ lent) at h = elim (cases_Bool (is_above (as_dir l.0) at)) [
  | inl here ↦ (l.0, (ap is_some (cond-true (bytes_eq l.0 l.0) (Some l.1) (lent_at lent l.0) (equal_bytes l.0)), here))
  | inr other ↦
      let rest : covers lent at ≡ true = sym (ap (λ (b : Bool). b || covers lent at) other) ∙ h in
      let found = covers_some lent at rest in
      (found.0, (some_cond (bytes_eq found.0 l.0) l.1 (lent_at lent found.0) found.1.0, found.1.1))
]
  where
    some_cond : (b : Bool) (x : List Row) (o : Option (List Row)) → is_some o ≡ true → is_some (cond b (Some x) o) ≡ true
    some_cond true x o h = refl
    some_cond false x o h = h

-- and what is below the directory of a list that is lent some list has
pub covered_by : (lent : List (List ℕ × List Row)) (dir at : List ℕ) → is_some (lent_at lent dir) ≡ true → is_above (as_dir dir) at ≡ true → covers lent at ≡ true
covered_by [] dir at some above = absurd (true≢false (sym some))
covered_by (l ∷ lent) dir at some above = elim (cases_Bool (bytes_eq dir l.0)) [
  | inl same ↦ or_left (is_above (as_dir l.0) at) (covers lent at) (ap (λ (d : List ℕ). is_above (as_dir d) at) (sym (same_bytes dir l.0 same)) ∙ above)
  | inr other ↦
      or_right (is_above (as_dir l.0) at) (covers lent at)
      (covered_by lent dir at (sym (ap (λ (b : Bool). is_some (cond b (Some l.1) (lent_at lent dir))) other) ∙ some) above)
]

-- where nothing is lent, nothing is covered
pub covers_none : (lent : List (List ℕ × List Row)) → ((dir : List ℕ) → lent_at lent dir ≡ None) → (at : List ℕ) → covers lent at ≡ false
covers_none lent none at =
    false_from_ne_true (covers lent at) (λ h.
    let found = covers_some lent at h in
    true≢false (sym found.1.0 ∙ ap is_some (none found.0)))

pub same_bools : (a b : Bool) → (a ≡ true → b ≡ true) → (b ≡ true → a ≡ true) → a ≡ b
same_bools true b f g = sym (f refl)
same_bools false true f g = g refl
same_bools false false f g = refl

-- what the same directories lend covers the same
pub covers_same : (a b : List (List ℕ × List Row)) → ((dir : List ℕ) → lent_at a dir ≡ lent_at b dir) → (at : List ℕ) → covers a at ≡ covers b at
covers_same a b same at = same_bools (covers a at) (covers b at) (one a b same) (one b a (λ dir. sym (same dir)))
  where
    one : (x y : List (List ℕ × List Row)) → ((dir : List ℕ) → lent_at x dir ≡ lent_at y dir) → covers x at ≡ true → covers y at ≡ true
    one x y agree h = let found = covers_some x at h in covered_by y found.0 at (sym (ap is_some (agree found.0)) ∙ found.1.0) found.1.1

-- ---- the map

in_step : (b : Bool) (list : NodeList) (found : Option NodeList) → cond b (Some (rows_in list)) (option_map rows_in found) ≡ option_map rows_in (cond b (Some list) found)
in_step true list found = refl
in_step false list found = refl

option_cond : (b : Bool) (here was : Option NodeList) → option_map rows_in (cond b here was) ≡ cond b (option_map rows_in here) (option_map rows_in was)
option_cond true here was = refl
option_cond false here was = refl

pick : {A : Type 0} (P : A → Type 0) (o : Ordering) (less equal greater : A) → (o ≡ Less → P less) → (o ≡ Equal → P equal) → (o ≡ Greater → P greater) → P (match_ordering o less equal greater)
pick P Less less equal greater l e g = l refl
pick P Equal less equal greater l e g = e refl
pick P Greater less equal greater l e g = g refl

choose : {A : Type 0} (P : A → Type 0) (b : Bool) (x y : A) → (b ≡ true → P x) → (b ≡ false → P y) → P (cond b x y)
choose P true x y t f = t refl
choose P false x y t f = f refl

other_key : (key : List ℕ) (rows : List Row) (rest : Option (List Row)) → eqb (length key) 0 ≡ false → rest ≡ None → cond (bytes_eq [] key) (Some rows) rest ≡ None
other_key [] rows rest below none = absurd (true≢false below)
other_key (b ∷ key) rows rest below none = none

module _ {Y : Type 0} where
  pub by_dir_insert : (key : String Y) (list : NodeList) (lists : List (String Y × NodeList)) → or_root (dir_of list) ≡ string_bytes key → eqb (length (string_bytes key)) 0 ≡ false → AreByDir lists
      → AreByDir (insert_entry string_cmp lists key list)
  by_dir_insert key list [] here below fit = ((here, below), tt)
  by_dir_insert key list (e ∷ lists) here below fit =
      pick AreByDir (string_cmp key e.0) ((key, list) ∷ e ∷ lists) ((e.0, list) ∷ lists) (e ∷ insert_entry string_cmp lists key list)
      (λ _. ((here, below), fit))
      (λ same. ((here ∙ same_bytes (string_bytes key) (string_bytes e.0) (sym (is_eq-slice_cmp (string_bytes key) (string_bytes e.0)) ∙ ap is_eq same), fit.0.1), fit.1))
      (λ _. (fit.0, by_dir_insert key list lists here below fit.1))

  pub by_dir_remove : (test : String Y → Bool) (lists : List (String Y × NodeList)) → AreByDir lists → AreByDir (remove_entry test lists)
  by_dir_remove test [] fit = tt
  by_dir_remove test (e ∷ lists) fit = choose AreByDir (test e.0) lists (e ∷ remove_entry test lists) (λ _. fit.1) (λ _. (fit.0, by_dir_remove test lists fit.1))

  lent_in : (lists : List (String Y × NodeList)) (at : List ℕ) → lent_at (lists_of lists) at ≡ option_map rows_in (lookup (is_at (text_cmp at)) lists)
  lent_in [] at = refl
  lent_in (e ∷ lists) at =
      ap (λ (b : Bool). cond b (Some (rows_in e.1)) (lent_at (lists_of lists) at)) (sym (is_eq-slice_cmp at (string_bytes e.0)))
      ∙ ap (cond (is_at (text_cmp at) e.0) (Some (rows_in e.1))) (lent_in lists at)
      ∙ in_step (is_at (text_cmp at) e.0) e.1 (lookup (is_at (text_cmp at)) lists)

  pub lent_of : (lists : BTreeMap (String Y) NodeList) (value : List (List ℕ × List Row)) → lists_of lists.entries ≡ value → (at : List ℕ) → option_map rows_in (get_by_text lists at) ≡ lent_at value at
  lent_of lists value are at = sym (lent_in lists.entries at) ∙ ap (λ (l : List (List ℕ × List Row)). lent_at l at) are

  pub lent_changed : (dir : List ℕ) (here : Option NodeList) (old new : BTreeMap (String Y) NodeList) (value : List (List ℕ × List Row)) → lists_of old.entries ≡ value
      → ((at : List ℕ) → get_by_text new at ≡ update bytes_eq (get_by_text old) dir here at) → IsLentPut dir (option_map rows_in here) value (lists_of new.entries)
  lent_changed dir here old new value are updates at =
      lent_in new.entries at
      ∙ ap (option_map rows_in) (updates at)
      ∙ option_cond (bytes_eq dir at) here (get_by_text old at)
      ∙ ap (cond (bytes_eq dir at) (option_map rows_in here)) (lent_of old value are at)

  -- what is found is the list of its directory
  pub by_dir : (lists : List (String Y × NodeList)) → AreByDir lists → (at : List ℕ) → IfSome (lookup (is_at (text_cmp at)) lists) (λ list. or_root (dir_of list) ≡ at)
  by_dir [] fit at = tt
  by_dir (e ∷ lists) fit at = step (is_at (text_cmp at) e.0) refl (by_dir lists fit.1 at)
    where
      step : (b : Bool) → is_at (text_cmp at) e.0 ≡ b → IfSome (lookup (is_at (text_cmp at)) lists) (λ list. or_root (dir_of list) ≡ at)
          → IfSome (cond b (Some e.1) (lookup (is_at (text_cmp at)) lists)) (λ list. or_root (dir_of list) ≡ at)
      step true is more = fit.0.0 ∙ sym (same_bytes at (string_bytes e.0) (sym (is_eq-slice_cmp at (string_bytes e.0)) ∙ is))
      step false is more = more

  pub none_in : (lists : List (String Y × NodeList)) (n : ℕ) (value : List (List ℕ × List Row)) → lists_of lists ≡ value → n ≡ length lists → eqb n 0 ≡ true → (at : List ℕ) → covers value at ≡ false
  none_in [] n value are len is at = ap (λ (l : List (List ℕ × List Row)). covers l at) (sym are)
  none_in (e ∷ lists) n value are len is at = let none : n ≡ 0 = eqb-true n 0 is in absurd (omega arith)

  -- none of the lists below the root is that of the root
  pub none_of_root : (lists : List (String Y × NodeList)) → AreByDir lists → lent_at (lists_of lists) [] ≡ None
  none_of_root [] fit = refl
  none_of_root (e ∷ lists) fit = other_key (string_bytes e.0) (rows_in e.1) (lent_at (lists_of lists) []) fit.0.1 (none_of_root lists fit.1)

-- ---- the list of the root, and those below it

pub empty_is : (dir : List ℕ) → eqb (length dir) 0 ≡ true → dir ≡ []
empty_is [] none = refl
empty_is (b ∷ dir) none = let never : length (b ∷ dir) ≡ 0 = eqb-true (length (b ∷ dir)) 0 none in absurd (omega arith)

pub root_first : (root : Option NodeList) (lists : List (List ℕ × List Row)) → lent_at lists [] ≡ None → lent_at (with_root root lists) [] ≡ option_map rows_in root
root_first None lists none = none
root_first (Some list) lists none = refl

pub below_root : (root : Option NodeList) (lists : List (List ℕ × List Row)) (dir : List ℕ) → eqb (length dir) 0 ≡ false → lent_at (with_root root lists) dir ≡ lent_at lists dir
below_root root lists [] below = absurd (true≢false below)
below_root None lists (b ∷ dir) below = refl
below_root (Some list) lists (b ∷ dir) below = refl

not_empty : (b : ℕ) (dir : List ℕ) → eqb (length (b ∷ dir)) 0 ≡ false
not_empty b dir = ne_eqb (length (b ∷ dir)) 0 (λ (e : length (b ∷ dir) ≡ 0). omega (arith, e))

-- another list of the root, or none
pub root_put : (was now : Option NodeList) (lists : List (List ℕ × List Row)) → lent_at lists [] ≡ None → IsLentPut [] (option_map rows_in now) (with_root was lists) (with_root now lists)
root_put was now lists none [] = root_first now lists none
root_put was now lists none (b ∷ dir) = below_root now lists (b ∷ dir) (not_empty b dir) ∙ sym (below_root was lists (b ∷ dir) (not_empty b dir))

-- another list below the root, or none
pub below_put : (root : Option NodeList) (dir : List ℕ) (rows : Option (List Row)) (old new : List (List ℕ × List Row)) → eqb (length dir) 0 ≡ false → lent_at old [] ≡ None → lent_at new [] ≡ None → IsLentPut dir rows old new
    → IsLentPut dir rows (with_root root old) (with_root root new)
below_put root [] rows old new below none none_now put at = absurd (true≢false below)
below_put root (b ∷ dir) rows old new below none none_now put [] = root_first root new none_now ∙ sym (root_first root old none)
below_put root (b ∷ dir) rows old new below none none_now put (c ∷ at) =
    below_root root new (c ∷ at) (not_empty c at) ∙ put (c ∷ at) ∙ ap (cond (bytes_eq (b ∷ dir) (c ∷ at)) rows) (sym (below_root root old (c ∷ at) (not_empty c at)))

pub covers_empty : (lent : List (List ℕ × List Row)) → lent ≡ [] → (at : List ℕ) → covers lent at ≡ false
covers_empty lent none at = ap (λ (l : List (List ℕ × List Row)). covers l at) none
