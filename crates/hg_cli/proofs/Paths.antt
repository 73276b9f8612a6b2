-- The paths of which the bytes were asked for, one by one.
use Rattle.std.proofs.Common.{ℕ, zero, suc, ◌≡◌, ◌≤◌, ◌+◌, Bool, true, false, cond, not, ◌||◌, List, [], ◌∷◌, length, refl, sym, ap, ◌∙◌, subst, arith, drop, get_or, drop-cons, String}
use Rattle.std.specs.BTreeSet.{BTreeSet, btree_set_len, contains_text}
use Rattle.std.specs.Set.{is_member, unique_keys}
use Rattle.std.specs.Str.{bytes_eq}
use Rattle.std.proofs.lemmas.Cmp.{nat_list_eq_equiv}
use Rattle.std.proofs.lemmas.List.{drop_all}
use Rattle.hg_cli.specs.Reading.{count_read, paths_read}
use Rattle.hg_cli.specs.Reads.{AreRead}
use Rattle.hg_tree.specs.declared.asked.Asked.{Asked}
use Rattle.hg_tree.specs.declared.asked.Asked.TheVariants as an_ask

-- a key more, where it wasn't there
one_longer : (there added : Bool) (path : List ℕ) (keys : List (List ℕ)) (n : ℕ) → added ≡ not there → n ≡ length keys + cond added 1 0 → n ≡ length (cond there keys (path ∷ keys))
one_longer true true path keys n is sum = absurd (cc is)
one_longer true false path keys n is sum = omega (arith, sum)
one_longer false true path keys n is sum = omega (arith, sum)
one_longer false false path keys n is sum = absurd (cc is)

either : (first there : Bool) → cond first true there ≡ first || there
either true there = refl
either false there = refl

-- a path that is put stands among those so far
pub one_more : {Y : Type 0} (path text : List ℕ) (old new : BTreeSet (String Y)) (added : Bool) → text ≡ path
    → ((q : List ℕ) → contains_text new q ≡ cond (bytes_eq text q) true (contains_text old q)) → added ≡ not (contains_text old text)
    → btree_set_len new ≡ btree_set_len old + cond added 1 0 → (asked : List Asked) → AreRead asked old → AreRead (an_ask.Read path ∷ asked) new
one_more path text old new added same more is len asked are =
    let there : contains_text old text ≡ is_member bytes_eq (paths_read asked) path = ap (contains_text old) same ∙ are.each path in
    record {
      each = λ q.
          more q ∙ ap (λ (t : Bool). cond (bytes_eq text q) true t) (are.each q) ∙ ap (λ (t : List ℕ). cond (bytes_eq t q) true (is_member bytes_eq (paths_read asked) q)) same
          ∙ ap (λ (t : Bool). cond t true (is_member bytes_eq (paths_read asked) q)) (nat_list_eq_equiv.symm path q) ∙ either (bytes_eq q path) (is_member bytes_eq (paths_read asked) q);
      count = one_longer (is_member bytes_eq (paths_read asked) path) added path (unique_keys bytes_eq (paths_read asked)) (btree_set_len new) (is ∙ ap not there) (len ∙ ap (λ (n : ℕ). n + cond added 1 0) are.count);
    }

-- one ask more, from the last to the first
pub one_back : {Y : Type 0} (asked : List Asked) (at before : ℕ) (ask default : Asked) (old new : BTreeSet (String Y)) → before ≡ suc at → before ≤ length asked → ask ≡ get_or asked at default
    → ((rest : List Asked) → AreRead rest old → AreRead (ask ∷ rest) new) → AreRead (drop before asked) old → AreRead (drop at asked) new
one_back asked at before ask default old new step below is more are =
    let cut : drop at asked ≡ get_or asked at default ∷ drop (suc at) asked = drop-cons asked at default (omega (arith, step, below)) in
    subst (λ (l : List Asked). AreRead l new) (sym cut)
    (subst (λ (a : Asked). AreRead (a ∷ drop (suc at) asked) new) is (more (drop (suc at) asked) (subst (λ (n : ℕ). AreRead (drop n asked) old) step are)))

-- behind the last ask there is none
pub none_yet : {Y : Type 0} (asked : List Asked) (paths : BTreeSet (String Y)) → paths.keys ≡ [] → AreRead (drop (length asked) asked) paths
none_yet {Y = Y} asked paths none =
    subst (λ (l : List Asked). AreRead l paths) (sym (drop_all (length asked) asked (omega arith)))
    (record {
      each = λ path. ap (λ (keys : List (String Y)). contains_text (record { keys = keys }) path) none;
      count = ap (λ (keys : List (String Y)). length keys) none;
    })

pub all_read : {Y : Type 0} (asked : List Asked) (at : ℕ) (paths : BTreeSet (String Y)) → at ≤ 0 → AreRead (drop at asked) paths → btree_set_len paths ≡ count_read asked
all_read asked zero paths end are = are.count
all_read asked (suc at) paths end are = absurd (omega (arith, end))
