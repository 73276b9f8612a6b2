-- A shelf in memory on which others only put files.
use Rattle.std.proofs.Common.{ℕ, ◌≡◌, refl, ap, sym, ◌∙◌, subst, inl, inr, Bool, true, false, List, [], ◌∷◌, ◌++◌, length, take, Option, Some, None, String, arith}
use Rattle.std.specs.Prelude.{if◌then◌else◌, bytes_eq}
use Rattle.std.specs.BTreeMap.{is_at}
use Rattle.std.specs.List.{AllByRecursion}
use Rattle.std.specs.List.Sorted.{IsStrictlySortedBy}
use Rattle.std.specs.Map.{lookup, keys_of}
use Rattle.std.specs.Option.{option_or}
use Rattle.std.specs.Ordering.{is_eq}
use Rattle.std.specs.String.{string_bytes, string_cmp}
use Rattle.std.specs.declared.cmp.Ordering.TheVariants.{Less}
use Rattle.std.proofs.lemmas.Bool.{cases_Bool, cond-true, cond-false, false_from_ne_true, both_ways}
use Rattle.std.proofs.lemmas.List.{take_all}
use Rattle.std.proofs.lemmas.Map.Keys.{sorted_head, sorted_tail}
use Rattle.std.proofs.lemmas.Map.Text.{text_cmp, is_eq-slice_cmp}
use Rattle.std.proofs.lemmas.Slice.Eq.{bytes_eq-Decides}
use Rattle.hg_shelf.specs.Crash.{HasOnly}
use Rattle.hg_shelf.specs.History.{Files}
use Rattle.hg_shelf.specs.Images.{Scene}
use Rattle.hg_shelf.specs.Memory.{Memory, by_others, empty, fresh, replayed, surely, with_file}
use Rattle.hg_shelf.specs.declared.outside.Change.{Change}
use Rattle.hg_shelf.specs.declared.outside.Outside.TheVariants as a_change
use Rattle.hg_shelf.proofs.Replay.{replayed_push}

-- the files once each entry of a map was put
abbrev pub placed_all : {Y : Type 0} → List (String Y × List ℕ) → Files → Files
placed_all [] files = files
placed_all (entry ∷ rest) files = placed_all rest (with_file (string_bytes entry.0) entry.1 files)

module _ {Y : Type 0} where
  none_later : (key : String Y) (rest : List (String Y × List ℕ)) → AllByRecursion (λ y. string_cmp key y ≡ Less) (keys_of rest)
      → lookup (is_at (text_cmp (string_bytes key))) rest ≡ None
  none_later key [] all = refl
  none_later key (entry ∷ rest) all =
      cond-false (is_at (text_cmp (string_bytes key)) entry.0) (Some entry.1) (lookup (is_at (text_cmp (string_bytes key))) rest) (ap is_eq all.0)
      ∙ none_later key rest all.1

  pub placed_lookup : (entries : List (String Y × List ℕ)) (files : Files) (at : List ℕ) → IsStrictlySortedBy string_cmp (keys_of entries)
      → placed_all entries files at ≡ option_or (lookup (is_at (text_cmp at)) entries) (files at)
  placed_lookup [] files at sorted = refl
  placed_lookup (entry ∷ rest) files at sorted =
      let name : List ℕ = string_bytes entry.0 in
      let put : Files = with_file name entry.1 files in
      let below = placed_lookup rest put at (sorted_tail string_cmp entry.0 (keys_of rest) sorted) in
      elim (cases_Bool (bytes_eq name at)) [
        | inl here ↦
            let same : name ≡ at = (bytes_eq-Decides name at).0 here in
            let P : List ℕ → Type 0 = λ a. lookup (is_at (text_cmp a)) rest ≡ None in
            let none : lookup (is_at (text_cmp at)) rest ≡ None = subst P same (none_later entry.0 rest (sorted_head string_cmp entry.0 (keys_of rest) sorted)) in
            let test : is_at (text_cmp at) entry.0 ≡ true = is_eq-slice_cmp at name ∙ (bytes_eq-Decides at name).1 (sym same) in
            below
            ∙ ap (λ (o : Option (List ℕ)). option_or o (put at)) none
            ∙ ap (λ (b : Bool). if b then Some entry.1 else files at) here
            ∙ sym (ap (λ (o : Option (List ℕ)). option_or o (files at)) (cond-true (is_at (text_cmp at) entry.0) (Some entry.1) (lookup (is_at (text_cmp at)) rest) test))
        | inr other ↦
            let apart : bytes_eq at name ≡ false =
            false_from_ne_true _ (λ same. both_ways _ other ((bytes_eq-Decides name at).1 (sym ((bytes_eq-Decides at name).0 same)))) in
            let test : is_at (text_cmp at) entry.0 ≡ false = is_eq-slice_cmp at name ∙ apart in
            below
            ∙ ap (λ (b : Bool). option_or (lookup (is_at (text_cmp at)) rest) (if b then Some entry.1 else files at)) other
            ∙ sym (ap (λ (o : Option (List ℕ)). option_or o (files at)) (cond-false (is_at (text_cmp at) entry.0) (Some entry.1) (lookup (is_at (text_cmp at)) rest) test))
      ]

  -- from no files on, what was put is what the map gives
  pub placed_is : (entries : List (String Y × List ℕ)) (at : List ℕ) → IsStrictlySortedBy string_cmp (keys_of entries)
      → placed_all entries empty.files at ≡ lookup (is_at (text_cmp at)) entries
  placed_is entries at sorted = placed_lookup entries empty.files at sorted ∙ or_none (lookup (is_at (text_cmp at)) entries)
    where
      or_none : (o : Option (List ℕ)) → option_or o None ≡ o
      or_none None = refl
      or_none (Some bytes) = refl

-- no crash changes the files
abbrev pub AreSure : List Change → Type 0
AreSure changes = (c : Files) → (replayed changes empty).leaves c → (name : List ℕ) → c name ≡ (replayed changes empty).files name

abbrev IsSureScene : Scene → Type 0
IsSureScene s = (c : Files) → s.leaves c → (name : List ℕ) → c name ≡ s.files name

replayed_placed : (old new : Memory) (name bytes : List ℕ) → new ≡ record old { changes = old.changes ++ by_others old (a_change.Place name bytes) ∷ [] }
    → replayed new.changes empty ≡ surely (with_file name bytes) (replayed old.changes empty)
replayed_placed old new name bytes placed =
    ap (λ (m : Memory). replayed m.changes empty) placed ∙ replayed_push old.changes (by_others old (a_change.Place name bytes)) empty

-- a shelf on which one file more is put
pub sure_placed : (old new : Memory) (name bytes : List ℕ) → new ≡ record old { changes = old.changes ++ by_others old (a_change.Place name bytes) ∷ [] }
    → AreSure old.changes → AreSure new.changes
sure_placed old new name bytes placed sure =
    subst IsSureScene (sym (replayed_placed old new name bytes placed))
    (λ c left at. left.2 at ∙ ap (λ (file : Option (List ℕ)). if bytes_eq name at then Some bytes else file) (sure left.0 left.1 at))

pub fresh_placed : (old new : Memory) (name bytes : List ℕ) → new ≡ record old { changes = old.changes ++ by_others old (a_change.Place name bytes) ∷ [] }
    → record old { changes = [] } ≡ fresh → record new { changes = [] } ≡ fresh
fresh_placed old new name bytes placed was = ap (λ (m : Memory). record m { changes = [] }) placed ∙ was

pub files_placed : (old new : Memory) (name bytes : List ℕ) → new ≡ record old { changes = old.changes ++ by_others old (a_change.Place name bytes) ∷ [] }
    → (replayed new.changes empty).files ≡ with_file name bytes (replayed old.changes empty).files
files_placed old new name bytes placed = ap (λ (s : Scene). s.files) (replayed_placed old new name bytes placed)

pub only_from : (files : Files) (memory : Memory) → record memory { changes = [] } ≡ fresh → (replayed memory.changes empty).files ≡ files → AreSure memory.changes → HasOnly files memory
only_from files memory is_fresh shown sure =
    let whole : take (length memory.changes) memory.changes ≡ memory.changes = take_all (length memory.changes) memory.changes (omega arith) in
    record {
      fresh = is_fresh;
      shown = λ name. ap (λ (cs : List Change). (replayed cs empty).files name) whole ∙ ap (λ (f : Files). f name) shown;
      sure =
          let P : List Change → Type 0 = λ cs. (c : Files) → (replayed cs empty).leaves c → (name : List ℕ) → c name ≡ files name in
          subst P (sym whole) (λ c left name. sure c left name ∙ ap (λ (f : Files). f name) shown);
    }

-- an entry more is put
pub entry_placed : {Y : Type 0} (old new : Memory) (entry : String Y × List ℕ) (name bytes : List ℕ) (left rest entries : List (String Y × List ℕ))
    → new ≡ record old { changes = old.changes ++ by_others old (a_change.Place name bytes) ∷ [] } → left ≡ entry ∷ rest
    → name ≡ string_bytes entry.0 → bytes ≡ entry.1
    → placed_all left (replayed old.changes empty).files ≡ placed_all entries empty.files
    → placed_all rest (replayed new.changes empty).files ≡ placed_all entries empty.files
entry_placed {Y = Y} old new entry name bytes left rest entries placed split same_name same_bytes so_far =
    ap (placed_all rest) (files_placed old new name bytes placed)
    ∙ ap (λ (n : List ℕ). placed_all rest (with_file n bytes (replayed old.changes empty).files)) same_name
    ∙ ap (λ (b : List ℕ). placed_all rest (with_file (string_bytes entry.0) b (replayed old.changes empty).files)) same_bytes
    ∙ sym (ap (λ (l : List (String Y × List ℕ)). placed_all l (replayed old.changes empty).files) split)
    ∙ so_far
