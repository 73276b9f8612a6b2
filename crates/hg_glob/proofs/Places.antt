-- The parts of many globs in one row: what is at each place of it.
use Rattle.std.proofs.Common.{◌≡◌, ℕ, ◌-◌, ◌<◌, List, [], ◌∷◌, ◌++◌, map, length, get_or, take, drop, refl, sym, ap, ◌∙◌, arith}
use Rattle.std.proofs.lemmas.List.{get_or-map, map-append, take_all, take-append-le, drop-append-le, length-map, length-drop, length-append}
use Rattle.std.proofs.lemmas.List.Elements.{All-head, All-tail}
use Rattle.std.proofs.Math.Seq.{drop-append_seam}
use Rattle.hg_glob.specs.Placed.{parts_at, IsPlaced, ArePlaced}
use Rattle.hg_glob.specs.declared.part.Part.{Part}
use Rattle.hg_glob.specs.declared.part_row.Place.{Place}

pub parts_here : (row slice : List Part) (places : List Place) (lists : List (List Part)) (i : ℕ) (place : Place) → slice ≡ row → map (parts_at row) places ≡ lists → i < length lists → place ≡ get_or places i place → parts_at slice place ≡ get_or lists i []
parts_here row slice places lists i place slice_is lists_are inside is =
    let within : i < length places = omega (arith, length-map places (parts_at row), ap length lists_are) in
    ap (λ v. parts_at v place) slice_is ∙ ap (parts_at row) is ∙ sym (get_or-map (parts_at row) places i place [] within) ∙ ap (λ v. get_or v i []) lists_are

-- what is put behind the row leaves the parts at a place
place_stays : (row more : List Part) (place : Place) → IsPlaced row place → parts_at (row ++ more) place ≡ parts_at row place
place_stays row more place h =
    let n : ℕ = place.to - place.from in
    ap (take n) (drop-append-le place.from row more (omega arith)) ∙ take-append-le n (drop place.from row) more (omega (arith, length-drop place.from row))

places_stay : (row more : List Part) (places : List Place) → ArePlaced row places → map (parts_at (row ++ more)) places ≡ map (parts_at row) places
places_stay row more [] h = refl
places_stay row more (place ∷ places) h =
    let here = place_stays row more place (All-head (IsPlaced row) place places h) in
    let behind = places_stay row more places (All-tail (IsPlaced row) place places h) in
    ap (λ v. v ∷ map (parts_at (row ++ more)) places) here ∙ ap (λ v. parts_at row place ∷ v) behind

-- the parts that were put
place_new : (row more : List Part) (place : Place) → place.from ≡ length row → place.to ≡ length (row ++ more) → parts_at (row ++ more) place ≡ more
place_new row more place from_is to_is =
    let n : ℕ = place.to - place.from in
    ap (λ k. take n (drop k (row ++ more))) from_is ∙ ap (take n) (drop-append_seam row more) ∙ take_all n more (omega (arith, length-append row more))

pub place_put : (row more both : List Part) (places all : List Place) (lists : List (List Part)) (place : Place) → both ≡ row ++ more → all ≡ places ++ place ∷ [] → map (parts_at row) places ≡ lists → ArePlaced row places
    → place.from ≡ length row → place.to ≡ length both → map (parts_at both) all ≡ lists ++ more ∷ []
place_put row more both places all lists place both_is all_is lists_are h from_is to_is =
    ap (λ v. map (parts_at v) all) both_is ∙ ap (map (parts_at (row ++ more))) all_is ∙ map-append (parts_at (row ++ more)) places (place ∷ []) ∙ ap (λ v. v ++ parts_at (row ++ more) place ∷ []) (places_stay row more places h ∙ lists_are)
    ∙ ap (λ v. lists ++ v ∷ []) (place_new row more place from_is (to_is ∙ ap length both_is))
