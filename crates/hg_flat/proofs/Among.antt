-- The names of a directory, and the first name of what stands in it.
use Rattle.std.proofs.Common.{ℕ, ◌≡◌, ◌==◌, true, false, List, [], ◌∷◌, ◌++◌, Option, Some, None, is_some, IsTrue, codes, refl, sym, ap, ◌∙◌, subst, inl, inr, ◌⊎◌, append_assoc}
use Rattle.std.specs.List.{list_all}
use Rattle.std.proofs.lemmas.List.Elements.{All-contains}
use Rattle.std.proofs.lemmas.List.Folds.{list_all-append}
use Rattle.std.proofs.lemmas.Map.Views.{Contains-from_any}
use Rattle.std.proofs.lemmas.Slice.Eq.{bytes_eq-Decides}
use Rattle.std.proofs.lemmas.Bool.{and_parts, cases_Bool, eqb-true, or_from, or_left, or_right}
use Rattle.hg_base.specs.PathText.{components, has_slash, is_component, is_path, is_below, joined}
use Rattle.hg_base.proofs.Below.{below_joined, below_split}
use Rattle.hg_base.proofs.Components.{components_joined, components_name}
use Rattle.hg_base.proofs.Cuts.{cut_pieces}
use Rattle.hg_base.proofs.Paths.{path_parts}
use Rattle.hg_tree.specs.Moment.{Moment, AreFit, AreNames, IsFit, is_among, is_dir}
use Rattle.hg_tree.specs.declared.thing.Placed.{Placed}
use Rattle.hg_listing.specs.Full.{is_repository}
use Rattle.hg_flat.specs.Listing.{holds_repository, is_from, is_inside}

-- a name among those that fit fits
pub fit_of : (dir : Option (List ℕ)) (names : List (List ℕ)) (name : List ℕ) → AreFit dir names → is_among name names ≡ true → IsFit dir name
fit_of dir names name fit among =
    All-contains (IsFit dir) names name fit.each (Contains-from_any (λ x y. (bytes_eq-Decides x y).0) name names among)

pub no_dir : (o : Option Placed) → (IsTrue (is_some o) → ⊥) → is_dir o ≡ false
no_dir None h = refl
no_dir (Some placed) h = absurd (h refl)

-- where `.hg` isn't among a directory's names, it is no repository
pub no_repository : (moment : Moment) (dir : List ℕ) (names : List (List ℕ)) → is_among (codes ".hg") names ≡ false → AreNames moment (Some dir) names → is_repository moment dir ≡ false
no_repository moment dir names among are =
    no_dir (moment.things (joined (Some dir) (codes ".hg"))) (λ some. let there = are.all (codes ".hg") refl some in cc)

pub not_nested : (moment : Moment) (dir : Option (List ℕ)) (this : List ℕ) (names : List (List ℕ)) → dir ≡ Some this → is_among (codes ".hg") names ≡ false → AreNames moment dir names → false ≡ holds_repository moment dir
not_nested moment dir this names is among are =
    sym (ap (holds_repository moment) is ∙ no_repository moment this names among (subst (λ (d : Option (List ℕ)). AreNames moment d names) is are))

-- the first piece of a text, and what is behind it
record First (text : List ℕ) : Type 0 where
  name : List ℕ
  plain : has_slash name ≡ false
  rest : (text ≡ name) ⊎ ((more : List ℕ) × (text ≡ name ++ 47 ∷ more))

first_more : (b : ℕ) (bs : List ℕ) → First bs → (b == 47) ≡ false → First (b ∷ bs)
first_more b bs first other = record {
  name = b ∷ first.name;
  plain = or_from (b == 47) (has_slash first.name) other first.plain;
  rest = elim first.rest as (λ _. (b ∷ bs ≡ b ∷ first.name) ⊎ ((more : List ℕ) × (b ∷ bs ≡ b ∷ (first.name ++ 47 ∷ more)))) [
    | inl same ↦ inl (ap (λ (t : List ℕ). b ∷ t) same)
    | inr more ↦ inr (more.0, ap (λ (t : List ℕ). b ∷ t) more.1)
  ];
}

first_step : (b : ℕ) (bs : List ℕ) → First bs → ((b == 47) ≡ true) ⊎ ((b == 47) ≡ false) → First (b ∷ bs)
first_step b bs first (inl slash) = record { name = []; plain = refl; rest = inr (bs, ap (λ (n : ℕ). n ∷ bs) (eqb-true b 47 slash)) }
first_step b bs first (inr other) = first_more b bs first other

first_of : (text : List ℕ) → First text
first_of [] = record { name = []; plain = refl; rest = inl refl }
first_of (b ∷ bs) = first_step b bs (first_of bs) (cases_Bool (b == 47))

-- the name by which a path stands in a directory, or below which it stands there
pub record Reached (dir : Option (List ℕ)) (path : List ℕ) : Type 0 where
  pub name : List ℕ
  pub component : is_component name ≡ true
  pub from : is_from (Some (joined dir name)) path ≡ true

first_component : (text : List ℕ) (first : First text) → list_all is_component (components text) ≡ true → is_component first.name ≡ true
first_component text first all =
    elim first.rest [
      | inl same ↦ (and_parts (is_component first.name) true (sym (ap (list_all is_component) (ap components same ∙ components_name first.name first.plain)) ∙ all)).0
      | inr more ↦
          (and_parts (is_component first.name) (list_all is_component (components more.0))
          (sym (ap (list_all is_component) (cut_pieces text first.name more.0 more.1 first.plain)) ∙ all)).0
    ]

reached_root : (path : List ℕ) (first : First path) → list_all is_component (components path) ≡ true → Reached None path
reached_root path first all = record {
  name = first.name;
  component = first_component path first all;
  from = elim first.rest [
    | inl same ↦ or_left _ _ ((bytes_eq-Decides first.name path).1 (sym same))
    | inr more ↦ or_right _ _ (subst (λ (p : List ℕ). is_below first.name p ≡ true) (sym more.1) (below_joined first.name more.0))
  ];
}

reached_dir : (dir path rest : List ℕ) → path ≡ dir ++ 47 ∷ rest → (first : First rest) → list_all is_component (components rest) ≡ true → Reached (Some dir) path
reached_dir dir path rest is first all = record {
  name = first.name;
  component = first_component rest first all;
  from = elim first.rest [
    | inl same ↦ or_left _ _ ((bytes_eq-Decides (dir ++ 47 ∷ first.name) path).1 (ap (λ (r : List ℕ). dir ++ 47 ∷ r) (sym same) ∙ sym is))
    | inr more ↦
        or_right _ _ (subst (λ (p : List ℕ). is_below (dir ++ 47 ∷ first.name) p ≡ true)
        (append_assoc dir (47 ∷ first.name) (47 ∷ more.0) ∙ ap (λ (r : List ℕ). dir ++ 47 ∷ r) (sym more.1) ∙ sym is)
        (below_joined (dir ++ 47 ∷ first.name) more.0))
  ];
}

-- a path in a directory stands at one of its names or below it
pub reached : (dir : Option (List ℕ)) (path : List ℕ) → is_path path ≡ true → is_inside dir path ≡ true → Reached dir path
reached None path is inside = reached_root path (first_of path) (path_parts path is).pieces
reached (Some dir) path is inside =
    let split = below_split dir path inside in
    reached_dir dir path split.0 split.1 (first_of split.0)
    (and_parts (list_all is_component (components dir)) (list_all is_component (components split.0))
    (sym (ap (list_all is_component) (ap components split.1 ∙ components_joined dir split.0) ∙ list_all-append is_component (components dir) (components split.0))
    ∙ (path_parts path is).pieces)).1
