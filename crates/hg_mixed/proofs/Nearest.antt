-- The nearest directory above a path whose list is lent.
use Rattle.std.proofs.Common.{ℕ, ◌≡◌, true, List, [], ◌∷◌, Option, Some, None, inl, inr, refl, sym, ap, ◌∙◌, true≢false, arith}
use Rattle.std.specs.Prelude.{is_some}
use Rattle.std.specs.Option.{option_map, IfSome}
use Rattle.std.proofs.lemmas.Bool.{both_ways, false_from_ne_true}
use Rattle.hg_base.specs.PathText.{is_below, is_path, parent_of}
use Rattle.hg_base.specs.Within.{is_above}
use Rattle.hg_base.specs.declared.path.PathRef.{PathRef}
use Rattle.hg_base.proofs.Below.{below_trans}
use Rattle.hg_base.proofs.Paths.{path_some}
use Rattle.hg_base.proofs.Within.{above_is, above_none, within_split}
use Rattle.hg_image.specs.Reading.{row_at}
use Rattle.hg_image.specs.Rows.{Row}
use Rattle.hg_image.specs.View.{dir_of, row, rows_in}
use Rattle.hg_image.specs.declared.opened.List.{List as NodeList}
use Rattle.hg_image.specs.declared.opened.NodeRef.{NodeRef}
use Rattle.hg_mixed.specs.Lent.{IsInImage, IsOver, as_dir, covers, lent_at}
use Rattle.hg_image.specs.Found.{HasBelow}
use Rattle.hg_nodes.specs.Lists.{or_root}
use Rattle.hg_image.proofs.Found.{parent_below}
use Rattle.hg_mixed.proofs.Lents.{covered_by, covers_some}

-- ---- a directory and its text

-- a path as a directory is no root
pub path_as_dir : (dir : List ℕ) → is_path dir ≡ true → as_dir dir ≡ Some dir
path_as_dir [] good = absurd (omega (arith, path_some [] good))
path_as_dir (b ∷ dir) good = refl

pub dir_again : (dir : Option PathRef) → as_dir (or_root (option_map (λ d. d.text.now) dir)) ≡ option_map (λ d. d.text.now) dir
dir_again None = refl
dir_again (Some dir) = path_as_dir dir.text.now dir.is_path

pub list_dir : (list : NodeList) → as_dir (or_root (dir_of list)) ≡ dir_of list
list_dir list = dir_again list.dir

-- ---- going up

-- a path at the root
pub over_root : (lent : List (List ℕ × List Row)) (path : List ℕ) (found : Option NodeList) → is_path path ≡ true → parent_of path ≡ None
    → option_map rows_in found ≡ lent_at lent [] → IfSome found (λ list. or_root (dir_of list) ≡ []) → IsOver lent path found
over_root lent path None good is none at_root =
    false_from_ne_true (covers lent path) (λ h. let found = covers_some lent path h in never found.0 found.1.0 found.1.1)
  where
    never : (dir : List ℕ) → is_some (lent_at lent dir) ≡ true → is_above (as_dir dir) path ≡ true → ⊥
    never [] some above = true≢false (sym some ∙ ap is_some (sym none))
    never (b ∷ dir) some above = both_ways (is_below (b ∷ dir) path) (above_none path good is (b ∷ dir)) above
over_root lent path (Some list) good is rows at_root = (
  ap (lent_at lent) at_root ∙ sym rows,
  ap (λ (d : Option (List ℕ)). is_above d path) (sym (list_dir list) ∙ ap as_dir at_root),
)

-- a path whose directory has a list
pub over_here : (lent : List (List ℕ × List Row)) (path dir : List ℕ) (list : NodeList) → is_path path ≡ true → is_path dir ≡ true → parent_of path ≡ Some dir
    → Some (rows_in list) ≡ lent_at lent dir → or_root (dir_of list) ≡ dir → (lent_at lent (or_root (dir_of list)) ≡ Some (rows_in list)) × (is_above (dir_of list) path ≡ true)
over_here lent path dir list good good_dir is rows at_dir = (
  ap (lent_at lent) at_dir ∙ sym rows,
  ap (λ (d : Option (List ℕ)). is_above d path) (sym (list_dir list) ∙ ap as_dir at_dir ∙ path_as_dir dir good_dir) ∙ parent_below path dir good is,
)

-- and one whose directory has none
pub over_above : (lent : List (List ℕ × List Row)) (path dir : List ℕ) (found : Option NodeList) → is_path path ≡ true → parent_of path ≡ Some dir → None ≡ lent_at lent dir
    → IsOver lent dir found → IsOver lent path found
over_above lent path dir None good is none over =
    false_from_ne_true (covers lent path) (λ h. let found = covers_some lent path h in never found.0 found.1.0 found.1.1)
  where
    never : (d : List ℕ) → is_some (lent_at lent d) ≡ true → is_above (as_dir d) path ≡ true → ⊥
    never [] some above = both_ways (covers lent dir) over (covered_by lent [] dir some refl)
    never (b ∷ d) some above = elim (within_split (b ∷ d) dir (sym (above_is dir path good is (b ∷ d)) ∙ above)) [
      | inl e ↦ true≢false (sym some ∙ ap (λ (p : List ℕ). is_some (lent_at lent p)) (sym e) ∙ ap is_some (sym none))
      | inr more ↦ both_ways (covers lent dir) over (covered_by lent (b ∷ d) dir some more)
    ]
over_above lent path dir (Some list) good is none over = (over.0, further (dir_of list) over.1)
  where
    further : (d : Option (List ℕ)) → is_above d dir ≡ true → is_above d path ≡ true
    further None h = refl
    further (Some d) h = below_trans d dir path h (parent_below path dir good is)

pub over_some : (lent : List (List ℕ × List Row)) (path : List ℕ) (found : Option NodeList) → IsOver lent path found → is_some found ≡ covers lent path
over_some lent path None over = sym over
over_some lent path (Some list) over =
    sym (covered_by lent (or_root (dir_of list)) path (ap is_some over.0) (ap (λ (d : Option (List ℕ)). is_above d path) (list_dir list) ∙ over.1))

-- ---- what is found

pub in_image : (lent : List (List ℕ × List Row)) (path : List ℕ) (list : NodeList) (node : Option NodeRef) → lent_at lent (or_root (dir_of list)) ≡ Some (rows_in list) → is_above (dir_of list) path ≡ true
    → option_map row node ≡ row_at (rows_in list) path → IfSome node (HasBelow list) → IsInImage lent path node
in_image lent path list answer there above found below =
    let up : is_above (as_dir (or_root (dir_of list))) path ≡ true = ap (λ (d : Option (List ℕ)). is_above d path) (list_dir list) ∙ above in
    record {
      dir = or_root (dir_of list);
      rows = rows_in list;
      there = there;
      above = up;
      found = found;
      below = below;
      covered = covered_by lent (or_root (dir_of list)) path (ap is_some there) up;
    }
