-- What a map with texts as keys has at a path once the keys below a directory are taken out.
use Rattle.std.proofs.Common.{ℕ, ◌≡◌, Bool, true, false, not, cond, List, Option, None, String, refl, sym, ◌∙◌, ap}
use Rattle.std.specs.BTreeMap.{is_at}
use Rattle.std.specs.List.{filter}
use Rattle.std.specs.Map.{lookup}
use Rattle.std.specs.String.{string_bytes}
use Rattle.std.proofs.lemmas.Map.Entries.{lookup-filter-keys}
use Rattle.std.proofs.lemmas.Map.Text.{text_cmp, is_eq-slice_cmp}
use Rattle.hg_base.specs.PathText.{is_below}
use Rattle.hg_tree.specs.declared.thing.Placed.{Placed}
use Rattle.hg_tree.proofs.Planting.{same_bytes}

other_way : (t : Bool) (o : Option Placed) → cond (not t) o None ≡ cond t None o
other_way true o = refl
other_way false o = refl

pub cleared : {Y : Type 0} (dir at : List ℕ) (entries : List (String Y × Placed))
    → lookup (is_at (text_cmp at)) (filter (λ e. not (is_below dir (string_bytes e.0))) entries) ≡ cond (is_below dir at) None (lookup (is_at (text_cmp at)) entries)
cleared {Y} dir at entries =
    lookup-filter-keys (is_at (text_cmp at)) (λ k. not (is_below dir (string_bytes k))) (not (is_below dir at))
    (λ k found. ap (λ (p : List ℕ). not (is_below dir p)) (sym (same_bytes at (string_bytes k) (sym (is_eq-slice_cmp at (string_bytes k)) ∙ found)))) entries
    ∙ other_way (is_below dir at) (lookup (is_at (text_cmp at)) entries)
