-- The children that the nodes of a directory's list are.
use Rattle.std.proofs.Common.{ℕ, ◌≡◌, ◌<◌, Bool, true, false, ◌||◌, List, [], ◌∷◌, map, length, Option, Some, None, refl, sym, ap, ◌∙◌, subst, arith, nat_cmp}
use Rattle.std.specs.Prelude.{is_some, MatchBool}
use Rattle.std.specs.Option.{option_map}
use Rattle.std.specs.List.{AllByRecursion, list_any}
use Rattle.std.specs.List.Sorted.{IsStrictlySortedBy}
use Rattle.std.specs.Map.{keys_of}
use Rattle.std.specs.Cmp.Lexicographic.{slice_cmp}
use Rattle.std.specs.Str.{bytes_eq}
use Rattle.hg_base.specs.PathText.{is_path, parent_of}
use Rattle.hg_base.specs.declared.path.PathRef.{PathRef}
use Rattle.hg_base.proofs.Children.{below_parent}
use Rattle.hg_base.proofs.Paths.{path_above, path_some}
use Rattle.hg_entry.specs.Entry.{CacheData}
use Rattle.hg_nodes.specs.ChildOf.{children_of}
use Rattle.hg_nodes.specs.Children.{AreNodesIn, IsNodeIn}
use Rattle.hg_nodes.specs.Edits.{IsFormed}
use Rattle.hg_nodes.specs.Memory.{MemoryData, table_in}
use Rattle.hg_nodes.specs.Kids.{AreKids}
use Rattle.hg_nodes.specs.Lists.{dir_text, has_rows_in, or_root}
use Rattle.hg_nodes.specs.Node.{NodeData, entry_in, node_at, source_in, source_text_in, text_in}
use Rattle.hg_nodes.proofs.Listed.{rows_none, rows_some}

-- a directory that was given is a path
pub dir_path : (dir : Option PathRef) (d : List ℕ) → option_map (λ p. p.text.now) dir ≡ Some d → is_path d ≡ true
dir_path None d h = absurd (cc)
dir_path (Some p) d h = let same : p.text.now ≡ d = cc in sym (ap is_path same) ∙ p.is_path

-- two directories with the same text are one
same_dirs : (a b : Option (List ℕ)) → ((d : List ℕ) → a ≡ Some d → 0 < length d) → ((d : List ℕ) → b ≡ Some d → 0 < length d) → or_root a ≡ or_root b → a ≡ b
same_dirs None None p q h = refl
same_dirs None (Some b) p q h = let none : length b ≡ 0 = ap length (sym h) in let some : 0 < length b = q b refl in absurd (omega arith)
same_dirs (Some a) None p q h = let none : length a ≡ 0 = ap length h in let some : 0 < length a = p a refl in absurd (omega arith)
same_dirs (Some a) (Some b) p q h = ap Some h

parent_some : (path : List ℕ) → is_path path ≡ true → (d : List ℕ) → parent_of path ≡ Some d → 0 < length d
parent_some path good d h = path_some d (path_above d path (below_parent d path h) good)

paths_of : (rows : List (List ℕ × NodeData)) (times : List (List ℕ × CacheData)) (kids : List (List ℕ × NodeData)) → map (λ child. child.path) (children_of rows times kids) ≡ keys_of kids
paths_of rows times [] = refl
paths_of rows times (kid ∷ kids) = ap (λ (l : List (List ℕ)). kid.0 ∷ l) (paths_of rows times kids)

any_of : (rows : List (List ℕ × NodeData)) (times : List (List ℕ × CacheData)) (at : List ℕ) (kids : List (List ℕ × NodeData))
    → list_any (λ child. bytes_eq at child.path) (children_of rows times kids) ≡ list_any (λ kid. bytes_eq at kid.0) kids
any_of rows times at [] = refl
any_of rows times at (kid ∷ kids) = ap (λ (b : Bool). bytes_eq at kid.0 || b) (any_of rows times at kids)

not_some : (o : Option NodeData) → o ≡ None → is_some o ≡ false
not_some o h = ap is_some h

module _ (old was : MemoryData) (same : was ≡ old) (formed : IsFormed (table_in was)) (dir : Option (List ℕ))
    (dirs : (d : List ℕ) → dir ≡ Some d → is_path d ≡ true) where
  dir_some : (d : List ℕ) → dir ≡ Some d → 0 < length d
  dir_some d h = path_some d (dirs d h)

  has_kids : (path : List ℕ) → is_path path ≡ true → (b : Bool) → has_rows_in was.rows path ≡ b
      → MatchBool b ((kid : List ℕ) × ((table_in was).nodes kid ≡ true) × (parent_of kid ≡ Some path)) ((kid : List ℕ) → parent_of kid ≡ Some path → (table_in was).nodes kid ≡ false)
  has_kids path good true is =
      let kid = rows_some was.rows path is in
      let kid_good = formed.paths kid.0 kid.2 in
      (kid.0, kid.2, same_dirs (parent_of kid.0) (Some path) (parent_some kid.0 kid_good) (λ d h. let it : path ≡ d = cc in longer d it (path_some path good)) kid.1)
    where
      longer : (d : List ℕ) → path ≡ d → 0 < length path → 0 < length d
      longer d e h = subst (λ (x : List ℕ). 0 < length x) e h
  has_kids path good false is = λ kid parent. not_some (node_at was.rows kid) (rows_none was.rows path kid is (ap or_root parent))

  each_child : (kids : List (List ℕ × NodeData)) → AllByRecursion (λ kid. (dir_text kid.0 ≡ or_root dir) × (node_at was.rows kid.0 ≡ Some kid.1)) kids
      → AllByRecursion (IsNodeIn (table_in was) was.rows dir) (children_of was.rows was.times kids)
  each_child [] all = tt
  each_child (kid ∷ kids) all =
      let node : (table_in was).nodes kid.0 ≡ true = ap is_some all.0.1 in
      let good = formed.paths kid.0 node in (
        record {
          parent = same_dirs (parent_of kid.0) dir (parent_some kid.0 good) dir_some all.0.0;
          node = node;
          entry = sym (ap entry_in all.0.1);
          source = sym (ap source_in all.0.1);
          cache = refl;
          kids = has_kids kid.0 good (has_rows_in was.rows kid.0) refl;
          text = sym (ap text_in all.0.1);
          source_text = sym (ap source_text_in all.0.1);
        },
        each_child kids all.1,
      )

  pub children_are : (kids : List (List ℕ × NodeData)) → AreKids was.rows (or_root dir) kids → AreNodesIn (table_in old) old.rows dir (children_of was.rows was.times kids)
  children_are kids are = subst (λ (h : MemoryData). AreNodesIn (table_in h) h.rows dir (children_of was.rows was.times kids)) same (record {
    ascending = subst (IsStrictlySortedBy (slice_cmp nat_cmp)) (sym (paths_of was.rows was.times kids)) are.sorted;
    each = each_child kids are.each;
    all = λ path node parent. any_of was.rows was.times path kids ∙ are.all path (ap or_root parent) node;
  })
