-- What is left of a directory's nodes, before the next directory that has nodes.
use Rattle.std.proofs.Common.{ℕ, ◌≡◌, ◌<◌, ◌&&◌, Bool, true, false, true≢false, cond, eqb, eqb-true, length, arith, List, [], ◌∷◌, Option, Some, None, refl, sym, ap, ◌∙◌, subst, nat_cmp, inl, inr, Less}
use Rattle.std.specs.List.{AllByRecursion}
use Rattle.std.specs.Map.{keys_of}
use Rattle.std.specs.FinMap.{nat_cmp-IsAntisymmetric}
use Rattle.std.specs.Ordering.{is_gt, is_lt, ordering_then}
use Rattle.std.specs.declared.cmp.Ordering.{Ordering}
use Rattle.std.specs.declared.cmp.Ordering.TheVariants.{Equal, Greater}
use Rattle.std.specs.Cmp.Lexicographic.{slice_cmp}
use Rattle.std.proofs.lemmas.Bool.{and_parts}
use Rattle.std.proofs.lemmas.Map.Keys.{sorted_head, sorted_tail}
use Rattle.hg_base.specs.PathText.{is_below, is_path, parent_of}
use Rattle.hg_base.proofs.Children.{below_parent}
use Rattle.hg_base.proofs.Paths.{path_above, path_some}
use Rattle.hg_nodes.specs.ChildOf.{AreAtPaths}
use Rattle.hg_nodes.specs.Kids.{AreKids, AreLeftBefore, IsFrom, IsQuiet, LooksOn, Seeks, below_dir, beside, is_before}
use Rattle.hg_nodes.specs.Lists.{dir_text, has_rows_in, or_root}
use Rattle.hg_nodes.specs.Node.{NodeData, node_at}
use Rattle.std.specs.Prelude.{is_some}

-- nothing stands before no text
nothing_before : (path : List ℕ) → is_before (Some []) path ≡ true → ⊥
nothing_before [] h = absurd (cc)
nothing_before (b ∷ path) h = absurd (cc)

none_quiet : (rows kids : List (List ℕ × NodeData)) → AllByRecursion (λ kid. is_before (Some []) kid.0 ≡ true → has_rows_in rows kid.0 ≡ false) kids
none_quiet rows [] = tt
none_quiet rows (kid ∷ kids) = (λ h. absurd (nothing_before kid.0 h), none_quiet rows kids)

pub left_at_first : (rows : List (List ℕ × NodeData)) (dir : List ℕ) (kids : List (List ℕ × NodeData)) → AreKids rows dir kids → AreLeftBefore rows (Some []) kids
left_at_first rows dir kids are = record { dir = dir; placed = are.each; sorted = are.sorted; quiet = none_quiet rows kids }

behind_quiet : (rows : List (List ℕ × NodeData)) (dir path : List ℕ) (next : Option (List ℕ)) (kids : List (List ℕ × NodeData)) → dir_text path ≡ dir → IsQuiet rows path next
    → AllByRecursion (λ kid. (dir_text kid.0 ≡ dir) × (node_at rows kid.0 ≡ Some kid.1)) kids → AllByRecursion (λ other. slice_cmp nat_cmp path other ≡ Less) (keys_of kids)
    → AllByRecursion (λ kid. is_before next kid.0 ≡ true → has_rows_in rows kid.0 ≡ false) kids
behind_quiet rows dir path next [] here quiet placed less = tt
behind_quiet rows dir path next (kid ∷ kids) here quiet placed less =
    (λ before. quiet kid.0 (placed.0.0 ∙ sym here) (ap is_lt less.0) before, behind_quiet rows dir path next kids here quiet placed.1 less.1)

module _ (rows old rest : List (List ℕ × NodeData)) (kid : List ℕ × NodeData) (known : Option (List ℕ)) (is : old ≡ kid ∷ rest) (both : AreAtPaths old × AreLeftBefore rows known old) where
  left_now : AreAtPaths (kid ∷ rest) × AreLeftBefore rows known (kid ∷ rest)
  left_now = subst (λ (l : List (List ℕ × NodeData)). AreAtPaths l × AreLeftBefore rows known l) is both

  -- the first of what is left is a path, at which its node stands
  pub first_path : is_path kid.0 ≡ true
  first_path = left_now.0.0

  pub first_there : node_at rows kid.0 ≡ Some kid.1
  first_there = left_now.1.placed.0.1

  pub first_has : (next : Option (List ℕ)) (has : Bool) → LooksOn rows known kid.0 has next → has ≡ has_rows_in rows kid.0
  first_has next has looks = looks.here left_now.1.quiet.0

  pub left_on : (next : Option (List ℕ)) (has : Bool) → LooksOn rows known kid.0 has next → AreAtPaths rest × AreLeftBefore rows next rest
  left_on next has looks =
      let now = left_now in (
        now.0.1,
        record {
          dir = now.1.dir;
          placed = now.1.placed.1;
          sorted = sorted_tail (slice_cmp nat_cmp) kid.0 (keys_of rest) now.1.sorted;
          quiet = elim looks.on [
            | inl same ↦ subst (λ (n : Option (List ℕ)). AllByRecursion (λ k. is_before n k.0 ≡ true → has_rows_in rows k.0 ≡ false) rest) (sym same) now.1.quiet.1
            | inr quiet ↦ behind_quiet rows now.1.dir kid.0 next rest now.1.placed.0.0 quiet now.1.placed.1 (sorted_head (slice_cmp nat_cmp) kid.0 (keys_of rest) now.1.sorted)
          ];
        },
      )

-- ---- the next directory, where it isn't below that of a path

-- of two first numbers that aren't the same the answer holds whatever follows
then_less : (o x y : Ordering) → (o ≡ Equal → is_gt x ≡ false → is_lt y ≡ true) → is_gt (ordering_then o x) ≡ false → is_lt (ordering_then o y) ≡ true
then_less Less x y same h = refl
then_less Equal x y same h = same refl h
then_less Greater x y same h = absurd (true≢false h)

-- what isn't less than one path below a directory, and isn't below it, is behind all paths below it
past_all : (dir path at next : List ℕ) → is_below dir path ≡ true → is_below dir at ≡ true → is_below dir next ≡ false → is_gt (slice_cmp nat_cmp path next) ≡ false
    → is_lt (slice_cmp nat_cmp at next) ≡ true
past_all [] [] at next p a n h = absurd (true≢false (sym p))
past_all [] (x ∷ path) [] next p a n h = absurd (true≢false (sym a))
past_all [] (x ∷ path) (y ∷ at) [] p a n h = absurd (true≢false h)
past_all [] (x ∷ path) (y ∷ at) (z ∷ next) p a n h =
    let same : x ≡ y = eqb-true x 47 p ∙ sym (eqb-true y 47 a) in
    then_less (nat_cmp y z) (slice_cmp nat_cmp path next) (slice_cmp nat_cmp at next)
    (λ e _. absurd (true≢false (sym a ∙ ap (λ (c : ℕ). eqb c 47) (nat_cmp-IsAntisymmetric y z e) ∙ n)))
    (ap (λ (c : ℕ). is_gt (ordering_then (nat_cmp c z) (slice_cmp nat_cmp path next))) (sym same) ∙ h)
past_all (d ∷ dir) [] at next p a n h = absurd (true≢false (sym p))
past_all (d ∷ dir) (x ∷ path) [] next p a n h = absurd (true≢false (sym a))
past_all (d ∷ dir) (x ∷ path) (y ∷ at) [] p a n h = absurd (true≢false h)
past_all (d ∷ dir) (x ∷ path) (y ∷ at) (z ∷ next) p a n h =
    let first = and_parts (eqb d x) (is_below dir path) p in
    let second = and_parts (eqb d y) (is_below dir at) a in
    let same : x ≡ y = sym (eqb-true d x first.0) ∙ eqb-true d y second.0 in
    then_less (nat_cmp y z) (slice_cmp nat_cmp path next) (slice_cmp nat_cmp at next)
    (λ e from. past_all dir path at next first.1 second.1
    (ap (λ (b : Bool). b && is_below dir next) (sym (sym (ap (eqb d) (nat_cmp-IsAntisymmetric y z e)) ∙ second.0)) ∙ n) from)
    (ap (λ (c : ℕ). is_gt (ordering_then (nat_cmp c z) (slice_cmp nat_cmp path next))) (sym same) ∙ h)

-- paths beside one that stands in a directory stand in it
pub beside_in : (dir : List ℕ) (parent : Option (List ℕ)) → 0 < length dir → or_root parent ≡ dir → parent ≡ Some dir
beside_in dir None long e = let none : 0 ≡ length dir = ap length e in absurd (omega (arith, none, long))
beside_in dir (Some other) long e = ap Some e

module _ (rows : List (List ℕ × NodeData)) (path : List ℕ) (good : is_path path ≡ true) where
  narrowed : (parent next : Option (List ℕ)) → parent_of path ≡ parent → IsFrom path next
      → ((at : List ℕ) → is_lt (slice_cmp nat_cmp path at) ≡ true → is_before next at ≡ true → has_rows_in rows at ≡ false)
      → IsQuiet rows path (below_dir parent next)
  narrowed None next is from quiet = λ at here less before. quiet at less before
  narrowed (Some dir) None is from quiet = λ at here less before. quiet at less before
  narrowed (Some dir) (Some next) is from quiet = step (is_below dir next) refl
    where
      step : (b : Bool) → is_below dir next ≡ b → IsQuiet rows path (cond b (Some next) None)
      step true in_dir = λ at here less before. quiet at less before
      step false out = λ at here less before.
          let is_dir : parent_of at ≡ Some dir = beside_in dir (parent_of at) (path_some dir (path_above dir path (below_parent dir path is) good)) (here ∙ ap or_root is) in
          quiet at less (past_all dir path at next (below_parent dir path is) (below_parent dir at is_dir) out from)

  -- what a search finds, and that alone which matters beside the path
  pub looked : (known next : Option (List ℕ)) (has : Bool) → Seeks rows path has next → LooksOn rows known path has (beside path next)
  looked known next has seeks = record {
    here = λ _. seeks.here;
    on = inr (narrowed (parent_of path) next refl seeks.from seeks.quiet);
  }

-- what surely has no nodes is told without a search
pub looked_early : (rows : List (List ℕ × NodeData)) (path : List ℕ) (known : Option (List ℕ)) → has_rows_in rows path ≡ false → LooksOn rows known path false known
looked_early rows path known none = record { here = λ _. sym none; on = inl refl }

pub looked_before : (rows : List (List ℕ × NodeData)) (path : List ℕ) (known : Option (List ℕ)) → is_before known path ≡ true → LooksOn rows known path false known
looked_before rows path known before = record { here = λ quiet. sym (quiet before); on = inl refl }

-- nodes stand at paths
pub at_paths : (rows : List (List ℕ × NodeData)) (dir : List ℕ) (kids : List (List ℕ × NodeData)) → ((at : List ℕ) → is_some (node_at rows at) ≡ true → is_path at ≡ true)
    → AllByRecursion (λ kid. (dir_text kid.0 ≡ dir) × (node_at rows kid.0 ≡ Some kid.1)) kids → AreAtPaths kids
at_paths rows dir [] paths each = tt
at_paths rows dir (kid ∷ kids) paths each = (paths kid.0 (ap is_some each.0.1), at_paths rows dir kids paths each.1)
