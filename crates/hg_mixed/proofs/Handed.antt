-- The lists of the image that a walk hands out with its children.
use Rattle.std.proofs.Common.{ℕ, ◌≡◌, ◌+◌, ◌*◌, ◌<◌, true, List, Option, Some, None, refl, sym, ap, ◌∙◌, subst}
use Rattle.std.specs.Prelude.{is_some}
use Rattle.std.specs.Option.{IfSome}
use Rattle.hg_base.specs.Within.{is_above}
use Rattle.hg_image.specs.Node.{record_at}
use Rattle.hg_image.specs.Reading.{row_at}
use Rattle.hg_image.specs.Rows.{Row}
use Rattle.hg_image.specs.View.{dir_of, row, rows_below, rows_in}
use Rattle.hg_image.specs.declared.opened.List.{List as NodeList}
use Rattle.hg_image.specs.declared.opened.NodeRef.{NodeRef}
use Rattle.hg_mixed.specs.Child.{shown_child}
use Rattle.hg_mixed.specs.ChildOf.{row_child}
use Rattle.hg_nodes.specs.Children.{ChildData}
use Rattle.hg_mixed.specs.Held.{Held}
use Rattle.hg_nodes.specs.Memory.{table_of}
use Rattle.hg_mixed.specs.Lent.{as_dir, lent_at}
use Rattle.hg_mixed.specs.Parted.{IsLentIn, IsParted, image_of}
use Rattle.hg_mixed.specs.Walk.{IsLentAt, ListIsOf, ListsAreOf}
use Rattle.hg_mixed.specs.declared.child.Child.{Child}
use Rattle.hg_mixed.specs.declared.walk.Walk.{Walk}
use Rattle.hg_image.proofs.Found.{below_member, got_member, row_above, row_member}
use Rattle.hg_mixed.proofs.LentChildren.{above_further}
use Rattle.hg_mixed.proofs.Lents.{covered_by}
use Rattle.hg_mixed.proofs.Nearest.{list_dir, path_as_dir}

-- the list of a node of a list that is the image's is too
below_it : (held : Held) (list kids : NodeList) (i : ℕ) (node : NodeRef) → i < list.count → node.rec ≡ record_at list.bytes.now (list.start + 44 * i) → node.bytes.now ≡ list.bytes.now
    → node.depth + 1 ≡ list.depth → IsLentIn held.left (image_of held) (dir_of list) (Some list) → rows_in kids ≡ rows_below node → dir_of kids ≡ Some (row node).path
    → IsLentIn held.left (image_of held) (Some (row node).path) (Some kids)
below_it held list kids i node inside rec bytes levels lent rows at_dir =
    let member = got_member list i node inside rec bytes levels in
    let above : is_above (dir_of list) (row node).path ≡ true = row_above list (row node).path (ap is_some (row_member list node member)) in (
      at_dir,
      λ at h. lent.1 at (above_further (dir_of list) (row node).path at above h),
      λ at h. ap (λ (r : List Row). row_at r at) rows ∙ below_member list node member at h ∙ lent.2 at (above_further (dir_of list) (row node).path at above h),
    )

-- a node of the image is handed out with it
pub handed_node : (held : Held) (list : NodeList) (i : ℕ) (node : NodeRef) (child : Child) → i < list.count → node.rec ≡ record_at list.bytes.now (list.start + 44 * i) → node.bytes.now ≡ list.bytes.now
    → node.depth + 1 ≡ list.depth → IsLentIn held.left (image_of held) (dir_of list) (Some list) → shown_child child ≡ row_child (row node)
    → IfSome child.list (λ l. (rows_in l ≡ rows_below node) × (dir_of l ≡ Some (row node).path)) → ListIsOf held child
handed_node held list i node child inside rec bytes levels lent shown own = by_list child.list own
  where
    same : (row node).path ≡ child.path.text.now
    same = sym (ap (λ (c : ChildData). c.path) shown)

    by_list : (o : Option NodeList) → IfSome o (λ l. (rows_in l ≡ rows_below node) × (dir_of l ≡ Some (row node).path)) → IfSome o (λ l. IsLentIn held.left (image_of held) (Some child.path.text.now) (Some l))
    by_list None h = tt
    by_list (Some l) h = subst (λ (p : List ℕ). IsLentIn held.left (image_of held) (Some p) (Some l)) same (below_it held list l i node inside rec bytes levels lent h.0 h.1)

-- and a node in memory with the list that is lent of its path
pub handed_own : (held : Held) (walk : Walk) (child : Child) → ListsAreOf held walk → IsLentAt walk.left.now child.path.text.now child.list → ListIsOf held child
handed_own held walk child are own = by_list child.list own
  where
    path : List ℕ
    path = child.path.text.now

    by_list : (o : Option NodeList) → IsLentAt walk.left.now path o → IfSome o (λ l. IsLentIn held.left (image_of held) (Some path) (Some l))
    by_list None h = tt
    by_list (Some l) h =
        let there : lent_at held.left path ≡ Some (rows_in l) = sym (h.0 ∙ ap (λ (left : List (List ℕ × List Row)). lent_at left path) are.left) in
        let same : as_dir path ≡ Some path = path_as_dir path child.path.is_path in (
          sym (list_dir l) ∙ ap as_dir h.1 ∙ same,
          λ at above. covered_by held.left path at (ap is_some there) (ap (λ (d : Option (List ℕ)). is_above d at) same ∙ above),
          λ at above. are.lent path (rows_in l) there at (ap (λ (d : Option (List ℕ)). is_above d at) same ∙ above),
        )

-- what is left of a walk over a table is one too
pub walk_still : (held : Held) (old new : Walk) → ListsAreOf held old → new.left.now ≡ old.left.now → new.list ≡ old.list → ListsAreOf held new
walk_still held old new are left list = record {
  left = left ∙ are.left;
  lent = are.lent;
  here = subst (λ (o : Option NodeList). IfSome o (λ l. IsLentIn held.left (image_of held) (dir_of l) (Some l))) (sym list) are.here;
}

-- the list of a walk
pub list_here : (held : Held) (walk : Walk) (l : NodeList) → ListsAreOf held walk → walk.list ≡ Some l → IsLentIn held.left (image_of held) (dir_of l) (Some l)
list_here held walk l are is = subst (λ (o : Option NodeList). IfSome o (λ l. IsLentIn held.left (image_of held) (dir_of l) (Some l))) is are.here

-- a walk over a table that is opened
module _ (now held : Held) (same : held ≡ now) (parted : IsParted held.docket (image_of held) held.left (table_of held.p1 held.p2 held.hash held.rows held.times)) (walk : Walk) (left : walk.left.now ≡ held.left) where
  begun : IfSome walk.list (λ l. IsLentIn now.left (image_of now) (dir_of l) (Some l)) → ListsAreOf now walk
  begun here = record {
    left = left ∙ ap (λ (h : Held). h.left) same;
    lent = subst (λ (h : Held). (dir : List ℕ) (rows : List Row) → lent_at h.left dir ≡ Some rows → (at : List ℕ) → is_above (as_dir dir) at ≡ true → row_at rows at ≡ row_at (image_of h) at) same parted.lists;
    here = here;
  }

  -- through what is in memory, or through a list of the image
  pub begun_own : walk.list ≡ None → ListsAreOf now walk
  begun_own none = begun (subst (λ (o : Option NodeList). IfSome o (λ l. IsLentIn now.left (image_of now) (dir_of l) (Some l))) (sym none) tt)

  pub begun_lent : (dir : Option (List ℕ)) (list : Option NodeList) → walk.list ≡ list → IsLentIn now.left (image_of now) dir list → ListsAreOf now walk
  begun_lent dir list is lent = begun (subst (λ (o : Option NodeList). IfSome o (λ l. IsLentIn now.left (image_of now) (dir_of l) (Some l))) (sym is) (by_list list lent))
    where
      by_list : (o : Option NodeList) → IsLentIn now.left (image_of now) dir o → IfSome o (λ l. IsLentIn now.left (image_of now) (dir_of l) (Some l))
      by_list None h = tt
      by_list (Some l) h = (
        refl,
        λ at above. h.1 at (ap (λ (d : Option (List ℕ)). is_above d at) (sym h.0) ∙ above),
        λ at above. h.2 at (ap (λ (d : Option (List ℕ)). is_above d at) (sym h.0) ∙ above),
      )
