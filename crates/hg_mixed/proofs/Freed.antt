-- One list, or all above a path, or all are taken into memory.
use Rattle.std.proofs.Common.{ℕ, ◌≡◌, ◌+◌, ◌<◌, ◌&&◌, ◌||◌, Bool, true, false, List, Option, Some, None, refl, sym, ap, ◌∙◌, subst, inl, inr, ◌⊎◌, arith}
use Rattle.std.specs.Prelude.{is_some}
use Rattle.std.specs.Option.{option_map}
use Rattle.std.proofs.lemmas.Bool.{cases_Bool, cases_order, both_ways, false_from_ne_true}
use Rattle.std.proofs.lemmas.List.{take_all}
use Rattle.hg_base.specs.PathText.{is_below, is_path, is_same_dir, parent_of}
use Rattle.hg_base.proofs.Children.{same_dir}
use Rattle.hg_docket.specs.Docket.{Contents}
use Rattle.hg_image.specs.Reading.{row_at}
use Rattle.hg_image.specs.Reading as reading
use Rattle.hg_image.specs.Rows.{Row, list_rows}
use Rattle.hg_image.specs.View.{IsMember, dir_of, row, rows, rows_below, rows_in}
use Rattle.hg_image.specs.Walk.{levels}
use Rattle.hg_image.specs.declared.opened.Image.{Image}
use Rattle.hg_image.specs.declared.opened.List.{List as NodeList}
use Rattle.hg_image.specs.declared.opened.NodeRef.{NodeRef}
use Rattle.hg_nodes.specs.Edits.{IsFormed, IsSame}
use Rattle.hg_mixed.specs.Held.{has_list, is_left_in}
use Rattle.hg_mixed.specs.Lent.{AreLentStill, CoversNone, IsLentPut, IsNoneLent, as_dir, covers, lent_at}
use Rattle.hg_nodes.specs.Lists.{dir_text, or_root}
use Rattle.hg_mixed.specs.Own.{InMemory, memory_table}
use Rattle.hg_nodes.specs.Node.{node_at, IsThere}
use Rattle.hg_mixed.specs.Opened.{node_of}
use Rattle.hg_mixed.specs.Parted.{IsFree, IsMoved, IsParted, image_rows, whole}
use Rattle.hg_mixed.specs.Taken.{AddsNodes, AddsSome, AreBared, AreOthersKept, AreServed, CoversLess, IsBare, IsBared, IsKid, IsOpen, IsOut, IsServed, IsServedKid, LendsKid, LendsKids, path_at}
use Rattle.hg_mixed.proofs.Adding.{member_path}
use Rattle.hg_image.proofs.Found.{below_member, dir_member, row_above, row_is_path, row_rooted}
use Rattle.hg_nodes.proofs.Edited.{update_here}
use Rattle.hg_mixed.proofs.Kept.{lent_same}
use Rattle.hg_mixed.proofs.Moving.{AgreeNodes, Agrees, as_dir_is, as_own, as_path, bare_in, between, dir_there, formed_same, lends_less, lends_same, lent_still, merged_same, moved_all, moved_kept, moved_lends, moved_some, moved_trans, none_is, one_node, others_kept, placed_at, removed_here, removed_less, right_above, same_as_none, some_never}

-- ---- the lists of the nodes of a list

module _ (list : NodeList) (i : ℕ) (node : NodeRef) (member : IsMember list node) (place : member.place ≡ i) (was now : List (List ℕ × List Row)) (lends : LendsKid node was now) where
  pub lends_step : (old : List (List ℕ × List Row)) → LendsKids list old was → LendsKids list old now
  lends_step old so_far dir = elim (lends dir) [
    | inl same ↦ on same (so_far dir)
    | inr own ↦ inr (record {
      rows = rows_below node;
      there = own.1;
      path = ap is_path own.0 ∙ node.is_path;
      parent = ap parent_of own.0 ∙ dir_member list node member;
      below = λ at below. below_member list node member at (ap (λ (p : List ℕ). is_below p at) (sym own.0) ∙ below);
    })
  ]
    where
      on : lent_at now dir ≡ lent_at was dir → (lent_at was dir ≡ lent_at old dir) ⊎ (IsKid list was dir) → (lent_at now dir ≡ lent_at old dir) ⊎ (IsKid list now dir)
      on same (inl before) = inl (same ∙ before)
      on same (inr kid) = inr (record { rows = kid.rows; there = same ∙ kid.there; path = kid.path; parent = kid.parent; below = kid.below })

  served_still : (dir : List ℕ) → IsServed list was dir → IsServed list now dir
  served_still dir (inr nothing) = inr nothing
  served_still dir (inl some) = elim (lends dir) [
    | inl same ↦ inl (ap is_some same ∙ some)
    | inr own ↦ inl (ap is_some own.1)
  ]

  served_own : IsServedKid node now → IsServed list now (row node).path
  served_own (inl some) = inl some
  served_own (inr nothing) = inr (λ at below. sym (below_member list node member at below) ∙ ap (λ (r : List Row). row_at r at) nothing)

  pub served_step : AreServed list i was → IsServedKid node now → AreServed list (i + 1) now
  served_step so_far own k less = elim (cases_order k i) [
    | inl e ↦ subst (IsServed list now) (sym (ap (path_at list) e ∙ member_path list i node member place)) (served_own own)
    | inr (inl l) ↦ served_still (path_at list k) (so_far k l)
    | inr (inr g) ↦ absurd (omega (arith, less, g))
  ]

-- ---- one list

pub kept_here : (dir : List ℕ) (list : NodeList) (old new : List (List ℕ × List Row)) → IsLentPut dir (Some (rows_in list)) old new → is_some (lent_at new dir) ≡ true
kept_here dir list old new put = ap is_some (put dir ∙ update_here (lent_at old) dir (Some (rows_in list)))

-- nothing was taken, and the lists that are kept are the same
pub kept_still : (docket : Contents) (rows : List Row) (left : List (List ℕ × List Row)) (own now : InMemory) → IsParted docket rows left (memory_table own) → AreLentStill own.kept now.kept → now ≡ record own { kept = now.kept } → IsMoved docket rows left own left now
kept_still docket rows left own now parted still rest =
    subst (IsMoved docket rows left own left) (sym rest) (record {
      parted = parted;
      same = record { p1 = refl; p2 = refl; hash = refl; entries = λ at. refl; sources = λ at. refl; nodes = λ at. refl; caches = λ at. refl };
      nodes = λ at. refl;
      lent = λ dir. ap (λ (o : Option (List Row)). has_list rows dir && (is_left_in left (or_root dir) || is_some o)) (still (or_root dir));
      changed = refl;
    })

module _ (docket : Contents) (rows : List Row) (list : NodeList) (dir : List ℕ) (is_dir : or_root (dir_of list) ≡ dir) (old : List (List ℕ × List Row)) (own : InMemory) (parted : IsParted docket rows old (memory_table own))
    (there : lent_at old dir ≡ Some (rows_in list)) (free : IsOpen old (as_dir dir)) where
  own_there : lent_at old (or_root (dir_of list)) ≡ Some (rows_in list)
  own_there = ap (lent_at old) is_dir ∙ there

  own_free : IsOpen old (dir_of list)
  own_free = subst (IsOpen old) (ap as_dir (sym is_dir) ∙ as_own list) free

  -- it is noted as one that is as the image has it
  pub list_kept : (now : InMemory) → IsLentPut dir (Some (rows_in list)) own.kept now.kept → now ≡ record own { kept = now.kept } → IsMoved docket rows old own old now
  list_kept now put rest =
      moved_kept docket rows list old own parted own_there now (subst (λ (d : List ℕ). IsLentPut d (Some (rows_in list)) own.kept now.kept) (sym is_dir) put) rest

  -- a node stands at its directory
  pub list_there : 0 < list.count → IsThere own.rows (dir_of list)
  list_there = dir_there docket rows list old own parted own_there own_free

  -- the kids' lists are lent
  module _ (mid : List (List ℕ × List Row)) (lends : LendsKids list old mid) where
    pub list_lent : IsMoved docket rows old own mid own
    list_lent = moved_lends docket rows list old own parted own_there mid lends

    mid_there : lent_at mid (or_root (dir_of list)) ≡ Some (rows_in list)
    mid_there = lent_still list old mid lends own_there

    mid_free : IsOpen mid (dir_of list)
    mid_free d is = lends_same list old mid lends own_there d ∙ own_free d is

    -- memory was wanting
    pub list_some : (now : InMemory) → AddsSome list own.rows own.times now.rows now.times → AreOthersKept own now → IsMoved docket rows old own mid now
    list_some now adds kept =
        moved_trans docket rows old own mid own mid now list_lent (moved_some docket rows list mid own list_lent.parted mid_there now mid_free adds kept)

    module _ (new : List (List ℕ × List Row)) (gone : IsLentPut dir None mid new) where
      own_gone : IsLentPut (or_root (dir_of list)) None mid new
      own_gone = subst (λ (d : List ℕ). IsLentPut d None mid new) (sym is_dir) gone

      pub list_taken : (now : InMemory) → is_some (lent_at own.kept dir) ≡ true → AreServed list list.count mid → AddsNodes list list.count own.rows own.times now.rows now.times → AreOthersKept own now → IsMoved docket rows old own new now
      list_taken now known served adds kept =
          moved_trans docket rows old own mid own new now list_lent (moved_all docket rows list mid own list_lent.parted mid_there new served own_gone now (ap (λ (d : List ℕ). is_some (lent_at own.kept d)) is_dir ∙ known) mid_free adds kept)

      new_less : CoversLess old new
      new_less at h = lends_less list old mid lends own_there at (removed_less dir mid new gone at h)

      pub list_out : IsOut dir old new
      list_out = record {
        gone = removed_here dir mid new gone;
        less = new_less;
        bare = bare_in new dir (removed_here dir mid new gone) (λ d is. false_from_ne_true (covers new d) (λ h. both_ways (covers old d) (free d is) (new_less d h)));
      }

-- it wasn't lent
pub none_out : (dir : List ℕ) (left : List (List ℕ × List Row)) → lent_at left dir ≡ None → IsOpen left (as_dir dir) → IsOut dir left left
none_out dir left gone free = record { gone = gone; less = λ at h. h; bare = bare_in left dir gone free }

-- ---- all lists above a path

-- where nothing covers a directory, nothing is lent above it
pub free_dir : (left : List (List ℕ × List Row)) (path : List ℕ) → covers left path ≡ false → IsOpen left (as_dir path)
free_dir left path none d is = ap (covers left) (sym (as_dir_is path d is)) ∙ none

-- the list of the directory isn't lent, nor any above it
pub below_free : (left : List (List ℕ × List Row)) (dir path : List ℕ) → is_path dir ≡ true → is_path path ≡ true → parent_of path ≡ Some dir → IsFree left dir → covers left path ≡ false
below_free left dir path good_dir good is free = bare_in left dir free.own (free_dir left dir free.above) path good (is ∙ sym (as_path dir good_dir))

pub path_free : (old new : List (List ℕ × List Row)) (path : List ℕ) → covers old path ≡ false → IsOut path old new → IsFree new path
path_free old new path none out = record {
  above = false_from_ne_true (covers new path) (λ h. both_ways (covers old path) none (out.less path h));
  own = out.gone;
}

-- ---- all lists

pub bare_less : (was now : List (List ℕ × List Row)) (dir : Option (List ℕ)) → CoversLess was now → IsBare was dir → IsBare now dir
bare_less was now dir less bare at good is = false_from_ne_true (covers now at) (λ h. both_ways (covers was at) (bare at good is) (less at h))

pub bared_none : (list : NodeList) (left : List (List ℕ × List Row)) → AreBared list 0 left
bared_none list left i less = absurd (omega (arith, less))

module _ (list kids : NodeList) (i : ℕ) (node : NodeRef) (member : IsMember list node) (place : member.place ≡ i) (rows : rows_in kids ≡ rows_below node) (was now : List (List ℕ × List Row)) where
  pub bared_step : CoversLess was now → AreBared list i was → IsBared kids now → AreBared list (i + 1) now
  bared_step less so_far own k inside at below some = elim (cases_order k i) [
    | inl e ↦
        let own_below : is_below (row node).path at ≡ true = ap (λ (p : List ℕ). is_below p at) (sym (ap (path_at list) e ∙ member_path list i node member place)) ∙ below in
        own at (ap (λ (r : List Row). is_some (row_at r at)) rows ∙ ap is_some (below_member list node member at own_below) ∙ some)
    | inr (inl l) ↦ false_from_ne_true (covers now at) (λ h. both_ways (covers was at) (so_far k l at below some) (less at h))
    | inr (inr g) ↦ absurd (omega (arith, inside, g))
  ]

-- a node's list is free where nothing right in its directory is covered
pub kid_free : (list kids : NodeList) (node : NodeRef) → IsMember list node → dir_of kids ≡ Some (row node).path → (left : List (List ℕ × List Row)) → IsBare left (dir_of list) → IsOpen left (dir_of kids)
kid_free list kids node member is left bare d of =
    let own : (row node).path ≡ d = some_same (row node).path d (sym is ∙ of) in
    bare d (ap is_path (sym own) ∙ node.is_path) (ap parent_of (sym own) ∙ dir_member list node member)
  where
    some_same : (a b : List ℕ) → Some a ≡ Some b → a ≡ b
    some_same a b e = cc

pub bared_end : (list : NodeList) (left : List (List ℕ × List Row)) → IsBare left (dir_of list) → AreBared list list.count left → IsBared list left
bared_end list left bare bared at some = step (cases_Bool (is_same_dir (dir_of list) (parent_of at)))
  where
    good : is_path at ≡ true
    good = row_is_path list at some

    deep : (e : List ℕ) × (parent_of e ≡ dir_of list) × (is_path e ≡ true) × (is_below e at ≡ true) → covers left at ≡ false
    deep e =
        let place = placed_at list e.0 e.2 e.1 (row_rooted list e.0 at (right_above (dir_of list) e.0 e.1) e.3 some) in
        bared place.0 place.1 at (ap (λ (p : List ℕ). is_below p at) place.2 ∙ e.3) some

    step : (is_same_dir (dir_of list) (parent_of at) ≡ true) ⊎ (is_same_dir (dir_of list) (parent_of at) ≡ false) → covers left at ≡ false
    step (inl right) = bare at good (sym (same_dir (dir_of list) (parent_of at) right))
    step (inr other) = deep (between (dir_of list) at good (row_above list at some) other)

-- what is lent still has nothing
module _ (docket : Contents) (rows : List Row) (left : List (List ℕ × List Row)) (own : InMemory) (parted : IsParted docket rows left (memory_table own)) (formed : IsFormed (memory_table own))
    (bared : (at : List ℕ) → is_some (row_at rows at) ≡ true → covers left at ≡ false) (now : List (List ℕ × List Row)) (none : IsNoneLent now) (bare : CoversNone now) where
  none_there : (at : List ℕ) → covers left at ≡ true → row_at rows at ≡ None
  none_there at covered = none_is (row_at rows at) (λ some. both_ways (covers left at) (bared at some) covered)

  agrees : (at : List ℕ) (was is : Bool) → covers left at ≡ was → covers now at ≡ is → Agrees (reading.table_of docket rows) (memory_table own) (memory_table own) at was is
  agrees at was true c d = absurd (both_ways (covers now at) (bare at) d)
  agrees at true false c d = same_as_none docket rows own at formed (none_there at c) (λ h. some_never (row_at rows at) (none_there at c) (parted.known at h c))
  agrees at false false c d = record { entries = refl; sources = refl; nodes = refl; caches = refl }

  nodes_agree : (at : List ℕ) (was is : Bool) → covers left at ≡ was → covers now at ≡ is → AgreeNodes (option_map node_of (row_at rows at)) (node_at own.rows at) (node_at own.rows at) was is
  nodes_agree at was true c d = absurd (both_ways (covers now at) (bare at) d)
  nodes_agree at true false c d =
      none_is (node_at own.rows at) (λ h. some_never (row_at rows at) (none_there at c) (parted.known at h c)) ∙ sym (ap (option_map node_of) (none_there at c))
  nodes_agree at false false c d = refl

  same : IsSame (whole docket rows now (memory_table own)) (whole docket rows left (memory_table own))
  same = merged_same docket rows left own now own (others_kept own) (λ at. agrees at (covers left at) (covers now at) refl refl)

  pub moved_end : IsMoved docket rows left own now own
  moved_end = record {
    parted = record {
      lists = λ dir r is at above. absurd (some_never (lent_at now dir) (none dir) (ap is_some is));
      placed = λ at dir h is. bare dir;
      known = λ at h covered. absurd (both_ways (covers now at) (bare at) covered);
      paths = parted.paths;
      formed = formed_same (whole docket rows now (memory_table own)) (whole docket rows left (memory_table own)) same parted.formed;
    };
    same = same;
    nodes = λ at. one_node (option_map node_of (row_at rows at)) (node_at own.rows at) (node_at own.rows at) (covers left at) (covers now at) (nodes_agree at (covers left at) (covers now at) refl refl);
    lent = lent_same rows parted.paths left now own.kept own.kept (λ at some. ap (λ (b : Bool). b || is_some (lent_at own.kept (dir_text at))) (bare at ∙ sym (bared at some)));
    changed = refl;
  }

-- the rows of an image as a reading of its bytes has them
pub image_are : (image : Image) → rows image ≡ image_rows image
image_are image = ap (λ (b : List ℕ). list_rows levels b image.docket.root_start image.docket.root_count) (sym (take_all image.docket.used image.bytes.now (omega (arith, image.is_used))))

-- nothing that the image has is covered, where nothing is that its root's list has
pub image_bared : (image : Image) (root : NodeList) (left : List (List ℕ × List Row)) → rows_in root ≡ rows image → IsBared root left → (at : List ℕ) → is_some (row_at (image_rows image) at) ≡ true → covers left at ≡ false
image_bared image root left is bared at some = bared at (ap (λ (r : List Row). is_some (row_at r at)) (is ∙ image_are image) ∙ some)
