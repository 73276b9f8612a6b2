-- What a publication leaves, in the words of the table that is published.
use Rattle.std.proofs.Common.{◌≡◌, ℕ, ◌+◌, ◌-◌, ◌<◌, true, List, [], ◌++◌, length, take, sym, ap, ◌∙◌, subst, arith, refl, Option, Some, None, Result, Ok, inl, inr}
use Rattle.std.proofs.Math.Seq.{take-append_seam}
use Rattle.std.proofs.lemmas.List.{length-append, take_all}
use Rattle.hg_append.specs.Encoded.{IsWritten, ReadsAs}
use Rattle.hg_append.specs.declared.encoding.Encoded.{Encoded}
use Rattle.hg_append.specs.declared.way.Way.{Way}
use Rattle.hg_append.specs.declared.way.Way.TheVariants as a_way
use Rattle.hg_append.specs.Appended.{IsAppended, IsOverImage, StaysAt, file_with}
use Rattle.hg_append.specs.Either.{CanEncode, file_of}
use Rattle.hg_append.specs.Loss.{plan_of}
use Rattle.hg_docket.specs.Docket.{Contents, docket_of}
use Rattle.hg_docket.specs.Number.{next_name}
use Rattle.hg_entry.specs.Table.{Table}
use Rattle.hg_image.specs.Reading.{RecordFault, reading_of}
use Rattle.hg_image.specs.Rows.{Row, list_rows, rows_of}
use Rattle.hg_image.specs.Walk.{levels}
use Rattle.hg_mixed.specs.Held.{Held, is_lent, table}
use Rattle.hg_mixed.specs.Shown.{list_place}
use Rattle.hg_save.specs.Over.{HasUsed, IsEncoded, IsEncodedBy, IsGround, IsPut, IsPutOver, IsRecorded, KeepsLists, KeepsOthersBy, LeavesLists}
use Rattle.hg_save.specs.Leads.{Leads}
use Rattle.hg_save.specs.Others.{nodes_in}
use Rattle.hg_save.specs.Record.{data_name, shown_in}
use Rattle.hg_save.specs.Saved.{HoldsExactly, IsBehind, IsExact, IsOver, KeepsOthers, LeavesOnly, Records, ShowsOnly, published}
use Rattle.hg_save.specs.declared.loaded.Loaded.{Loaded}
use Rattle.hg_save.specs.Behind.{HasNodes, IsBase, KeepsUsedBytes}
use Rattle.hg_save.proofs.Encodings.{goes_behind, goes_over}
use Rattle.hg_save.proofs.Ends.{has_place, solid_free, stands_free}
use Rattle.hg_save.proofs.Names.{next_other}
use Rattle.hg_save.proofs.Readings.{begins_at, cut_docket, exact_docket, is_behind, long_nodes, some_docket}
use Rattle.hg_save.proofs.Tails.{followed}
use Rattle.hg_shelf.specs.History.{Files}
use Rattle.hg_shelf.specs.Images.{Course, Scene, last_scene}
use Rattle.hg_shelf.specs.Rules.{content}

-- ---- what was encoded

-- the better way can be taken
pub can_encode : (held : Held) (way : Way) → way ≡ plan_of held → CanEncode held way
can_encode held a_way.Rewrite is = tt
can_encode held a_way.Append is = sym is

-- a table that was encoded over a record by the better way
pub record IsMade (held : Held) (loaded : Loaded) (new : Encoded) (found : Table) : Type 0 where
  pub docket : held.docket ≡ docket_of loaded.shown.items
  pub nodes : held.bytes ≡ loaded.nodes.items
  pub is : IsEncoded held new found
  pub over : IsOver loaded.shown.items loaded.nodes.items new

-- so is what `encode` answers
pub made_by : (held : Held) (loaded : Loaded) (new : Encoded) (way : Way) → way ≡ plan_of held → held.docket ≡ docket_of loaded.shown.items → held.bytes ≡ loaded.nodes.items
    → (plan_of held ≡ a_way.Append → IsOverImage held) → (way ≡ a_way.Rewrite → IsWritten held new) → (way ≡ a_way.Append → IsAppended held new)
    → (reads : ReadsAs (table held) (reading_of new.docket.items (file_of held new))) → IsMade held loaded new reads.found
made_by held loaded new a_way.Rewrite best docket nodes image written appended reads = record {
  docket = docket;
  nodes = nodes;
  is = record { by = subst (λ (w : Way). IsEncodedBy w held new) best (written refl); reads = reads.is; same = reads.same };
  over = goes_over loaded.shown.items loaded.nodes.items held new (file_of held new) (ap (λ (c : Contents). c.id) docket) (written refl) reads;
}
made_by held loaded new a_way.Append best docket nodes image written appended reads = record {
  docket = docket;
  nodes = nodes;
  is = record { by = subst (λ (w : Way). IsEncodedBy w held new) best (appended refl); reads = reads.is; same = reads.same };
  over = goes_behind loaded.shown.items loaded.nodes.items held new (file_of held new) docket nodes (image (sym best)) (sym best) (appended refl) reads;
}

module _ (held : Held) (loaded : Loaded) (new : Encoded) (found : Table) (made : IsMade held loaded new found) where
  published_is : published loaded.nodes.items new ≡ Some (Ok found)
  published_is = ap (λ (l : List ℕ). Some (reading_of new.docket.items (take new.place l ++ new.bytes.items))) (sym made.nodes) ∙ ap (λ (r : Result Table RecordFault). Some r) made.is.reads

  same_id : held.docket.id ≡ (docket_of loaded.shown.items).id
  same_id = ap (λ (c : Contents). c.id) made.docket

  same_used : held.docket.used ≡ (docket_of loaded.shown.items).used
  same_used = ap (λ (c : Contents). c.used) made.docket

  -- a place behind nodes is one of an append
  append_by : (way : Way) → plan_of held ≡ way → IsEncodedBy way held new → 0 < new.place → plan_of held ≡ a_way.Append
  append_by a_way.Rewrite plan is some = absurd (omega (arith, is.place, some))
  append_by a_way.Append plan is some = plan

  is_append : 0 < new.place → plan_of held ≡ a_way.Append
  is_append = append_by (plan_of held) refl made.is.by

  nodes_by : (s : Scene) → (plan_of held ≡ a_way.Append → HasUsed loaded s) → 0 < new.place → HasNodes loaded s
  nodes_by s has some = has (is_append some) (is_behind loaded.shown.items loaded.nodes.items new made.over some).some

  base_by : (s : Scene) → IsGround (plan_of held) loaded s → IsBase loaded new s
  base_by s ground = record {
    stands = ground.stands;
    latest = ground.latest;
    free = solid_free loaded new made.over s ground.stands ground.latest (λ some. ground.solid (is_append some));
    nodes = nodes_by s ground.nodes;
  }

  -- an append has a place behind nodes
  place_some : IsAppended held new → 0 < new.place
  place_some is = elim made.over.by [
    | inl anew ↦ absurd (next_other (docket_of loaded.shown.items).id new.id anew.next (sym same_id ∙ is.same))
    | inr behind ↦ omega (arith, behind.place, behind.some)
  ]

  -- which other files stay
  others_by : (a z : Course) (way : Way) → IsEncodedBy way held new → IsPut loaded new a z → KeepsOthersBy way held a z
  others_by a z a_way.Rewrite is put = (new.id, is.next, subst (λ (id : List ℕ). Leads (KeepsOthers id new.id) a z) (sym same_id) (put.anew is.place))
  others_by a z a_way.Append is put = by (put.behind (place_some is)) where
    by : Leads (KeepsUsedBytes new.id new.place) a z → Leads (KeepsUsedBytes held.docket.id held.docket.used) a z
    by leads = subst (λ (id : List ℕ). Leads (KeepsUsedBytes id held.docket.used) a z) (sym is.same) (subst (λ (n : ℕ). Leads (KeepsUsedBytes new.id n) a z) is.place leads)

  pub put_over : (a z : Course) → IsPut loaded new a z → IsPutOver held loaded a z
  put_over a z put =
      let s : Scene = last_scene a in
      record {
        encoded = new;
        found = found;
        is = made.is;
        crash = λ ground. let base = base_by s ground in subst (LeavesOnly a z) published_is (put.crash base.free base.nodes);
        shown = λ stands latest has. subst (ShowsOnly a z) published_is (put.shown (stands_free loaded new made.over s stands (nodes_by s has)) (nodes_by s has));
        torn = put.torn;
        once = put.once;
        latest = put.latest;
        intact = λ stands latest solid. put.intact held.docket.id (λ c is named. solid.front c is (named ∙ same_id ∙ sym (ap (λ (bytes : List ℕ). (docket_of bytes).id) stands)));
        intact_new = λ stands latest solid. put.intact new.id (λ c is named. ((solid_free loaded new made.over s stands latest (λ some. solid)).each c is named).1);
        solid = λ stands latest solid. put.solid (solid_free loaded new made.over s stands latest (λ some. solid)) solid;
        orderly = λ ground. put.orderly (base_by s ground) (found, published_is);
        keeping = λ stands has. put.keeping stands (nodes_by s has);
        others = others_by a z (plan_of held) made.is.by put;
      }

  pub recorded_over : (a z : Course) → (plan_of held ≡ a_way.Append → HasUsed loaded (last_scene a)) → ((0 < new.place → HasNodes loaded (last_scene a)) → Records z (published loaded.nodes.items new)) → HoldsExactly new a z
      → (((docket_of loaded.shown.items).id ≡ [] → ⊥) → ((docket_of loaded.shown.items).id ≡ new.id → ⊥) → (last_scene z).files (data_name (docket_of loaded.shown.items).id) ≡ None) → IsRecorded held a z
  recorded_over a z has records exact gone = record {
    encoded = new;
    found = found;
    is = made.is;
    records = subst (Records z) published_is (records (nodes_by (last_scene a) has));
    exact = exact;
    gone = λ way some. subst (λ (id : List ℕ). (last_scene z).files (data_name id) ≡ None) (sym same_id) (gone (λ empty. some (same_id ∙ empty)) (other way made.is.by));
  } where
    other : plan_of held ≡ a_way.Rewrite → IsEncodedBy (plan_of held) held new → (docket_of loaded.shown.items).id ≡ new.id → ⊥
    other way is = next_other (docket_of loaded.shown.items).id new.id (ap next_name (sym same_id) ∙ (subst (λ (w : Way). IsEncodedBy w held new) way is).next)

  -- ---- where the lists lie

  module _ (image : IsOverImage held) (appended : IsAppended held new) where
    behind : IsBehind loaded.shown.items loaded.nodes.items new
    behind = is_behind loaded.shown.items loaded.nodes.items new made.over (place_some appended)

    module _ (s : Scene) (f : Files) (exact : IsExact new s.files f) (front : HasNodes loaded s) where
      docket_is : docket_of (shown_in f) ≡ docket_of new.docket.items
      docket_is =
          let begins = exact_docket loaded.shown.items loaded.nodes.items new made.over s.files f exact in
          ap (λ (file : Option (List ℕ)). docket_of (take 512 (content file))) begins.1
          ∙ ap docket_of (cut_docket new.docket.items begins.0 made.over.few)
          ∙ (followed new.docket.items (take (512 - length new.docket.items) begins.0) made.over.whole (some_docket loaded.shown.items loaded.nodes.items new made.over)).same

      file_is : (rest : List ℕ) × (content (nodes_in f) ≡ (file_with held new) ++ rest)
      file_is =
          let begins = begins_at loaded.nodes.items new.bytes.items new.place (s.files (data_name new.id)) (long_nodes loaded.shown.items loaded.nodes.items new made.over) (has_place loaded new made.over s (λ some. front)) in
          let whole : take new.place loaded.nodes.items ≡ held.bytes = take_all new.place loaded.nodes.items (omega (arith, behind.long, behind.place)) ∙ sym made.nodes in (
            begins.0,
            ap (λ (id : List ℕ). content (f (data_name id))) exact.named
                ∙ ap content exact.file
                ∙ ap content begins.1
                ∙ ap (λ (l : List ℕ). (l ++ new.bytes.items) ++ begins.0) whole,
          )

      used_is : (docket_of new.docket.items).used ≡ length (file_with held new)
      used_is =
          let all = length-append held.bytes new.bytes.items in
          let same : length held.bytes ≡ held.docket.used = image.used in
          let place : new.place ≡ held.docket.used = appended.place in
          let used : (docket_of new.docket.items).used ≡ new.place + length new.bytes.items = made.over.used in
          omega (arith, all, same, place, used)

      rows_are : rows_of (docket_of new.docket.items) (content (nodes_in f)) ≡ rows_of (docket_of new.docket.items) (file_with held new)
      rows_are =
          let c : Contents = docket_of new.docket.items in
          let whole : take c.used (file_with held new) ≡ file_with held new = take_all c.used (file_with held new) (omega (arith, used_is)) in
          let front : take c.used (file_with held new ++ file_is.0) ≡ file_with held new = ap (λ (n : ℕ). take n (file_with held new ++ file_is.0)) used_is ∙ take-append_seam (file_with held new) file_is.0 in
          ap (λ (bytes : List ℕ). list_rows levels bytes c.root_start c.root_count) (ap (take c.used) file_is.1 ∙ front ∙ sym whole)

      lists_at : ((dir : Option (List ℕ)) → is_lent held dir ≡ true → StaysAt held new dir) → KeepsLists held f
      lists_at stays = record {
        same = exact.named ∙ sym appended.same;
        lists = λ dir lent.
            ap (λ (c : Contents). list_place c (rows_of c (content (nodes_in f))) dir) docket_is
            ∙ ap (λ (rows : List Row). list_place (docket_of new.docket.items) rows dir) rows_are
            ∙ stays dir lent;
      }

    pub lists_behind : (a z : Course) → HasUsed loaded (last_scene a) → HoldsExactly new a z → ((dir : Option (List ℕ)) → is_lent held dir ≡ true → StaysAt held new dir) → LeavesLists held z
    lists_behind a z has exact stays = record {
      shown = lists_at (last_scene a) (last_scene z).files exact.shown (has behind.some) stays;
      left = λ f is. lists_at (last_scene a) f (exact.left f is) (has behind.some) stays;
    }
