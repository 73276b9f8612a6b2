-- What a publication leaves, at each moment and at its end.
use Rattle.std.proofs.Common.{◌≡◌, ℕ, suc, ◌+◌, ◌-◌, ◌<◌, ◌≤◌, List, length, take, drop, replicate, ◌++◌, codes, refl, sym, ap, ◌∙◌, subst, arith, Option, Some, None, inl, inr, ◌⊎◌}
use Rattle.std.proofs.lemmas.List.{length-append, length-replicate, length-take}
use Rattle.hg_append.specs.declared.encoding.Encoded.{Encoded}
use Rattle.hg_docket.specs.Docket.{docket_of}
use Rattle.hg_shelf.specs.History.{Files}
use Rattle.hg_shelf.specs.Images.{Course, Goes, Scene, last_scene, scene}
use Rattle.hg_shelf.specs.Rules.{Perhaps, TornFile, content, moved, overwritten}
use Rattle.hg_save.specs.Leads.{Clears, IsWhole, Leads}
use Rattle.hg_save.specs.Others.{HasData, HasFront, IsFrontOf, UsesData, named_file, nodes_in}
use Rattle.hg_save.specs.Record.{data_name, shown_in, id_in, reading}
use Rattle.hg_save.specs.Saved.{HoldsExactly, IsExact, IsLatest, IsOver, IsUnnamed, KeepsOthers, LeavesOnly, NamesExactly, Records, ShowsOnly, Stands, WritesOnly, name_after, new_docket, published, used_in}
use Rattle.hg_save.specs.declared.loaded.Loaded.{Loaded}
use Rattle.hg_save.proofs.Names.{data_not_new, docket_not_data, later_still, never_itself, next_free, next_other, one_data}
use Rattle.hg_save.proofs.Readings.{HasPlace, exact_reads, exact_used, is_anew, is_behind, same_docket, same_id, same_or_not, same_reading, same_used, stays_read}
use Rattle.hg_save.specs.Behind.{HasNodes, IsFree, IsFreeIn, IsSolid, KeepsUsedBytes, LeavesData}
use Rattle.hg_save.proofs.Stages.{IsCleared, IsWritten, Prepares, Publishes, exact_moved, holds_exactly, leads_weaker, prepared, publishes_four, publishes_three}

-- ---- a file that was torn behind a place

-- a file that had so many bytes has them, and these stay where they lie before the place
pub torn_there : (place n m : ℕ) (old new : Option (List ℕ)) → TornFile place n old new → HasFront m old → HasFront m new
torn_there place n m None new torn has = absurd has
torn_there place n m (Some old) None torn has = absurd (cc torn)
torn_there place n m (Some old) (Some new) torn has = omega (arith, has, torn.no_shorter)

pub torn_keeps : (place n m : ℕ) (old new : Option (List ℕ)) → m ≤ place → TornFile place n old new → HasFront m old → take m (content new) ≡ take m (content old)
torn_keeps place n m None new near torn has = absurd has
torn_keeps place n m (Some old) None near torn has = absurd (cc torn)
torn_keeps place n m (Some old) (Some new) near torn has = torn.before m near has

pub front_of_nodes : (used : ℕ) (nodes : List ℕ) (file : Option (List ℕ)) → length nodes ≡ used → IsFrontOf file used nodes → HasFront used file
front_of_nodes used nodes None long front = absurd front
front_of_nodes used nodes (Some bytes) long front =
    let len = length-take used bytes in
    let all : length (take used bytes) ≡ used = ap length (sym front) ∙ long in
    omega (arith, len, all)

-- what was written is there
pub over_there : (old bytes : List ℕ) (place n : ℕ) (file : Option (List ℕ)) → n ≡ place + length bytes → file ≡ Some (overwritten old place bytes) → HasFront n file
over_there old bytes place n file many is =
    let whole = length-append (take place old ++ replicate (place - length old) 0 ++ bytes) (drop (place + length bytes) old) in
    let head = length-append (take place old ++ replicate (place - length old) 0) bytes in
    let front = length-append (take place old) (replicate (place - length old) 0) in
    let kept = length-take place old in
    let zeros = length-replicate {A = ℕ} (place - length old) 0 in
    subst (HasFront n) (sym is) (omega (arith, many, whole, head, front, kept, zeros))

-- the reading of files whose docket stays, and whose data file was torn behind what the docket uses
torn_read : (id : List ℕ) (place n : ℕ) (old new : Files) → new (codes "dirstate") ≡ old (codes "dirstate") → TornFile place n (old (data_name id)) (new (data_name id)) → id_in old ≡ id → used_in old ≤ place → HasData old → reading new ≡ reading old
torn_read id place n old new docket torn same near has =
    let here : TornFile place n (old (data_name (id_in old))) (new (data_name (id_in old))) = subst (λ (i : List ℕ). TornFile place n (old (data_name i)) (new (data_name i))) (sym same) torn in
    stays_read old new (same_docket old new docket) (λ uses. record {
      was = has uses;
      there = torn_there place n (used_in old) (old (data_name (id_in old))) (new (data_name (id_in old))) here (has uses);
      same = torn_keeps place n (used_in old) (old (data_name (id_in old))) (new (data_name (id_in old))) near here (has uses);
    })

-- the data of a docket that stays is there still
pub torn_data : (id : List ℕ) (place n : ℕ) (old new : Files) → new (codes "dirstate") ≡ old (codes "dirstate") → TornFile place n (old (data_name id)) (new (data_name id)) → id_in old ≡ id → HasData old → HasData new
torn_data id place n old new docket torn same has =
    let here : TornFile place n (old (data_name (id_in old))) (new (data_name (id_in old))) = subst (λ (i : List ℕ). TornFile place n (old (data_name i)) (new (data_name i))) (sym same) torn in
    subst (λ (bytes : List ℕ). UsesData bytes → HasFront (docket_of bytes).used (named_file bytes new)) (sym (same_docket old new docket))
    (λ uses. torn_there place n (used_in old) (old (data_name (id_in old))) (new (data_name (id_in old))) here (has uses))

-- ---- where a publication stands at the end of a part

-- the docket hasn't its place, in what reads show and in whatever a crash leaves
pub record Unswapped (new : Encoded) (a z : Course) : Type 0 where
  pub shown : (last_scene z).files (codes "dirstate") ≡ (last_scene a).files (codes "dirstate")
  pub left : (f : Files) → (last_scene z).leaves f → (d : Files) × (last_scene a).leaves d × Prepares new d f

-- what a publication has led to, and whether its docket has its place
pub record Led (loaded : List ℕ) (new : Encoded) (a z : Course) : Type 0 where
  pub later : a.history.last ≤ z.history.last
  pub publishes : Leads (Publishes loaded new (last_scene a).files) a z
  pub settled : IsExact new (last_scene a).files (last_scene z).files ⊎ Unswapped new a z

pub unswapped : (new : Encoded) (a z : Course) → a.history.last ≤ z.history.last → Leads (Prepares new) a z → Unswapped new a z
unswapped new a z later leads = record {
  shown = (leads.shown z.history.last later (omega arith)).unplaced.docket;
  left = λ f is. leads.left z.history.last f later (omega arith) is;
}

pub led_before : (loaded : List ℕ) (new : Encoded) (a z : Course) → a.history.last ≤ z.history.last → Leads (Prepares new) a z → Led loaded new a z
led_before loaded new a z later leads = record {
  later = later;
  publishes = leads_weaker a z (Prepares new) (Publishes loaded new (last_scene a).files) (prepared new loaded (last_scene a).files) leads;
  settled = inr (unswapped new a z later leads);
}

module _ (loaded nodes : List ℕ) (new : Encoded) (over : IsOver loaded nodes new) (a c d : Course) (start : Goes a c) (third : Goes c d) (wrote : IsWritten new a c) where
  settled_by : IsWhole (moved new_docket (codes "dirstate")) c d → IsExact new (last_scene a).files (last_scene d).files ⊎ Unswapped new a d
  settled_by (inl moves) = inl (exact_moved loaded nodes new over (last_scene a).files (last_scene c).files (last_scene d).files wrote.shown moves)
  settled_by (inr still) =
      let before = unswapped new a c start.past.later wrote.prepares in
      inr (record {
        shown = ap (λ (f : Files). f (codes "dirstate")) still.shown ∙ before.shown;
        left = λ f is. before.left f (still.left f is);
      })

  pub led_behind : Leads (Perhaps (moved new_docket (codes "dirstate"))) c d → IsWhole (moved new_docket (codes "dirstate")) c d → Led loaded new a d
  led_behind three wholly = record {
    later = omega (arith, start.past.later, third.past.later);
    publishes = publishes_three loaded nodes new over a c d start third wrote three;
    settled = settled_by wholly;
  }

pub led_cleared : (loaded nodes : List ℕ) (new : Encoded) (over : IsOver loaded nodes new) (a d z : Course) → Goes a d → Goes d z → Led loaded new a d → HoldsExactly new a d → Leads (Clears (docket_of loaded).id new.id) d z → Led loaded new a z
led_cleared loaded nodes new over a d z start fourth led exact clears = record {
  later = omega (arith, led.later, fourth.past.later);
  publishes = publishes_four loaded nodes new over a d z start fourth exact led.publishes clears;
  settled = inl (holds_exactly loaded nodes new over a d z fourth exact clears).shown;
}

-- ---- what is published upon

-- the data of a docket that stays, in a file that stays
pub has_still : (x y : Files) → shown_in y ≡ shown_in x → named_file (shown_in x) y ≡ nodes_in x → HasData x → HasData y
has_still x y docket file has =
    subst (λ (bytes : List ℕ). UsesData bytes → HasFront (docket_of bytes).used (named_file bytes y)) (sym docket) (λ uses. subst (HasFront (used_in x)) (sym file) (has uses))

module _ (loaded : Loaded) (new : Encoded) (over : IsOver loaded.shown.items loaded.nodes.items new) where
  -- the loaded nodes, where they are written behind
  pub has_place : (s : Scene) → (0 < new.place → HasNodes loaded s) → HasPlace loaded.nodes.items new s.files
  has_place s nodes some =
      let behind = is_behind loaded.shown.items loaded.nodes.items new over some in
      subst (λ (n : ℕ). IsFrontOf (s.files (data_name new.id)) n loaded.nodes.items) (sym behind.place)
      (subst (λ (id : List ℕ). IsFrontOf (s.files (data_name id)) (docket_of loaded.shown.items).used loaded.nodes.items) behind.same (nodes some))

  -- what stands is free, and so is what a crash may leave where it is solid
  stands_in : (f : Files) → shown_in f ≡ loaded.shown.items → (0 < new.place → IsFrontOf (named_file loaded.shown.items f) (docket_of loaded.shown.items).used loaded.nodes.items) → IsFreeIn new f
  stands_in f stands nodes named = elim over.by [
    | inl anew ↦ absurd (next_other (docket_of loaded.shown.items).id new.id anew.next (sym (ap (λ (bytes : List ℕ). (docket_of bytes).id) stands) ∙ named))
    | inr behind ↦
        let used : used_in f ≡ (docket_of loaded.shown.items).used = ap (λ (bytes : List ℕ). (docket_of bytes).used) stands in (
          omega (arith, used, behind.place),
          subst (λ (bytes : List ℕ). UsesData bytes → HasFront (docket_of bytes).used (named_file bytes f)) (sym stands)
              (λ uses. front_of_nodes (docket_of loaded.shown.items).used loaded.nodes.items (named_file loaded.shown.items f) behind.long (nodes (omega (arith, behind.place, behind.some)))),
        )
  ]

  pub stands_free : (s : Scene) → Stands loaded.shown.items s → (0 < new.place → HasNodes loaded s) → IsFreeIn new s.files
  stands_free s stands nodes = stands_in s.files stands nodes

  -- no docket that a crash may leave and that names the new identifier uses bytes behind the place, where none is ahead of the loaded one
  pub latest_near : (s : Scene) → Stands loaded.shown.items s → IsLatest s → (c : Files) → s.leaves c → id_in c ≡ new.id → used_in c ≤ new.place
  latest_near s stands latest c is named = elim over.by [
    | inl anew ↦ absurd ((next_free loaded.shown.items s new.id stands latest anew.next).free c is named)
    | inr behind ↦
        let most : used_in c ≤ used_in s.files = latest.used c is (named ∙ sym behind.same ∙ sym (ap (λ (bytes : List ℕ). (docket_of bytes).id) stands)) in
        let used : used_in s.files ≡ (docket_of loaded.shown.items).used = ap (λ (bytes : List ℕ). (docket_of bytes).used) stands in
        omega (arith, most, used, behind.place)
  ]

  pub solid_free : (s : Scene) → Stands loaded.shown.items s → IsLatest s → (0 < new.place → IsSolid s) → IsFree new s
  solid_free s stands latest solid = record {
    each = λ c is named. (
      latest_near s stands latest c is named,
      elim over.by [
        | inl anew ↦ absurd ((next_free loaded.shown.items s new.id stands latest anew.next).free c is named)
        | inr behind ↦ (solid (omega (arith, behind.place, behind.some))).front c is (named ∙ sym behind.same ∙ sym (ap (λ (bytes : List ℕ). (docket_of bytes).id) stands))
      ],
    );
  }

  -- no docket that a crash may leave names an identifier that comes after the new one, where none is ahead of the loaded one
  pub not_after_new : (s : Scene) → Stands loaded.shown.items s → IsLatest s → (d : Files) → s.leaves d → (n : ℕ) → name_after n new.id ≡ Some (id_in d) → ⊥
  not_after_new s stands latest d is n after = elim over.by [
    | inl anew ↦ latest.latest d is (suc n) (ap (λ (bytes : List ℕ). name_after (suc n) (docket_of bytes).id) stands ∙ later_still n (docket_of loaded.shown.items).id new.id (id_in d) anew.next after)
    | inr behind ↦ latest.latest d is n (ap (λ (bytes : List ℕ). name_after n (docket_of bytes).id) stands ∙ ap (name_after n) behind.same ∙ after)
  ]

-- ---- what it leaves

module _ (loaded nodes : List ℕ) (new : Encoded) (over : IsOver loaded nodes new) where
  -- where all is exact, the data that the docket names is there
  pub exact_data : (start f : Files) → IsExact new start f → HasData f
  exact_data start f exact = λ uses.
      subst (λ (id : List ℕ). HasFront (used_in f) (f (data_name id))) (sym exact.named)
      (over_there (content (start (data_name new.id))) new.bytes.items new.place (used_in f) (f (data_name new.id)) (exact_used loaded nodes new over start f exact) exact.file)

  -- the files whose docket stays, and what they have
  module _ (start d f : Files) (is : Publishes loaded new start d f) (docket : f (codes "dirstate") ≡ d (codes "dirstate")) where
    file_by : (at : List ℕ) → (f at ≡ d at) ⊎ IsCleared loaded new start f at → (at ≡ data_name (id_in d)) → (id_in d ≡ new.id → ⊥) → f (data_name (id_in d)) ≡ d (data_name (id_in d))
    file_by at (inl same) here apart = subst (λ (name : List ℕ). f name ≡ d name) here same
    file_by at (inr cleared) here apart = absurd (apart (sym (same_id d f docket) ∙ cleared.exact.named))

    file_stays : (id_in d ≡ new.id → ⊥) → f (data_name (id_in d)) ≡ d (data_name (id_in d))
    file_stays apart =
        file_by (data_name (id_in d))
        (is.others (data_name (id_in d)) (λ is. docket_not_data (id_in d) (sym is)) (data_not_new (id_in d)) (λ is. apart (one_data (id_in d) new.id is))) refl apart

    pub still_data : HasData d → HasData f
    still_data has = elim (same_or_not (id_in d) new.id) [
      | inl same ↦ torn_data new.id new.place (length new.bytes.items) d f docket is.only.file same has
      | inr apart ↦ has_still d f (same_docket d f docket) (file_stays apart) has
    ]

    pub still_read : IsFreeIn new d → reading f ≡ reading d
    still_read free = elim (same_or_not (id_in d) new.id) [
      | inl same ↦ torn_read new.id new.place (length new.bytes.items) d f docket is.only.file same (free same).0 (free same).1
      | inr apart ↦ same_reading d f docket (file_stays apart)
    ]

  module _ (a z : Course) (led : Led loaded new a z) where
    pub crash_by : IsFree new (last_scene a) → HasPlace nodes new (last_scene a).files → LeavesOnly a z (published nodes new)
    crash_by free front = record {
      each = λ k f after before is.
          let was = led.publishes.left k f after before is in
          elim was.2.only.stage [
            | inl unplaced ↦ inl (was.0, was.1, still_read (last_scene a).files was.0 f was.2 unplaced.docket (free.each was.0 was.1))
            | inr exact ↦ inr (exact_reads loaded nodes new over (last_scene a).files f exact front)
          ];
    }

    pub shown_by : IsFreeIn new (last_scene a).files → HasPlace nodes new (last_scene a).files → ShowsOnly a z (published nodes new)
    shown_by free front = record {
      each = λ k after before.
          let was = led.publishes.shown k after before in
          elim was.only.stage [
            | inl unplaced ↦ inl (still_read (last_scene a).files (last_scene a).files (scene z k).files was unplaced.docket free)
            | inr exact ↦ inr (exact_reads loaded nodes new over (last_scene a).files (scene z k).files exact front)
          ];
    }

    pub torn_by : Leads (WritesOnly new (last_scene a).files) a z
    torn_by = leads_weaker a z (Publishes loaded new (last_scene a).files) (WritesOnly new (last_scene a).files) (λ d f is. is.only) led.publishes

    -- where the docket names the new identifier, and none did
    named_by : (old now : Files) → WritesOnly new (last_scene a).files old now → (id_in old ≡ new.id → ⊥) → id_in now ≡ new.id → IsExact new (last_scene a).files now
    named_by old now is other named = elim is.stage [
      | inl before ↦ absurd (other (sym (same_id old now before.docket) ∙ named))
      | inr exact ↦ exact
    ]

    pub names_by : (last_scene a).leaves (last_scene a).files → IsUnnamed new.id (last_scene a) → NamesExactly new a z
    names_by there free = record {
      shown = λ k after before. named_by (last_scene a).files (scene z k).files (led.publishes.shown k after before).only (free.free (last_scene a).files there);
      left = λ k c after before is.
          let was = led.publishes.left k c after before is in
          named_by was.0 c was.2.only (free.free was.0 was.1);
    }

    -- ---- no other file

    keeps_anew : new.place ≡ 0 → (d f : Files) → Publishes loaded new (last_scene a).files d f → KeepsOthers (docket_of loaded).id new.id d f
    keeps_anew none d f is =
        let apart : data_name (docket_of loaded).id ≡ data_name new.id → ⊥ = λ same. next_other (docket_of loaded).id new.id (is_anew loaded nodes new over none).next (one_data (docket_of loaded).id new.id same) in
        record {
          others = λ at docket beside old here. elim (is.others at docket beside here) [ inl same ↦ same | inr cleared ↦ absurd (old cleared.old) ];
          named = elim (is.others (data_name (docket_of loaded).id) (λ is. docket_not_data (docket_of loaded).id (sym is)) (data_not_new (docket_of loaded).id) apart) [
            | inl same ↦ inl same
            | inr cleared ↦ inr (cleared.some, cleared.gone, cleared.exact.named)
          ];
        }

    pub anew_by : new.place ≡ 0 → Leads (KeepsOthers (docket_of loaded).id new.id) a z
    anew_by none = leads_weaker a z (Publishes loaded new (last_scene a).files) (KeepsOthers (docket_of loaded).id new.id) (keeps_anew none) led.publishes

    keeps_behind : 0 < new.place → (d f : Files) → Publishes loaded new (last_scene a).files d f → KeepsUsedBytes new.id new.place d f
    keeps_behind some d f is = record {
      others = λ at docket beside here. elim (is.others at docket beside here) [
        | inl same ↦ same
        | inr cleared ↦ absurd (here (cleared.old ∙ ap data_name (is_behind loaded nodes new over some).same))
      ];
      front = record {
        there = λ m near has. torn_there new.place (length new.bytes.items) m (d (data_name new.id)) (f (data_name new.id)) is.only.file has;
        same = λ m near has. torn_keeps new.place (length new.bytes.items) m (d (data_name new.id)) (f (data_name new.id)) near is.only.file has;
      };
    }

    pub behind_by : 0 < new.place → Leads (KeepsUsedBytes new.id new.place) a z
    behind_by some = leads_weaker a z (Publishes loaded new (last_scene a).files) (KeepsUsedBytes new.id new.place) (keeps_behind some) led.publishes

    -- ---- the data that dockets name

    data_left : (d f : Files) → Publishes loaded new (last_scene a).files d f → (id_in d ≡ id_in f → HasData d) → HasData f
    data_left d f by has = elim by.only.stage [
      | inl unplaced ↦ still_data (last_scene a).files d f by unplaced.docket (has (sym (same_id d f unplaced.docket)))
      | inr exact ↦ exact_data (last_scene a).files f exact
    ]

    pub intact_by : (id : List ℕ) → ((c : Files) → (last_scene a).leaves c → id_in c ≡ id → HasData c) → LeavesData id a z
    intact_by id has = record {
      each = λ k f after before is named.
          let was = led.publishes.left k f after before is in
          data_left was.0 f was.2 (λ same. has was.0 was.1 (same ∙ named));
    }

    -- no image of the end that names the new identifier uses more bytes than the new docket
    used_end : IsExact new (last_scene a).files (last_scene z).files → ((d : Files) → (last_scene a).leaves d → id_in d ≡ new.id → used_in d ≤ new.place) → (f : Files) → (last_scene z).leaves f → id_in f ≡ id_in (last_scene z).files → used_in f ≤ used_in (last_scene z).files
    used_end exact most f is same =
        let was = led.publishes.left z.history.last f led.later (omega arith) is in
        let there : used_in (last_scene z).files ≡ new.place + length new.bytes.items = exact_used loaded nodes new over (last_scene a).files (last_scene z).files exact in
        elim was.2.only.stage [
          | inl unplaced ↦
              let few : used_in was.0 ≤ new.place = most was.0 was.1 (sym (same_id was.0 f unplaced.docket) ∙ same ∙ exact.named) in
              omega (arith, there, few, same_used was.0 f unplaced.docket)
          | inr done ↦
              let left : used_in f ≡ new.place + length new.bytes.items = exact_used loaded nodes new over (last_scene a).files f done in
              omega (arith, there, left)
        ]

    -- nor where the docket is as it was
    used_still : (un : Unswapped new a z) → ((d : Files) → (last_scene a).leaves d → id_in d ≡ id_in (last_scene a).files → used_in d ≤ used_in (last_scene a).files) → (f : Files) → (last_scene z).leaves f → id_in f ≡ id_in (last_scene z).files → used_in f ≤ used_in (last_scene z).files
    used_still un most f is same =
        let was = un.left f is in
        let few : used_in was.0 ≤ used_in (last_scene a).files = most was.0 was.1 (sym (same_id was.0 f was.2.unplaced.docket) ∙ same ∙ same_id (last_scene a).files (last_scene z).files un.shown) in
        omega (arith, few, same_used was.0 f was.2.unplaced.docket, same_used (last_scene a).files (last_scene z).files un.shown)

    pub solid_by : IsFree new (last_scene a) → IsSolid (last_scene a) → IsSolid (last_scene z)
    solid_by free solid = elim led.settled [
      | inl exact ↦ record {
        used = used_end exact (λ d is named. (free.each d is named).0);
        front = λ f is same.
            let was = led.publishes.left z.history.last f led.later (omega arith) is in
            data_left was.0 f was.2 (λ from. (free.each was.0 was.1 (from ∙ same ∙ exact.named)).1);
      }
      | inr un ↦ record {
        used = used_still un solid.used;
        front = λ f is same.
            let was = led.publishes.left z.history.last f led.later (omega arith) is in
            data_left was.0 f was.2 (λ from. solid.front was.0 was.1 (from ∙ same ∙ same_id (last_scene a).files (last_scene z).files un.shown));
      }
    ]

    pub latest_by : ((d : Files) → (last_scene a).leaves d → (n : ℕ) → name_after n new.id ≡ Some (id_in d) → ⊥) → ((d : Files) → (last_scene a).leaves d → id_in d ≡ new.id → used_in d ≤ new.place) → IsLatest (last_scene a) → IsLatest (last_scene z)
    latest_by none near latest = elim led.settled [
      | inl exact ↦ record {
        latest = λ f is n after.
            let was = led.publishes.left z.history.last f led.later (omega arith) is in
            let from : name_after n new.id ≡ Some (id_in f) = ap (name_after n) (sym exact.named) ∙ after in
            elim was.2.only.stage [
              | inl unplaced ↦ none was.0 was.1 n (from ∙ ap (λ (id : List ℕ). Some id) (same_id was.0 f unplaced.docket))
              | inr done ↦ never_itself n new.id (from ∙ ap (λ (id : List ℕ). Some id) done.named)
            ];
        used = used_end exact near;
      }
      | inr un ↦ record {
        latest = λ f is n after.
            let was = un.left f is in
            latest.latest was.0 was.1 n (ap (name_after n) (sym (same_id (last_scene a).files (last_scene z).files un.shown)) ∙ after ∙ ap (λ (id : List ℕ). Some id) (same_id was.0 f was.2.unplaced.docket));
        used = used_still un latest.used;
      }
    ]

  -- where all is exact, the new table is recorded
  pub records_by : (a z : Course) → HasPlace nodes new (last_scene a).files → HoldsExactly new a z → Records z (published nodes new)
  records_by a z front exact = record {
    shown = exact_reads loaded nodes new over (last_scene a).files (last_scene z).files exact.shown front;
    left = λ f is. exact_reads loaded nodes new over (last_scene a).files f (exact.left f is) front;
  }
