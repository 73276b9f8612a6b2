-- What a publication has led to after each of its parts.
use Rattle.std.proofs.Common.{◌≡◌, ℕ, ◌≤◌, Bool, cond, List, [], length, codes, sym, ap, ◌∙◌, subst, arith, Option, Some, None, IsSome, is_some, inl, inr, ◌⊎◌}
use Rattle.std.specs.Str.{bytes_eq}
use Rattle.std.proofs.lemmas.Bool.{cases_lt}
use Rattle.hg_append.specs.declared.encoding.Encoded.{Encoded}
use Rattle.hg_docket.specs.Docket.{docket_of}
use Rattle.hg_shelf.specs.History.{Files}
use Rattle.hg_shelf.specs.Images.{Course, Goes, last_scene, scene}
use Rattle.hg_shelf.specs.Rules.{Perhaps, Surely, TornAt, TornFile, content, moved, overwritten, without}
use Rattle.hg_shelf.specs.Torn.{same_name}
use Rattle.hg_save.specs.Leads.{Clears, IsDone, IsGone, IsSure, Leads}
use Rattle.hg_save.specs.Record.{data_name}
use Rattle.hg_save.specs.Saved.{HoldsExactly, IsExact, IsOver, IsUnplaced, WritesOnly, new_docket}
use Rattle.hg_save.proofs.Names.{data_not_new, docket_not_data, docket_not_new, one_data, others_apart}
use Rattle.hg_save.proofs.Parts.{torn_nowhere}
use Rattle.hg_save.proofs.Readings.{begins_front, id_published, same_id, same_or_not}

-- ---- moments of a call

-- whatever a crash leaves at the moments of a call
abbrev pub Each : Course → Course → (Files → Type 0) → Type 0
Each old new P = (k : ℕ) (f : Files) → old.history.last ≤ k → k ≤ new.history.last → (scene new k).leaves f → P f

pub each_on : (a b c : Course) (P : Files → Type 0) → Each a b P → Goes b c → Each b c P → Each a c P
each_on a b c P first goes second = λ k f after before is. elim (cases_lt b.history.last k) [
  | inl late ↦ second k f (omega (arith, late)) before is
  | inr early ↦ first k f after early ((goes.kept k early).left f is)
]

-- what reads show at the moments of a call
abbrev pub EachShown : Course → Course → (Files → Type 0) → Type 0
EachShown old new P = (k : ℕ) → old.history.last ≤ k → k ≤ new.history.last → P (scene new k).files

pub shown_on : (a b c : Course) (P : Files → Type 0) → EachShown a b P → Goes b c → EachShown b c P → EachShown a c P
shown_on a b c P first goes second = λ k after before. elim (cases_lt b.history.last k) [
  | inl late ↦ second k (omega (arith, late)) before
  | inr early ↦ subst P (sym (goes.kept k early).shown) (first k after early)
]

-- what a part leads to, said more weakly
pub leads_weaker : (a b : Course) (change weak : Files → Files → Type 0) → ((c d : Files) → change c d → weak c d) → Leads change a b → Leads weak a b
leads_weaker a b change weak weaken leads = record {
  shown = λ k after before. weaken (last_scene a).files (scene b k).files (leads.shown k after before);
  left = λ k c after before is. let was = leads.left k c after before is in (was.0, was.1, weaken was.0 c was.2);
}

-- a part behind another, where something holds between the two
module _ (one two both : Files → Files → Type 0) (Known : Files → Type 0) (weak : (x y : Files) → one x y → both x y) (join : (x y z : Files) → Known y → one x y → two y z → both x z) where
  pub leads_then : (a b c : Course) → Goes a b → Goes b c → Known (last_scene b).files → ((f : Files) → (last_scene b).leaves f → Known f) → Leads one a b → Leads two b c → Leads both a c
  leads_then a b c start goes shown left first second = record {
    shown =
        shown_on a b c (both (last_scene a).files) (λ k after before. weak (last_scene a).files (scene b k).files (first.shown k after before)) goes
        (λ k after before. join (last_scene a).files (last_scene b).files (scene c k).files shown (first.shown b.history.last start.past.later (omega arith)) (second.shown k after before));
    left =
        each_on a b c (λ f. (d : Files) × (last_scene a).leaves d × both d f)
        (λ k f after before is.
        let was = first.left k f after before is in
        (was.0, was.1, weak was.0 f was.2)) goes
        (λ k f after before is.
        let was = second.left k f after before is in
        let origin = first.left b.history.last was.0 start.past.later (omega arith) was.1 in
        (origin.0, origin.1, join origin.0 was.0 f (left was.0 was.1) origin.2 was.2));
  }

-- ---- what the parts change

-- no file is changed but the docket, the one beside and a data file
abbrev pub ButForThree : List ℕ → Files → Files → Type 0
ButForThree id old now = (at : List ℕ) → (at ≡ codes "dirstate" → ⊥) → (at ≡ new_docket → ⊥) → (at ≡ data_name id → ⊥) → now at ≡ old at

-- before the docket takes its place
pub record Prepares (new : Encoded) (old now : Files) : Type 0 where
  pub others : ButForThree new.id old now
  pub file : TornFile new.place (length new.bytes.items) (old (data_name new.id)) (now (data_name new.id))
  pub unplaced : IsUnplaced new.docket.items old now

-- the data file that the loaded docket named is gone, where it named one, once all is exact
pub record IsCleared (loaded : List ℕ) (new : Encoded) (start now : Files) (at : List ℕ) : Type 0 where
  pub old : at ≡ data_name (docket_of loaded).id
  pub some : (docket_of loaded).id ≡ [] → ⊥
  pub gone : now at ≡ None
  pub exact : IsExact new start now

-- and whether it has or not
pub record Publishes (loaded : List ℕ) (new : Encoded) (start old now : Files) : Type 0 where
  pub others : (at : List ℕ) → (at ≡ codes "dirstate" → ⊥) → (at ≡ new_docket → ⊥) → (at ≡ data_name new.id → ⊥) → (now at ≡ old at) ⊎ IsCleared loaded new start now at
  pub only : WritesOnly new start old now

torn_same : (place n : ℕ) (old now next : Option (List ℕ)) → next ≡ now → TornFile place n old now → TornFile place n old next
torn_same place n old now next same torn = subst (λ (file : Option (List ℕ)). TornFile place n old file) (sym same) torn

torn_from : (place n : ℕ) (old first now : Option (List ℕ)) → first ≡ old → TornFile place n first now → TornFile place n old now
torn_from place n old first now same torn = subst (λ (file : Option (List ℕ)). TornFile place n file now) same torn

-- both files are written, and the docket stands beside the old one
pub record IsBeside (new : Encoded) (start files : Files) : Type 0 where
  pub file : files (data_name new.id) ≡ Some (overwritten (content (start (data_name new.id))) new.place new.bytes.items)
  pub docket : files new_docket ≡ Some (overwritten (content (start new_docket)) 0 new.docket.items)

module _ (new : Encoded) where
  -- the data file is written
  pub wrote_file : (x y : Files) → TornAt (data_name new.id) new.place (length new.bytes.items) x y → Prepares new x y
  wrote_file x y torn = record {
    others = λ at docket beside nodes. torn.elsewhere at nodes;
    file = torn.here;
    unplaced = record {
      docket = torn.elsewhere (codes "dirstate") (docket_not_data new.id);
      beside = torn_same 0 (length new.docket.items) (x new_docket) (x new_docket) (y new_docket) (torn.elsewhere new_docket (λ is. data_not_new new.id (sym is))) (torn_nowhere 0 (length new.docket.items) (x new_docket));
    };
  }

  -- and the docket beside
  wrote_docket : (x y z : Files) → Unit {0} → TornAt (data_name new.id) new.place (length new.bytes.items) x y → TornAt new_docket 0 (length new.docket.items) y z → Prepares new x z
  wrote_docket x y z any first second = record {
    others = λ at docket beside nodes. second.elsewhere at beside ∙ first.elsewhere at nodes;
    file = torn_same new.place (length new.bytes.items) (x (data_name new.id)) (y (data_name new.id)) (z (data_name new.id)) (second.elsewhere (data_name new.id) (data_not_new new.id)) first.here;
    unplaced = record {
      docket = second.elsewhere (codes "dirstate") docket_not_new ∙ first.elsewhere (codes "dirstate") (docket_not_data new.id);
      beside = torn_from 0 (length new.docket.items) (x new_docket) (y new_docket) (z new_docket) (first.elsewhere new_docket (λ is. data_not_new new.id (sym is))) second.here;
    };
  }

  pub prepared : (loaded : List ℕ) (start x y : Files) → Prepares new x y → Publishes loaded new start x y
  prepared loaded start x y is = record { others = λ at docket beside nodes. inl (is.others at docket beside nodes); only = record { file = is.file; stage = inl is.unplaced } }

  -- a rename changes nothing else
  pub moved_at : (y z : Files) → Surely (moved new_docket (codes "dirstate")) y z → (at : List ℕ) → (at ≡ codes "dirstate" → ⊥) → (at ≡ new_docket → ⊥) → z at ≡ y at
  moved_at y z moves at docket beside =
      moves at
      ∙ ap (λ (t : Bool). cond t (y new_docket) (cond (bytes_eq new_docket at) None (y at))) (others_apart (codes "dirstate") at (λ is. docket (sym is)))
      ∙ ap (λ (t : Bool). cond t None (y at)) (others_apart new_docket at (λ is. beside (sym is)))

module _ (loaded nodes : List ℕ) (new : Encoded) (over : IsOver loaded nodes new) where
  -- the docket takes its place
  pub exact_moved : (start y z : Files) → IsBeside new start y → Surely (moved new_docket (codes "dirstate")) y z → IsExact new start z
  exact_moved start y z is moves =
      let file : z (data_name new.id) ≡ Some (overwritten (content (start (data_name new.id))) new.place new.bytes.items) = moves (data_name new.id) ∙ is.file in
      let docket : z (codes "dirstate") ≡ Some (overwritten (content (start new_docket)) 0 new.docket.items) = moves (codes "dirstate") ∙ is.docket in
      record {
        file = file;
        docket = docket;
        beside = moves new_docket;
        named = id_published loaded nodes new over z (begins_front (content (start new_docket)) new.docket.items (z (codes "dirstate")) docket);
      }

  took_place : (start x y z : Files) → IsBeside new start y → Prepares new x y → Perhaps (moved new_docket (codes "dirstate")) y z → Publishes loaded new start x z
  took_place start x y z beside was (inl same) = record {
    others = λ at docket other nodes. inl (same at ∙ was.others at docket other nodes);
    only = record {
      file = torn_same new.place (length new.bytes.items) (x (data_name new.id)) (y (data_name new.id)) (z (data_name new.id)) (same (data_name new.id)) was.file;
      stage = inl (record {
        docket = same (codes "dirstate") ∙ was.unplaced.docket;
        beside = torn_same 0 (length new.docket.items) (x new_docket) (y new_docket) (z new_docket) (same new_docket) was.unplaced.beside;
      });
    };
  }
  took_place start x y z beside was (inr moves) = record {
    others = λ at docket other nodes. inl (moved_at new y z moves at docket other ∙ was.others at docket other nodes);
    only = record {
      file = torn_same new.place (length new.bytes.items) (x (data_name new.id)) (y (data_name new.id)) (z (data_name new.id)) (moves (data_name new.id)) was.file;
      stage = inr (exact_moved start y z beside moves);
    };
  }

  -- the old data file goes
  exact_kept : (start y z : Files) → IsExact new start y → z (data_name new.id) ≡ y (data_name new.id) → z (codes "dirstate") ≡ y (codes "dirstate") → z new_docket ≡ y new_docket → IsExact new start z
  exact_kept start y z is file docket beside = record { file = file ∙ is.file; docket = docket ∙ is.docket; beside = beside ∙ is.beside; named = same_id y z docket ∙ is.named }

  stays_by : (y z : Files) → IsGone (docket_of loaded).id new.id y z → z (data_name new.id) ≡ y (data_name new.id)
  stays_by y z gone =
      gone.gone (data_name new.id)
      ∙ ap (λ (t : Bool). cond t None (y (data_name new.id))) (others_apart (data_name (docket_of loaded).id) (data_name new.id) (λ is. gone.other (one_data (docket_of loaded).id new.id is)))

  pub exact_cleared : (start y z : Files) → IsExact new start y → Clears (docket_of loaded).id new.id y z → IsExact new start z
  exact_cleared start y z is (inl same) = exact_kept start y z is (same (data_name new.id)) (same (codes "dirstate")) (same new_docket)
  exact_cleared start y z is (inr gone) = exact_kept start y z is (stays_by y z gone) (gone.gone (codes "dirstate")) (gone.gone new_docket)

  cleared_at : (start x y z : Files) → IsExact new start z → Clears (docket_of loaded).id new.id y z → (at : List ℕ) → (y at ≡ x at) ⊎ IsCleared loaded new start y at → (z at ≡ x at) ⊎ IsCleared loaded new start z at
  cleared_at start x y z exact (inl same) at (inl was) = inl (same at ∙ was)
  cleared_at start x y z exact (inl same) at (inr was) = inr (record { old = was.old; some = was.some; gone = same at ∙ was.gone; exact = exact })
  cleared_at start x y z exact (inr gone) at was = elim (same_or_not at (data_name (docket_of loaded).id)) [
    | inl here ↦ inr (record {
      old = here;
      some = gone.some;
      gone = gone.gone at ∙ ap (λ (name : List ℕ). cond (bytes_eq (data_name (docket_of loaded).id) name) None (y at)) here ∙ ap (λ (t : Bool). cond t None (y at)) (same_name (data_name (docket_of loaded).id));
      exact = exact;
    })
    | inr other ↦
        let stays : z at ≡ y at = gone.gone at ∙ ap (λ (t : Bool). cond t None (y at)) (others_apart (data_name (docket_of loaded).id) at (λ is. other (sym is))) in
        elim was [ inl was ↦ inl (stays ∙ was) | inr before ↦ absurd (other before.old) ]
  ]

  file_cleared : (y z : Files) → Clears (docket_of loaded).id new.id y z → z (data_name new.id) ≡ y (data_name new.id)
  file_cleared y z (inl same) = same (data_name new.id)
  file_cleared y z (inr gone) = stays_by y z gone

  cleared : (start x y z : Files) → IsExact new start y → Publishes loaded new start x y → Clears (docket_of loaded).id new.id y z → Publishes loaded new start x z
  cleared start x y z exact was clears =
      let now : IsExact new start z = exact_cleared start y z exact clears in
      record {
        others = λ at docket other nodes. cleared_at start x y z now clears at (was.others at docket other nodes);
        only = record {
          file = torn_same new.place (length new.bytes.items) (x (data_name new.id)) (y (data_name new.id)) (z (data_name new.id)) (file_cleared y z clears) was.only.file;
          stage = inr now;
        };
      }

-- a removal of the old data file, where there is one and it is another
pub goes_there : (id next : List ℕ) → (id ≡ [] → ⊥) → (id ≡ next → ⊥) → (old new : Files) → Perhaps (without (data_name id)) old new → Clears id next old new
goes_there id next some other old new (inl same) = inl same
goes_there id next some other old new (inr gone) = inr (record { some = some; other = other; gone = gone })

-- ---- the parts of a call

module _ (new : Encoded) (a b : Course) (first : Goes a b) where
  pub prepares_one : Leads (TornAt (data_name new.id) new.place (length new.bytes.items)) a b → Leads (Prepares new) a b
  prepares_one leads = leads_weaker a b (TornAt (data_name new.id) new.place (length new.bytes.items)) (Prepares new) (wrote_file new) leads

  module _ (c : Course) (second : Goes b c) where
    pub prepares_two : Leads (TornAt (data_name new.id) new.place (length new.bytes.items)) a b → Leads (TornAt new_docket 0 (length new.docket.items)) b c → Leads (Prepares new) a c
    prepares_two one two =
        leads_then (TornAt (data_name new.id) new.place (length new.bytes.items)) (TornAt new_docket 0 (length new.docket.items)) (Prepares new) (λ f. Unit {0}) (wrote_file new)
        (wrote_docket new) a b c first second tt (λ f is. tt) one two

-- both files are written and sure, and the docket stands beside the old one
pub record IsWritten (new : Encoded) (a c : Course) : Type 0 where
  pub prepares : Leads (Prepares new) a c
  pub shown : IsBeside new (last_scene a).files (last_scene c).files
  pub left : (f : Files) → (last_scene c).leaves f → IsBeside new (last_scene a).files f
  pub there : IsSome ((last_scene c).files new_docket)

module _ (new : Encoded) (a b c : Course) (first : Goes a b) (second : Goes b c) (one : Leads (TornAt (data_name new.id) new.place (length new.bytes.items)) a b) (two : Leads (TornAt new_docket 0 (length new.docket.items)) b c)
    (data_sure : IsSure (data_name new.id) (overwritten (content ((last_scene a).files (data_name new.id))) new.place new.bytes.items) b)
    (docket_sure : IsSure new_docket (overwritten (content ((last_scene b).files new_docket)) 0 new.docket.items) c) where
  -- what stood beside at the start was left by the first part
  over_start : Some (overwritten (content ((last_scene b).files new_docket)) 0 new.docket.items) ≡ Some (overwritten (content ((last_scene a).files new_docket)) 0 new.docket.items)
  over_start =
      ap (λ (file : Option (List ℕ)). Some (overwritten (content file) 0 new.docket.items))
      ((one.shown b.history.last first.past.later (omega arith)).elsewhere new_docket (λ is. data_not_new new.id (sym is)))

  pub is_written : IsWritten new a c
  is_written = record {
    prepares = prepares_two new a b first c second one two;
    shown = record {
      file = (two.shown c.history.last second.past.later (omega arith)).elsewhere (data_name new.id) (data_not_new new.id) ∙ data_sure.shown;
      docket = docket_sure.shown ∙ over_start;
    };
    left = λ f is.
        let was = two.left c.history.last f second.past.later (omega arith) is in
        record {
          file = was.2.elsewhere (data_name new.id) (data_not_new new.id) ∙ data_sure.left was.0 was.1;
          docket = docket_sure.left f is ∙ over_start;
        };
    there = ap is_some docket_sure.shown;
  }

module _ (loaded nodes : List ℕ) (new : Encoded) (over : IsOver loaded nodes new) (a c d : Course) (start : Goes a c) (third : Goes c d) (wrote : IsWritten new a c) where
  pub publishes_three : Leads (Perhaps (moved new_docket (codes "dirstate"))) c d → Leads (Publishes loaded new (last_scene a).files) a d
  publishes_three three =
      leads_then (Prepares new) (Perhaps (moved new_docket (codes "dirstate"))) (Publishes loaded new (last_scene a).files) (IsBeside new (last_scene a).files) (prepared new loaded (last_scene a).files)
      (took_place loaded nodes new over (last_scene a).files) a c d start third wrote.shown wrote.left wrote.prepares three

  -- what is done holds exactly what is published
  pub exact_done : IsDone (moved new_docket (codes "dirstate")) c d → HoldsExactly new a d
  exact_done done = record {
    shown = exact_moved loaded nodes new over (last_scene a).files (last_scene c).files (last_scene d).files wrote.shown done.shown;
    left = λ f is. let was = done.left f is in exact_moved loaded nodes new over (last_scene a).files was.0 f (wrote.left was.0 was.1) was.2;
  }

-- and then the old data file may go
module _ (loaded nodes : List ℕ) (new : Encoded) (over : IsOver loaded nodes new) (a d z : Course) where
  pub publishes_four : Goes a d → Goes d z → HoldsExactly new a d → Leads (Publishes loaded new (last_scene a).files) a d → Leads (Clears (docket_of loaded).id new.id) d z → Leads (Publishes loaded new (last_scene a).files) a z
  publishes_four start fourth exact publishes clears =
      leads_then (Publishes loaded new (last_scene a).files) (Clears (docket_of loaded).id new.id) (Publishes loaded new (last_scene a).files) (IsExact new (last_scene a).files) (λ x y is. is)
      (cleared loaded nodes new over (last_scene a).files) a d z start fourth exact.shown exact.left publishes clears

  pub holds_exactly : Goes d z → HoldsExactly new a d → Leads (Clears (docket_of loaded).id new.id) d z → HoldsExactly new a z
  holds_exactly fourth exact clears = record {
    shown = exact_cleared loaded nodes new over (last_scene a).files (last_scene d).files (last_scene z).files exact.shown (clears.shown z.history.last fourth.past.later (omega arith));
    left = λ f is. let was = clears.left z.history.last f fourth.past.later (omega arith) is in exact_cleared loaded nodes new over (last_scene a).files was.0 f (exact.left was.0 was.1) was.2;
  }
