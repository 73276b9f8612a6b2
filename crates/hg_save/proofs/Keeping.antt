-- Each step of a publication keeps the bytes that dockets use.
use Rattle.std.proofs.Common.{◌≡◌, ℕ, suc, ◌+◌, ◌<◌, ◌≤◌, List, length, codes, sym, ap, ◌∙◌, subst, arith, Option, Some, None, inl, inr}
use Rattle.std.specs.Str.{bytes_eq}
use Rattle.hg_append.specs.declared.encoding.Encoded.{Encoded}
use Rattle.hg_docket.specs.Docket.{docket_of}
use Rattle.hg_docket.specs.Number.{next_name}
use Rattle.hg_shelf.specs.History.{Files, us}
use Rattle.hg_shelf.specs.Images.{Course, Goes, Remains, Scene, last_scene, scene}
use Rattle.hg_shelf.specs.Rules.{Surely, TornAt, TornFile, moved}
use Rattle.hg_save.specs.Leads.{Clears, Leads, OnceBy, OwnSteps, StepBy}
use Rattle.hg_save.specs.Others.{HasFront, StaysFront, named_file}
use Rattle.hg_save.specs.Record.{data_name, shown_in, id_in}
use Rattle.hg_save.specs.Saved.{IsExact, IsOver, Stands, name_after, new_docket, used_in}
use Rattle.hg_save.proofs.Names.{data_not_new, docket_not_data, docket_not_new, later_still, one_data}
use Rattle.hg_save.proofs.Readings.{HasPlace, exact_used, long_nodes, same_docket, same_or_not}
use Rattle.hg_save.proofs.Spans.{beyond_still, keeping_itself, stays_by, stays_gone}
use Rattle.hg_save.specs.Behind.{IsKeepingUsed, IsNotBeyond, KeepsUsed}
use Rattle.hg_save.proofs.Ends.{exact_data, front_of_nodes, has_still, torn_data, torn_there}
use Rattle.hg_save.proofs.Stages.{IsBeside, IsWritten, Prepares, exact_cleared, exact_moved}

-- ---- one step

-- a step between scenes
abbrev pub Keeping : Scene → Scene → Type 0
Keeping x y = IsKeepingUsed x.files y.files

pub keeping_along : (x y u v : Scene) → Remains x u → Remains u x → Remains y v → Keeping x y → Keeping u v
keeping_along x y u v there back behind step = subst (λ (f : Files). IsKeepingUsed f v.files) (sym there.shown) (subst (IsKeepingUsed x.files) (sym behind.shown) step)

-- a file that is there keeps its bytes before the place
torn_stays : (place n used : ℕ) (old new : Option (List ℕ)) → used ≤ place → HasFront place old → TornFile place n old new → StaysFront used old new
torn_stays place n used old None near has torn = tt
torn_stays place n used None (Some new) near has torn = absurd has
torn_stays place n used (Some old) (Some new) near has torn = λ long. (omega (arith, long, torn.no_shorter), torn.before used near long)

-- a write beside
keeping_beside : (n : ℕ) (x y : Files) → TornAt new_docket 0 n x y → IsKeepingUsed x y
keeping_beside n x y torn =
    let docket : shown_in y ≡ shown_in x = same_docket x y (torn.elsewhere (codes "dirstate") docket_not_new) in
    record {
      kept = λ one uses beyond. stays_by (docket_of one).used (named_file one x) (named_file one y) (torn.elsewhere (data_name (docket_of one).id) (data_not_new (docket_of one).id));
      there = has_still x y docket (torn.elsewhere (data_name (id_in x)) (data_not_new (id_in x)));
      beyond = beyond_still x y docket;
    }

module _ (loaded nodes : List ℕ) (new : Encoded) (over : IsOver loaded nodes new) where
  -- where the loaded docket stands, one that isn't beyond it and names the new identifier uses at most the bytes before the place
  near : (x : Files) → shown_in x ≡ loaded → (docket : List ℕ) → IsNotBeyond x docket → (docket_of docket).id ≡ new.id → (docket_of docket).used ≤ new.place
  near x stands docket beyond named = elim over.by [
    | inl anew ↦ absurd (beyond.ahead 0 (ap (λ (bytes : List ℕ). next_name (docket_of bytes).id) stands ∙ anew.next ∙ ap (λ (id : List ℕ). Some id) (sym named)))
    | inr behind ↦
        let most : (docket_of docket).used ≤ used_in x = beyond.used (named ∙ sym behind.same ∙ sym (ap (λ (bytes : List ℕ). (docket_of bytes).id) stands)) in
        let used : used_in x ≡ (docket_of loaded).used = ap (λ (bytes : List ℕ). (docket_of bytes).used) stands in
        omega (arith, most, used, behind.place)
  ]

  -- a file that is written from its start on, or that has the bytes before the place
  torn_kept : (used : ℕ) (old now : Option (List ℕ)) → used ≤ new.place → 0 < used → (0 < new.place → HasFront new.place old) → TornFile new.place (length new.bytes.items) old now → StaysFront used old now
  torn_kept used old now most some has torn = torn_stays new.place (length new.bytes.items) used old now most (has (omega (arith, most, some))) torn

  -- a write of the data file
  keeping_data : (x y : Files) → shown_in x ≡ loaded → (0 < new.place → HasFront new.place (x (data_name new.id))) → TornAt (data_name new.id) new.place (length new.bytes.items) x y → IsKeepingUsed x y
  keeping_data x y stands has torn =
      let docket : y (codes "dirstate") ≡ x (codes "dirstate") = torn.elsewhere (codes "dirstate") (docket_not_data new.id) in
      record {
        kept = λ one uses beyond. elim (same_or_not (docket_of one).id new.id) [
          | inr apart ↦ stays_by (docket_of one).used (named_file one x) (named_file one y) (torn.elsewhere (data_name (docket_of one).id) (λ is. apart (one_data (docket_of one).id new.id is)))
          | inl same ↦
              subst (λ (id : List ℕ). StaysFront (docket_of one).used (x (data_name id)) (y (data_name id))) (sym same)
              (torn_kept (docket_of one).used (x (data_name new.id)) (y (data_name new.id)) (near x stands one beyond same) uses.uses has torn.here)
        ];
        there = λ has_it. elim (same_or_not (id_in x) new.id) [
          | inl same ↦ torn_data new.id new.place (length new.bytes.items) x y docket torn.here same has_it
          | inr apart ↦ has_still x y (same_docket x y docket) (torn.elsewhere (data_name (id_in x)) (λ is. apart (one_data (id_in x) new.id is))) has_it
        ];
        beyond = beyond_still x y (same_docket x y docket);
      }

  -- what isn't beyond the loaded docket isn't beyond the new one
  beyond_new : (start x y : Files) → shown_in x ≡ loaded → IsExact new start y → (docket : List ℕ) → IsNotBeyond x docket → IsNotBeyond y docket
  beyond_new start x y stands exact docket is = record {
    ahead = λ n after. elim over.by [
      | inl anew ↦
          is.ahead (suc n)
          (later_still n (id_in x) new.id (docket_of docket).id (ap (λ (bytes : List ℕ). next_name (docket_of bytes).id) stands ∙ anew.next) (ap (name_after n) (sym exact.named) ∙ after))
      | inr behind ↦ is.ahead n (ap (name_after n) (ap (λ (bytes : List ℕ). (docket_of bytes).id) stands ∙ behind.same ∙ sym exact.named) ∙ after)
    ];
    used = λ at.
        let many : used_in y ≡ new.place + length new.bytes.items = exact_used loaded nodes new over start y exact in
        let most : (docket_of docket).used ≤ new.place = near x stands docket is (at ∙ exact.named) in
        omega (arith, most, many);
  }

  -- the docket takes its place
  keeping_moved : (start x y : Files) → shown_in x ≡ loaded → IsBeside new start x → Surely (moved new_docket (codes "dirstate")) x y → IsKeepingUsed x y
  keeping_moved start x y stands beside moves =
      let exact : IsExact new start y = exact_moved loaded nodes new over start x y beside moves in
      record {
        kept = λ one uses beyond. stays_by (docket_of one).used (named_file one x) (named_file one y) (moves (data_name (docket_of one).id));
        there = λ has. exact_data loaded nodes new over start y exact;
        beyond = beyond_new start x y stands exact;
      }

  keeping_once : (start : Files) (s x y : Scene) → shown_in s.files ≡ loaded → IsBeside new start s.files → OnceBy s (moved new_docket (codes "dirstate")) x y → Keeping x y
  keeping_once start s x y stands beside (inl still) = subst (IsKeepingUsed x.files) (sym still.shown) (keeping_itself x.files)
  keeping_once start s x y stands beside (inr first) =
      keeping_moved start x.files y.files (ap shown_in first.since.shown ∙ stands) (subst (IsBeside new start) (sym first.since.shown) beside) first.shown

  -- the old data file goes
  keeping_cleared : (start x y : Files) → IsExact new start x → Clears (docket_of loaded).id new.id x y → IsKeepingUsed x y
  keeping_cleared start x y exact (inl same) = record {
    kept = λ one uses beyond. stays_by (docket_of one).used (named_file one x) (named_file one y) (same (data_name (docket_of one).id));
    there = has_still x y (same_docket x y (same (codes "dirstate"))) (same (data_name (id_in x)));
    beyond = beyond_still x y (same_docket x y (same (codes "dirstate")));
  }
  keeping_cleared start x y exact (inr gone) = record {
    kept = λ one uses beyond.
        subst (StaysFront (docket_of one).used (named_file one x)) (sym (gone.gone (data_name (docket_of one).id)))
        (stays_gone (docket_of one).used (bytes_eq (data_name (docket_of loaded).id) (data_name (docket_of one).id)) (named_file one x));
    there = λ has. exact_data loaded nodes new over start y (exact_cleared loaded nodes new over start x y exact (inr gone));
    beyond = beyond_still x y (same_docket x y (gone.gone (codes "dirstate")));
  }

  -- ---- the parts of a call

  module _ (a : Course) (stands : Stands loaded (last_scene a)) (front : HasPlace nodes new (last_scene a).files) where
    stands_by : (f : Files) → Prepares new (last_scene a).files f → shown_in f ≡ loaded
    stands_by f is = same_docket (last_scene a).files f is.unplaced.docket ∙ stands

    front_by : (f : Files) → Prepares new (last_scene a).files f → 0 < new.place → HasFront new.place (f (data_name new.id))
    front_by f is some =
        torn_there new.place (length new.bytes.items) new.place ((last_scene a).files (data_name new.id)) (f (data_name new.id)) is.file
        (front_of_nodes new.place nodes ((last_scene a).files (data_name new.id)) (long_nodes loaded nodes new over some) (front some))

    pub keep_data_file : (b : Course) → Leads (Prepares new) a b → OwnSteps (StepBy (TornAt (data_name new.id) new.place (length new.bytes.items))) a b → OwnSteps Keeping a b
    keep_data_file b leads steps = record {
      each = λ k after before is.
          let here = leads.shown k after (omega (arith, before)) in
          let x : Files = (scene b k).files in
          keeping_data x (scene b (k + 1)).files (stands_by x here) (front_by x here) (steps.each k after before is).shown;
    }

    pub keep_moved : (c d : Course) → Goes a c → IsWritten new a c → OwnSteps (OnceBy (last_scene c) (moved new_docket (codes "dirstate"))) c d → OwnSteps Keeping c d
    keep_moved c d start wrote steps =
        let here = wrote.prepares.shown c.history.last start.past.later (omega arith) in
        record { each = λ k after before is. keeping_once (last_scene a).files (last_scene c) (scene d k) (scene d (k + 1)) (stands_by (last_scene c).files here) wrote.shown (steps.each k after before is) }

  pub keep_cleared : (start : Files) (d z : Course) → IsExact new start (last_scene d).files → Leads (Clears (docket_of loaded).id new.id) d z → OwnSteps (StepBy (Clears (docket_of loaded).id new.id)) d z → OwnSteps Keeping d z
  keep_cleared start d z exact leads steps = record {
    each = λ k after before is.
        keeping_cleared start (scene z k).files (scene z (k + 1)).files (exact_cleared loaded nodes new over start (last_scene d).files (scene z k).files exact (leads.shown k after (omega (arith, before)))) (steps.each k after before is).shown;
  }

pub keep_docket : (n : ℕ) (b c : Course) → OwnSteps (StepBy (TornAt new_docket 0 n)) b c → OwnSteps Keeping b c
keep_docket n b c steps = record { each = λ k after before is. keeping_beside n (scene c k).files (scene c (k + 1)).files (steps.each k after before is).shown }

pub keeps : (a b : Course) → OwnSteps Keeping a b → KeepsUsed us b.history a.history.last
keeps a b steps = record { each = steps.each }
