-- Each step of a publication keeps to what is asked of others.
use Rattle.std.proofs.Common.{◌≡◌, ℕ, ◌+◌, ◌≤◌, List, length, take, codes, Option, Some, refl, sym, ap, ◌∙◌, subst, arith, inl, inr, ◌⊎◌}
use Rattle.hg_append.specs.declared.encoding.Encoded.{Encoded}
use Rattle.hg_docket.specs.Docket.{docket_of}
use Rattle.hg_shelf.specs.History.{Files, us}
use Rattle.hg_shelf.specs.Images.{Course, Goes, Remains, Scene, last_scene, scene}
use Rattle.hg_shelf.specs.Rules.{Perhaps, TornAt, content, moved}
use Rattle.hg_save.specs.Leads.{Clears, FirstBy, Leads, OnceBy, OwnSteps, StepBy}
use Rattle.hg_save.specs.Others.{HasFront, IsOrderly, IsPublication, KeepsRecords, RecordsAs}
use Rattle.hg_save.specs.Record.{IsReadable, data_name, shown_in, id_in, reading}
use Rattle.hg_save.specs.Saved.{IsExact, IsOver, name_after, new_docket, published, used_in}
use Rattle.hg_save.proofs.Names.{data_not_new, docket_not_data, docket_not_new, never_itself}
use Rattle.hg_save.proofs.Published.{latest_still}
use Rattle.hg_save.proofs.Readings.{HasPlace, exact_reads, exact_used, same_docket, same_id, same_or_not, same_reading, same_used, stays_read}
use Rattle.hg_save.specs.Behind.{IsFree, IsFreeIn}
use Rattle.hg_save.proofs.Ends.{exact_data, still_read, torn_data}
use Rattle.hg_save.proofs.Stages.{IsBeside, IsWritten, Prepares, exact_cleared, exact_moved, prepared, wrote_file}

-- ---- one step

-- it was no publication, and whatever a crash leaves behind it records what it might have left before
kept_orderly : (x y : Scene) → shown_in y.files ≡ shown_in x.files → ((c : Files) → y.leaves c → (d : Files) × x.leaves d × RecordsAs d c) → IsOrderly x y
kept_orderly x y same left = record { left = λ c is. inl (left c is); sound = λ fresh. absurd (fresh same); latest = λ fresh. absurd (fresh same) }

still_orderly : (x y : Scene) → Remains x y → IsOrderly x y
still_orderly x y still = kept_orderly x y (ap shown_in still.shown) (λ c is. (c, still.left c is, record { docket = refl; read = refl }))

-- the same step, among more moments
pub orderly_along : (x y u v : Scene) → Remains x u → Remains u x → Remains y v → IsOrderly x y → IsOrderly u v
orderly_along x y u v there back behind step =
    let before : shown_in u.files ≡ shown_in x.files = ap shown_in there.shown in
    let after : shown_in v.files ≡ shown_in y.files = ap shown_in behind.shown in
    record {
      left = λ c is. elim (step.left c (behind.left c is)) [
        | inl was ↦ inl (was.0, back.left was.0 was.1, was.2)
        | inr new ↦ inr (λ same. new.0 (sym after ∙ same ∙ before), record { docket = new.1.docket ∙ sym after; read = new.1.read ∙ sym (ap reading behind.shown) })
      ];
      sound = λ fresh. let table = step.sound (λ same. fresh (after ∙ same ∙ sym before)) in (table.0, ap reading behind.shown ∙ table.1);
      latest = λ fresh. latest_still y v behind (step.latest (λ same. fresh (after ∙ same ∙ sym before)));
    }

-- a write beside
beside_orderly : (n : ℕ) (x y : Scene) → StepBy (TornAt new_docket 0 n) x y → IsOrderly x y
beside_orderly n x y step =
    kept_orderly x y (same_docket x.files y.files (step.shown.elsewhere (codes "dirstate") docket_not_new)) (λ c is.
    let was = step.left c is in
    let docket : c (codes "dirstate") ≡ was.0 (codes "dirstate") = was.2.elsewhere (codes "dirstate") docket_not_new in (
      was.0,
      was.1,
      record {
        docket = same_docket was.0 c docket;
        read = same_reading was.0 c docket (was.2.elsewhere (data_name (id_in was.0)) (data_not_new (id_in was.0)));
      },
    ))

module _ (loaded nodes : List ℕ) (new : Encoded) (over : IsOver loaded nodes new) where
  -- a write of the data file
  data_orderly : (x y : Scene) → ((d : Files) → x.leaves d → IsFreeIn new d) → StepBy (TornAt (data_name new.id) new.place (length new.bytes.items)) x y → IsOrderly x y
  data_orderly x y free step =
      kept_orderly x y (same_docket x.files y.files (step.shown.elsewhere (codes "dirstate") (docket_not_data new.id))) (λ c is.
      let was = step.left c is in
      let docket : c (codes "dirstate") ≡ was.0 (codes "dirstate") = was.2.elsewhere (codes "dirstate") (docket_not_data new.id) in (
        was.0,
        was.1,
        record {
          docket = same_docket was.0 c docket;
          read = still_read loaded nodes new over was.0 was.0 c (prepared new loaded was.0 was.0 c (wrote_file new was.0 c was.2)) docket (free was.0 was.1);
        },
      ))

  module _ (a : Course) (front : HasPlace nodes new (last_scene a).files) where
    read_by : (f : Files) → IsExact new (last_scene a).files f → reading f ≡ published nodes new
    read_by f is = exact_reads loaded nodes new over (last_scene a).files f is front

    -- ---- the docket takes its place

    -- a scene in which the new docket is sure, and no docket names an identifier that comes after its own, or its own with more bytes than were used
    pub record IsSet (s : Scene) : Type 0 where
      pub shown : IsBeside new (last_scene a).files s.files
      pub left : (f : Files) → s.leaves f → IsBeside new (last_scene a).files f
      pub none : (f : Files) → s.leaves f → (n : ℕ) → name_after n new.id ≡ Some (id_in f) → ⊥
      pub near : (f : Files) → s.leaves f → id_in f ≡ new.id → used_in f ≤ new.place

    module _ (s x y : Scene) (set : IsSet s) (there : x.leaves x.files) (step : FirstBy s (moved new_docket (codes "dirstate")) x y) where
      exact : IsExact new (last_scene a).files y.files
      exact = exact_moved loaded nodes new over (last_scene a).files x.files y.files (subst (IsBeside new (last_scene a).files) (sym step.since.shown) set.shown) step.shown

      used_new : (f : Files) → IsExact new (last_scene a).files f → used_in f ≡ new.place + length new.bytes.items
      used_new f is = exact_used loaded nodes new over (last_scene a).files f is

      exact_from : (d f : Files) → x.leaves d → ((at : List ℕ) → f at ≡ moved new_docket (codes "dirstate") d at) → IsExact new (last_scene a).files f
      exact_from d f is moves = exact_moved loaded nodes new over (last_scene a).files d f (set.left d (step.since.left d is)) moves

      -- where it is the docket that stood already, nothing else is recorded
      moved_to : (f : Files) → IsExact new (last_scene a).files f → RecordsAs y.files f
      moved_to f is = record { docket = same_docket y.files f (is.docket ∙ sym exact.docket); read = read_by f is ∙ sym (read_by y.files exact) }

      read_before : shown_in y.files ≡ shown_in x.files → RecordsAs x.files y.files
      read_before same = record {
        docket = same;
        read = sym (stays_read y.files x.files (sym same) (λ uses.
            let file : x.files (data_name (id_in y.files)) ≡ y.files (data_name (id_in y.files)) = sym (step.shown (data_name (id_in y.files))) in
            let has = exact_data loaded nodes new over (last_scene a).files y.files exact uses in
            record {
              was = has;
              there = subst (HasFront (used_in y.files)) (sym file) has;
              same = ap (λ (l : Option (List ℕ)). take (used_in y.files) (content l)) file;
            }));
      }

      left_moved : (f : Files) → IsExact new (last_scene a).files f → (shown_in y.files ≡ shown_in x.files) ⊎ (shown_in y.files ≡ shown_in x.files → ⊥) → ((d : Files) × x.leaves d × RecordsAs d f) ⊎ (IsPublication x y × RecordsAs y.files f)
      left_moved f is (inr fresh) = inr (fresh, moved_to f is)
      left_moved f is (inl same) =
          let to = moved_to f is in
          let from = read_before same in
          inl (x.files, there, record { docket = to.docket ∙ from.docket; read = to.read ∙ from.read })

      left_by : (d f : Files) → x.leaves d → Perhaps (moved new_docket (codes "dirstate")) d f → ((d : Files) × x.leaves d × RecordsAs d f) ⊎ (IsPublication x y × RecordsAs y.files f)
      left_by d f is (inl same) = inl (d, is, record { docket = same_docket d f (same (codes "dirstate")); read = same_reading d f (same (codes "dirstate")) (same (data_name (id_in d))) })
      left_by d f is (inr moves) = left_moved f (exact_from d f is moves) (same_or_not (shown_in y.files) (shown_in x.files))

      named_by : (d f : Files) → x.leaves d → Perhaps (moved new_docket (codes "dirstate")) d f → (n : ℕ) → name_after n new.id ≡ Some (id_in f) → ⊥
      named_by d f is (inl same) n after = set.none d (step.since.left d is) n (after ∙ ap (λ (id : List ℕ). Some id) (same_id d f (same (codes "dirstate"))))
      named_by d f is (inr moves) n after = never_itself n new.id (after ∙ ap (λ (id : List ℕ). Some id) (exact_from d f is moves).named)

      used_by : (d f : Files) → x.leaves d → Perhaps (moved new_docket (codes "dirstate")) d f → id_in f ≡ new.id → used_in f ≤ new.place + length new.bytes.items
      used_by d f is (inl same) named =
          let near : used_in d ≤ new.place = set.near d (step.since.left d is) (sym (same_id d f (same (codes "dirstate"))) ∙ named) in
          omega (arith, near, same_used d f (same (codes "dirstate")))
      used_by d f is (inr moves) named = omega (arith, used_new f (exact_from d f is moves))

      moved_orderly : IsReadable (published nodes new) → IsOrderly x y
      moved_orderly sound = record {
        left = λ f is. let was = step.left f is in left_by was.0 f was.1 was.2;
        sound = λ any. (sound.0, read_by y.files exact ∙ sound.1);
        latest = λ any. record {
          latest = λ f is n after.
              let was = step.left f is in
              named_by was.0 f was.1 was.2 n (ap (name_after n) (sym exact.named) ∙ after);
          used = λ f is named.
              let was = step.left f is in
              let left : used_in f ≤ new.place + length new.bytes.items = used_by was.0 f was.1 was.2 (named ∙ exact.named) in
              omega (arith, left, used_new y.files exact);
        };
      }

    swapped_orderly : (s x y : Scene) → IsSet s → x.leaves x.files → IsReadable (published nodes new) → OnceBy s (moved new_docket (codes "dirstate")) x y → IsOrderly x y
    swapped_orderly s x y set there sound (inl still) = still_orderly x y still
    swapped_orderly s x y set there sound (inr first) = moved_orderly s x y set there first sound

    -- ---- the old data file goes

    docket_stays : (d f : Files) → Clears (docket_of loaded).id new.id d f → shown_in f ≡ shown_in d
    docket_stays d f (inl same) = same_docket d f (same (codes "dirstate"))
    docket_stays d f (inr gone) = same_docket d f (gone.gone (codes "dirstate"))

    cleared_orderly : (x y : Scene) → ((f : Files) → x.leaves f → IsExact new (last_scene a).files f) → StepBy (Clears (docket_of loaded).id new.id) x y → IsOrderly x y
    cleared_orderly x y exact step =
        kept_orderly x y (docket_stays x.files y.files step.shown) (λ f is.
        let was = step.left f is in
        let had : IsExact new (last_scene a).files was.0 = exact was.0 was.1 in (
          was.0,
          was.1,
          record {
            docket = docket_stays was.0 f was.2;
            read = read_by f (exact_cleared loaded nodes new over (last_scene a).files was.0 f had was.2) ∙ sym (read_by was.0 had);
          },
        ))

    -- ---- the parts of a call

    free_by : IsFree new (last_scene a) → (d f : Files) → (last_scene a).leaves d → Prepares new d f → IsFreeIn new f
    free_by free d f is by named =
        let same : id_in d ≡ new.id = sym (same_id d f by.unplaced.docket) ∙ named in
        let was = free.each d is same in
        (omega (arith, was.0, same_used d f by.unplaced.docket), torn_data new.id new.place (length new.bytes.items) d f by.unplaced.docket by.file same was.1)

    pub data_steps : IsFree new (last_scene a) → (b : Course) → Leads (Prepares new) a b → OwnSteps (StepBy (TornAt (data_name new.id) new.place (length new.bytes.items))) a b → OwnSteps IsOrderly a b
    data_steps free b leads steps = record {
      each = λ k after before is.
          data_orderly (scene b k) (scene b (k + 1)) (λ f left. let was = leads.left k f after (omega (arith, before)) left in free_by free was.0 f was.1 was.2) (steps.each k after before is);
    }

    pub set_at : (c : Course) → Goes a c → IsFree new (last_scene a) → ((d : Files) → (last_scene a).leaves d → (n : ℕ) → name_after n new.id ≡ Some (id_in d) → ⊥) → IsWritten new a c → IsSet (last_scene c)
    set_at c start free none wrote = record {
      shown = wrote.shown;
      left = wrote.left;
      none = λ f is n after.
          let was = wrote.prepares.left c.history.last f start.past.later (omega arith) is in
          none was.0 was.1 n (after ∙ ap (λ (id : List ℕ). Some id) (same_id was.0 f was.2.unplaced.docket));
      near = λ f is named. let was = wrote.prepares.left c.history.last f start.past.later (omega arith) is in (free_by free was.0 f was.1 was.2 named).0;
    }

    pub swap_steps : (c d : Course) → ((k : ℕ) → k ≤ d.history.last → (scene d k).leaves (scene d k).files) → IsSet (last_scene c) → IsReadable (published nodes new) → OwnSteps (OnceBy (last_scene c) (moved new_docket (codes "dirstate"))) c d → OwnSteps IsOrderly c d
    swap_steps c d there set sound steps = record {
      each = λ k after before is. swapped_orderly (last_scene c) (scene d k) (scene d (k + 1)) set (there k (omega (arith, before))) sound (steps.each k after before is);
    }

    pub clear_steps : (d z : Course) → ((f : Files) → (last_scene d).leaves f → IsExact new (last_scene a).files f) → Leads (Clears (docket_of loaded).id new.id) d z → OwnSteps (StepBy (Clears (docket_of loaded).id new.id)) d z → OwnSteps IsOrderly d z
    clear_steps d z exact leads steps = record {
      each = λ k after before is.
          cleared_orderly (scene z k) (scene z (k + 1))
          (λ f left. let was = leads.left k f after (omega (arith, before)) left in exact_cleared loaded nodes new over (last_scene a).files was.0 f (exact was.0 was.1) was.2) (steps.each k after before is);
    }

pub docket_steps : (n : ℕ) (b c : Course) → OwnSteps (StepBy (TornAt new_docket 0 n)) b c → OwnSteps IsOrderly b c
docket_steps n b c steps = record { each = λ k after before is. beside_orderly n (scene c k) (scene c (k + 1)) (steps.each k after before is) }

pub orderly_keeps : (a b : Course) → OwnSteps IsOrderly a b → KeepsRecords us b a.history.last
orderly_keeps a b steps = record { each = steps.each }
