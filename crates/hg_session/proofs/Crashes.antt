-- What a crash may leave at each moment of a whole call, from what was said of the stretch in which the lock was held.
use Rattle.std.proofs.Common.{ℕ, ◌≡◌, ◌≤◌, Option, Some, None, Result, Ok, refl, sym, ◌∙◌, subst, arith, inl, inr, ◌⊎◌}
use Rattle.std.proofs.lemmas.Bool.{cases_lt}
use Rattle.hg_append.specs.declared.way.Way.TheVariants as a_way
use Rattle.hg_append.specs.Loss.{plan_of}
use Rattle.hg_entry.specs.Table.{Table}
use Rattle.hg_image.specs.Reading.{RecordFault}
use Rattle.hg_nodes.specs.Edits.{IsSame}
use Rattle.hg_report.specs.declared.fault.Fault.{Fault}
use Rattle.hg_save.proofs.Solid.{sound_solid}
use Rattle.hg_save.proofs.Published.{keeps_front, keeps_later, latest_still, latest_until, left_until, published_earlier, published_later, published_sound}
use Rattle.hg_save.specs.Others.{KeepsRecords, WasPublished}
use Rattle.hg_save.specs.Record.{IsReadable, reading}
use Rattle.hg_save.specs.Saved.{IsLatest, ReadsAsBeforeOr}
use Rattle.hg_session.proofs.Makers.{none_since, unwritten_only}
use Rattle.hg_session.proofs.UsedSteps.{used_front}
use Rattle.hg_session.specs.Acts.{Makes, makes_nothing}
use Rattle.hg_session.specs.Call.{Saved}
use Rattle.hg_session.specs.Change.{IsFirm, IsKept, IsSafe, IsUnwritten, NoneOurs, Publishes, Stretch}
use Rattle.hg_session.specs.Crash.{IsCrashSafe, IsFirmFor, IsLasting, KeepToFirstStep, LeavesSound, MightBeLeft, published_in}
use Rattle.hg_session.specs.Ways.{Stood}
use Rattle.hg_shelf.proofs.Scenes.{only_later}
use Rattle.hg_shelf.specs.History.{Files, others, us}
use Rattle.hg_shelf.specs.Images.{Course, Goes, Scene, last_scene, scene}
use Rattle.hg_shelf.specs.Polite.{Undisturbed}

-- none of the steps of a span is the caller's, so none of those of its front or its end is
none_before : (c : Course) (from to early : ℕ) → early ≤ to → NoneOurs c.history from to → NoneOurs c.history from early
none_before c from to early order none = λ j after before. none j after (omega (arith, order, before))

module _ (a b : Course) (goes : Goes a b) (calm : Undisturbed a b) (keep : KeepsRecords others b a.history.last) where
  abbrev saved : Saved
  saved = record { old = a; new = b }

  abbrev start : ℕ
  start = a.history.last

  -- the start, seen from the end
  at_start : (f : Files) → (scene b start).leaves f → MightBeLeft (last_scene a) (reading f)
  at_start f left = (f, (goes.kept start (omega arith)).left f left, refl)

  -- a record that might have been left at the start, or is the call's own, or was published by others since
  abbrev IsKnown : (Option (Result Table RecordFault) → Type 0) → ℕ → Option (Result Table RecordFault) → Type 0
  IsKnown Own k r = MightBeLeft (last_scene a) r ⊎ (Own r ⊎ WasPublished b start k r)

  known_later : (Own : Option (Result Table RecordFault) → Type 0) (early late : ℕ) (r : Option (Result Table RecordFault)) → early ≤ late → IsKnown Own early r → IsKnown Own late r
  known_later Own early late r order (inl was) = inl was
  known_later Own early late r order (inr (inl own)) = inr (inl own)
  known_later Own early late r order (inr (inr was)) = inr (inr (published_later b start early late r order was))

  -- as long as the caller made no step
  known_before : (Own : Option (Result Table RecordFault) → Type 0) (k : ℕ) → start ≤ k → NoneOurs b.history start k → k ≤ b.history.last → (f : Files) → (scene b k).leaves f → IsKnown Own k (reading f)
  known_before Own k after none within f left = elim (left_until b start calm.others keep (MightBeLeft (last_scene a)) k after none within at_start f left) [
    | inl was ↦ inl was
    | inr was ↦ inr (inr was)
  ]

  -- and from where it made its last one
  known_behind : (Own : Option (Result Table RecordFault) → Type 0) (to k : ℕ) → start ≤ to → to ≤ k → NoneOurs b.history to k → k ≤ b.history.last
      → ((f : Files) → (scene b to).leaves f → IsKnown Own to (reading f)) → (f : Files) → (scene b k).leaves f → IsKnown Own k (reading f)
  known_behind Own to k later after none within there f left =
      elim (left_until b to (only_later b start to later calm.others) (keeps_later others b start to later keep) (IsKnown Own to) k after none within there f left) [
        | inl known ↦ known_later Own to k (reading f) after known
        | inr was ↦ inr (inr (published_earlier b start to k (reading f) later was))
      ]

  known_sound : (Own : Option (Result Table RecordFault) → Type 0) → ((r : Option (Result Table RecordFault)) → Own r → IsReadable r) → LeavesSound (last_scene a) → (k : ℕ) → k ≤ b.history.last
      → (r : Option (Result Table RecordFault)) → IsKnown Own k r → IsReadable r
  known_sound Own own_sound sound k within r (inl was) = let is = sound was.0 was.1 in (is.0, was.2 ∙ is.1)
  known_sound Own own_sound sound k within r (inr (inl own)) = own_sound r own
  known_sound Own own_sound sound k within r (inr (inr was)) = published_sound b start k r keep within was

  -- others kept what was read until then, also where they keep what dockets name as long as the call makes no step
  abbrev pub IsFairBy : Makes → Type 0
  IsFairBy Does = KeepToFirstStep saved → (k : ℕ) → start ≤ k → k ≤ b.history.last → NoneOurs b.history start k → Does.fair b.history k

  module _ (Does : Makes) (nothing : (before behind : Scene) → Does.may before behind → ⊥) (first : IsLatest (last_scene a)) where
    first_there : IsLatest (scene b start)
    first_there = latest_still (last_scene a) (scene b start) (goes.kept start (omega arith)) first

    module _ (is : Publishes Does saved) where
      none_yet : NoneOurs b.history start is.since
      none_yet = none_since Does nothing saved is

      start_since : start ≤ is.since
      start_since = omega (arith, is.stretch.start, is.from)

      since_end : is.since ≤ b.history.last
      since_end = omega (arith, is.upto, is.stretch.end)

      start_to : start ≤ is.stretch.to
      start_to = omega (arith, is.stretch.start, is.stretch.order)

      latest_from : IsLatest (scene b is.since)
      latest_from = latest_until b start calm.others keep is.since start_since none_yet since_end first_there

      latest_last : IsLatest (last_scene b)
      latest_last =
          latest_until b is.stretch.to (only_later b start is.stretch.to start_to calm.others) (keeps_later others b start is.stretch.to start_to keep) b.history.last is.stretch.end is.stretch.behind (omega arith)
          (is.is.latest latest_from)

      module _ (firm : plan_of is.is.held ≡ a_way.Append → LeavesSound (last_scene a) × Does.fair b.history is.since) where
        abbrev Own : Option (Result Table RecordFault) → Type 0
        Own r = r ≡ Some (Ok is.is.found)

        known_from : (f : Files) → (scene b is.since).leaves f → IsKnown Own is.since (reading f)
        known_from = known_before Own is.since start_since none_yet since_end

        sound_from : LeavesSound (last_scene a) → LeavesSound (scene b is.since)
        sound_from sound f left =
            known_sound (λ r. ⊥) (λ r never. absurd never) sound is.since since_end (reading f)
            (known_before (λ r. ⊥) is.since start_since none_yet since_end f left)

        firm_from : plan_of is.is.held ≡ a_way.Append → IsFirm Does b is.since
        firm_from way = let ground = firm way in record { solid = sound_solid (scene b is.since) (sound_from ground.0) latest_from; fair = ground.1 }

        known_by : (k : ℕ) (f : Files) → is.since ≤ k → ReadsAsBeforeOr (scene b is.since) (Some (Ok is.is.found)) f → IsKnown Own k (reading f)
        known_by k f after (inl was) =
            subst (IsKnown Own k) (sym was.2) (known_later Own is.since k (reading was.0) after (known_from was.0 was.1))
        known_by k f after (inr own) = inr (inl own)

        known_within : (k : ℕ) → is.since ≤ k → k ≤ is.stretch.to → (f : Files) → (scene b k).leaves f → IsKnown Own k (reading f)
        known_within k after upto f left = known_by k f after (is.is.crash latest_from firm_from k f after upto left)

        known_to : (f : Files) → (scene b is.stretch.to).leaves f → IsKnown Own is.stretch.to (reading f)
        known_to = known_within is.stretch.to is.upto (omega arith)

        known_each : (k : ℕ) (f : Files) → start ≤ k → k ≤ b.history.last → (scene b k).leaves f → IsKnown Own k (reading f)
        known_each k f after within left = elim (cases_lt k is.since) [
          | inl early ↦ known_before Own k after (none_before b start is.since k (omega (arith, early)) none_yet) within f left
          | inr late ↦ elim (cases_lt is.stretch.to k) [
            | inl behind ↦
                known_behind Own is.stretch.to k start_to (omega (arith, behind))
                (none_before b is.stretch.to b.history.last k within is.stretch.behind) within known_to f left
            | inr upto ↦ known_within k late upto f left
          ]
        ]

    -- no docket that a crash might leave is ahead at the end, upon whatever ground the call appended
    pub latest_safe : (fault : Option Fault) → IsSafe Does saved fault → IsLatest (last_scene b)
    latest_safe fault (inl only) = latest_until b start calm.others keep b.history.last goes.past.later (unwritten_only Does.may nothing saved only).none (omega arith) first_there
    latest_safe fault (inr (may, is)) = latest_last is

    fair_at : IsFairBy Does → (is : Publishes Does saved) → Does.fair b.history is.since ⊎ KeepToFirstStep saved → Does.fair b.history is.since
    fair_at fair is (inl kept) = kept
    fair_at fair is (inr keep) = fair keep is.since (start_since is) (since_end is) (none_yet is)

    pub crash_safe : IsFairBy Does → (fault : Option Fault) (safe : IsSafe Does saved fault) → IsFirmFor Does saved fault safe → IsCrashSafe (published_in Does saved fault safe) saved
    crash_safe fair fault (inl only) firm =
        let none : IsUnwritten a.history b.history = unwritten_only Does.may nothing saved only in
        let known : (k : ℕ) (f : Files) → start ≤ k → k ≤ b.history.last → (scene b k).leaves f → IsKnown (λ r. ⊥) k (reading f) =
        λ k f after within left. known_before (λ r. ⊥) k after (none_before b start b.history.last k within none.none) within f left in
        record {
          each = known;
          sound = λ sound k after within f left. known_sound (λ r. ⊥) (λ r never. absurd never) sound k within (reading f) (known k f after within left);
          orderly = record { each = λ k after before who. absurd (none.none k after before who) };
          keeping = record { each = λ k after before who. absurd (none.none k after before who) };
          latest = latest_until b start calm.others keep b.history.last goes.past.later none.none (omega arith) first_there;
        }
    crash_safe fair fault (inr (may, is)) ground =
        let firm : plan_of is.is.held ≡ a_way.Append → LeavesSound (last_scene a) × Does.fair b.history is.since = λ way. ((ground way).0, fair_at fair is (ground way).1) in
        record {
          each = known_each is firm;
          sound = λ sound k after within f left. known_sound (Own is firm) (λ r own. (is.is.found, own)) sound k within (reading f) (known_each is firm k f after within left);
          orderly = keeps_front us b start is.since (none_yet is) (is.is.orderly (latest_from is) (firm_from is firm));
          keeping = used_front us b.history start is.since (none_yet is) (is.is.keeping (λ way. (firm way).1));
          latest = latest_last is;
        }

  -- also where the caller makes no step
  pub crash_unwritten : IsUnwritten a.history b.history → IsLatest (last_scene a) → IsCrashSafe None saved
  crash_unwritten none first = crash_safe makes_nothing (λ before behind may. may) first (λ keep k after within own. tt) None (inl (inl none)) tt

  lasts_by : (stood : Stood) (loaded made : Table) (stretch : Stretch a.history b.history) (kept : IsKept stood loaded made saved stretch.from stretch.to)
      → (((c : Files) → (scene b stretch.to).leaves c → reading c ≡ Some (Ok kept.found)) ⊎ (IsSame made loaded × IsUnwritten a.history b.history))
      → IsLasting stood loaded made saved stretch.from stretch.to kept
  lasts_by stood loaded made stretch kept (inl each) =
      let later : start ≤ stretch.to = omega (arith, stretch.start, stretch.order) in
      inl (record {
        each = λ k f after within left.
            left_until b stretch.to (only_later b start stretch.to later calm.others) (keeps_later others b start stretch.to later keep) (λ r. r ≡ Some (Ok kept.found)) k after
            (none_before b stretch.to b.history.last k within stretch.behind) within each f left;
      })
  lasts_by stood loaded made stretch kept (inr same) = inr same

  pub lasting : (stood : Stood) (loaded made : Table) (stretch : Stretch a.history b.history) (kept : IsKept stood loaded made saved stretch.from stretch.to) → IsLasting stood loaded made saved stretch.from stretch.to kept
  lasting stood loaded made stretch kept = lasts_by stood loaded made stretch kept kept.left
