-- What was done while the lock was held, said of the whole call.
use Rattle.std.proofs.Common.{ℕ, ◌≡◌, ◌≤◌, ◌<◌, Bool, true, List, ◌∷◌, [], map, Option, Some, None, Result, Ok, IsTrue, refl, sym, ap, ◌∙◌, subst, arith, inl, inr}
use Rattle.std.specs.List.{AllByRecursion}
use Rattle.std.specs.Prelude.{IfSome, IsSomeAnd}
use Rattle.std.proofs.lemmas.Bool.{cases_lt}
use Rattle.hg_base.specs.Fault.{Rose}
use Rattle.hg_docket.specs.Docket.{docket_of}
use Rattle.hg_entry.specs.Table.{Table}
use Rattle.hg_image.specs.Reading.{RecordFault}
use Rattle.hg_report.specs.Cause.{of_op}
use Rattle.hg_report.specs.declared.fault.Fault.{Fault}
use Rattle.hg_append.specs.declared.fault.EncodeFault.{EncodeFault}
use Rattle.hg_append.specs.declared.fault.EncodeFault.TheVariants as an_encode
use Rattle.hg_append.specs.Loss.{plan_of}
use Rattle.hg_ops.specs.declared.refusal.OpFault.{OpFault}
use Rattle.hg_ops.specs.declared.refusal.OpFault.TheVariants as an_op
use Rattle.hg_session.proofs.Makers.{IsWider, stands_later}
use Rattle.hg_session.proofs.UsedSteps.{used_longer}
use Rattle.hg_session.specs.declared.change_fault.ChangeFault.{ChangeFault}
use Rattle.hg_session.specs.declared.change_fault.ChangeFault.TheVariants as a_change_fault
use Rattle.hg_save.proofs.Loads.{found_longer, last_within, tries_longer}
use Rattle.hg_save.proofs.Published.{keeps_longer}
use Rattle.hg_save.specs.Leads.{IsHeld}
use Rattle.hg_save.specs.Loads.{IsTry, Tries, Try, files_at, found_by, id_by}
use Rattle.hg_save.specs.Others.{IsFrontOf, named_file, nodes_in}
use Rattle.hg_save.specs.Record.{data_name, shown_in, id_in, reading}
use Rattle.hg_save.specs.Saved.{IsExact, IsLatest, ReadsAsBeforeOr, TurnsOnce, WritesOnly, name_after, used_in}
use Rattle.hg_save.specs.Behind.{IsSolid}
use Rattle.hg_session.specs.Acts.{Makes}
use Rattle.hg_session.specs.Call.{Watched}
use Rattle.hg_session.specs.Change.{AsksChange, IsDone, IsFirm, IsKept, IsMade, IsPublished, IsReadFirst, IsSafe, IsUnwritten, IsToBlame, IsWritten, MetChanging, MetMade, MetStop, MetUnfit, NoneOurs, Stretch, up_to, Come, IsLoadedFirst, Made}
use Rattle.hg_session.specs.Changing.{IsSafeHeld}
use Rattle.hg_session.specs.Ways.{Fits, IsUnfit, KeepsBy, KeepsUnchanged, Stood, stood_by, stood_in}
use Rattle.hg_session.specs.Loaded.{LoadMet, MetReading, IsRefused}
use Rattle.hg_session.specs.Told.{Told}
use Rattle.hg_session.specs.Locks.{TakenAt}
use Rattle.hg_session.specs.declared.read_fault.ReadFault.{ReadFault}
use Rattle.hg_session.specs.declared.read_fault.ReadFault.TheVariants as a_read
use Rattle.hg_session.proofs.Asking.{asks_wide}
use Rattle.hg_session.proofs.Locked.{none_within}
use Rattle.hg_shelf.proofs.Histories.{extends_same, extends_trans}
use Rattle.hg_shelf.proofs.Scenes.{first_part, second_part}
use Rattle.hg_shelf.specs.History.{Extends, Files, History, Waits, us}
use Rattle.hg_shelf.specs.Images.{Course, Goes, Remains, Scene, scene}
use Rattle.hg_shelf.specs.Polite.{Undisturbed}
use Rattle.hg_tree.specs.History as tree
use Rattle.hg_words.specs.declared.given.Command.{Command}

-- of a scene that is the same both ways the same is said
latest_same : (a b : Scene) → Remains a b → Remains b a → IsLatest a → IsLatest b
latest_same a b to back is = record {
  latest = λ c left n named. is.latest c (to.left c left) n (ap (λ (f : Files). name_after n (id_in f)) (sym to.shown) ∙ named);
  used = λ c left named. subst (λ (f : Files). used_in c ≤ used_in f) (sym to.shown) (is.used c (to.left c left) (named ∙ ap id_in to.shown));
}

solid_same : (a b : Scene) → Remains a b → Remains b a → IsSolid a → IsSolid b
solid_same a b to back is = record {
  used = λ c left named. subst (λ (f : Files). used_in c ≤ used_in f) (sym to.shown) (is.used c (to.left c left) (named ∙ ap id_in to.shown));
  front = λ c left named. is.front c (to.left c left) (named ∙ ap id_in to.shown);
}

reads_same : (a b : Scene) (table : Option (Result Table RecordFault)) (c : Files) → Remains b a → ReadsAsBeforeOr a table c → ReadsAsBeforeOr b table c
reads_same a b table c back (inl was) = inl (was.0, back.left was.0 was.1, was.2)
reads_same a b table c back (inr is) = inr is

-- ---- tries of a load

pub extends_up_to : (k : ℕ) (old new : History) → k ≤ old.last → Extends old new → Extends (up_to k old) (up_to k new)
extends_up_to k old new within past = record {
  told = past.told;
  later = omega arith;
  who = λ j below. past.who j (omega (arith, below, within));
  stay = λ j below. past.stay j (omega (arith, below, within));
}

try_earlier : (old mid new : History) (tried : Try) → old.last ≤ mid.last → IsTry mid new tried → IsTry old new tried
try_earlier old mid new tried later is = record {
  docket = record { from = omega (arith, later, is.docket.from); to = is.docket.to };
  file = record { from = omega (arith, later, is.file.from); to = is.file.to };
  order = is.order;
}

within_earlier : (old mid new : History) (tries : List Try) → old.last ≤ mid.last → AllByRecursion (IsTry mid new) tries → AllByRecursion (IsTry old new) tries
within_earlier old mid new [] later within = tt
within_earlier old mid new (one ∷ more) later within = (try_earlier old mid new one later within.0, within_earlier old mid new more later within.1)

abbrev tries_earlier : (old mid new : History) (tries : List Try) → old.last ≤ mid.last → Tries mid new tries → Tries old new tries
tries_earlier old mid new tries later t = record {
  earlier = t.earlier;
  last = t.last;
  whole = t.whole;
  few = t.few;
  within = within_earlier old mid new tries later t.within;
  order = t.order;
  gone = t.gone;
}

pub ids_longer : (old mid new : History) (tries : List Try) → Extends mid new → AllByRecursion (IsTry old mid) tries → map (id_by new) tries ≡ map (id_by mid) tries
ids_longer old mid new [] past within = refl
ids_longer old mid new (one ∷ more) past within = λ i. id_in ((past.stay one.docket within.0.docket.to).shown i) ∷ ids_longer old mid new more past within.1 i

-- ---- a call that takes the lock, changes the record and gives the lock back

module _ (a b c d : Course) (lock : Waits a.history b.history) (unlock : Waits c.history d.history) (p : Goes a b) (q : Goes b c) (r : Goes c d)
    (taken : IsTrue a.history.told → TakenAt a.history d.history b.history.last c.history.last) (held : IsTrue b.history.told → IsHeld b.history c.history) where
  pub later : a.history.last ≤ b.history.last
  later = p.past.later

  pub calm_within : Undisturbed a d → Undisturbed b c
  calm_within calm = first_part b c d r (second_part a b d p calm)

  pub none_wide : (k : ℕ) → k ≤ c.history.last → NoneOurs c.history b.history.last k → NoneOurs d.history a.history.last k
  none_wide k within none = λ j from to is. elim (cases_lt j b.history.last) [
    | inl early ↦ lock.none j from early (sym (q.past.who j early) ∙ sym (r.past.who j (omega (arith, to, within))) ∙ is)
    | inr late ↦ none j late to (sym (r.past.who j (omega (arith, to, within))) ∙ is)
  ]

  pub none_behind : (k : ℕ) → NoneOurs c.history k c.history.last → NoneOurs d.history k d.history.last
  none_behind k none = λ j from to is. elim (cases_lt j c.history.last) [
    | inl early ↦ none j from early (sym (r.past.who j early) ∙ is)
    | inr late ↦ unlock.none j late to is
  ]

  pub unwritten_wide : IsUnwritten b.history c.history → IsUnwritten a.history d.history
  unwritten_wide is = record {
    none = λ j from to is_us. elim (cases_lt j c.history.last) [
      | inl early ↦ none_wide c.history.last (omega arith) is.none j from early is_us
      | inr late ↦ unlock.none j late to is_us
    ];
  }

  abbrev pub held_stretch : Stretch a.history d.history
  held_stretch = record {
    from = b.history.last;
    to = c.history.last;
    start = later;
    order = q.past.later;
    end = r.past.later;
    before = none_wide b.history.last q.past.later (none_within c.history b.history.last);
    behind = none_behind c.history.last (none_within c.history c.history.last);
    taken = taken;
    held = λ told k from to. let who = r.past.who k to in elim ((held (p.past.told ∙ told)).each k from to) [ inl own ↦ inl (who ∙ own) | inr read ↦ inr (who ∙ read) ];
  }

  -- a moment of the change, seen from the end
  to_end : (k : ℕ) → k ≤ c.history.last → Remains (scene c k) (scene d k)
  to_end k within = r.kept k within

  from_end : (k : ℕ) → k ≤ c.history.last → Remains (scene d k) (scene c k)
  from_end k within = r.back k within

  reading_wide : (k : ℕ) → k ≤ c.history.last → reading (scene d k).files ≡ reading (scene c k).files
  reading_wide k within = ap reading (to_end k within).shown

  abbrev read_wide : (loaded : Table) → IsReadFirst b.history c.history loaded → IsReadFirst a.history d.history loaded
  read_wide loaded is =
      let past = extends_up_to is.upto c.history d.history is.within r.past in
      let tries = tries_earlier a.history b.history (up_to is.upto d.history) is.read.tries later (tries_longer b.history (up_to is.upto c.history) (up_to is.upto d.history) is.read.tries past is.read.tried) in
      record {
        upto = is.upto;
        later = omega (arith, later, is.later);
        within = omega (arith, is.within, r.past.later);
        none = none_wide is.upto is.within is.none;
        read = record {
          tries = is.read.tries;
          tried = tries;
          found = found_longer b.history (up_to is.upto c.history) (up_to is.upto d.history) is.read.tries past is.read.tried ∙ is.read.found;
        };
      }

  -- what was asked for, where taking the lock and giving it back ask for nothing
  pub asks_whole : (command : Command) (copy : Watched tree.History) (read : Option Table) → b.history.asked ≡ a.history.asked → d.history.asked ≡ c.history.asked → AsksChange command copy read b.history c.history → AsksChange command copy read a.history d.history
  asks_whole command copy read before behind is = record {
    mid = is.mid;
    end = is.end;
    past = is.past;
    later = extends_trans is.end c.history d.history is.later r.past;
    quiet = behind ∙ is.quiet;
    load = asks_wide a.history b.history is.mid is.mid p.past before (extends_same is.mid) refl is.load;
    behind = is.behind;
  }

  -- which record was read first in the change was in the call
  pub loaded_wide : (before after start end : ℕ) (o : Option Table) → IfSome o (IsLoadedFirst (record { old = b.history; new = c.history; before = before; after = after }))
      → IfSome o (IsLoadedFirst (record { old = a.history; new = d.history; before = start; after = end }))
  loaded_wide before after start end None loaded = tt
  loaded_wide before after start end (Some t) loaded = λ told. read_wide t (loaded (p.past.told ∙ told))

  -- what a try read is the same, seen from the end
  pub stood_wide : (tried : Try) → tried.docket ≤ c.history.last → tried.file ≤ c.history.last → stood_by d.history tried ≡ stood_by c.history tried
  stood_wide tried first second =
      let docket : files_at d.history tried.docket ≡ files_at c.history tried.docket = (r.past.stay tried.docket first).shown in
      let file : files_at d.history tried.file ≡ files_at c.history tried.file = (r.past.stay tried.file second).shown in
      λ i. record { docket = shown_in (docket i); file = named_file (shown_in (docket i)) (file i) }

  written_wide : (stood : Stood) (made found : Table) (from to : ℕ) → from ≤ c.history.last → to ≤ c.history.last → IsWritten stood made found (scene c from).files (scene c to)
      → IsWritten stood made found (scene d from).files (scene d to)
  written_wide stood made found from to near far is =
      subst (λ (f : Files). IsWritten stood made found f (scene d to)) (sym (to_end from near).shown)
      (record {
        new = is.new;
        held = is.held;
        over = is.over;
        docket = is.docket;
        is = is.is;
        shown = subst (IsExact is.new (scene c from).files) (sym (to_end to far).shown) is.shown;
        left = λ f left. is.left f ((to_end to far).left f left);
        gone = λ way some. subst (λ (f : Files). f (data_name is.held.docket.id) ≡ None) (sym (to_end to far).shown) (is.gone way some);
        nodes = is.nodes;
        kept_lists = λ way. subst (KeepsUnchanged is.held) (sym (to_end to far).shown) (is.kept_lists way);
        kept_left = λ way f left. is.kept_left way f ((to_end to far).left f left);
      })

  module _ (Part Whole : Makes) (wide : IsWider Part Whole)
      (copy : Watched tree.History) (before after start end : ℕ) where
    abbrev part : Watched History
    part = record { old = b.history; new = c.history; before = before; after = after }

    abbrev whole : Watched History
    whole = record { old = a.history; new = d.history; before = start; after = end }

    told_part : IsTrue a.history.told → IsTrue b.history.told
    told_part told = p.past.told ∙ told

    abbrev made_wide : (made : Table) (said : Told) (changed : Bool) → IsMade Part part made said changed → IsMade Whole whole made said changed
    made_wide made said changed is = record { loaded = is.loaded; read = λ told. read_wide is.loaded (is.read (told_part told)); does = wide.does is.loaded made said changed is.does }

    -- what was read is the same, seen from the end
    stood_read_wide : (loaded : Table) (read : IsReadFirst b.history c.history loaded) → stood_by d.history read.read.tried.last ≡ stood_by c.history read.read.tried.last
    stood_read_wide loaded read =
        let within = last_within b.history (up_to read.upto c.history) read.read.tries read.read.tried in
        stood_wide read.read.tried.last (omega (arith, within.docket.to, read.within)) (omega (arith, within.file.to, read.within))

    pub kept_wide : (stood : Stood) (loaded made : Table) → IsKept stood loaded made (record { old = b; new = c }) b.history.last c.history.last
        → IsKept stood loaded made (record { old = a; new = d }) b.history.last c.history.last
    kept_wide stood loaded made is = record {
      found = is.found;
      is = is.is;
      shown = reading_wide c.history.last (omega arith) ∙ is.shown;
      left =
          elim is.left [
            | inl each ↦ inl (λ f left. each f ((to_end c.history.last (omega arith)).left f left))
            | inr same ↦ inr (same.0, unwritten_wide same.1)
          ];
      bytes =
          elim is.bytes [
            | inl written ↦ inl (written_wide stood made is.found b.history.last c.history.last q.past.later (omega arith) written)
            | inr none ↦ inr (unwritten_wide none)
          ];
    }

    pub done_wide : (said : Told) → IsDone Part part (record { old = b; new = c }) b.history.last c.history.last said → IsDone Whole whole (record { old = a; new = d }) b.history.last c.history.last said
    done_wide said done = record {
      made = done.made;
      changed = done.changed;
      is = made_wide done.made said done.changed done.is;
      fits = λ told. elim (done.fits (told_part told)) [ inl same ↦ inl same | inr fits ↦ inr (subst (λ (stood : Stood). Fits stood done.made) (sym (stood_read_wide done.is.loaded (done.is.read (told_part told)))) fits) ];
      kept = λ calm.
          subst (λ (f : Files). IsKept (stood_in f) done.is.loaded done.made (record { old = a; new = d }) b.history.last c.history.last) (sym (to_end b.history.last q.past.later).shown)
          (kept_wide (stood_in (scene c b.history.last).files) done.is.loaded done.made (done.kept (calm_within calm)));
      idle = λ idle. unwritten_wide (done.idle idle);
    }

    published_wide : IsPublished Part c b.history.last c.history.last → IsPublished Whole d b.history.last c.history.last
    published_wide is =
        let from = b.history.last in
        let near : from ≤ c.history.last = q.past.later in
        let latest : IsLatest (scene d from) → IsLatest (scene c from) = latest_same (scene d from) (scene c from) (from_end from near) (to_end from near) in
        let firm : IsFirm Whole d from → IsFirm Part c from = λ f. record { solid = solid_same (scene d from) (scene c from) (from_end from near) (to_end from near) f.solid; fair = wide.fair c.history d.history r.past from near f.fair } in
        record {
          loaded = is.loaded;
          there = λ fair. stands_later c d r from near is.loaded (is.there (wide.fair c.history d.history r.past from near fair));
          held = is.held;
          docket = is.docket ∙ ap (λ (f : Files). docket_of (shown_in f)) (sym (to_end from near).shown);
          nodes = λ fair.
              subst (λ (f : Files). 0 < is.held.docket.used → IsFrontOf (nodes_in f) is.held.docket.used is.held.bytes) (sym (to_end from near).shown)
              (is.nodes (wide.fair c.history d.history r.past from near fair));
          lends = is.lends;
          made = is.made;
          same = is.same;
          said = is.said;
          does = wide.does is.loaded is.made is.said true is.does;
          found = is.found;
          is = is.is;
          crash = λ first ground k f after upto left.
              reads_same (scene c from) (scene d from) (Some (Ok is.found)) f (from_end from near)
              (is.crash (latest first) (λ way. firm (ground way)) k f after upto ((to_end k upto).left f left));
          new = is.new;
          encoded = is.encoded;
          torn = λ k after upto.
              subst (λ (f : Files). WritesOnly is.new f f (scene d k).files) (sym (to_end from near).shown)
              (subst (WritesOnly is.new (scene c from).files (scene c from).files) (sym (to_end k upto).shown) (is.torn k after upto));
          torn_left = λ k f after upto left.
              let was = is.torn_left k f after upto ((to_end k upto).left f left) in
              (was.0, (from_end from near).left was.0 was.1, subst (λ (x : Files). WritesOnly is.new x was.0 f) (sym (to_end from near).shown) was.2);
          once = λ k after upto.
              subst (λ (f : Files). TurnsOnce is.new f (scene d k).files (scene d c.history.last).files) (sym (to_end from near).shown)
              (subst (λ (f : Files). TurnsOnce is.new (scene c from).files f (scene d c.history.last).files) (sym (to_end k upto).shown)
              (subst (TurnsOnce is.new (scene c from).files (scene c k).files) (sym (to_end c.history.last (omega arith)).shown) (is.once k after upto)));
          shown = λ first fair k after upto. elim (is.shown (λ way. latest (first way)) (λ way. wide.fair c.history d.history r.past from near (fair way)) k after upto) [
            | inl same ↦ inl (reading_wide k upto ∙ same ∙ sym (reading_wide from near))
            | inr new ↦ inr (reading_wide k upto ∙ new)
          ];
          others = λ k after upto.
              subst (λ (f : Files). KeepsBy (plan_of is.held) is.held.docket f (scene d k).files) (sym (to_end from near).shown)
              (subst (KeepsBy (plan_of is.held) is.held.docket (scene c from).files) (sym (to_end k upto).shown) (is.others k after upto));
          spared = λ k f after upto left.
              let was = is.spared k f after upto ((to_end k upto).left f left) in
              (was.0, (from_end from near).left was.0 was.1, was.2);
          orderly = λ first ground. keeps_longer us c d from r unlock.none (is.orderly (latest first) (λ way. firm (ground way)));
          keeping = λ fair. used_longer us c.history d.history from r.past unlock.none (is.keeping (λ way. wide.fair c.history d.history r.past from near (fair way)));
          latest = λ first. latest_same (scene c c.history.last) (scene d c.history.last) (to_end c.history.last (omega arith)) (from_end c.history.last (omega arith)) (is.latest (latest first));
        }

    pub safe_wide : (fault : Option Fault) → IsSafeHeld Part (record { old = b; new = c }) fault → IsSafe Whole (record { old = a; new = d }) fault
    safe_wide fault (inl none) = inl (inl (unwritten_wide none))
    safe_wide fault (inr (may, is)) = inr (
      may,
      record {
        stretch = held_stretch;
        since = b.history.last;
        from = omega arith;
        upto = q.past.later;
        may = λ k after below. absurd (omega (arith, after, below));
        is = published_wide is;
      },
    )

    refuses_wide : (fault : ReadFault) → LoadMet fault part → LoadMet fault whole
    refuses_wide fault met told =
        let m = met (told_part told) in
        let tries = m.0 in
        let is = m.1 in (
          tries,
          record {
            tried = tries_earlier a.history b.history d.history tries later (tries_longer b.history c.history d.history tries r.past is.tried);
            answer =
                subst (λ (ids : List (List ℕ)). IsRefused fault ids (found_by d.history is.tried.last)) (sym (ids_longer b.history c.history d.history tries r.past is.tried.within))
                (subst (IsRefused fault (map (id_by c.history) tries)) (sym (found_longer b.history c.history d.history tries r.past is.tried)) is.answer);
          },
        )

    stop_wide : (fault : Fault) → MetStop Part part fault → MetStop Whole whole fault
    stop_wide fault met = record { loaded = met.loaded; read = λ told. read_wide met.loaded (met.read (told_part told)); stops = wide.stops met.loaded fault met.stops }

    reading_met : (fault : ReadFault) → (Rose before after → Rose start end) → MetReading part fault → MetReading whole fault
    reading_met a_read.OutOfMemory rose met = tt
    reading_met (a_read.Docket fault) rose met = refuses_wide (a_read.Docket fault) met
    reading_met (a_read.Node fault) rose met = refuses_wide (a_read.Node fault) met
    reading_met (a_read.DataGone ids) rose met = refuses_wide (a_read.DataGone ids) met
    reading_met a_read.Failed rose met = rose met

    blame_wide : (fault : OpFault) → (Rose before after → Rose start end) → IsToBlame copy part fault → IsToBlame copy whole fault
    blame_wide an_op.TreeFailed rose met = met
    blame_wide an_op.ShelfFailed rose met = rose met
    blame_wide fault rose met = tt

    pub done_met : MetMade Part part → MetMade Whole whole
    done_met met = record { made = met.made; said = met.said; changed = met.changed; is = made_wide met.made met.said met.changed met.is }

    unfit_wide : (fault : EncodeFault) → MetUnfit Part part fault → MetUnfit Whole whole fault
    unfit_wide fault met = record {
      made = met.made;
      said = met.said;
      is = made_wide met.made met.said true met.is;
      unfit = λ told.
          let read : IsReadFirst b.history c.history met.is.loaded = met.is.read (told_part told) in
          let within = last_within b.history (up_to read.upto c.history) read.read.tries read.read.tried in
          subst (λ (stood : Stood). IsUnfit stood met.made fault)
          (sym (stood_wide read.read.tried.last (omega (arith, within.docket.to, read.within)) (omega (arith, within.file.to, read.within)))) (met.unfit (told_part told));
    }

    pub met_wide : (fault : ChangeFault) → (Rose before after → Rose start end) → MetChanging Part copy part fault → MetChanging Whole copy whole fault
    met_wide (a_change_fault.Read fault) rose met = (reading_met fault rose met.0, met.1)
    met_wide (a_change_fault.Op fault) rose met = (stop_wide (of_op fault) met.0, blame_wide fault rose met.1)
    met_wide (a_change_fault.Encode an_encode.OutOfMemory) rose met = done_met met
    met_wide (a_change_fault.Encode (an_encode.TooLarge size)) rose met = unfit_wide (an_encode.TooLarge size) met
    met_wide (a_change_fault.Encode an_encode.IdsSpent) rose met = unfit_wide an_encode.IdsSpent met
    met_wide a_change_fault.Held rose met = absurd met
    met_wide a_change_fault.ShelfFailed rose met = (rose met.0, elim met.1 [ inl alone ↦ inl alone | inr made ↦ inr (done_met made) ])

    pub does_read : (read : Option Table) (w : Made) → IsSomeAnd read (λ t. Part.does t w.table w.said w.changed) → IsSomeAnd read (λ t. Whole.does t w.table w.said w.changed)
    does_read None w does = absurd does
    does_read (Some t) w does = wide.does t w.table w.said w.changed does

    pub does_work : (read : Option Table) (work : Option Made) → IfSome work (λ w. IsSomeAnd read (λ t. Part.does t w.table w.said w.changed)) → IfSome work (λ w. IsSomeAnd read (λ t. Whole.does t w.table w.said w.changed))
    does_work read None does = tt
    does_work read (Some w) does = does_read read w does

    -- so far as it came in the change it came in the call
    abbrev pub come_wide : Come Part part → Come Whole whole
    come_wide come = record { read = come.read; loaded = loaded_wide before after start end come.read come.loaded; work = come.work; does = does_work come.read come.work come.does }
