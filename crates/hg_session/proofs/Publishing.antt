-- A table that was written over the record that stood, behind a part in which the caller only asked.
use Rattle.std.proofs.Common.{ℕ, ◌≡◌, ◌≤◌, ◌<◌, ◌⊎◌, true, List, Some, Ok, refl, sym, ap, ◌∙◌, subst, inl, inr, arith, length}
use Rattle.std.proofs.lemmas.Bool.{cases_lt}
use Rattle.hg_append.specs.declared.encoding.Encoded.{Encoded}
use Rattle.hg_append.specs.declared.way.Way.{Way}
use Rattle.hg_append.specs.declared.way.Way.TheVariants as a_way
use Rattle.hg_append.specs.Loss.{plan_of}
use Rattle.hg_docket.specs.Docket.{Contents, docket_of}
use Rattle.hg_entry.specs.Table.{Table}
use Rattle.hg_mixed.specs.Held.{Held, table}
use Rattle.hg_ops.proofs.Added.{same_table}
use Rattle.hg_save.specs.Over.{HasUsed, IsGround, KeepsLists, KeepsOthersBy}
use Rattle.hg_save.proofs.Parts.{torn_nowhere}
use Rattle.hg_save.proofs.Published.{keeps_front}
use Rattle.hg_save.specs.Leads.{Leads}
use Rattle.hg_save.specs.Others.{IsFrontOf, named_file, nodes_in}
use Rattle.hg_save.specs.Record.{data_name, shown_in, reading}
use Rattle.hg_save.specs.Saved.{IsExact, IsLatest, KeepsOthers, LeavesOnly, ReadsAsBeforeOr, ShowsOnly, Stands, TurnsOnce, WritesOnly, new_docket}
use Rattle.hg_save.specs.declared.loaded.Loaded.{Loaded}
use Rattle.hg_save.specs.Behind.{KeepsUsedBytes}
use Rattle.hg_session.proofs.Locked.{end_remains, front_latest, front_remains, front_solid, none_front}
use Rattle.hg_session.proofs.UsedSteps.{used_front}
use Rattle.hg_session.specs.Acts.{Makes, StandsAt}
use Rattle.hg_session.specs.Anew.{IsOverwritten, IsRecorded}
use Rattle.hg_session.specs.Change.{IsFirm, IsKept, IsPublished}
use Rattle.hg_session.specs.Told.{Told}
use Rattle.hg_session.specs.Ways.{IsMadeOver, KeepsBy, KeepsUnchanged, LendsUnchanged, Stood, stood_in}
use Rattle.hg_shelf.specs.History.{Files, Passes, us}
use Rattle.hg_shelf.specs.Images.{Course, Goes, last_scene, scene}
use Rattle.hg_shelf.specs.Polite.{Undisturbed}

-- files keep their own bytes
used_itself : (id : List ℕ) (used : ℕ) (f : Files) → KeepsUsedBytes id used f f
used_itself id used f = record { others = λ at p q r. refl; front = record { there = λ m most has. has; same = λ m most has. refl } }

others_itself : (was id : List ℕ) (f : Files) → KeepsOthers was id f f
others_itself was id f = record { others = λ at p q r s. refl; named = inl refl }

writes_nothing : (new : Encoded) (start f : Files) → WritesOnly new start f f
writes_nothing new start f = record {
  file = torn_nowhere new.place (length new.bytes.items) (f (data_name new.id));
  stage = inl (record { docket = refl; beside = torn_nowhere 0 (length new.docket.items) (f new_docket) });
}

-- the start, behind the part that only asks, and the end; the record that stood was loaded
module _ (a b c : Course) (ours : a.history.ours ≡ true) (passes : Passes a.history b.history) (goes : Goes b c) (calm : Undisturbed a c) (loaded : Loaded) (stands : Stands loaded.shown.items (last_scene b)) where
  -- what a crash leaves of a table that was written over the record
  crash_over : (found : Table) → LeavesOnly b c (Some (Ok found)) → (k : ℕ) (f : Files) → a.history.last ≤ k → k ≤ c.history.last → (scene c k).leaves f → ReadsAsBeforeOr (scene c a.history.last) (Some (Ok found)) f
  crash_over found only k f from to is = elim (cases_lt b.history.last k) [
    | inl late ↦ elim (only.each k f (omega (arith, late)) to is) [
      | inl before ↦ inl (before.0, (end_remains a b c ours passes goes calm).left before.0 before.1, before.2)
      | inr new ↦ inr new
    ]
    | inr early ↦ inl (f, (front_remains a b c ours passes goes calm k from early).left f is, refl)
  ]

  shown_over : (found : Table) → ShowsOnly b c (Some (Ok found)) → (k : ℕ) → a.history.last ≤ k → k ≤ c.history.last
      → (reading (scene c k).files ≡ reading (scene c a.history.last).files) ⊎ (reading (scene c k).files ≡ Some (Ok found))
  shown_over found only k from to = elim (cases_lt b.history.last k) [
    | inl late ↦ elim (only.each k (omega (arith, late)) to) [
      | inl before ↦ inl (before ∙ ap reading (end_remains a b c ours passes goes calm).shown)
      | inr new ↦ inr new
    ]
    | inr early ↦ inl (ap reading (front_remains a b c ours passes goes calm k from early).shown)
  ]

  -- what a change that files make of themselves leads to
  module _ (Change : Files → Files → Type 0) (itself : (f : Files) → Change f f) (leads : Leads Change b c) where
    others_over : (k : ℕ) → a.history.last ≤ k → k ≤ c.history.last → Change (scene c a.history.last).files (scene c k).files
    others_over k from to = elim (cases_lt b.history.last k) [
      | inl late ↦ subst (λ (f : Files). Change f (scene c k).files) (end_remains a b c ours passes goes calm).shown (leads.shown k (omega (arith, late)) to)
      | inr early ↦
          subst (Change (scene c a.history.last).files) (sym (front_remains a b c ours passes goes calm k from early).shown) (itself (scene c a.history.last).files)
    ]

    spared_over : (k : ℕ) (f : Files) → a.history.last ≤ k → k ≤ c.history.last → (scene c k).leaves f → (d : Files) × (scene c a.history.last).leaves d × Change d f
    spared_over k f from to is = elim (cases_lt b.history.last k) [
      | inl late ↦
          let before = leads.left k f (omega (arith, late)) to is in
          (before.0, (end_remains a b c ours passes goes calm).left before.0 before.1, before.2)
      | inr early ↦ (f, (front_remains a b c ours passes goes calm k from early).left f is, itself f)
    ]

  torn_from : (new : Encoded) → Leads (WritesOnly new (last_scene b).files) b c → Leads (WritesOnly new (scene c a.history.last).files) b c
  torn_from new leads = subst (λ (f : Files). Leads (WritesOnly new f) b c) (end_remains a b c ours passes goes calm).shown leads

  turns_over : (new : Encoded) → ((k : ℕ) → b.history.last ≤ k → k ≤ c.history.last → TurnsOnce new (last_scene b).files (scene c k).files (last_scene c).files)
      → (k : ℕ) → a.history.last ≤ k → k ≤ c.history.last → TurnsOnce new (scene c a.history.last).files (scene c k).files (last_scene c).files
  turns_over new once k from to = elim (cases_lt b.history.last k) [
    | inl late ↦ subst (λ (f : Files). TurnsOnce new f (scene c k).files (last_scene c).files) (end_remains a b c ours passes goes calm).shown (once k (omega (arith, late)) to)
    | inr early ↦
        let still : (scene c k).files ≡ (scene c a.history.last).files = (front_remains a b c ours passes goes calm k from early).shown in
        record { each = λ at apart. inl (ap (λ (f : Files). f at) still); beside = inl (ap (λ (f : Files). f new_docket) still) }
  ]

  others_by : (held : Held) (way : Way) → KeepsOthersBy way held b c → (k : ℕ) → a.history.last ≤ k → k ≤ c.history.last → KeepsBy way held.docket (scene c a.history.last).files (scene c k).files
  others_by held a_way.Rewrite (id, next, leads) k from to = (id, next, others_over (KeepsOthers held.docket.id id) (others_itself held.docket.id id) leads k from to)
  others_by held a_way.Append leads k from to = others_over (KeepsUsedBytes held.docket.id held.docket.used) (used_itself held.docket.id held.docket.used) leads k from to

  spared_by : (held : Held) (way : Way) → KeepsOthersBy way held b c → (k : ℕ) (f : Files) → a.history.last ≤ k → k ≤ c.history.last → (scene c k).leaves f
      → (d : Files) × (scene c a.history.last).leaves d × KeepsBy way held.docket d f
  spared_by held a_way.Rewrite (id, next, leads) k f from to is =
      let was = spared_over (KeepsOthers held.docket.id id) (others_itself held.docket.id id) leads k f from to is in
      (was.0, was.1, (id, next, was.2))
  spared_by held a_way.Append leads k f from to is = spared_over (KeepsUsedBytes held.docket.id held.docket.used) (used_itself held.docket.id held.docket.used) leads k f from to is

  -- the table was opened over what was loaded
  module _ (made : Held) (named : made.docket ≡ docket_of loaded.shown.items) (bytes : made.bytes ≡ loaded.nodes.items) where
    docket_there : made.docket ≡ docket_of (shown_in (scene c a.history.last).files)
    docket_there = named ∙ ap docket_of (sym stands ∙ ap shown_in (end_remains a b c ours passes goes calm).shown)

    -- the nodes that its docket uses stand there
    nodes_there : HasUsed loaded (last_scene b) → 0 < made.docket.used → IsFrontOf (named_file (shown_in (scene c a.history.last).files) (scene c a.history.last).files) made.docket.used made.bytes
    nodes_there used =
        subst (λ (f : Files). 0 < made.docket.used → IsFrontOf (nodes_in f) made.docket.used made.bytes) (end_remains a b c ours passes goes calm).shown
        (subst (λ (l : List ℕ). 0 < made.docket.used → IsFrontOf (named_file l (last_scene b).files) made.docket.used made.bytes) (sym stands)
        (subst (λ (l : List ℕ). 0 < made.docket.used → IsFrontOf (named_file loaded.shown.items (last_scene b).files) made.docket.used l) (sym bytes)
        (subst (λ (d : Contents). 0 < d.used → IsFrontOf (named_file loaded.shown.items (last_scene b).files) d.used loaded.nodes.items) (sym named) used)))

    -- so it is made over the record that stands
    pub over_there : HasUsed loaded (last_scene b) → LendsUnchanged made → IsMadeOver (stood_in (scene c a.history.last).files) (table made) made
    over_there used lends = record { docket = docket_there; nodes = nodes_there used; same = same_table (table made); lends = lends }

    module _ (Does : Makes) (used : Does.fair c.history a.history.last → HasUsed loaded (last_scene b)) (lends : LendsUnchanged made) where
      ground_over : IsLatest (scene c a.history.last) → (plan_of made ≡ a_way.Append → IsFirm Does c a.history.last) → IsGround (plan_of made) loaded (last_scene b)
      ground_over latest firm = record {
        stands = stands;
        latest = front_latest a b c ours passes goes calm latest;
        nodes = λ way. used (firm way).fair;
        solid = λ way. front_solid a b c ours passes goes calm (firm way).solid;
      }

      pub published_over : (recorded : Table) (said : Told) → (Does.fair c.history a.history.last → StandsAt c a.history.last recorded) → Does.does recorded (table made) said true → IsOverwritten made loaded b c
          → IsPublished Does c a.history.last c.history.last
      published_over recorded said there does over = record {
        loaded = recorded;
        there = there;
        held = made;
        docket = docket_there;
        nodes = λ fair. nodes_there (used fair);
        lends = lends;
        made = table made;
        same = same_table (table made);
        said = said;
        does = does;
        found = over.put.found;
        is = over.put.is.same;
        crash = λ latest firm. crash_over over.put.found (over.put.crash (ground_over latest firm));
        shown = λ latest fair. shown_over over.put.found (over.put.shown stands (λ way. front_latest a b c ours passes goes calm (latest way)) (λ way. used (fair way)));
        new = over.put.encoded;
        encoded = over.put.is;
        torn = others_over (WritesOnly over.put.encoded (scene c a.history.last).files) (writes_nothing over.put.encoded (scene c a.history.last).files) (torn_from over.put.encoded over.put.torn);
        torn_left = spared_over (WritesOnly over.put.encoded (scene c a.history.last).files) (writes_nothing over.put.encoded (scene c a.history.last).files) (torn_from over.put.encoded over.put.torn);
        once = turns_over over.put.encoded over.put.once;
        others = others_by made (plan_of made) over.put.others;
        spared = spared_by made (plan_of made) over.put.others;
        orderly = λ latest firm. keeps_front us c a.history.last b.history.last (none_front a b c passes goes) (over.put.orderly (ground_over latest firm));
        keeping = λ fair. used_front us c.history a.history.last b.history.last (none_front a b c passes goes) (over.put.keeping stands (λ way. used (fair way)));
        latest = λ latest. over.put.latest stands (front_latest a b c ours passes goes calm latest);
      }

    -- the table is what is recorded
    module _ (used : plan_of made ≡ a_way.Append → HasUsed loaded (last_scene b)) (stood : Stood) (over : IsMadeOver stood (table made) made) where
      unchanged_by : (f : Files) → KeepsLists made f → KeepsUnchanged made f
      unchanged_by f kept = record { same = kept.same; lists = λ dir has same. kept.lists dir (over.lends.kept dir same ∙ has) }

      pub kept_over : (recorded : Table) → IsRecorded made b c → IsKept stood recorded (table made) (record { old = a; new = c }) a.history.last c.history.last
      kept_over recorded written =
          let start = (end_remains a b c ours passes goes calm).shown in
          record {
            found = written.is.found;
            is = written.is.is.same;
            shown = written.is.records.shown;
            left = inl written.is.records.left;
            bytes = inl (record {
              new = written.is.encoded;
              held = made;
              over = over;
              docket = docket_there;
              is = written.is.is;
              shown = subst (λ (f : Files). IsExact written.is.encoded f (last_scene c).files) start written.is.exact.shown;
              left = λ f left. subst (λ (x : Files). IsExact written.is.encoded x f) start (written.is.exact.left f left);
              gone = written.is.gone;
              nodes = λ way. nodes_there (used way);
              kept_lists = λ way. unchanged_by (last_scene c).files (written.lists way).shown;
              kept_left = λ way f left. unchanged_by f ((written.lists way).left f left);
            });
          }
