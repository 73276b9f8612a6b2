use Rattle.std.proofs.Common.{◌≡◌, ℕ, List, refl, ap, sym, ◌∙◌, subst, None, inl}
use Rattle.std.proofs.lemmas.Result.{on_ok_weaker}
use Rattle.hg_docket.specs.Docket.{Contents, docket_of}
use Rattle.hg_shelf.specs.Images.{course, last_scene}
use Rattle.hg_shelf.specs.Rules.{Perhaps, Removes, without}
use Rattle.hg_save.specs.Leads.{Clears, Leads, OwnSteps, StepBy}
use Rattle.hg_save.specs.Record.{data_name}
use Rattle.hg_save.proofs.Turning.{either_none, either_perhaps}
use Rattle.hg_save.proofs.Held.{held_either, held_same}
use Rattle.hg_save.proofs.Stages.{goes_there, leads_weaker}
use Rattle.hg_save.proofs.Names.{empty_id, one_bytes, other_bytes, read_id, some_id}
use Rattle.hg_save.proofs.Own.{no_call, remove_steps, steps_weaker}
use Rattle.hg_save.proofs.Parts.{either, gone_from, remove_leads, remove_shown, unstepped}
use Rattle.hg_save.proofs.saving.clear.Goals as goal

pub returns-then-is_empty-clause-leads : goal.returns-then-is_empty-clause-leads
returns-then-is_empty-clause-leads g c = λ calm.
    unstepped (Clears (docket_of c.args.docket.now).id c.args.next.now) (course (g.S.Shelf.history c.args.shelf.now) (g.S.Shelf.images c.args.shelf.now)) c.requires.held
    (λ f. inl (λ at. refl))

pub returns-then-is_empty-clause-gone : goal.returns-then-is_empty-clause-gone
returns-then-is_empty-clause-gone g c = λ calm some other.
    absurd (some (ap (λ (d : Contents). d.id) (sym c.in-Ok.ensures.fields) ∙ empty_id c.in-Ok.docket.id.now c.is_empty.result c.is_empty.ensures c.if-is_empty.true))

pub returns-clause-leads : goal.returns-clause-leads
returns-clause-leads g c = λ calm.
    let id = read_id c.in-Some.id c.in-Ok.docket.id.now c.in-Some.ensures ∙ ap (λ (d : Contents). d.id) c.in-Ok.ensures.fields in
    leads_weaker (course (g.S.Shelf.history c.args.shelf.now) (g.S.Shelf.images c.args.shelf.now)) (course (g.S.Shelf.history c.remove.new.self) (g.S.Shelf.images c.remove.new.self))
    (Perhaps (without (data_name (docket_of c.args.docket.now).id))) (Clears (docket_of c.args.docket.now).id c.args.next.now)
    (goes_there (docket_of c.args.docket.now).id c.args.next.now (λ none. some_id c.in-Ok.docket.id.now c.is_empty.result c.is_empty.ensures c.if-is_empty.false (ap (λ (d : Contents). d.id) c.in-Ok.ensures.fields ∙ none))
    (λ same. other_bytes c.in-Ok.docket.id.now c.args.next.now c.eq.result c.eq.ensures c.if-eq.false (ap (λ (d : Contents). d.id) c.in-Ok.ensures.fields ∙ same)))
    (subst (λ (name : List ℕ). Leads (Perhaps (without name)) (course (g.S.Shelf.history c.args.shelf.now) (g.S.Shelf.images c.args.shelf.now)) (course (g.S.Shelf.history c.remove.new.self) (g.S.Shelf.images c.remove.new.self)))
    (c.as_str.ensures ∙ c.of.ensures ∙ ap data_name id)
    (remove_leads c.as_str.result.now (course (g.S.Shelf.history c.args.shelf.now) (g.S.Shelf.images c.args.shelf.now)) (course (g.S.Shelf.history c.remove.new.self) (g.S.Shelf.images c.remove.new.self))
    c.requires.held c.remove.ensures.ours c.remove.ensures.kept calm (either c.remove.result (c.remove.ensures.removed calm.told) (c.remove.ensures.perhaps calm.told))))

pub returns-clause-gone : goal.returns-clause-gone
returns-clause-gone g c = λ calm.
    let id = read_id c.in-Some.id c.in-Ok.docket.id.now c.in-Some.ensures ∙ ap (λ (d : Contents). d.id) c.in-Ok.ensures.fields in
    on_ok_weaker c.remove.result (λ own some other.
    subst (λ (name : List ℕ). (last_scene (course (g.S.Shelf.history c.remove.new.self) (g.S.Shelf.images c.remove.new.self))).files name ≡ None)
    (c.as_str.ensures ∙ c.of.ensures ∙ ap data_name id)
    (gone_from c.as_str.result.now _ _
    (remove_shown c.as_str.result.now (course (g.S.Shelf.history c.args.shelf.now) (g.S.Shelf.images c.args.shelf.now)) (course (g.S.Shelf.history c.remove.new.self) (g.S.Shelf.images c.remove.new.self))
    c.requires.held c.remove.ensures.ours c.remove.ensures.kept calm own)))
    (c.remove.ensures.removed calm.told)

pub returns-then-is_empty-clause-steps : goal.returns-then-is_empty-clause-steps
returns-then-is_empty-clause-steps g c = λ calm. no_call (StepBy (Clears (docket_of c.args.docket.now).id c.args.next.now)) (course (g.S.Shelf.history c.args.shelf.now) (g.S.Shelf.images c.args.shelf.now))

pub returns-clause-steps : goal.returns-clause-steps
returns-clause-steps g c = λ calm.
    let id = read_id c.in-Some.id c.in-Ok.docket.id.now c.in-Some.ensures ∙ ap (λ (d : Contents). d.id) c.in-Ok.ensures.fields in
    steps_weaker (Perhaps (without (data_name (docket_of c.args.docket.now).id))) (Clears (docket_of c.args.docket.now).id c.args.next.now)
    (goes_there (docket_of c.args.docket.now).id c.args.next.now (λ none. some_id c.in-Ok.docket.id.now c.is_empty.result c.is_empty.ensures c.if-is_empty.false (ap (λ (d : Contents). d.id) c.in-Ok.ensures.fields ∙ none))
    (λ same. other_bytes c.in-Ok.docket.id.now c.args.next.now c.eq.result c.eq.ensures c.if-eq.false (ap (λ (d : Contents). d.id) c.in-Ok.ensures.fields ∙ same)))
    (course (g.S.Shelf.history c.args.shelf.now) (g.S.Shelf.images c.args.shelf.now)) (course (g.S.Shelf.history c.remove.new.self) (g.S.Shelf.images c.remove.new.self))
    (subst (λ (name : List ℕ). OwnSteps (StepBy (Perhaps (without name))) (course (g.S.Shelf.history c.args.shelf.now) (g.S.Shelf.images c.args.shelf.now)) (course (g.S.Shelf.history c.remove.new.self) (g.S.Shelf.images c.remove.new.self)))
    (c.as_str.ensures ∙ c.of.ensures ∙ ap data_name id)
    (remove_steps c.as_str.result.now (course (g.S.Shelf.history c.args.shelf.now) (g.S.Shelf.images c.args.shelf.now)) (course (g.S.Shelf.history c.remove.new.self) (g.S.Shelf.images c.remove.new.self))
    c.requires.held (either c.remove.result (c.remove.ensures.removed calm.told) (c.remove.ensures.perhaps calm.told))))

pub returns-clause-lock : goal.returns-clause-lock
returns-clause-lock g c = λ told.
    held_either (Removes c.as_str.result.now) (course (g.S.Shelf.history c.args.shelf.now) (g.S.Shelf.images c.args.shelf.now)) (course (g.S.Shelf.history c.remove.new.self) (g.S.Shelf.images c.remove.new.self))
    c.requires.held (either c.remove.result (c.remove.ensures.removed told) (c.remove.ensures.perhaps told))

pub returns-then-is_empty-clause-lock : goal.returns-then-is_empty-clause-lock
returns-then-is_empty-clause-lock g c = λ told. held_same (g.S.Shelf.history c.args.shelf.now)

pub returns-then-eq-clause-leads : goal.returns-then-eq-clause-leads
returns-then-eq-clause-leads g c = λ calm.
    unstepped (Clears (docket_of c.args.docket.now).id c.args.next.now) (course (g.S.Shelf.history c.args.shelf.now) (g.S.Shelf.images c.args.shelf.now)) c.requires.held
    (λ f. inl (λ at. refl))

pub returns-then-eq-clause-steps : goal.returns-then-eq-clause-steps
returns-then-eq-clause-steps g c = λ calm. no_call (StepBy (Clears (docket_of c.args.docket.now).id c.args.next.now)) (course (g.S.Shelf.history c.args.shelf.now) (g.S.Shelf.images c.args.shelf.now))

pub returns-then-eq-clause-lock : goal.returns-then-eq-clause-lock
returns-then-eq-clause-lock g c = λ told. held_same (g.S.Shelf.history c.args.shelf.now)

pub returns-then-eq-clause-gone : goal.returns-then-eq-clause-gone
returns-then-eq-clause-gone g c = λ calm some other.
    absurd (other (ap (λ (d : Contents). d.id) (sym c.in-Ok.ensures.fields) ∙ one_bytes c.in-Ok.docket.id.now c.args.next.now c.eq.result c.eq.ensures c.if-eq.true))

pub returns-then-is_empty-clause-either : goal.returns-then-is_empty-clause-either
returns-then-is_empty-clause-either g c = λ calm. either_none (course (g.S.Shelf.history c.args.shelf.now) (g.S.Shelf.images c.args.shelf.now))

pub returns-then-eq-clause-either : goal.returns-then-eq-clause-either
returns-then-eq-clause-either g c = λ calm. either_none (course (g.S.Shelf.history c.args.shelf.now) (g.S.Shelf.images c.args.shelf.now))

pub returns-clause-either : goal.returns-clause-either
returns-clause-either g c = λ calm.
    either_perhaps (Removes c.as_str.result.now) (course (g.S.Shelf.history c.args.shelf.now) (g.S.Shelf.images c.args.shelf.now)) (course (g.S.Shelf.history c.remove.new.self) (g.S.Shelf.images c.remove.new.self))
    c.requires.held c.remove.ensures.kept calm (either c.remove.result (c.remove.ensures.removed calm.told) (c.remove.ensures.perhaps calm.told))
