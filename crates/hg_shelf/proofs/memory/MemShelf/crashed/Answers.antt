use Rattle.std.proofs.Common.{ap, ◌∙◌}
use Rattle.std.specs.BTreeMap.{get_by_text}
use Rattle.hg_shelf.specs.Crash.{effective, picked_by, through, up_to}
use Rattle.hg_shelf.specs.Memory.{empty}
use Rattle.hg_shelf.proofs.CrashPicks.{is_image, is_kept, is_shown}
use Rattle.hg_shelf.proofs.memory.MemShelf.crashed.Goals as goal

pub returns-clause-left : goal.returns-clause-left
returns-clause-left c =
    is_image c.args.moment c.args.pick c.args.self.now c.in_ok-shelf.shelf c.in_ok-steps.steps.items (get_by_text c.in_ok-files.files)
    (c.in_ok-steps.ensures ∙ ap (λ cs. effective (up_to c.args.moment cs) empty.files) c.changes.ensures)
    (λ at. c.in_ok-files.ensures at ∙ ap (λ steps. through (picked_by c.args.pick) steps empty.files at) c.as_slice.ensures.value)
    c.in_ok-shelf.ensures

pub returns-clause-shown : goal.returns-clause-shown
returns-clause-shown c =
    is_shown c.args.moment c.args.pick c.args.self.now c.in_ok-shelf.shelf c.in_ok-steps.steps.items (get_by_text c.in_ok-files.files)
    (c.in_ok-steps.ensures ∙ ap (λ cs. effective (up_to c.args.moment cs) empty.files) c.changes.ensures)
    (λ at. c.in_ok-files.ensures at ∙ ap (λ steps. through (picked_by c.args.pick) steps empty.files at) c.as_slice.ensures.value)
    c.in_ok-shelf.ensures

pub returns-clause-kept : goal.returns-clause-kept
returns-clause-kept c =
    is_kept c.args.moment c.args.pick c.args.self.now c.in_ok-shelf.shelf c.in_ok-steps.steps.items (get_by_text c.in_ok-files.files)
    (c.in_ok-steps.ensures ∙ ap (λ cs. effective (up_to c.args.moment cs) empty.files) c.changes.ensures)
    (λ at. c.in_ok-files.ensures at ∙ ap (λ steps. through (picked_by c.args.pick) steps empty.files at) c.as_slice.ensures.value)
    c.in_ok-shelf.ensures
