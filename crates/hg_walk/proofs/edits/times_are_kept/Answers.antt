use Rattle.hg_walk.proofs.Keeps.{copy_is_edit, drop_keeps_times, edit_keeps_times, keeps_through, kept_is_trusted, others_are_trusted, same_keeps_times, set_is_edit}
use Rattle.hg_walk.proofs.edits.times_are_kept.Goals as goal

pub returns-clause-kept : goal.returns-clause-kept
returns-clause-kept c = kept_is_trusted

pub returns-clause-others : goal.returns-clause-others
returns-clause-others c = others_are_trusted

pub returns-clause-through : goal.returns-clause-through
returns-clause-through c = keeps_through

pub returns-clause-same : goal.returns-clause-same
returns-clause-same c = same_keeps_times

pub returns-clause-edit : goal.returns-clause-edit
returns-clause-edit c = edit_keeps_times

pub returns-clause-set : goal.returns-clause-set
returns-clause-set c = set_is_edit

pub returns-clause-copy : goal.returns-clause-copy
returns-clause-copy c = copy_is_edit

pub returns-clause-drop : goal.returns-clause-drop
returns-clause-drop c = drop_keeps_times
