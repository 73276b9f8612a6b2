-- What a command did over a table in memory, by the command.
use Rattle.std.proofs.Common.{refl, sym, ap, ◌∙◌}
use Rattle.hg_words.specs.declared.given.Command.TheVariants as a_command
use Rattle.hg_session.proofs.Doing.{acts_add, acts_copy, acts_forget, acts_nothing, acts_parents, acts_remove, own_fault}
use Rattle.hg_session.proofs.acting.act.Goals as goal

pub returns-in-Add-clause-acts : goal.returns-in-Add-clause-acts
returns-in-Add-clause-acts g c =
    acts_add _ _ _ _ _ c.act_words.result c.act_words.ensures.kind c.act_words.ensures.image c.act_words.ensures.cause c.act_words.ensures.failed c.args.command.now c.in-Add.files c.in-Add.is
    c.act_words.ensures.acts c.act_words.ensures.lent (record { passes = c.act_words.ensures.passes; asked = c.act_words.ensures.asked })

pub returns-in-Forget-clause-acts : goal.returns-in-Forget-clause-acts
returns-in-Forget-clause-acts g c =
    acts_forget _ _ _ _ _ c.act_words-in-Forget.result c.act_words-in-Forget.ensures.kind c.act_words-in-Forget.ensures.image c.act_words-in-Forget.ensures.cause c.act_words-in-Forget.ensures.failed
    c.args.command.now c.in-Forget.files c.in-Forget.is (c.act_words-in-Forget.ensures.forgets refl) c.act_words-in-Forget.ensures.acts c.act_words-in-Forget.ensures.lent
    (record { history = ap (λ t. g.T.Tree.history t) (c.act_words-in-Forget.ensures.unlooked refl); count = ap (λ t. g.T.Tree.faults t) (c.act_words-in-Forget.ensures.unlooked refl) })

pub returns-in-Remove-clause-acts : goal.returns-in-Remove-clause-acts
returns-in-Remove-clause-acts g c =
    acts_remove _ _ _ _ c.remove_words.result c.args.command.now c.in-Remove.after c.in-Remove.files c.in-Remove.is c.remove_words.ensures.acts c.remove_words.ensures.stops c.remove_words.ensures.lent c.remove_words.ensures.image
    c.remove_words.ensures.takes c.remove_words.ensures.passes c.remove_words.ensures.asked c.remove_words.ensures.cause c.remove_words.ensures.failed c.remove_words.ensures.cause_shelf

pub returns-in-Copy-clause-acts : goal.returns-in-Copy-clause-acts
returns-in-Copy-clause-acts g c =
    acts_copy _ _ _ _ _ c.copy_one.result (own_fault c.copy_one.result c.copy_one.ensures.kind) c.copy_one.ensures.image c.copy_one.ensures.cause c.copy_one.ensures.failed c.args.command.now c.as_str.result.now c.as_str-in-Copy.result.now
    (c.in-Copy.is ∙ (λ i. a_command.Copy (sym c.as_str.ensures i) (sym c.as_str-in-Copy.ensures i)))
    c.copy_one.ensures.does c.copy_one.ensures.lent c.copy_one.ensures.puts

pub returns-in-SetParents-clause-acts : goal.returns-in-SetParents-clause-acts
returns-in-SetParents-clause-acts g c =
    acts_parents _ _ _ _ _ c.reparent.result c.args.command.now c.in-SetParents.p1 c.in-SetParents.p2 c.in-SetParents.is c.reparent.ensures.does c.reparent.ensures.stops c.reparent.ensures.lent c.reparent.ensures.image c.reparent.ensures.passes
    c.reparent.ensures.asked c.reparent.ensures.cause c.reparent.ensures.kind

pub returns-in_default-clause-acts : goal.returns-in_default-clause-acts
returns-in_default-clause-acts g c =
    acts_nothing _ _ _ _ _ _ c.new.ensures.items c.args.command.now c.in_default.not-Add c.in_default.not-Forget c.in_default.not-Remove c.in_default.not-Copy c.in_default.not-SetParents
