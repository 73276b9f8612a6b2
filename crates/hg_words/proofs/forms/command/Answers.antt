use Rattle.std.proofs.Common.{ap, ap₂, ◌∙◌, map, true, ◌++◌, ◌∷◌, [], take_all}
use Rattle.clap.specs.Simple.{App, app_of_fields, with_rule}
use Rattle.hg_words.specs.Clapped.{flag_arg, flags_in, with_args, word_arg}
use Rattle.hg_words.proofs.Building.{one_flag}
use Rattle.hg_words.proofs.forms.command.Goals as goal

pub loop-i-init : goal.loop-i-init
loop-i-init c =
    ap app_of_fields c.args_override_self-command.ensures
    ∙ ap (λ (a : App). record { top = record a.top { args_override_self = true }; subs = a.subs })
    (ap app_of_fields c.disable_help_flag.ensures ∙ ap (λ (a : App). record { top = record a.top { disable_help_flag = true }; subs = a.subs }) c.new.ensures.app)

pub loop-i-preserved : goal.loop-i-preserved
loop-i-preserved c =
    one_flag c.args.name.now c.args.flags.now c.loop-i.i _ _ _ c.flag_at.ensures.rule c.loop-i.invariant (c.in_ok-command.ensures.shape c.flag_at.ensures.alone)

pub returns-clause-ok : goal.returns-clause-ok
returns-clause-ok c =
    c.in_ok-arg.ensures.shape c.others.ensures.alone ∙ ap₂ with_rule c.loop-i.invariant c.others.ensures.rule
    ∙ ap (λ t. with_args c.args.name.now (map flag_arg (flags_in t) ++ word_arg ∷ [])) (take_all c.loop-i.i c.args.flags.now c.loop-i-test.false)
