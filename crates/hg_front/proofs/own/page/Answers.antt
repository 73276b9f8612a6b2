use Rattle.std.proofs.Common.{codes, ◌++◌, ◌∙◌, ap, map, take_all}
use Rattle.std.specs.List.{flat_map}
use Rattle.hg_words.specs.Help.{help_of}
use Rattle.hg_front.specs.Words.{row_of}
use Rattle.hg_front.proofs.own.page.Goals as goal

pub returns : goal.returns
returns c =
    c.in_ok-push_str.ensures.bytes
    ∙ ap (λ t. t ++ c.args.said.now)
    (c.loop-i.invariant
    ∙ ap (λ rows. codes "Usage:\n" ++ flat_map (row_of c.args.name.now) rows) (ap (map help_of) (take_all c.loop-i.i c.help_rows-rows.result.now c.loop-i-test.false) ∙ c.help_rows-rows.ensures))
