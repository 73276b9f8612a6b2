use Rattle.std.proofs.Common.{◌++◌, ◌∙◌, ap, map, take_all}
use Rattle.std.specs.List.{flat_map}
use Rattle.hg_words.specs.Help.{help_of}
use Rattle.hg_front.specs.Words.{help_head, help_tail, row_text}
use Rattle.hg_front.proofs.own.help.Goals as goal

pub returns : goal.returns
returns c =
    c.in_ok-push_str.ensures.bytes
    ∙ ap (λ t. t ++ help_tail)
    (c.loop-i.invariant ∙ ap (λ rows. help_head ++ flat_map row_text rows) (ap (map help_of) (take_all c.loop-i.i c.help_rows-rows.result.now c.loop-i-test.false) ∙ c.help_rows-rows.ensures))
