use Rattle.std.proofs.Common.{None, Some, ◌∙◌, sym}
use Rattle.hg_base.proofs.Cuts.{is_last_cut}
use Rattle.hg_words.proofs.Leading.{upper_cut, upper_plain}
use Rattle.hg_words.proofs.folder.upper.Goals as goal

pub returns-in-Some : goal.returns-in-Some
returns-in-Some c =
    let cut = is_last_cut c.args.folder.now (Some (c.in-Some.up, c.in-Some.field-0-1)) c.in-Some.ensures.cases in
    upper_cut c.args.folder.now c.in-Some.up.now c.in-Some.field-0-1.now (sym c.is_empty.ensures ∙ c.if-is_empty.false) cut.0 cut.1

pub returns-in-None : goal.returns-in-None
returns-in-None c =
    upper_plain c.args.folder.now (sym c.is_empty.ensures ∙ c.if-is_empty.false) (is_last_cut c.args.folder.now None c.in-None.ensures.cases)
