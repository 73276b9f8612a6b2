use Rattle.std.proofs.Common.{◌∙◌, sym, lit<}
use Rattle.std.proofs.lemmas.Str.Pattern.{strip_suffix_char}
use Rattle.hg_syntax.proofs.Texts.{escaped_none, escaped_twice, escaped_once, strips_none, strips_some}
use Rattle.hg_syntax.proofs.text.escaped.Goals as goal

pub returns-in-None : goal.returns-in-None
returns-in-None c = sym (escaped_none c.args.text.now (strips_none c.args.text.now _ (strip_suffix_char 92 c.args.text.now _ c.strip_suffix.ensures.cases (lit< tt)) c.in-None.is))

pub returns-then-is_escaping : goal.returns-then-is_escaping
returns-then-is_escaping c =
    sym (escaped_twice c.args.text.now c.in-Some.front.now (strips_some c.args.text.now _ _ (strip_suffix_char 92 c.args.text.now _ c.strip_suffix.ensures.cases (lit< tt)) c.in-Some.is) (sym c.is_escaping.ensures ∙ c.if-is_escaping.true))

pub returns-else-is_escaping : goal.returns-else-is_escaping
returns-else-is_escaping c =
    sym (escaped_once c.args.text.now c.in-Some.front.now (strips_some c.args.text.now _ _ (strip_suffix_char 92 c.args.text.now _ c.strip_suffix.ensures.cases (lit< tt)) c.in-Some.is) (sym c.is_escaping.ensures ∙ c.if-is_escaping.false))
