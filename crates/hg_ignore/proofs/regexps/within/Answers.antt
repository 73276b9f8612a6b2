use Rattle.hg_ignore.proofs.Compiled.{refused_by}
use Rattle.hg_ignore.proofs.regexps.within.Goals as goal

pub returns-in-Err-Syntax-clause-refused : goal.returns-in-Err-Syntax-clause-refused
returns-in-Err-Syntax-clause-refused c = λ _.
    refused_by c.args.text.now c.in-Err-Syntax.field-0 c.in-Err-Syntax.field-0-0 c.in-Err-Syntax.field-0-is
    (rw (c.size_limit.ensures, c.new.ensures.source, c.new.ensures.config) at c.in-Err-Syntax.ensures.by_grammar)
    (rw (c.size_limit.ensures, c.new.ensures.source, c.new.ensures.config) at c.in-Err-Syntax.ensures.kind)
