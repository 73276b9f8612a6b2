use Rattle.hg_glob.proofs.Sums.{span_word}
use Rattle.hg_glob.proofs.short.span.Goals as goal

pub returns : goal.returns
returns c = λ xs h few. span_word xs c.args.sums.now c.args.low c.args.high _ _ c.others.result c.min-first.ensures c.min-last.ensures h few c.others.ensures.front c.others.ensures.more
