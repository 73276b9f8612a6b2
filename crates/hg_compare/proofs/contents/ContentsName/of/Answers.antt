use Rattle.std.proofs.Common.{rules, sym, subst}
use Rattle.std.specs.Str.{IsUtf8}
use Rattle.hg_compare.proofs.Ascii.{name_is, text_of_name}
use Rattle.hg_compare.proofs.contents.ContentsName.of.Goals as goal

pub invariant_of-result : goal.invariant_of-result
invariant_of-result c =
    subst IsUtf8
    (sym (name_is c.put-at.new.bytes c.put.new.bytes c.digits_of-digits.result c.args.id.0 c.put-at.result c.put.result c.put-at.ensures.end c.put-at.ensures.front (search rules) c.digits_of-digits.ensures c.put.ensures.end (search rules) c.put.ensures.front))
    (text_of_name c.args.id.0)
