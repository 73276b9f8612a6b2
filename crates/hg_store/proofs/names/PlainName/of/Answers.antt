use Rattle.std.proofs.Common.{rules, sym, subst}
use Rattle.std.specs.Str.{IsUtf8}
use Rattle.hg_store.proofs.Naming.{name_is, text_of_name}
use Rattle.hg_store.proofs.names.PlainName.of.Goals as goal

pub invariant_of-result : goal.invariant_of-result
invariant_of-result c =
    subst IsUtf8
    (sym (name_is c.args.plain c.put-at.new.bytes c.put.new.bytes c.front_of-front.result c.digits_of-digits.result c.args.id.now.0 c.put-at.result c.put.result c.put-at.ensures.end c.put-at.ensures.front c.front_of-front.ensures (search rules) c.digits_of-digits.ensures c.put.ensures.end (search rules) c.put.ensures.front))
    (text_of_name c.args.plain c.args.id.now.0)

pub returns : goal.returns
returns c =
    name_is c.args.plain c.put-at.new.bytes c.put.new.bytes c.front_of-front.result c.digits_of-digits.result c.args.id.now.0 c.put-at.result c.put.result c.put-at.ensures.end c.put-at.ensures.front c.front_of-front.ensures (search rules) c.digits_of-digits.ensures c.put.ensures.end (search rules) c.put.ensures.front
