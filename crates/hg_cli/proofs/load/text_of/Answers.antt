use Rattle.std.proofs.lemmas.Result.{IfOk-weaker}
use Rattle.hg_cli.proofs.Loading.{counted_next, made_counted, numbers_of}
use Rattle.hg_cli.proofs.load.text_of.Goals as goal

pub returns : goal.returns
returns c =
    IfOk-weaker c.load_text.result _ _
    (λ text is.
    record {
      made = c.in_ok-made.made;
      between = c.counted.new.made;
      behind = c.counted-2.new.made;
      first = c.in_ok-first.first;
      second = c.in_ok-second.second;
      fresh = c.in_ok-made.ensures;
      one = c.in_ok-first.ensures;
      other = c.in_ok-second.ensures;
      numbers = numbers_of c.args.dirs c.in_ok-made.made c.counted.new.made (made_counted c.args.dirs c.in_ok-made.made c.in_ok-made.ensures) _ c.in_ok-first.ensures.status c.requires.most _ c.in_ok-first.ensures.are;
      again =
          numbers_of c.args.dirs c.counted.new.made c.counted-2.new.made
          (counted_next c.args.dirs c.in_ok-made.made c.counted.new.made (made_counted c.args.dirs c.in_ok-made.made c.in_ok-made.ensures) _ c.in_ok-first.ensures.status c.in_ok-made.ensures.refusals) _
          c.in_ok-second.ensures.status c.requires.most _ c.in_ok-second.ensures.are;
      is = is;
    })
    c.load_text.ensures
