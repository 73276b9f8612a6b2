use Rattle.std.proofs.Common.{ℕ, List, ◌≡◌, OnErr, rules, subst}
use Rattle.hg_stream.specs.Stream.{GrownByFront}
use Rattle.hg_front.specs.Flags.{flags_of, shown_flag, shown_letter}
use Rattle.hg_front.proofs.flags.put_flag.Goals as goal

pub returns-in-Some-clause-prefix : goal.returns-in-Some-clause-prefix
returns-in-Some-clause-prefix g c =
    let is : shown_letter c.args.word.now c.in-Some.letter ≡ shown_flag (flags_of c.args.command.now) c.args.word.now = search rules in
    subst (λ (l : List ℕ). OnErr c.put_letter.result (GrownByFront (g.O.Sink.bytes c.args.out.now) (g.O.Sink.bytes c.put_letter.new.out) l)) is c.put_letter.ensures.prefix
