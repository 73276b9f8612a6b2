use Rattle.std.proofs.Common.{ℕ, List, ◌≡◌, OnErr, rules, subst}
use Rattle.hg_stream.specs.Stream.{GrownByFront}
use Rattle.hg_front.specs.Flags.{alone_text, flag_text, no_flag_text}
use Rattle.hg_front.specs.Further.{further_line}
use Rattle.hg_front.proofs.flags.put_stray.Goals as goal

pub returns-then-eq-clause-prefix : goal.returns-then-eq-clause-prefix
returns-then-eq-clause-prefix g c =
    let is : alone_text c.args.command.now ≡ flag_text c.args.command.now c.args.word.now = search rules in
    subst (λ (text : List ℕ). OnErr c.put_help.result (GrownByFront (g.O.Sink.bytes c.args.out.now) (g.O.Sink.bytes c.put_help.new.out) (further_line text))) is c.put_help.ensures.prefix

pub returns-else-eq-clause-prefix : goal.returns-else-eq-clause-prefix
returns-else-eq-clause-prefix g c =
    let is : no_flag_text c.args.command.now c.args.word.now ≡ flag_text c.args.command.now c.args.word.now = search rules in
    subst (λ (text : List ℕ). OnErr c.put_no_flag.result (GrownByFront (g.O.Sink.bytes c.args.out.now) (g.O.Sink.bytes c.put_no_flag.new.out) (further_line text))) is c.put_no_flag.ensures.prefix
