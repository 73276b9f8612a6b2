use Rattle.std.proofs.Common.{ℕ, List, ◌≡◌, ◌++◌, OnErr, append_assoc, codes, rules, subst}
use Rattle.hg_stream.specs.Stream.{GrownByFront}
use Rattle.hg_front.specs.Flags.{alone_text}
use Rattle.hg_front.specs.Further.{further_line}
use Rattle.hg_front.proofs.flags.put_help.Goals as goal

pub returns-clause-prefix : goal.returns-clause-prefix
returns-clause-prefix g c =
    let is : codes "hgtrack: " ++ (c.args.command.now ++ codes " --help takes no other word\n") ≡ further_line (alone_text c.args.command.now) = search (rules, append_assoc) in
    subst (λ (l : List ℕ). OnErr c.put_pieces.result (GrownByFront (g.O.Sink.bytes c.args.out.now) (g.O.Sink.bytes c.put_pieces.new.out) l)) is c.put_pieces.ensures.prefix
