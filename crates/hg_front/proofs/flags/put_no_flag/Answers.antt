use Rattle.std.proofs.Common.{ℕ, List, codes, ◌++◌, subst}
use Rattle.std.proofs.lemmas.Result.{on_err_weaker, on_ok_weaker}
use Rattle.hg_stream.specs.Stream.{Grown, GrownByFront}
use Rattle.hg_stream.proofs.Grown.{grown_twice}
use Rattle.hg_front.specs.Flags.{flags_of, shown_flag}
use Rattle.hg_front.proofs.Fronts.{at_err, front_of, then_front}
use Rattle.hg_front.proofs.Strays.{no_flag_parts}
use Rattle.hg_front.proofs.flags.put_no_flag.Goals as goal

pub returns-in_err-put_pieces-clause-prefix : goal.returns-in_err-put_pieces-clause-prefix
returns-in_err-put_pieces-clause-prefix g c =
    let command = c.args.command.now in
    let head = codes "hgtrack: " ++ (command ++ codes " has no flag ") in
    let flag = shown_flag (flags_of command) c.args.word.now in
    let tail = codes ": see hgtrack " ++ (command ++ codes " --help\n") in
    at_err c.from_residual.result
    (subst (λ (l : List ℕ). GrownByFront (g.O.Sink.bytes c.args.out.now) (g.O.Sink.bytes c.put_pieces.new.out) l) (no_flag_parts command c.args.word.now)
    (front_of _ _ (head ++ flag) tail (front_of _ _ head flag c.in_err-put_pieces.ensures.prefix)))

pub returns-in_err-put_flag-clause-prefix : goal.returns-in_err-put_flag-clause-prefix
returns-in_err-put_flag-clause-prefix g c =
    let command = c.args.command.now in
    let head = codes "hgtrack: " ++ (command ++ codes " has no flag ") in
    let flag = shown_flag (flags_of command) c.args.word.now in
    let tail = codes ": see hgtrack " ++ (command ++ codes " --help\n") in
    at_err c.from_residual-in_err-put_flag.result
    (subst (λ (l : List ℕ). GrownByFront (g.O.Sink.bytes c.args.out.now) (g.O.Sink.bytes c.put_flag.new.out) l) (no_flag_parts command c.args.word.now)
    (front_of _ _ (head ++ flag) tail (then_front _ _ _ head flag c.in_ok-put_pieces.ensures.all c.in_err-put_flag.ensures.prefix)))

pub returns-clause-all : goal.returns-clause-all
returns-clause-all g c =
    let command = c.args.command.now in
    let head = codes "hgtrack: " ++ (command ++ codes " has no flag ") in
    let flag = shown_flag (flags_of command) c.args.word.now in
    let tail = codes ": see hgtrack " ++ (command ++ codes " --help\n") in
    on_ok_weaker c.put_pieces-2.result
    (λ more. subst (λ (l : List ℕ). Grown (g.O.Sink.bytes c.args.out.now) (g.O.Sink.bytes c.put_pieces-2.new.out) l) (no_flag_parts command c.args.word.now)
    (grown_twice _ _ _ (head ++ flag) tail (grown_twice _ _ _ head flag c.in_ok-put_pieces.ensures.all c.in_ok-put_flag.ensures.all) more))
    c.put_pieces-2.ensures.all

pub returns-clause-prefix : goal.returns-clause-prefix
returns-clause-prefix g c =
    let command = c.args.command.now in
    let head = codes "hgtrack: " ++ (command ++ codes " has no flag ") in
    let flag = shown_flag (flags_of command) c.args.word.now in
    let tail = codes ": see hgtrack " ++ (command ++ codes " --help\n") in
    on_err_weaker c.put_pieces-2.result
    (λ more. subst (λ (l : List ℕ). GrownByFront (g.O.Sink.bytes c.args.out.now) (g.O.Sink.bytes c.put_pieces-2.new.out) l) (no_flag_parts command c.args.word.now)
    (then_front _ _ _ (head ++ flag) tail (grown_twice _ _ _ head flag c.in_ok-put_pieces.ensures.all c.in_ok-put_flag.ensures.all) more))
    c.put_pieces-2.ensures.prefix
