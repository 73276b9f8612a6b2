use Rattle.std.proofs.Common.{List, ℕ, Option, refl, subst}
use Rattle.hg_front.specs.Further.{SaysAny}
use Rattle.hg_front.proofs.advice.say_of_words.Goals as goal

pub returns : goal.returns
returns g c =
    let bytes = g.E.Sink.bytes in
    let faults = g.E.Sink.faults in
    let first = subst (λ (t : Option (List ℕ)). SaysAny (bytes c.args.err.now) (bytes c.explain.new.err) (faults c.args.err.now) (faults c.explain.new.err) t) c.behind_words.ensures c.explain.ensures in
    let second = subst (λ (t : Option (List ℕ)). SaysAny (bytes c.explain.new.err) (bytes c.explain-2.new.err) (faults c.explain.new.err) (faults c.explain-2.new.err) t) c.behind_words-2.ensures c.explain-2.ensures in
    let third = subst (λ (t : Option (List ℕ)). SaysAny (bytes c.explain-2.new.err) (bytes c.explain-3.new.err) (faults c.explain-2.new.err) (faults c.explain-3.new.err) t) c.behind_words-3.ensures c.explain-3.ensures in
    let fourth = subst (λ (t : Option (List ℕ)). SaysAny (bytes c.explain-3.new.err) (bytes c.explain-4.new.err) (faults c.explain-3.new.err) (faults c.explain-4.new.err) t) c.behind_words-4.ensures c.explain-4.ensures in (
      bytes c.explain.new.err,
      faults c.explain.new.err,
      first,
      (
        bytes c.explain-2.new.err,
        faults c.explain-2.new.err,
        second,
        (bytes c.explain-3.new.err, faults c.explain-3.new.err, third, (bytes c.explain-4.new.err, faults c.explain-4.new.err, fourth, record { bytes = refl; count = refl })),
      ),
    )
