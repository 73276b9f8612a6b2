use Rattle.std.proofs.Common.{List, ℕ, refl, subst}
use Rattle.hg_stream.specs.Stream.{Grown, GrownByFront}
use Rattle.hg_cli.proofs.Loading.{lacked, unprinted}
use Rattle.hg_cli.proofs.load.load.Goals as goal

pub returns-in-Err : goal.returns-in-Err
returns-in-Err g c = lacked _ _ _ _ _ c.failed.ensures.status c.failed.ensures.told (record { bytes = refl; count = refl }) c.failed.ensures.fault

pub returns-in-Err-put_all : goal.returns-in-Err-put_all
returns-in-Err-put_all g c =
    unprinted _ _ _ _ _ c.failed-in-Err-put_all.ensures.status c.failed-in-Err-put_all.ensures.told
    (record {
      text = _;
      is = c.in-Ok.ensures;
      put = subst (λ (t : List ℕ). GrownByFront (g.O.Sink.bytes c.args.out.now) (g.O.Sink.bytes c.put_all.new.out) t) c.as_bytes.ensures.value c.in-Err-put_all.ensures.prefix;
      failed = c.in-Err-put_all.ensures.cause.rose tt;
    })
    c.failed-in-Err-put_all.ensures.fault

pub returns : goal.returns
returns g c =
    record {
      done = λ none. (
        refl,
        record {
          text = _;
          is = c.in-Ok.ensures;
          put = subst (λ (t : List ℕ). Grown (g.O.Sink.bytes c.args.out.now) (g.O.Sink.bytes c.put_all.new.out) t) c.as_bytes.ensures.value c.in-Ok-put_all.ensures.all;
          calm = c.in-Ok-put_all.ensures.cause.quiet;
        },
        record { bytes = refl; count = refl },
      );
      left = tt;
    }
