use Rattle.hg_cli.proofs.Carried.{loadable}
use Rattle.hg_cli.proofs.Scripting.{carried, carried_other, unread}
use Rattle.hg_cli.specs.Seen.{seen}
use Rattle.hg_cli.proofs.top.run.Goals as goal
use Rattle.std.proofs.Common.{refl, rules, inl}

pub carry_out-requires : goal.carry_out-requires
carry_out-requires g c = loadable c.args.words.now c.in-Ok.given c.in-Ok.ensures.ok

pub returns-in-Err-clause-answered : goal.returns-in-Err-clause-answered
returns-in-Err-clause-answered g c =
    unread
    (seen (record {
      tree = g.T.Tree.history;
      tree_faults = g.T.Tree.faults;
      shelf = g.S.Shelf.history;
      images = g.S.Shelf.images;
      shelf_faults = g.S.Shelf.faults;
      held = g.S.Shelf.held;
      oversize = g.G.Regexps.oversize;
      out = g.O.Sink.bytes;
      out_faults = g.O.Sink.faults;
      err = g.E.Sink.bytes;
      err_faults = g.E.Sink.faults;
    }))
    c.args.words.now _ _ _ _ _ _ c.in-Err.fault c.in-Err.ensures.err
    (record { answered = rw c.from.ensures at c.failed.ensures.fault; told = c.failed.ensures.told; idle = search rules; status = c.failed.ensures.status })

pub returns-in-Ok : goal.returns-in-Ok
returns-in-Ok g c =
    record {
      answered = carried
          (seen (record {
            tree = g.T.Tree.history;
            tree_faults = g.T.Tree.faults;
            shelf = g.S.Shelf.history;
            images = g.S.Shelf.images;
            shelf_faults = g.S.Shelf.faults;
            held = g.S.Shelf.held;
            oversize = g.G.Regexps.oversize;
            out = g.O.Sink.bytes;
            out_faults = g.O.Sink.faults;
            err = g.E.Sink.bytes;
            err_faults = g.E.Sink.faults;
          }))
          c.args.words.now _ _ _ _ _ _ c.in-Ok.given c.in-Ok.ensures.ok (search rules) c.carry_out.ensures;
      failing = λ failed. absurd (carried_other
          (seen (record {
            tree = g.T.Tree.history;
            tree_faults = g.T.Tree.faults;
            shelf = g.S.Shelf.history;
            images = g.S.Shelf.images;
            shelf_faults = g.S.Shelf.faults;
            held = g.S.Shelf.held;
            oversize = g.G.Regexps.oversize;
            out = g.O.Sink.bytes;
            out_faults = g.O.Sink.faults;
            err = g.E.Sink.bytes;
            err_faults = g.E.Sink.faults;
          }))
          c.args.words.now (g.I.Source.left c.args.input.now) (g.I.Source.left c.args.input.now)
          (c.args.tree.now, c.args.shelf.now, c.args.regexps.now, c.args.out.now, c.args.err.now)
          (c.carry_out.new.tree, c.carry_out.new.shelf, c.carry_out.new.regexps, c.carry_out.new.out, c.carry_out.new.err)
          c.carry_out.result.status c.carry_out.result.fault c.in-Ok.given c.carry_out.ensures failed);
      quiet = λ none. refl;
      stayed = inl refl;
      unread = λ other. refl;
    }
