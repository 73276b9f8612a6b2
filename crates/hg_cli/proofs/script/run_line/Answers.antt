use Rattle.std.proofs.Common.{◌∙◌, Some, ap, sym}
use Rattle.hg_cli.proofs.Scripting.{run_so}
use Rattle.hg_cli.specs.Seen.{seen}
use Rattle.hg_cli.proofs.script.run_line.Goals as goal

pub returns : goal.returns
returns g c =
    run_so
    (seen (record {
      tree = g.T.Tree.history;
      tree_faults = g.T.Tree.faults;
      shelf = g.S.Shelf.history;
      images = g.S.Shelf.images;
      shelf_faults = g.S.Shelf.faults;
      held = g.S.Shelf.held;
      oversize = g.G.Regexps.oversize;
      out = g.O.Sink.bytes;
      out_faults = g.O.Sink.faults;
      err = g.E.Sink.bytes;
      err_faults = g.E.Sink.faults;
    }))
    c.args.n c.args.words.now c.as_str.result.now _ _ _ _ (c.at.ensures ∙ ap Some (sym c.as_str.ensures)) (sym c.eq.ensures ∙ c.if-eq.false) c.run_words.ensures.answered
