use Rattle.std.proofs.Common.{◌≡◌, ◌∙◌, true, false, length, rules, eqb, sym}
use Rattle.std.proofs.lemmas.Bool.{eq-eqb}
use Rattle.hg_cli.proofs.Scripting.{no_memory}
use Rattle.hg_cli.specs.Seen.{seen}
use Rattle.hg_cli.proofs.script.turn.Goals as goal

pub returns-in-Err : goal.returns-in-Err
returns-in-Err g c =
    let some : eqb (length c.args.line.now) 0 ≡ false = search rules in
    no_memory
    (seen (record {
      tree = g.T.Tree.history;
      tree_faults = g.T.Tree.faults;
      shelf = g.S.Shelf.history;
      images = g.S.Shelf.images;
      shelf_faults = g.S.Shelf.faults;
      held = g.S.Shelf.held;
      oversize = g.G.Regexps.oversize;
      out = g.O.Sink.bytes;
      out_faults = g.O.Sink.faults;
      err = g.E.Sink.bytes;
      err_faults = g.E.Sink.faults;
    }))
    c.args.n c.args.line.now _ _ _ _ (λ none. let both : true ≡ false = sym (eq-eqb (length c.args.line.now) 0 none) ∙ some in cc both)
    (record { answered = c.failed.ensures.fault; told = c.failed.ensures.told; idle = search rules; status = c.failed.ensures.status })
