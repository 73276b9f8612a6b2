use Rattle.std.proofs.Common.{arith, sym, ◌∙◌}
use Rattle.hg_manifest.proofs.Searching.{missing, place_down, place_found, place_up}
use Rattle.hg_manifest.proofs.manifest.find.Goals as goal

pub loop-low-preserved-in-Less : goal.loop-low-preserved-in-Less
loop-low-preserved-in-Less c =
    place_up c.args.text.now c.args.places.now c.args.path.now c.path_in.result.text.now c.loop-low.low c.loop-low.high _ _ c.requires c.loop-low.invariant
    (omega arith) (omega (arith, c.loop-low-test.true)) c.path_in.ensures (sym c.cmp.ensures ∙ c.in-Less.is)

pub loop-low-preserved : goal.loop-low-preserved
loop-low-preserved c =
    place_down c.args.text.now c.args.places.now c.args.path.now c.path_in.result.text.now c.loop-low.low c.loop-low.high _ _ c.requires c.loop-low.invariant
    (omega arith) (omega (arith, c.loop-low-test.true)) c.path_in.ensures (sym c.cmp.ensures ∙ c.in-Greater.is)

pub returns-in-Equal : goal.returns-in-Equal
returns-in-Equal c =
    place_found c.args.text.now c.args.places.now c.args.path.now c.path_in.result.text.now c.loop-low.low c.loop-low.high _ _ c.requires c.loop-low.invariant
    (omega (arith, c.loop-low-test.true)) c.path_in.ensures (sym c.cmp.ensures ∙ c.in-Equal.is)

pub returns : goal.returns
returns c = missing _ c.args.path.now c.loop-low.low c.loop-low.high c.loop-low.invariant (omega (arith, c.loop-low-test.false))
