use Rattle.std.proofs.Common.{◌*◌, refl, arith}
use Rattle.hg_gen.proofs.Listed.{manifest_is}
use Rattle.hg_gen.proofs.parent.manifest.Goals as goal

pub returns : goal.returns
returns c =
    manifest_is (16 * c.args.dirs) (omega (arith, c.requires)) c.args.dirs c.in_ok-rows.rows c.in_ok-text.text.items refl c.in_ok-rows.ensures.named c.in_ok-rows.ensures.few
    c.in_ok-text.ensures.ascending c.in_ok-text.ensures.all c.in_ok-text.ensures.lines
