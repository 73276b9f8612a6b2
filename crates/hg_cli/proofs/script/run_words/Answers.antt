use Rattle.hg_cli.proofs.Carried.{loadable}
use Rattle.hg_cli.proofs.script.run_words.Goals as goal

pub carry_out-requires : goal.carry_out-requires
carry_out-requires g c = loadable c.args.words.now c.in-Ok.given c.in-Ok.ensures.ok
