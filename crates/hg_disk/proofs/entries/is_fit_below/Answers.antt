use Rattle.hg_disk.proofs.Shallow.{fits_below}
use Rattle.hg_disk.proofs.entries.is_fit_below.Goals as goal

pub returns : goal.returns
returns c = fits_below c.args.dir.text.now c.args.name.now c.args.dir.is_path c.if-dir-ge4095.false c.if-name-ge4095.false c.requires
