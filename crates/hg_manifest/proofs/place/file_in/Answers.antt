use Rattle.hg_manifest.proofs.Places.{file_there}
use Rattle.hg_manifest.proofs.place.file_in.Goals as goal

pub returns : goal.returns
returns c =
    let id = rw (c.split_at-3.ensures.front, c.split_at-2.ensures.back, c.split_at.ensures.back) at c.id_in.ensures in
    rw (c.split_at-3.ensures.back, c.split_at-2.ensures.back, c.split_at.ensures.back) (file_there c.args.text.now c.args.place c.id_in.result c.requires id)
