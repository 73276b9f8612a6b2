use Rattle.hg_store.proofs.Filing.{row_stores_err, row_stores_ok}
use Rattle.hg_store.proofs.file.store_row.Goals as goal

pub returns-in-Err-clause-stores : goal.returns-in-Err-clause-stores
returns-in-Err-clause-stores g c = row_stores_err c.args.path.text.now c.args.stat.now _ _ _ _ c.in-Err.fault c.store_sized.ensures.tree_passes c.requires.looked c.in-Err.ensures.stores

pub returns-in-Ok-clause-stores : goal.returns-in-Ok-clause-stores
returns-in-Ok-clause-stores g c = row_stores_ok c.args.path.text.now c.args.stat.now c.args.link _ _ _ _ c.in-Ok.id c.requires.flag c.store_sized.ensures.tree_passes c.requires.looked c.in-Ok.ensures.stores
