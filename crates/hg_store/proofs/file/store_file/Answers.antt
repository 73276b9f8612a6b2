use Rattle.std.proofs.Common.{[]}
use Rattle.hg_tree.proofs.Spans.{passes_trans}
use Rattle.hg_store.proofs.Filing.{file_same, gone_answer, no_file_at_dir, no_file_at_other, no_link_at_dir, no_link_at_other, none_seen, other_seen, plain_same, stores_later}
use Rattle.hg_store.proofs.file.store_file.Goals as goal

pub returns-in-Err-clause-stores : goal.returns-in-Err-clause-stores
returns-in-Err-clause-stores g c = record { text = []; answer = plain_same _; leads = file_same [] _ }

pub returns-in-Ok-None-clause-stores : goal.returns-in-Ok-None-clause-stores
returns-in-Ok-None-clause-stores g c = record {
  text = [];
  answer = gone_answer c.args.path.text.now [] _ _ _ _ c.gone.result c.gone.ensures (none_seen c.args.path.text.now c.stat.ensures.passes (rw c.in-Ok-None.field-0-is at c.in-Ok-None.ensures.found)) (plain_same _);
  leads = file_same [] _;
}

pub returns-in-File-clause-stores : goal.returns-in-File-clause-stores
returns-in-File-clause-stores g c = stores_later c.args.path.text.now _ _ c.store_row.result c.stat.ensures.passes c.store_row.ensures.stores

pub returns-in-File-clause-tree_passes : goal.returns-in-File-clause-tree_passes
returns-in-File-clause-tree_passes g c = passes_trans _ _ _ c.stat.ensures.passes c.store_row.ensures.tree_passes

pub returns-in-Link-clause-stores : goal.returns-in-Link-clause-stores
returns-in-Link-clause-stores g c = stores_later c.args.path.text.now _ _ c.store_row-in-Link.result c.stat.ensures.passes c.store_row-in-Link.ensures.stores

pub returns-in-Link-clause-tree_passes : goal.returns-in-Link-clause-tree_passes
returns-in-Link-clause-tree_passes g c = passes_trans _ _ _ c.stat.ensures.passes c.store_row-in-Link.ensures.tree_passes

pub returns-in-Dir-clause-stores : goal.returns-in-Dir-clause-stores
returns-in-Dir-clause-stores g c = record {
  text = [];
  answer = gone_answer c.args.path.text.now [] _ _ _ _ c.gone-in-Dir.result c.gone-in-Dir.ensures
      (other_seen c.args.path.text.now c.in-Ok-Some.stat c.stat.ensures.passes (rw c.in-Ok-Some.field-0-is at c.in-Ok-Some.ensures.found) (no_file_at_dir _ c.in-Dir.is) (no_link_at_dir _ c.in-Dir.is)) (plain_same _);
  leads = file_same [] _;
}

pub returns-in-Other-clause-stores : goal.returns-in-Other-clause-stores
returns-in-Other-clause-stores g c = record {
  text = [];
  answer = gone_answer c.args.path.text.now [] _ _ _ _ c.gone-in-Other.result c.gone-in-Other.ensures
      (other_seen c.args.path.text.now c.in-Ok-Some.stat c.stat.ensures.passes (rw c.in-Ok-Some.field-0-is at c.in-Ok-Some.ensures.found) (no_file_at_other _ c.in-Other.is) (no_link_at_other _ c.in-Other.is)) (plain_same _);
  leads = file_same [] _;
}
