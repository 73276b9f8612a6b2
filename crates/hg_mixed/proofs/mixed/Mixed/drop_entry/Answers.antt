use Rattle.std.proofs.Common.{refl}
use Rattle.std.proofs.lemmas.Result.{on_ok_weaker}
use Rattle.hg_mixed.proofs.DroppedWhole.{drop_of, drop_parted, drop_table}
use Rattle.hg_mixed.proofs.Lifted.{kept_parted, ok_both, ok_or_err, ok_three}
use Rattle.hg_mixed.proofs.Placed.{drop_placed, drop_places, same_placed}
use Rattle.hg_mixed.proofs.LentWhole.{drop_whole, ended_held, kept_whole, lent_dropped}
use Rattle.hg_docket.specs.Docket as docket
use Rattle.hg_mixed.proofs.mixed.Mixed.drop_entry.Goals as goal

pub invariant_of-self-in-Ok : goal.invariant_of-self-in-Ok
invariant_of-self-in-Ok c = (
  ok_or_err c.drop_entry.result
      (λ pruned. drop_parted _ _ _ _ _ _ c.drop_entry.new.self c.take_for.ensures.moved c.args.path.text.now c.in-Ok.ensures.free pruned)
      (λ kept. kept_parted _ _ _ _ _ _ c.drop_entry.new.self c.take_for.ensures.moved kept.table) c.drop_entry.ensures.pruned c.drop_entry.ensures.err,
  ok_or_err c.drop_entry.result
      (λ nodes. drop_placed _ _ _ _ _ _ c.drop_entry.new.self c.take_for.ensures.moved c.args.path.text.now c.in-Ok.ensures.free.above c.self.invariant.1 nodes)
      (λ kept. same_placed _ _ _ _ _ _ c.drop_entry.new.self c.take_for.ensures.moved kept.nodes c.self.invariant.1) c.drop_entry.ensures.nodes c.drop_entry.ensures.err,
  ok_or_err c.drop_entry.result (λ whole. whole) (λ kept. kept_whole _ _ _ _ _ _ c.drop_entry.new.self c.take_for.ensures.moved c.self.invariant.2 kept.nodes kept.table kept.kept)
      (ok_three c.drop_entry.result
      (λ nodes pruned ended. drop_whole _ _ _ _ _ _ c.drop_entry.new.self c.take_for.ensures.moved c.self.invariant.2 c.args.path.text.now c.args.path.is_path c.in-Ok.ensures.free.above ended nodes pruned)
      c.drop_entry.ensures.nodes c.drop_entry.ensures.pruned c.drop_entry.ensures.kept) c.drop_entry.ensures.err,
)

pub returns-in-Ok-clause-pruned : goal.returns-in-Ok-clause-pruned
returns-in-Ok-clause-pruned c =
    on_ok_weaker c.drop_entry.result
    (λ pruned. drop_of _ _ c.self.view_is c.args.path.text.now _ (drop_table _ _ _ _ _ _ c.drop_entry.new.self c.take_for.ensures.moved c.args.path.text.now c.in-Ok.ensures.free pruned))
    c.drop_entry.ensures.pruned

pub returns-in-Ok-clause-places : goal.returns-in-Ok-clause-places
returns-in-Ok-clause-places c =
    ok_both c.drop_entry.result
    (λ nodes pruned. drop_places _ _ _ _ _ _ c.drop_entry.new.self c.take_for.ensures.moved c.args.path.text.now c.in-Ok.ensures.free.above c.self.invariant.1 nodes pruned
    _ _ c.self.view_is _ (λ at. refl) (λ at. refl) (λ at. refl))
    c.drop_entry.ensures.nodes c.drop_entry.ensures.pruned

pub returns-in-Ok-clause-lent : goal.returns-in-Ok-clause-lent
returns-in-Ok-clause-lent c =
    on_ok_weaker c.drop_entry.result
    (λ ended. ended_held (docket.view c.self.inside.image.docket) c.self.inside.image.bytes.now c.self.inside.left c.take_for.new.left c.self.inside.memory c.drop_entry.new.self c.args.self.now c.self.view_is c.args.path.text.now
    (lent_dropped _ _ _ _ _ _ c.drop_entry.new.self c.take_for.ensures.moved c.self.invariant.2 c.args.path.text.now c.args.path.is_path c.in-Ok.ensures.free.above ended))
    c.drop_entry.ensures.kept
