use Rattle.std.proofs.Common.{◌≡◌, ◌∙◌, ℕ, arith, refl, ap, subst}
use Rattle.std.proofs.lemmas.Grind.{common_steps}
use Rattle.hg_docket.specs.Docket as docket
use Rattle.hg_image.specs.View.{IsMember, dir_of}
use Rattle.hg_mixed.specs.Lent.{as_dir}
use Rattle.hg_mixed.specs.Parted.{image_rows}
use Rattle.hg_mixed.specs.Taken.{AreBared, IsBare, IsOpen}
use Rattle.hg_mixed.proofs.Freed.{bare_less, bared_end, bared_none, bared_step, kid_free}
use Rattle.hg_mixed.proofs.Moving.{as_own, moved_trans}
use Rattle.hg_mixed.proofs.taking.+take_whole.Goals as goal

pub loop-i-init : goal.loop-i-init
loop-i-init t c = (
  c.take.ensures.moved,
  c.in_ok-take.ensures.out.less,
  subst (IsBare c.take.new.left) (ap as_dir c.dir_text.ensures ∙ as_own c.args.list) c.in_ok-take.ensures.out.bare,
  bared_none c.args.list c.take.new.left,
)

pub take_whole-requires : goal.take_whole-requires
take_whole-requires t c =
    let member : IsMember c.args.list c.get.result = record {
      place = c.loop-i.i;
      inside = omega (arith, c.loop-i-test.true, c.len-i-end.ensures.count, c.loop-i.auto.i-end);
      rec = c.get.ensures.record;
      bytes = c.get.ensures.bytes;
      levels = c.get.ensures.levels;
    } in
    let free : IsOpen c.loop-i.left (dir_of c.children.result) = kid_free c.args.list c.children.result c.get.result member c.children.ensures.dir c.loop-i.left c.loop-i.invariant.2 in
    let parted = c.loop-i.invariant.0.parted in
    grind (arith, common_steps, parted, free)

pub returns-in_err-take_whole-clause-moved : goal.returns-in_err-take_whole-clause-moved
returns-in_err-take_whole-clause-moved t c =
    moved_trans (docket.view c.args.image.docket) (image_rows c.args.image) c.args.left.now c.args.memory.now c.loop-i.left c.loop-i.memory c.take_whole.new.left c.take_whole.new.memory
    c.loop-i.invariant.0 c.take_whole.ensures.moved

pub loop-i-preserved : goal.loop-i-preserved
loop-i-preserved t c =
    let member : IsMember c.args.list c.get.result = record {
      place = c.loop-i.i;
      inside = omega (arith, c.loop-i-test.true, c.len-i-end.ensures.count, c.loop-i.auto.i-end);
      rec = c.get.ensures.record;
      bytes = c.get.ensures.bytes;
      levels = c.get.ensures.levels;
    } in
    let less = c.in_ok-take_whole.ensures.less in (
      moved_trans (docket.view c.args.image.docket) (image_rows c.args.image) c.args.left.now c.args.memory.now c.loop-i.left c.loop-i.memory c.take_whole.new.left c.take_whole.new.memory
          c.loop-i.invariant.0 c.take_whole.ensures.moved,
      (λ at h. c.loop-i.invariant.1 at (less at h)),
      bare_less c.loop-i.left c.take_whole.new.left (dir_of c.args.list) less c.loop-i.invariant.2,
      bared_step c.args.list c.children.result c.loop-i.i c.get.result member refl c.children.ensures.rows c.loop-i.left c.take_whole.new.left less c.loop-i.invariant.3 c.in_ok-take_whole.ensures.bared,
    )

pub returns-clause-bared : goal.returns-clause-bared
returns-clause-bared t c =
    let last : c.loop-i.i ≡ c.args.list.count = omega (arith, c.loop-i-test.false, c.loop-i.auto.i-end, c.len-i-end.ensures.count) in
    bared_end c.args.list c.loop-i.left c.loop-i.invariant.2 (subst (λ (i : ℕ). AreBared c.args.list i c.loop-i.left) last c.loop-i.invariant.3)
