use Rattle.std.proofs.Common.{◌≡◌, ◌+◌, None, take, refl, ◌∙◌, rules}
use Rattle.hg_tree.specs.Moment.{bytes_at}
use Rattle.hg_tree.proofs.Spans as trees
use Rattle.hg_store.specs.Storing.{ButNew}
use Rattle.hg_store.proofs.Leading.{leads_on, leads_same, proceeds_same, proceeds_trans}
use Rattle.hg_store.proofs.Laying.{but_same, but_trans}
use Rattle.hg_store.proofs.Copying.{copies_more, copies_none, piece_end, shows_last, shows_second, taken_all, taken_end}
use Rattle.hg_store.specs.Taking.{EndsAt}
use Rattle.hg_store.proofs.taking.copy.Goals as goal

pub loop-place-init : goal.loop-place-init
loop-place-init g c = record {
  passes = trees.passes_same _;
  tree_still = refl;
  copied = copies_none _ _ _ _;
  proceeds = proceeds_same _;
  leads = λ alone. leads_same ButNew _ but_same;
  held = refl;
  shelf_still = refl;
  within = search rules;
  room = search rules;
}

pub loop-place-preserved : goal.loop-place-preserved
loop-place-preserved g c = record {
  passes = trees.passes_trans _ _ _ c.loop-place.invariant.passes c.copy_piece.ensures.tree_passes;
  tree_still = c.in-Ok-Some.ensures.tree_count ∙ c.loop-place.invariant.tree_still;
  copied = (
    _,
    copies_more c.args.path.text.now (c.loop-place.invariant.copied).0 (take c.in-Ok-Some.n c.copy_piece.new.room) _ c.loop-place.place c.in-Ok-Some.n c.loop-place.invariant.passes c.copy_piece.ensures.tree_passes c.loop-place.invariant.proceeds c.copy_piece.ensures.proceeds
        (rw c.in-Ok-Some.field-0-is at c.in-Ok-Some.ensures.found).0 (search rules) (c.loop-place.invariant.copied).1 (rw c.in-Ok-Some.field-0-is at c.in-Ok-Some.ensures.found).1
        (λ alone laid. rw c.in-Ok-Some.field-0-is at (c.in-Ok-Some.ensures.laid (c.loop-place.invariant.copied).0 alone laid (c.loop-place.invariant.copied).1.long))
        (λ holds. rw c.in-Ok-Some.field-0-is at (c.in-Ok-Some.ensures.hashed (c.loop-place.invariant.copied).0 holds)),
  );
  proceeds = proceeds_trans c.loop-place.invariant.proceeds c.copy_piece.ensures.proceeds;
  leads = leads_on ButNew but_trans c.loop-place.invariant.proceeds c.copy_piece.ensures.proceeds c.loop-place.invariant.leads c.copy_piece.ensures.leads;
  held = c.copy_piece.ensures.held ∙ c.loop-place.invariant.held;
  shelf_still = c.in-Ok-Some.ensures.count ∙ c.loop-place.invariant.shelf_still;
  within = search rules;
  room = search rules;
}

pub returns-in-Err-clause-tree_passes : goal.returns-in-Err-clause-tree_passes
returns-in-Err-clause-tree_passes g c = trees.passes_trans _ _ _ c.loop-place.invariant.passes c.copy_piece.ensures.tree_passes

pub returns-in-Err-clause-proceeds : goal.returns-in-Err-clause-proceeds
returns-in-Err-clause-proceeds g c = proceeds_trans c.loop-place.invariant.proceeds c.copy_piece.ensures.proceeds

pub returns-in-Err-clause-leads : goal.returns-in-Err-clause-leads
returns-in-Err-clause-leads g c = leads_on ButNew but_trans c.loop-place.invariant.proceeds c.copy_piece.ensures.proceeds c.loop-place.invariant.leads c.copy_piece.ensures.leads

pub returns-in-Ok-None-clause-tree_passes : goal.returns-in-Ok-None-clause-tree_passes
returns-in-Ok-None-clause-tree_passes g c = trees.passes_trans _ _ _ c.loop-place.invariant.passes c.copy_piece.ensures.tree_passes

pub returns-in-Ok-None-clause-proceeds : goal.returns-in-Ok-None-clause-proceeds
returns-in-Ok-None-clause-proceeds g c = proceeds_trans c.loop-place.invariant.proceeds c.copy_piece.ensures.proceeds

pub returns-in-Ok-None-clause-leads : goal.returns-in-Ok-None-clause-leads
returns-in-Ok-None-clause-leads g c = leads_on ButNew but_trans c.loop-place.invariant.proceeds c.copy_piece.ensures.proceeds c.loop-place.invariant.leads c.copy_piece.ensures.leads

pub returns-then-n-width-clause-tree_passes : goal.returns-then-n-width-clause-tree_passes
returns-then-n-width-clause-tree_passes g c = trees.passes_trans _ _ _ c.loop-place.invariant.passes c.copy_piece.ensures.tree_passes

pub returns-then-n-width-clause-proceeds : goal.returns-then-n-width-clause-proceeds
returns-then-n-width-clause-proceeds g c = proceeds_trans c.loop-place.invariant.proceeds c.copy_piece.ensures.proceeds

pub returns-then-n-width-clause-leads : goal.returns-then-n-width-clause-leads
returns-then-n-width-clause-leads g c = leads_on ButNew but_trans c.loop-place.invariant.proceeds c.copy_piece.ensures.proceeds c.loop-place.invariant.leads c.copy_piece.ensures.leads

pub returns-in-Ok-None-clause-copied : goal.returns-in-Ok-None-clause-copied
returns-in-Ok-None-clause-copied g c =
    shows_second (λ moment. bytes_at moment c.args.path.text.now ≡ None) c.loop-place.invariant.passes (shows_last (λ moment. bytes_at moment c.args.path.text.now ≡ None) c.copy_piece.ensures.tree_passes (rw c.in-Ok-None.field-0-is at c.in-Ok-None.ensures.found))

pub returns-then-n-width-clause-copied : goal.returns-then-n-width-clause-copied
returns-then-n-width-clause-copied g c =
    let more = copies_more c.args.path.text.now (c.loop-place.invariant.copied).0 (take c.in-Ok-Some.n c.copy_piece.new.room) _ c.loop-place.place c.in-Ok-Some.n c.loop-place.invariant.passes c.copy_piece.ensures.tree_passes c.loop-place.invariant.proceeds c.copy_piece.ensures.proceeds
    (rw c.in-Ok-Some.field-0-is at c.in-Ok-Some.ensures.found).0 (search rules) (c.loop-place.invariant.copied).1 (rw c.in-Ok-Some.field-0-is at c.in-Ok-Some.ensures.found).1
    (λ alone laid. rw c.in-Ok-Some.field-0-is at (c.in-Ok-Some.ensures.laid (c.loop-place.invariant.copied).0 alone laid (c.loop-place.invariant.copied).1.long))
    (λ holds. rw c.in-Ok-Some.field-0-is at (c.in-Ok-Some.ensures.hashed (c.loop-place.invariant.copied).0 holds)) in (
      _,
      more,
      taken_end c.args.path.text.now _ c.args.size _ (search rules) more
          (shows_second (λ moment. EndsAt (c.loop-place.place + c.in-Ok-Some.n) (bytes_at moment c.args.path.text.now)) c.loop-place.invariant.passes
          (shows_last (λ moment. EndsAt (c.loop-place.place + c.in-Ok-Some.n) (bytes_at moment c.args.path.text.now)) c.copy_piece.ensures.tree_passes
          (λ told. piece_end c.loop-place.place _ c.in-Ok-Some.n _ _ (search rules) (search rules) ((rw c.in-Ok-Some.field-0-is at c.in-Ok-Some.ensures.found).1 told)))),
    )

pub returns-clause-copied : goal.returns-clause-copied
returns-clause-copied g c =
    ((c.loop-place.invariant.copied).0, (c.loop-place.invariant.copied).1, taken_all c.args.path.text.now (c.loop-place.invariant.copied).0 c.args.size c.loop-place.place c.loop-place-test.false c.loop-place.invariant.within (c.loop-place.invariant.copied).1)
