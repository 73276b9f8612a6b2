-- The words of `remove`, one after another.
use Rattle.std.proofs.Common.{ℕ, ◌≡◌, false, ◌++◌, ◌∷◌, [], suc, Option, Some, Err, List, codes, take, take_all, drop, arith, inl, inr, refl, sym, ap, ◌∙◌, subst}
use Rattle.std.specs.List.{slice_get}
use Rattle.std.proofs.lemmas.Result.{err_from_is_err_and}
use Rattle.hg_base.specs.declared.id.Id20.{Id20}
use Rattle.hg_mixed.specs.Held.{table}
use Rattle.hg_ops.specs.Parent.{AsksStore, KeepsParent, upto}
use Rattle.hg_ops.specs.declared.refusal.Refusal.{Refusal}
use Rattle.hg_session.specs.Acts.{IsActed, TakesAway, refused_line, span_of}
use Rattle.hg_session.proofs.KeptLists.{keeps_lent, keeps_none, keeps_on, moves_remove}
use Rattle.hg_session.proofs.KeptTexts.{forgotten_texts, goes_forgotten, texts_none, texts_on}
use Rattle.hg_ops.proofs.AskingStore.{keeps_store}
use Rattle.hg_session.proofs.TakenWords.{asks_needed, front_more, front_none, needed_more, so_far_wide, split_more, split_word, stops_at, stops_behind, store_cause, takes_extends, takes_longer, takes_more, takes_none_yet, tree_cause, tree_failed}
use Rattle.hg_session.proofs.SoFar.{goes_on, goes_on_at, image_trans, none_yet}
use Rattle.hg_shelf.proofs.Histories.{extends_same, passes_trans}
use Rattle.hg_shelf.proofs.Scenes.{goes_same, goes_trans}
use Rattle.hg_shelf.specs.Images.{course}
use Rattle.hg_session.proofs.removing.remove_words.Goals as goal

pub loop-i-init : goal.loop-i-init
loop-i-init g c = record {
  so_far =
      none_yet (codes "remove") (TakesAway c.args.after (span_of (table c.args.mixed.now) (g.S.Shelf.history c.args.shelf.now) (g.S.Shelf.history c.args.shelf.now)))
      (g.T.Tree.history c.args.tree.now) c.args.mixed.now c.new-lines.result.items (g.T.Tree.faults c.args.tree.now) c.new-lines.ensures.items;
  lends = keeps_none false c.args.mixed.now;
  texts = texts_none false c.args.mixed.now;
  keeps =
      subst (λ (id : Id20). KeepsParent (record { id = id; old = g.S.Shelf.history c.args.shelf.now; new = g.S.Shelf.history c.args.shelf.now }) c.of-parent.result) (λ i. record { 0 = c.parents.ensures.p1 i })
      (c.of-parent.ensures (g.S.Shelf.history c.args.shelf.now));
  front = front_none (table c.args.mixed.now) (g.T.Tree.history c.args.tree.now);
  takes = takes_none_yet c.args.after c.args.words.now (table c.args.mixed.now) (g.T.Tree.history c.args.tree.now) (g.T.Tree.faults c.args.tree.now);
  needed = inl refl;
  kept = goes_same (course (g.S.Shelf.history c.args.shelf.now) (g.S.Shelf.images c.args.shelf.now));
  held = refl;
  count = refl;
}

pub loop-i-preserved : goal.loop-i-preserved
loop-i-preserved g c =
    let start = g.T.Tree.history c.args.tree.now in
    let mid = g.T.Tree.history c.loop-i.tree in
    let at = g.T.Tree.history c.remove.new.tree in
    let first = g.S.Shelf.history c.args.shelf.now in
    let between = g.S.Shelf.history c.loop-i.shelf in
    let last = g.S.Shelf.history c.remove.new.shelf in
    let t = table c.args.mixed.now in
    let word = c.as_str-word.result.now in
    let is : slice_get c.args.words.now c.loop-i.i ≡ Some word = c.at.ensures ∙ ap Some (sym c.as_str-word.ensures) in
    let takes =
    takes_more c.args.after c.args.words.now (table c.args.mixed.now) c.loop-i.i word is start mid at (g.T.Tree.faults c.args.tree.now) (g.T.Tree.faults c.loop-i.tree) (g.T.Tree.faults c.remove.new.tree)
    c.loop-i.invariant.takes c.remove.result c.remove.ensures.takes c.remove.ensures.touches (table c.loop-i.mixed) c.loop-i.invariant.front c.remove.ensures.asked in
    record {
      so_far =
          goes_on_at (codes "remove") (TakesAway c.args.after (span_of t first last)) start at c.args.words.now c.loop-i.i word c.args.mixed.now c.remove.new.mixed
          (c.loop-i.lines.items ++ refused_line (codes "remove") word c.in_ok-refused.refused) c.put_refused.new.lines.items (g.T.Tree.faults c.args.tree.now) (g.T.Tree.faults c.remove.new.tree)
          is c.in-Ok.ensures
          (goes_on (codes "remove") (TakesAway c.args.after (span_of t first last)) start mid at c.args.mixed.now c.loop-i.mixed c.remove.new.mixed (take c.loop-i.i c.args.words.now) word c.loop-i.lines.items c.in_ok-refused.refused
          (g.T.Tree.faults c.args.tree.now) (g.T.Tree.faults c.loop-i.tree) (g.T.Tree.faults c.remove.new.tree)
          (so_far_wide (codes "remove") (TakesAway c.args.after (span_of t first between)) (TakesAway c.args.after (span_of t first last)) (takes_longer c.args.after (span_of t first between) last c.remove.ensures.shelf_passes.past)
          start mid (take c.loop-i.i c.args.words.now) c.args.mixed.now c.loop-i.mixed c.loop-i.lines.items (g.T.Tree.faults c.args.tree.now) (g.T.Tree.faults c.loop-i.tree) c.loop-i.invariant.so_far)
          (takes_extends _ word mid at c.remove.ensures.takes)
          (record { end = last; within = extends_same last; removes = c.in_ok-refused.ensures.stepped (span_of t first between) c.loop-i.invariant.keeps; reads = c.remove.ensures.asked })
          c.remove.ensures.image c.in_ok-refused.ensures.changed c.in_ok-refused.ensures.cause);
      lends =
          keeps_on false word c.args.mixed.now c.loop-i.mixed c.remove.new.mixed c.loop-i.invariant.lends
          (moves_remove c.args.after word mid at (upto (span_of t first between) last) (table c.loop-i.mixed) c.in_ok-refused.refused (table c.remove.new.mixed)
          (c.in_ok-refused.ensures.stepped (span_of t first between) c.loop-i.invariant.keeps))
          c.in_ok-refused.ensures.lent;
      texts =
          texts_on false c.args.mixed.now c.loop-i.mixed c.remove.new.mixed c.loop-i.invariant.texts
          (goes_forgotten word (table c.loop-i.mixed) (table c.remove.new.mixed) c.parents-in-loop-i.ensures.formed c.in_ok-refused.refused
          (c.in_ok-refused.ensures.stepped (span_of t first between) c.loop-i.invariant.keeps).table)
          (forgotten_texts word c.in_ok-refused.refused c.loop-i.mixed c.remove.new.mixed (c.in_ok-refused.ensures.stepped (span_of t first between) c.loop-i.invariant.keeps).table c.in_ok-refused.ensures.places);
      keeps = c.in_ok-refused.ensures.goes (span_of t first between) c.loop-i.invariant.keeps;
      front =
          front_more c.args.words.now c.loop-i.i word is t (table c.loop-i.mixed) (table c.remove.new.mixed) start mid at c.loop-i.invariant.front (takes_extends _ word mid at c.remove.ensures.takes) c.in_ok-refused.refused
          (c.in_ok-refused.ensures.stepped (span_of t first between) c.loop-i.invariant.keeps).table;
      takes = takes;
      needed =
          needed_more c.args.after c.args.words.now (table c.args.mixed.now) start mid at c.loop-i.invariant.takes.past (takes_extends _ word mid at c.remove.ensures.takes) (g.T.Tree.faults c.args.tree.now) (g.T.Tree.faults c.loop-i.tree) (g.T.Tree.faults c.remove.new.tree)
          word c.loop-i.i is (table c.loop-i.mixed) c.loop-i.invariant.front first between last c.loop-i.invariant.needed
          (elim c.remove.ensures.needed [ inl same ↦ inl (ap (λ s. (g.S.Shelf.history s).asked) same) | inr need ↦ inr need ]);
      kept =
          goes_trans (course first (g.S.Shelf.images c.args.shelf.now)) (course between (g.S.Shelf.images c.loop-i.shelf)) (course last (g.S.Shelf.images c.remove.new.shelf)) c.loop-i.invariant.kept c.remove.ensures.kept;
      held = c.remove.ensures.held ∙ c.loop-i.invariant.held;
      count = c.in_ok-refused.ensures.cause_shelf ∙ c.loop-i.invariant.count;
    }

pub returns-in_err-refused-clause-stops : goal.returns-in_err-refused-clause-stops
returns-in_err-refused-clause-stops g c = λ unset.
    let p = err_from_is_err_and c.from_residual.result c.from_residual.ensures.1 in
    let first = g.S.Shelf.history c.args.shelf.now in
    let between = g.S.Shelf.history c.loop-i.shelf in
    let last = g.S.Shelf.history c.remove.new.shelf in
    let t = table c.args.mixed.now in
    let word = c.as_str-word.result.now in
    let is : slice_get c.args.words.now c.loop-i.i ≡ Some word = c.at.ensures ∙ ap Some (sym c.as_str-word.ensures) in
    let so_far =
    so_far_wide (codes "remove") (TakesAway c.args.after (span_of t first between)) (TakesAway c.args.after (span_of t first last)) (takes_longer c.args.after (span_of t first between) last c.remove.ensures.shelf_passes.past)
    (g.T.Tree.history c.args.tree.now) (g.T.Tree.history c.loop-i.tree) (take c.loop-i.i c.args.words.now) c.args.mixed.now c.loop-i.mixed c.loop-i.lines.items (g.T.Tree.faults c.args.tree.now) (g.T.Tree.faults c.loop-i.tree) c.loop-i.invariant.so_far in
    rw (p.1, p.2)
    (stops_at c.args.after c.args.words.now
    (record { old = g.T.Tree.history c.args.tree.now; new = g.T.Tree.history c.remove.new.tree; before = g.T.Tree.faults c.args.tree.now; after = g.T.Tree.faults c.remove.new.tree })
    (record { old = first; new = last; before = g.S.Shelf.faults c.args.shelf.now; after = g.S.Shelf.faults c.remove.new.shelf })
    t (table c.loop-i.mixed) first (extends_same first) (g.T.Tree.faults c.args.tree.now) (g.T.Tree.faults c.loop-i.tree) c.loop-i.lines.items c.loop-i.mixed.changed
    (take c.loop-i.i c.args.words.now) (word ∷ drop (suc c.loop-i.i) c.args.words.now) (split_word c.args.words.now c.loop-i.i word is) word (drop (suc c.loop-i.i) c.args.words.now) refl (g.T.Tree.history c.loop-i.tree)
    (so_far.acted unset) c.in_err-refused.field-0.0 c.in_err-refused.ensures.takes c.in_err-refused.ensures.asked (c.in_err-refused.ensures.met (span_of t first between) c.loop-i.invariant.keeps)
    (c.in_err-refused.ensures.stopped (span_of t first between) c.loop-i.invariant.keeps))

pub returns-in_err-refused-clause-image : goal.returns-in_err-refused-clause-image
returns-in_err-refused-clause-image g c = image_trans c.args.mixed.now c.loop-i.mixed c.remove.new.mixed c.loop-i.invariant.so_far.image c.remove.ensures.image

pub returns-in_err-refused-clause-takes : goal.returns-in_err-refused-clause-takes
returns-in_err-refused-clause-takes g c =
    let word = c.as_str-word.result.now in
    let is : slice_get c.args.words.now c.loop-i.i ≡ Some word = c.at.ensures ∙ ap Some (sym c.as_str-word.ensures) in
    takes_more c.args.after c.args.words.now (table c.args.mixed.now) c.loop-i.i word is (g.T.Tree.history c.args.tree.now) (g.T.Tree.history c.loop-i.tree) (g.T.Tree.history c.remove.new.tree)
    (g.T.Tree.faults c.args.tree.now) (g.T.Tree.faults c.loop-i.tree) (g.T.Tree.faults c.remove.new.tree)
    c.loop-i.invariant.takes c.remove.result c.remove.ensures.takes c.remove.ensures.touches (table c.loop-i.mixed) c.loop-i.invariant.front c.remove.ensures.asked

pub returns-in_err-refused-clause-passes : goal.returns-in_err-refused-clause-passes
returns-in_err-refused-clause-passes g c = passes_trans _ _ _ c.loop-i.invariant.keeps.passes c.remove.ensures.shelf_passes

pub returns-in_err-refused-clause-kept : goal.returns-in_err-refused-clause-kept
returns-in_err-refused-clause-kept g c = goes_trans _ _ _ c.loop-i.invariant.kept c.remove.ensures.kept

pub returns-in_err-refused-clause-asked : goal.returns-in_err-refused-clause-asked
returns-in_err-refused-clause-asked g c = λ told.
    let start = g.T.Tree.history c.args.tree.now in
    let mid = g.T.Tree.history c.loop-i.tree in
    let at = g.T.Tree.history c.remove.new.tree in
    let first = g.S.Shelf.history c.args.shelf.now in
    let between = g.S.Shelf.history c.loop-i.shelf in
    let last = g.S.Shelf.history c.remove.new.shelf in
    let word = c.as_str-word.result.now in
    let is : slice_get c.args.words.now c.loop-i.i ≡ Some word = c.at.ensures ∙ ap Some (sym c.as_str-word.ensures) in
    asks_needed first last _
    (needed_more c.args.after c.args.words.now (table c.args.mixed.now) start mid at c.loop-i.invariant.takes.past (takes_extends _ word mid at c.remove.ensures.takes) (g.T.Tree.faults c.args.tree.now) (g.T.Tree.faults c.loop-i.tree) (g.T.Tree.faults c.remove.new.tree)
    word c.loop-i.i is (table c.loop-i.mixed) c.loop-i.invariant.front first between last c.loop-i.invariant.needed
    (elim c.remove.ensures.needed [ inl same ↦ inl (ap (λ s. (g.S.Shelf.history s).asked) same) | inr need ↦ inr need ]))
    (c.in_err-refused.ensures.store (span_of (table c.args.mixed.now) first between) c.loop-i.invariant.keeps told)

pub returns-in_err-refused-clause-cause : goal.returns-in_err-refused-clause-cause
returns-in_err-refused-clause-cause g c =
    let p = err_from_is_err_and c.from_residual.result c.from_residual.ensures.1 in
    rw (p.1, p.2) (tree_cause (Option Refusal) _ _ _ c.in_err-refused.field-0.0 c.loop-i.invariant.so_far.count c.in_err-refused.ensures.cause)

pub returns-in_err-refused-clause-failed : goal.returns-in_err-refused-clause-failed
returns-in_err-refused-clause-failed g c = λ rose.
    let p = err_from_is_err_and c.from_residual.result c.from_residual.ensures.1 in
    p.1 ∙ ap Err (p.2 ∙ tree_failed (Option Refusal) _ _ _ c.in_err-refused.field-0.0 c.loop-i.invariant.so_far.count c.in_err-refused.ensures.cause rose)

pub returns-in_err-refused-clause-cause_shelf : goal.returns-in_err-refused-clause-cause_shelf
returns-in_err-refused-clause-cause_shelf g c =
    let p = err_from_is_err_and c.from_residual.result c.from_residual.ensures.1 in
    rw (p.1, p.2) (store_cause (Option Refusal) _ _ _ c.in_err-refused.field-0.0 c.loop-i.invariant.count c.in_err-refused.ensures.cause_shelf)

pub returns-in-Err-clause-image : goal.returns-in-Err-clause-image
returns-in-Err-clause-image g c = image_trans c.args.mixed.now c.loop-i.mixed c.remove.new.mixed c.loop-i.invariant.so_far.image c.remove.ensures.image

pub returns-in-Err-clause-takes : goal.returns-in-Err-clause-takes
returns-in-Err-clause-takes g c =
    let word = c.as_str-word.result.now in
    let is : slice_get c.args.words.now c.loop-i.i ≡ Some word = c.at.ensures ∙ ap Some (sym c.as_str-word.ensures) in
    takes_more c.args.after c.args.words.now (table c.args.mixed.now) c.loop-i.i word is (g.T.Tree.history c.args.tree.now) (g.T.Tree.history c.loop-i.tree) (g.T.Tree.history c.remove.new.tree)
    (g.T.Tree.faults c.args.tree.now) (g.T.Tree.faults c.loop-i.tree) (g.T.Tree.faults c.remove.new.tree)
    c.loop-i.invariant.takes c.remove.result c.remove.ensures.takes c.remove.ensures.touches (table c.loop-i.mixed) c.loop-i.invariant.front c.remove.ensures.asked

pub returns-in-Err-clause-passes : goal.returns-in-Err-clause-passes
returns-in-Err-clause-passes g c = passes_trans _ _ _ c.loop-i.invariant.keeps.passes c.remove.ensures.shelf_passes

pub returns-in-Err-clause-kept : goal.returns-in-Err-clause-kept
returns-in-Err-clause-kept g c = goes_trans _ _ _ c.loop-i.invariant.kept c.remove.ensures.kept

pub returns-in-Err-clause-asked : goal.returns-in-Err-clause-asked
returns-in-Err-clause-asked g c = λ told.
    let start = g.T.Tree.history c.args.tree.now in
    let mid = g.T.Tree.history c.loop-i.tree in
    let at = g.T.Tree.history c.remove.new.tree in
    let first = g.S.Shelf.history c.args.shelf.now in
    let between = g.S.Shelf.history c.loop-i.shelf in
    let last = g.S.Shelf.history c.remove.new.shelf in
    let word = c.as_str-word.result.now in
    let is : slice_get c.args.words.now c.loop-i.i ≡ Some word = c.at.ensures ∙ ap Some (sym c.as_str-word.ensures) in
    asks_needed first last _
    (needed_more c.args.after c.args.words.now (table c.args.mixed.now) start mid at c.loop-i.invariant.takes.past (takes_extends _ word mid at c.remove.ensures.takes) (g.T.Tree.faults c.args.tree.now) (g.T.Tree.faults c.loop-i.tree) (g.T.Tree.faults c.remove.new.tree)
    word c.loop-i.i is (table c.loop-i.mixed) c.loop-i.invariant.front first between last c.loop-i.invariant.needed
    (elim c.remove.ensures.needed [ inl same ↦ inl (ap (λ s. (g.S.Shelf.history s).asked) same) | inr need ↦ inr need ]))
    (keeps_store _ c.remove.new.parent (c.in_ok-refused.ensures.goes (span_of (table c.args.mixed.now) first between) c.loop-i.invariant.keeps) told)

pub returns-in-Err-clause-stops : goal.returns-in-Err-clause-stops
returns-in-Err-clause-stops g c = λ unset.
    let start = g.T.Tree.history c.args.tree.now in
    let mid = g.T.Tree.history c.loop-i.tree in
    let at = g.T.Tree.history c.remove.new.tree in
    let first = g.S.Shelf.history c.args.shelf.now in
    let between = g.S.Shelf.history c.loop-i.shelf in
    let last = g.S.Shelf.history c.remove.new.shelf in
    let t = table c.args.mixed.now in
    let word = c.as_str-word.result.now in
    let is : slice_get c.args.words.now c.loop-i.i ≡ Some word = c.at.ensures ∙ ap Some (sym c.as_str-word.ensures) in
    let so_far =
    goes_on (codes "remove") (TakesAway c.args.after (span_of t first last)) start mid at c.args.mixed.now c.loop-i.mixed c.remove.new.mixed (take c.loop-i.i c.args.words.now) word c.loop-i.lines.items c.in_ok-refused.refused
    (g.T.Tree.faults c.args.tree.now) (g.T.Tree.faults c.loop-i.tree) (g.T.Tree.faults c.remove.new.tree)
    (so_far_wide (codes "remove") (TakesAway c.args.after (span_of t first between)) (TakesAway c.args.after (span_of t first last)) (takes_longer c.args.after (span_of t first between) last c.remove.ensures.shelf_passes.past)
    start mid (take c.loop-i.i c.args.words.now) c.args.mixed.now c.loop-i.mixed c.loop-i.lines.items (g.T.Tree.faults c.args.tree.now) (g.T.Tree.faults c.loop-i.tree) c.loop-i.invariant.so_far)
    (takes_extends _ word mid at c.remove.ensures.takes)
    (record { end = last; within = extends_same last; removes = c.in_ok-refused.ensures.stepped (span_of t first between) c.loop-i.invariant.keeps; reads = c.remove.ensures.asked })
    c.remove.ensures.image c.in_ok-refused.ensures.changed c.in_ok-refused.ensures.cause in
    stops_behind c.args.after c.args.words.now
    (record { old = start; new = at; before = g.T.Tree.faults c.args.tree.now; after = g.T.Tree.faults c.remove.new.tree })
    (record { old = first; new = last; before = g.S.Shelf.faults c.args.shelf.now; after = g.S.Shelf.faults c.remove.new.shelf })
    t (table c.remove.new.mixed) first (extends_same first) (g.T.Tree.faults c.args.tree.now) (g.T.Tree.faults c.remove.new.tree) _ _
    (take c.loop-i.i c.args.words.now ++ word ∷ []) (drop (suc c.loop-i.i) c.args.words.now) (split_more c.args.words.now c.loop-i.i word is) (so_far.acted unset)

pub returns-clause-acts : goal.returns-clause-acts
returns-clause-acts g c = λ unset. record {
  start = g.S.Shelf.history c.args.shelf.now;
  begun = extends_same (g.S.Shelf.history c.args.shelf.now);
  acted =
      subst (λ (l : List (List ℕ)). IsActed (codes "remove") (TakesAway c.args.after (span_of (table c.args.mixed.now) (g.S.Shelf.history c.args.shelf.now) (g.S.Shelf.history c.loop-i.shelf))) l
      (record { old = g.T.Tree.history c.args.tree.now; new = g.T.Tree.history c.loop-i.tree; before = g.T.Tree.faults c.args.tree.now; after = g.T.Tree.faults c.loop-i.tree })
      (table c.args.mixed.now) (table c.loop-i.mixed) c.loop-i.lines.items c.loop-i.mixed.changed) (take_all c.loop-i.i c.args.words.now (omega (arith, c.loop-i-test.false, c.len-i-end.ensures))) (c.loop-i.invariant.so_far.acted unset);
}

pub returns-clause-lent : goal.returns-clause-lent
returns-clause-lent g c = keeps_lent false c.args.mixed.now c.loop-i.mixed c.loop-i.invariant.lends c.loop-i.invariant.texts.keeps

pub returns-clause-asked : goal.returns-clause-asked
returns-clause-asked g c = λ told.
    let first = g.S.Shelf.history c.args.shelf.now in
    let last = g.S.Shelf.history c.loop-i.shelf in
    let t = table c.args.mixed.now in
    asks_needed first last (AsksStore (span_of t first last)) c.loop-i.invariant.needed (keeps_store (span_of t first last) c.loop-i.parent c.loop-i.invariant.keeps told)
