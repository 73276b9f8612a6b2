use Rattle.std.proofs.Common.{◌≡◌, Bool, false, cond, inl, refl, sym, ap, subst, ◌∙◌}
use Rattle.std.specs.Option.{option_map}
use Rattle.hg_compare.specs.declared.letter.Letter.TheVariants as a_letter
use Rattle.hg_entry.specs.Entry.{stamp_view, view}
use Rattle.hg_flat.specs.Course.{IsFound}
use Rattle.hg_mtime.specs.Vouching.{vouches}
use Rattle.hg_tree.specs.History as trees
use Rattle.hg_walk.proofs.Finds.{if_some_is, noted_clean, noted_earned, noted_settled, vouched_letter}
use Rattle.hg_walk.proofs.finding.find.Goals as goal

pub returns-then-vouches-clause-found : goal.returns-then-vouches-clause-found
returns-then-vouches-clause-found g c = λ s.
    vouched_letter c.args.path.text.now (view c.args.entry.now) c.args.copied c.args.before.now (g.T.Tree.history c.args.tree.now) (g.S.Shelf.history c.args.shelf.now) (sym c.vouches.ensures ∙ c.if-vouches.true) s c.args.parent.now

pub returns-clause-found : goal.returns-clause-found
returns-clause-found g c = λ s store table reached right recorded stays keeps.
    subst (IsFound store s.id (trees.now (g.T.Tree.history c.args.tree.now)) c.args.path.text.now) (sym c.letter_of.ensures)
    (c.in_ok-looked.ensures.found s store reached.goes reached.told stays (keeps (sym c.vouches.ensures ∙ c.if-vouches.false)) reached.shown)

pub returns-clause-earned : goal.returns-clause-earned
returns-clause-earned g c =
    if_some_is (option_map stamp_view c.stamp_after.result) _
    (λ stamp is s store entry reached honest keeps clock.
    noted_earned store s (g.T.Tree.history c.args.tree.now) (g.T.Tree.history c.compared_letter.new.tree) (g.S.Shelf.history c.compared_letter.new.shelf) c.args.path.text.now c.args.before.now c.args.boundary c.in_ok-looked.looked
    stamp entry (c.in_ok-looked.ensures.same s store reached.goes keeps) (sym c.stamp_after.ensures ∙ is) c.compared_letter.ensures.tree_passes.past honest reached.told clock reached.shown)

pub returns-clause-noted : goal.returns-clause-noted
returns-clause-noted g c =
    if_some_is (option_map stamp_view c.stamp_after.result) _
    (λ stamp is.
    let unvouched : vouches (view c.args.entry.now) c.args.copied c.args.before.now ≡ false = sym c.vouches.ensures ∙ c.if-vouches.false in
    let clean = noted_clean c.in_ok-looked.looked c.args.before.now.mtime c.args.boundary stamp (sym c.stamp_after.ensures ∙ is) in
    record { clean = c.letter_of.ensures ∙ clean.0; unvouched = unvouched; is = clean.1 })

pub returns-clause-recorded : goal.returns-clause-recorded
returns-clause-recorded g c = λ s store reached stays keeps unvouched same.
    c.stamp_after.ensures
    ∙ noted_settled store s (g.T.Tree.history c.args.tree.now) (g.T.Tree.history c.compared_letter.new.tree) (g.S.Shelf.history c.compared_letter.new.shelf) c.args.path.text.now c.args.before.now c.args.boundary
    c.in_ok-looked.looked (c.in_ok-looked.ensures.same s store reached.goes keeps) c.compared_letter.ensures.tree_passes.past reached.told stays reached.shown
    ((c.in_ok-looked.ensures.found s store reached.goes reached.told stays keeps reached.shown).letter_is ∙ ap (λ (b : Bool). cond b a_letter.C a_letter.M) same)

pub returns-then-vouches-clause-needed : goal.returns-then-vouches-clause-needed
returns-then-vouches-clause-needed g c = λ s goes. inl refl

pub returns-in_err-looked-clause-needed : goal.returns-in_err-looked-clause-needed
returns-in_err-looked-clause-needed g c = c.compared_letter.ensures.needed

pub returns-clause-needed : goal.returns-clause-needed
returns-clause-needed g c = c.compared_letter.ensures.needed
