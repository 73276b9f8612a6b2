use Rattle.std.proofs.Common.{◌≡◌, true, List, ℕ, refl, sym, ap, ◌∙◌, subst, arith}
use Rattle.std.specs.Prelude.{IsTrue}
use Rattle.std.proofs.lemmas.Result.{err_from_is_err_and}
use Rattle.hg_compare.specs.Same.{Reads}
use Rattle.hg_compare.specs.Tracked.{is_file_or_link}
use Rattle.hg_tree.specs.History as trees
use Rattle.hg_tree.specs.Moment.{Moment}
use Rattle.hg_flat.specs.Course.{IsFound, MetBy, upto}
use Rattle.hg_flat.specs.Listing.{IsLeftRow}
use Rattle.hg_flat.specs.Parent.{WasAsked}
use Rattle.hg_flat.proofs.Asking.{asked_later, asked_now, asks_there}
use Rattle.hg_flat.proofs.Asks.{reads_pieces}
use Rattle.hg_flat.proofs.Faces.{stays_shown}
use Rattle.hg_flat.proofs.Letters.{compared_by, found_marked, found_read, plain_there, there_is}
use Rattle.hg_flat.proofs.Meeting.{met_at, met_compared}
use Rattle.hg_flat.proofs.Needing.{reads_either, reads_nothing}
use Rattle.hg_flat.proofs.letter.letter_there.Goals as goal

pub returns-in-Some-clause-found : goal.returns-in-Some-clause-found
returns-in-Some-clause-found g c = λ s store goes shown.
    found_marked (IsLeftRow store c.args.wanted s.id (g.T.Tree.history c.args.tree.now) (g.T.Tree.history c.args.tree.now).last (g.S.Shelf.history c.args.shelf.now) s.shelf_old.last) store s.id
    (trees.now (g.T.Tree.history c.args.tree.now)) c.args.wanted c.args.kept.now c.args.there.now c.in-Some.letter c.requires (λ meets. shown meets.own.told) (sym c.marked_letter.ensures ∙ c.in-Some.is)

pub returns-in_err-looked-clause-met : goal.returns-in_err-looked-clause-met
returns-in_err-looked-clause-met g c =
    let p = err_from_is_err_and c.from_residual.result c.from_residual.ensures.1 in
    let old = g.T.Tree.history c.args.tree.now in
    let new = g.T.Tree.history c.compared_letter.new.tree in
    let path = c.args.kept.now.path in
    let plain = plain_there c.args.kept.now c.args.there.now c.requires (sym c.marked_letter.ensures ∙ c.in_default.is) in
    let compared = compared_by c.args.wanted c.args.kept.now (sym c.wants_bytes.ensures ∙ c.if-not-wants_bytes.false) plain.1 in
    rw (p.1, p.2)
    (λ s goes agrees shown.
    let stands : IsTrue old.told → is_file_or_link ((trees.now old).things path) ≡ true = λ told. there_is (trees.now old) path c.args.there.now (shown told) ∙ plain.0 in
    met_compared s old new (g.S.Shelf.history c.compared_letter.new.shelf) path c.args.there.now goes.tree c.compared_letter.ensures.tree_passes
    (λ told. asks_there c.args.wanted c.args.kept.now s.asks agrees compared (trees.now old) (stands told))
    (asked_later s.asks s.tree_old old new path goes.tree.past (asked_now s.asks old new path c.compared_letter.ensures.tree_passes.past (asks_there c.args.wanted c.args.kept.now s.asks agrees compared) stands))
    shown c.in_err-looked.field-0.0
    (subst (λ (p : List ℕ). MetBy (upto s new (g.S.Shelf.history c.compared_letter.new.shelf)) p c.args.there.now c.in_err-looked.field-0.0) c.as_ref.ensures
    (c.in_err-looked.ensures.met s goes)))

pub returns-in_err-looked-clause-names : goal.returns-in_err-looked-clause-names
returns-in_err-looked-clause-names g c =
    let p = err_from_is_err_and c.from_residual.result c.from_residual.ensures.1 in
    let old = g.T.Tree.history c.args.tree.now in
    let new = g.T.Tree.history c.compared_letter.new.tree in
    let path = c.args.kept.now.path in
    let plain = plain_there c.args.kept.now c.args.there.now c.requires (sym c.marked_letter.ensures ∙ c.in_default.is) in
    let compared = compared_by c.args.wanted c.args.kept.now (sym c.wants_bytes.ensures ∙ c.if-not-wants_bytes.false) plain.1 in
    rw (p.1, p.2)
    (λ s goes agrees shown.
    let stands : IsTrue old.told → is_file_or_link ((trees.now old).things path) ≡ true = λ told. there_is (trees.now old) path c.args.there.now (shown told) ∙ plain.0 in
    met_at s old new (g.S.Shelf.history c.compared_letter.new.shelf) path c.args.there.now goes.tree c.compared_letter.ensures.tree_passes
    (λ told. asks_there c.args.wanted c.args.kept.now s.asks agrees compared (trees.now old) (stands told))
    (asked_later s.asks s.tree_old old new path goes.tree.past (asked_now s.asks old new path c.compared_letter.ensures.tree_passes.past (asks_there c.args.wanted c.args.kept.now s.asks agrees compared) stands))
    shown c.in_err-looked.field-0.0
    (subst (λ (p : List ℕ). MetBy (upto s new (g.S.Shelf.history c.compared_letter.new.shelf)) p c.args.there.now c.in_err-looked.field-0.0) c.as_ref.ensures
    (c.in_err-looked.ensures.met s goes)))

pub returns-in_err-looked-clause-asked : goal.returns-in_err-looked-clause-asked
returns-in_err-looked-clause-asked g c = λ asks agrees told shown.
    let old = g.T.Tree.history c.args.tree.now in
    let new = g.T.Tree.history c.compared_letter.new.tree in
    let plain = plain_there c.args.kept.now c.args.there.now c.requires (sym c.marked_letter.ensures ∙ c.in_default.is) in
    let compared = compared_by c.args.wanted c.args.kept.now (sym c.wants_bytes.ensures ∙ c.if-not-wants_bytes.false) plain.1 in
    reads_pieces (WasAsked asks old new) c.args.there.now.size c.args.kept.now.path old new
    (asked_now asks old new c.args.kept.now.path c.compared_letter.ensures.tree_passes.past (asks_there c.args.wanted c.args.kept.now asks agrees compared)
    (λ _. there_is (trees.now old) c.args.kept.now.path c.args.there.now shown ∙ plain.0))
    (subst (λ (p : List ℕ). Reads c.args.there.now.size p old new) c.as_ref.ensures (c.compared_letter.ensures.asked told))

pub returns-clause-found : goal.returns-clause-found
returns-clause-found g c = λ s store goes shown.
    let plain = plain_there c.args.kept.now c.args.there.now c.requires (sym c.marked_letter.ensures ∙ c.in_default.is) in
    found_read (IsLeftRow store c.args.wanted s.id (g.T.Tree.history c.compared_letter.new.tree) (g.T.Tree.history c.args.tree.now).last (g.S.Shelf.history c.compared_letter.new.shelf) s.shelf_old.last) store s.id
    (trees.now (g.T.Tree.history c.args.tree.now)) c.args.wanted c.args.kept.now c.args.there.now c.letter_of.result c.requires
    (λ meets. shown (sym c.compared_letter.ensures.tree_passes.past.told ∙ meets.own.told)) (sym c.marked_letter.ensures ∙ c.in_default.is)
    (λ meets.
    let told = sym c.compared_letter.ensures.tree_passes.past.told ∙ meets.own.told in
    subst (λ (p : List ℕ). IsFound store s.id (trees.now (g.T.Tree.history c.args.tree.now)) p c.letter_of.result) c.as_ref.ensures
    (subst (IsFound store s.id (trees.now (g.T.Tree.history c.args.tree.now)) c.as_ref.result.text.now) (sym c.letter_of.ensures)
    (c.in_ok-looked.ensures.found s store goes told
    (stays_shown (g.T.Tree.history c.args.tree.now) (g.T.Tree.history c.compared_letter.new.tree) c.as_ref.result.text.now (rw c.as_ref.ensures meets.own))
    (rw c.as_ref.ensures
    (meets.row (record {
      compared = compared_by c.args.wanted c.args.kept.now (sym c.wants_bytes.ensures ∙ c.if-not-wants_bytes.false) plain.1;
      there =
          ap (λ (m : Moment). is_file_or_link (m.things c.args.kept.now.path)) (c.compared_letter.ensures.tree_passes.past.stay (g.T.Tree.history c.args.tree.now).last (omega arith))
          ∙ there_is (trees.now (g.T.Tree.history c.args.tree.now)) c.args.kept.now.path c.args.there.now (shown told) ∙ plain.0;
    })))
    (rw c.as_ref.ensures (shown told)))))

pub returns-clause-asked : goal.returns-clause-asked
returns-clause-asked g c = λ asks agrees told shown.
    let old = g.T.Tree.history c.args.tree.now in
    let new = g.T.Tree.history c.compared_letter.new.tree in
    let plain = plain_there c.args.kept.now c.args.there.now c.requires (sym c.marked_letter.ensures ∙ c.in_default.is) in
    let compared = compared_by c.args.wanted c.args.kept.now (sym c.wants_bytes.ensures ∙ c.if-not-wants_bytes.false) plain.1 in
    reads_pieces (WasAsked asks old new) c.args.there.now.size c.args.kept.now.path old new
    (asked_now asks old new c.args.kept.now.path c.compared_letter.ensures.tree_passes.past (asks_there c.args.wanted c.args.kept.now asks agrees compared)
    (λ _. there_is (trees.now old) c.args.kept.now.path c.args.there.now shown ∙ plain.0))
    (subst (λ (p : List ℕ). Reads c.args.there.now.size p old new) c.as_ref.ensures (c.compared_letter.ensures.asked told))

pub returns-in_err-looked-clause-unasked : goal.returns-in_err-looked-clause-unasked
returns-in_err-looked-clause-unasked g c = λ asks agrees shown never.
    let old = g.T.Tree.history c.args.tree.now in
    let new = g.T.Tree.history c.compared_letter.new.tree in
    let plain = plain_there c.args.kept.now c.args.there.now c.requires (sym c.marked_letter.ensures ∙ c.in_default.is) in
    let compared = compared_by c.args.wanted c.args.kept.now (sym c.wants_bytes.ensures ∙ c.if-not-wants_bytes.false) plain.1 in
    absurd (never
    (asked_now asks old new c.args.kept.now.path c.compared_letter.ensures.tree_passes.past (asks_there c.args.wanted c.args.kept.now asks agrees compared)
    (λ told. there_is (trees.now old) c.args.kept.now.path c.args.there.now (shown told) ∙ plain.0)))

pub returns-clause-unasked : goal.returns-clause-unasked
returns-clause-unasked g c = λ asks agrees shown never.
    let old = g.T.Tree.history c.args.tree.now in
    let new = g.T.Tree.history c.compared_letter.new.tree in
    let plain = plain_there c.args.kept.now c.args.there.now c.requires (sym c.marked_letter.ensures ∙ c.in_default.is) in
    let compared = compared_by c.args.wanted c.args.kept.now (sym c.wants_bytes.ensures ∙ c.if-not-wants_bytes.false) plain.1 in
    absurd (never
    (asked_now asks old new c.args.kept.now.path c.compared_letter.ensures.tree_passes.past (asks_there c.args.wanted c.args.kept.now asks agrees compared)
    (λ told. there_is (trees.now old) c.args.kept.now.path c.args.there.now (shown told) ∙ plain.0)))

pub returns-clause-goes : goal.returns-clause-goes
returns-clause-goes g c = λ s goes agrees shown.
    let old = g.T.Tree.history c.args.tree.now in
    let new = g.T.Tree.history c.compared_letter.new.tree in
    let plain = plain_there c.args.kept.now c.args.there.now c.requires (sym c.marked_letter.ensures ∙ c.in_default.is) in
    let compared = compared_by c.args.wanted c.args.kept.now (sym c.wants_bytes.ensures ∙ c.if-not-wants_bytes.false) plain.1 in
    c.in_ok-looked.ensures.goes s goes
    (subst (WasAsked s.asks s.tree_old new) (sym c.as_ref.ensures)
    (asked_later s.asks s.tree_old old new c.args.kept.now.path goes.tree.past
    (asked_now s.asks old new c.args.kept.now.path c.compared_letter.ensures.tree_passes.past (asks_there c.args.wanted c.args.kept.now s.asks agrees compared)
    (λ told. there_is (trees.now old) c.args.kept.now.path c.args.there.now (shown told) ∙ plain.0))))

pub returns-in_err-looked-clause-store : goal.returns-in_err-looked-clause-store
returns-in_err-looked-clause-store g c =
    let p = err_from_is_err_and c.from_residual.result c.from_residual.ensures.1 in
    let old = g.T.Tree.history c.args.tree.now in
    let new = g.T.Tree.history c.compared_letter.new.tree in
    let plain = plain_there c.args.kept.now c.args.there.now c.requires (sym c.marked_letter.ensures ∙ c.in_default.is) in
    let compared = compared_by c.args.wanted c.args.kept.now (sym c.wants_bytes.ensures ∙ c.if-not-wants_bytes.false) plain.1 in
    rw p.1
    (λ s goes agrees shown told.
    c.in_err-looked.ensures.store s goes
    (subst (WasAsked s.asks s.tree_old new) (sym c.as_ref.ensures)
    (asked_later s.asks s.tree_old old new c.args.kept.now.path goes.tree.past
    (asked_now s.asks old new c.args.kept.now.path c.compared_letter.ensures.tree_passes.past (asks_there c.args.wanted c.args.kept.now s.asks agrees compared)
    (λ told. there_is (trees.now old) c.args.kept.now.path c.args.there.now (shown told) ∙ plain.0))))
    told)

pub returns-in-Some-clause-reads : goal.returns-in-Some-clause-reads
returns-in-Some-clause-reads g c = λ s goes agrees told shown.
    let old = g.T.Tree.history c.args.tree.now in reads_nothing (upto s old (g.S.Shelf.history c.args.shelf.now)) old c.args.kept.now.path refl

pub returns-then-not-wants_bytes-clause-reads : goal.returns-then-not-wants_bytes-clause-reads
returns-then-not-wants_bytes-clause-reads g c = λ s goes agrees told shown.
    let old = g.T.Tree.history c.args.tree.now in reads_nothing (upto s old (g.S.Shelf.history c.args.shelf.now)) old c.args.kept.now.path refl

pub returns-in_err-looked-clause-reads : goal.returns-in_err-looked-clause-reads
returns-in_err-looked-clause-reads g c = λ s goes agrees told shown.
    let old = g.T.Tree.history c.args.tree.now in
    let new = g.T.Tree.history c.compared_letter.new.tree in
    let later = g.S.Shelf.history c.compared_letter.new.shelf in
    let path = c.args.kept.now.path in
    let plain = plain_there c.args.kept.now c.args.there.now c.requires (sym c.marked_letter.ensures ∙ c.in_default.is) in
    let compared = compared_by c.args.wanted c.args.kept.now (sym c.wants_bytes.ensures ∙ c.if-not-wants_bytes.false) plain.1 in
    reads_either s old new later path c.args.there.now goes.tree c.compared_letter.ensures.tree_passes
    (λ told. asks_there c.args.wanted c.args.kept.now s.asks agrees compared (trees.now old) (there_is (trees.now old) path c.args.there.now shown ∙ plain.0)) (λ told. shown)
    (subst (λ (p : List ℕ). Reads c.args.there.now.size p old new) c.as_ref.ensures (c.compared_letter.ensures.asked told)) g.T.Tree.history c.compared_letter.new.tree c.args.tree.now refl refl
    ((rw c.as_ref.ensures at c.compared_letter.ensures.needed) s goes)

pub returns-clause-reads : goal.returns-clause-reads
returns-clause-reads g c = λ s goes agrees told shown.
    let old = g.T.Tree.history c.args.tree.now in
    let new = g.T.Tree.history c.compared_letter.new.tree in
    let later = g.S.Shelf.history c.compared_letter.new.shelf in
    let path = c.args.kept.now.path in
    let plain = plain_there c.args.kept.now c.args.there.now c.requires (sym c.marked_letter.ensures ∙ c.in_default.is) in
    let compared = compared_by c.args.wanted c.args.kept.now (sym c.wants_bytes.ensures ∙ c.if-not-wants_bytes.false) plain.1 in
    reads_either s old new later path c.args.there.now goes.tree c.compared_letter.ensures.tree_passes
    (λ told. asks_there c.args.wanted c.args.kept.now s.asks agrees compared (trees.now old) (there_is (trees.now old) path c.args.there.now shown ∙ plain.0)) (λ told. shown)
    (subst (λ (p : List ℕ). Reads c.args.there.now.size p old new) c.as_ref.ensures (c.compared_letter.ensures.asked told)) g.T.Tree.history c.compared_letter.new.tree c.args.tree.now refl refl
    ((rw c.as_ref.ensures at c.compared_letter.ensures.needed) s goes)
