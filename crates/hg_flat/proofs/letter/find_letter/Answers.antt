use Rattle.std.proofs.Common.{◌≡◌, Option, Some, refl, sym, ap, ◌∙◌}
use Rattle.std.specs.Prelude.{IsTrue}
use Rattle.std.proofs.lemmas.Result.{IfErr-weaker, IfOk-weaker, err_from_is_err_and, on_ok_weaker}
use Rattle.hg_compare.specs.declared.letter.Letter.{Letter}
use Rattle.hg_shelf.specs.History as shelves
use Rattle.hg_shelf.proofs.Histories as shelf
use Rattle.hg_tree.specs.History as trees
use Rattle.hg_tree.specs.Moment.{stat_at}
use Rattle.hg_tree.proofs.Stillness.{alike_between}
use Rattle.hg_flat.specs.Course.{Proceeds, MetParent, upto}
use Rattle.hg_flat.specs.First.{MetAt}
use Rattle.hg_flat.specs.Listing.{AsksRow, IsLeftRow, IsLetterFor}
use Rattle.hg_flat.specs.Met.{Status}
use Rattle.hg_flat.proofs.Asking.{asked_later, reads_behind}
use Rattle.hg_flat.proofs.Asks.{asks_nothing}
use Rattle.hg_flat.proofs.Going.{goes_on, goes_store}
use Rattle.hg_flat.proofs.Needing.{reads_after, reads_nothing}
use Rattle.hg_flat.specs.Stored.{AsksStore}
use Rattle.hg_listing.specs.declared.fault.StatusFault.{StatusFault}
use Rattle.hg_flat.proofs.Tracking.{found_moved, left_second}
use Rattle.hg_flat.proofs.letter.find_letter.Goals as goal

pub returns-clause-goes : goal.returns-clause-goes
returns-clause-goes g c =
    let old = g.T.Tree.history c.args.tree.now in
    let mid = g.T.Tree.history c.stat.new.self in
    let new = g.T.Tree.history c.letter_there.new.tree in
    let files = g.S.Shelf.history c.args.shelf.now in
    let later = g.S.Shelf.history c.letter_there.new.shelf in
    on_ok_weaker c.letter_there.result
    (λ on s goes agrees.
    on s (goes_on s old mid files files c.args.parent.now c.stat.ensures.passes (shelf.passes_same files) refl goes) agrees
    (λ told. ap (stat_at (trees.now mid)) (sym c.as_ref.ensures) ∙ sym (c.in_ok-there.ensures.found (sym c.stat.ensures.passes.past.told ∙ told)) ∙ c.in-Some.is))
    c.letter_there.ensures.goes

pub returns-clause-found : goal.returns-clause-found
returns-clause-found g c =
    let old = g.T.Tree.history c.args.tree.now in
    let mid = g.T.Tree.history c.stat.new.self in
    let new = g.T.Tree.history c.letter_there.new.tree in
    let files = g.S.Shelf.history c.letter_there.new.shelf in
    IfOk-weaker c.letter_there.result
    (λ (letter : Option Letter). (s : Status) (store : shelves.Files) → Proceeds (upto s mid (g.S.Shelf.history c.args.shelf.now)) c.args.parent.now → (IsTrue mid.told → stat_at (trees.now mid) c.args.kept.now.path ≡ Some c.in-Some.there)
    → IsLetterFor (IsLeftRow store c.args.wanted s.id new mid.last files s.shelf_old.last) store s.id (trees.now mid) c.args.wanted c.args.kept.now letter)
    (λ (letter : Option Letter). (s : Status) (store : shelves.Files) → Proceeds (upto s old (g.S.Shelf.history c.args.shelf.now)) c.args.parent.now
    → IsLetterFor (IsLeftRow store c.args.wanted s.id new old.last files s.shelf_old.last) store s.id (trees.now old) c.args.wanted c.args.kept.now letter)
    (λ letter found s store goes.
    found_moved (IsLeftRow store c.args.wanted s.id new mid.last files s.shelf_old.last) (IsLeftRow store c.args.wanted s.id new old.last files s.shelf_old.last) store s.id (trees.now mid) (trees.now old)
    c.args.wanted c.args.kept.now letter
    (left_second store c.args.wanted s.id old mid new c.stat.ensures.passes.past c.letter_there.ensures.tree_passes.past files s.shelf_old.last c.args.kept.now)
    (λ meets. alike_between old mid new c.args.kept.now.path c.stat.ensures.passes.past c.letter_there.ensures.tree_passes.past meets.own)
    (found s store
    (goes_on s old mid (g.S.Shelf.history c.args.shelf.now) (g.S.Shelf.history c.args.shelf.now) c.args.parent.now c.stat.ensures.passes (shelf.passes_same (g.S.Shelf.history c.args.shelf.now)) refl goes)
    (λ told. ap (stat_at (trees.now mid)) (sym c.as_ref.ensures) ∙ sym (c.in_ok-there.ensures.found (sym c.stat.ensures.passes.past.told ∙ told)) ∙ c.in-Some.is)))
    c.letter_there.ensures.found

pub returns-clause-asked : goal.returns-clause-asked
returns-clause-asked g c = λ asks agrees told.
    let old = g.T.Tree.history c.args.tree.now in
    let mid = g.T.Tree.history c.stat.new.self in
    let new = g.T.Tree.history c.letter_there.new.tree in
    let here : IsTrue mid.told = c.stat.ensures.passes.past.told ∙ told in
    reads_behind asks old mid new c.stat.ensures.passes.past (asks_nothing _ old mid (c.stat.ensures.asked told))
    (c.letter_there.ensures.asked asks agrees here (ap (stat_at (trees.now mid)) (sym c.as_ref.ensures) ∙ sym (c.in_ok-there.ensures.found told) ∙ c.in-Some.is))

pub returns-clause-unasked : goal.returns-clause-unasked
returns-clause-unasked g c = λ asks agrees never.
    let old = g.T.Tree.history c.args.tree.now in
    let mid = g.T.Tree.history c.stat.new.self in
    let new = g.T.Tree.history c.letter_there.new.tree in
    c.letter_there.ensures.unasked asks agrees
    (λ told. ap (stat_at (trees.now mid)) (sym c.as_ref.ensures) ∙ sym (c.in_ok-there.ensures.found (sym c.stat.ensures.passes.past.told ∙ told)) ∙ c.in-Some.is)
    (λ was. never (asked_later asks old mid new c.args.kept.now.path c.stat.ensures.passes.past was))

pub returns-clause-met : goal.returns-clause-met
returns-clause-met g c =
    let old = g.T.Tree.history c.args.tree.now in
    let mid = g.T.Tree.history c.stat.new.self in
    let new = g.T.Tree.history c.letter_there.new.tree in
    let files = g.S.Shelf.history c.args.shelf.now in
    let later = g.S.Shelf.history c.letter_there.new.shelf in
    IfErr-weaker c.letter_there.result
    (λ (fault : StatusFault). (s : Status) → Proceeds (upto s mid files) c.args.parent.now → AsksRow c.args.wanted c.args.kept.now s.asks → (IsTrue mid.told → stat_at (trees.now mid) c.args.kept.now.path ≡ Some c.in-Some.there)
    → MetParent (upto s new later) fault)
    (λ (fault : StatusFault). (s : Status) → Proceeds (upto s old files) c.args.parent.now → AsksRow c.args.wanted c.args.kept.now s.asks → MetParent (upto s new later) fault)
    (λ fault met s goes agrees.
    met s (goes_on s old mid files files c.args.parent.now c.stat.ensures.passes (shelf.passes_same files) refl goes) agrees
    (λ told. ap (stat_at (trees.now mid)) (sym c.as_ref.ensures) ∙ sym (c.in_ok-there.ensures.found (sym c.stat.ensures.passes.past.told ∙ told)) ∙ c.in-Some.is))
    c.letter_there.ensures.met

pub returns-clause-names : goal.returns-clause-names
returns-clause-names g c =
    let old = g.T.Tree.history c.args.tree.now in
    let mid = g.T.Tree.history c.stat.new.self in
    let new = g.T.Tree.history c.letter_there.new.tree in
    let files = g.S.Shelf.history c.args.shelf.now in
    let later = g.S.Shelf.history c.letter_there.new.shelf in
    IfErr-weaker c.letter_there.result
    (λ (fault : StatusFault). (s : Status) → Proceeds (upto s mid files) c.args.parent.now → AsksRow c.args.wanted c.args.kept.now s.asks → (IsTrue mid.told → stat_at (trees.now mid) c.args.kept.now.path ≡ Some c.in-Some.there)
    → MetAt (upto s new later) c.args.kept.now.path fault)
    (λ (fault : StatusFault). (s : Status) → Proceeds (upto s old files) c.args.parent.now → AsksRow c.args.wanted c.args.kept.now s.asks → MetAt (upto s new later) c.args.kept.now.path fault)
    (λ fault met s goes agrees.
    met s (goes_on s old mid files files c.args.parent.now c.stat.ensures.passes (shelf.passes_same files) refl goes) agrees
    (λ told. ap (stat_at (trees.now mid)) (sym c.as_ref.ensures) ∙ sym (c.in_ok-there.ensures.found (sym c.stat.ensures.passes.past.told ∙ told)) ∙ c.in-Some.is))
    c.letter_there.ensures.names

pub returns-clause-store : goal.returns-clause-store
returns-clause-store g c =
    let old = g.T.Tree.history c.args.tree.now in
    let mid = g.T.Tree.history c.stat.new.self in
    let new = g.T.Tree.history c.letter_there.new.tree in
    let files = g.S.Shelf.history c.args.shelf.now in
    let later = g.S.Shelf.history c.letter_there.new.shelf in
    IfErr-weaker c.letter_there.result
    (λ (fault : StatusFault). (s : Status) → Proceeds (upto s mid files) c.args.parent.now → AsksRow c.args.wanted c.args.kept.now s.asks → (IsTrue mid.told → stat_at (trees.now mid) c.args.kept.now.path ≡ Some c.in-Some.there)
    → IsTrue s.shelf_old.told → AsksStore (upto s new later))
    (λ (fault : StatusFault). (s : Status) → Proceeds (upto s old files) c.args.parent.now → AsksRow c.args.wanted c.args.kept.now s.asks → IsTrue s.shelf_old.told → AsksStore (upto s new later))
    (λ fault store s goes agrees.
    store s (goes_on s old mid files files c.args.parent.now c.stat.ensures.passes (shelf.passes_same files) refl goes) agrees
    (λ told. ap (stat_at (trees.now mid)) (sym c.as_ref.ensures) ∙ sym (c.in_ok-there.ensures.found (sym c.stat.ensures.passes.past.told ∙ told)) ∙ c.in-Some.is))
    c.letter_there.ensures.store

pub returns-in_err-there-clause-store : goal.returns-in_err-there-clause-store
returns-in_err-there-clause-store g c =
    let p = err_from_is_err_and c.from_residual.result c.from_residual.ensures.1 in
    let old = g.T.Tree.history c.args.tree.now in
    let mid = g.T.Tree.history c.stat.new.self in
    let files = g.S.Shelf.history c.args.shelf.now in
    rw p.1
    (λ s goes agrees told. goes_store s mid files c.args.parent.now (goes_on s old mid files files c.args.parent.now c.stat.ensures.passes (shelf.passes_same files) refl goes) told)

pub returns-in_default-clause-goes : goal.returns-in_default-clause-goes
returns-in_default-clause-goes g c = λ s goes agrees.
    let old = g.T.Tree.history c.args.tree.now in
    let mid = g.T.Tree.history c.stat.new.self in
    let files = g.S.Shelf.history c.args.shelf.now in
    goes_on s old mid files files c.args.parent.now c.stat.ensures.passes (shelf.passes_same files) refl goes

pub returns-clause-reads : goal.returns-clause-reads
returns-clause-reads g c = λ s goes agrees told.
    let old = g.T.Tree.history c.args.tree.now in
    let mid = g.T.Tree.history c.stat.new.self in
    let new = g.T.Tree.history c.letter_there.new.tree in
    let files = g.S.Shelf.history c.args.shelf.now in
    let later = g.S.Shelf.history c.letter_there.new.shelf in
    reads_after (upto s new later) old mid c.args.kept.now.path (asks_nothing _ old mid (c.stat.ensures.asked told))
    (c.letter_there.ensures.reads s (goes_on s old mid files files c.args.parent.now c.stat.ensures.passes (shelf.passes_same files) refl goes) agrees (c.stat.ensures.passes.past.told ∙ told)
    (ap (stat_at (trees.now mid)) (sym c.as_ref.ensures) ∙ sym (c.in_ok-there.ensures.found told) ∙ c.in-Some.is))

pub returns-then-not-kept-clause-reads : goal.returns-then-not-kept-clause-reads
returns-then-not-kept-clause-reads g c = λ s goes agrees told.
    let old = g.T.Tree.history c.args.tree.now in reads_nothing (upto s old (g.S.Shelf.history c.args.shelf.now)) old c.args.kept.now.path refl

pub returns-then-not-wants_tracked-clause-reads : goal.returns-then-not-wants_tracked-clause-reads
returns-then-not-wants_tracked-clause-reads g c = λ s goes agrees told.
    let old = g.T.Tree.history c.args.tree.now in reads_nothing (upto s old (g.S.Shelf.history c.args.shelf.now)) old c.args.kept.now.path refl

pub returns-in_default-clause-reads : goal.returns-in_default-clause-reads
returns-in_default-clause-reads g c = λ s goes agrees told.
    let old = g.T.Tree.history c.args.tree.now in
    let mid = g.T.Tree.history c.stat.new.self in
    reads_nothing (upto s mid (g.S.Shelf.history c.args.shelf.now)) old c.args.kept.now.path (asks_nothing _ old mid (c.stat.ensures.asked told))

pub returns-in_err-there-clause-reads : goal.returns-in_err-there-clause-reads
returns-in_err-there-clause-reads g c = λ s goes agrees told.
    let old = g.T.Tree.history c.args.tree.now in
    let mid = g.T.Tree.history c.stat.new.self in
    reads_nothing (upto s mid (g.S.Shelf.history c.args.shelf.now)) old c.args.kept.now.path (asks_nothing _ old mid (c.stat.ensures.asked told))
