use Rattle.std.specs.Prelude.{OnOk}
use Rattle.std.proofs.Common.{List, None, option_map, refl, subst, sym, true, ◌≡◌}
use Rattle.hg_ignore.specs.State.{Piece}
use Rattle.hg_tree.specs.History as trees
use Rattle.hg_tree.specs.Still.{Untouched}
use Rattle.hg_flat.specs.Asked.{AsksFor, IsAskedDir, IsDirIn}
use Rattle.hg_flat.specs.Course.{pieces_of}
use Rattle.hg_flat.specs.Listing.{Gives, IsUnknownIn}
use Rattle.hg_flat.specs.Passed.{ListsSince}
use Rattle.hg_flat.specs.Patterns.{needs_patterns}
use Rattle.hg_flat.proofs.Asks.{asks_none, asks_weaker}
use Rattle.hg_flat.proofs.Ignoring.{lists_unneeded}
use Rattle.hg_flat.proofs.others.add_others.Goals as goal

pub returns-in_default-clause-listed : goal.returns-in_default-clause-listed
returns-in_default-clause-listed g c = λ start are serve.
    let old = g.T.Tree.history c.args.tree.now in
    let kept = g.K.Entries.kept c.args.entries.now in
    lists_unneeded kept c.args.wanted (pieces_of (option_map (λ i. i.now) c.args.ignore)) (Untouched old start) (IsUnknownIn kept (trees.now old) None) c.args.rows.now.items
    (rw c.in_default.is at c.requires)

pub returns-in_default-clause-asked : goal.returns-in_default-clause-asked
returns-in_default-clause-asked g c = λ told since past are.
    let old = g.T.Tree.history c.args.tree.now in
    asks_none (λ dir. (needs_patterns c.args.wanted ≡ true) × IsDirIn (IsAskedDir (g.K.Entries.known c.args.entries.now) c.args.wanted (pieces_of (option_map (λ i. i.now) c.args.ignore))) since old None dir) old old refl

pub returns-in_err-matcher-clause-asked : goal.returns-in_err-matcher-clause-asked
returns-in_err-matcher-clause-asked g c = λ told since past are.
    let old = g.T.Tree.history c.args.tree.now in
    asks_none (λ dir. (needs_patterns c.args.wanted ≡ true) × IsDirIn (IsAskedDir (g.K.Entries.known c.args.entries.now) c.args.wanted (pieces_of (option_map (λ i. i.now) c.args.ignore))) since old None dir) old old refl

pub returns-clause-listed : goal.returns-clause-listed
returns-clause-listed g c =
    let old = g.T.Tree.history c.args.tree.now in
    let new = g.T.Tree.history c.visit.new.tree in
    let kept = g.K.Entries.kept c.args.entries.now in
    rw c.in-Some.is
    (subst
    (λ (s : List Piece). OnOk c.visit.result
    (ListsSince kept (g.K.Entries.known c.args.entries.now) (Gives c.args.wanted s) old new (IsUnknownIn kept (trees.now old) None) c.args.rows.now.items c.visit.new.rows.items))
    c.in_ok-matcher.ensures c.visit.ensures.listed)

pub returns-clause-asked : goal.returns-clause-asked
returns-clause-asked g c = λ told since past are.
    let old = g.T.Tree.history c.args.tree.now in
    let new = g.T.Tree.history c.visit.new.tree in
    rw c.in-Some.is
    (asks_weaker (IsDirIn (IsAskedDir (g.K.Entries.known c.args.entries.now) c.args.wanted c.in-Some.ignore.now) since new None)
    (λ dir. (needs_patterns c.args.wanted ≡ true) × IsDirIn (IsAskedDir (g.K.Entries.known c.args.entries.now) c.args.wanted c.in-Some.ignore.now) since new None dir) old new
    (λ dir within. (sym (rw c.in-Some.is at c.requires), within))
    (subst (λ (s : List Piece). AsksFor (IsDirIn (IsAskedDir (g.K.Entries.known c.args.entries.now) c.args.wanted s) since new None) old new) c.in_ok-matcher.ensures (c.visit.ensures.asked told since past are)))
