use Rattle.std.proofs.Common.{List, Option, None, true, ◌≡◌, subst}
use Rattle.std.specs.Ordering.{eq_by_cmp}
use Rattle.std.proofs.lemmas.List.Filters.{dedup_is}
use Rattle.hg_ignore.specs.State.{Piece}
use Rattle.hg_listing.specs.Order.{whole_order}
use Rattle.hg_tree.specs.History as trees
use Rattle.hg_flat.specs.Asked.{AsksFor, IsAskedDir, IsDirIn}
use Rattle.hg_flat.specs.Course.{pieces_of}
use Rattle.hg_flat.specs.Listing.{Gives, IsUnknownIn}
use Rattle.hg_flat.specs.Passed.{ListsSince}
use Rattle.hg_flat.specs.Patterns.{needs_patterns}
use Rattle.hg_flat.proofs.others.list_others.Goals as goal

pub returns-clause-listed : goal.returns-clause-listed
returns-clause-listed g c =
    let old = g.T.Tree.history c.args.tree.now in
    let new = g.T.Tree.history c.add_others.new.tree in
    let kept = g.K.Entries.kept c.args.entries.now in
    rw c.of-rows.ensures
    record {
      whole = c.add_others.new.rows.items;
      listed =
          subst
          (λ (o : Option (List Piece)). ListsSince kept (g.K.Entries.known c.args.entries.now) (Gives c.args.wanted (pieces_of o)) old new (IsUnknownIn kept (trees.now old) None) c.args.rows.items c.add_others.new.rows.items)
          c.as_ref.ensures.value c.in_ok-add_others.ensures.listed;
      sorted = c.sort.new.self.items;
      moved = c.in_ok-sort.ensures.permutation;
      order = c.in_ok-sort.ensures.sorted;
      once = dedup_is (eq_by_cmp whole_order) c.sort.new.self.items c.dedup.new.self.items c.dedup.ensures.filtered;
    }

pub returns-in_err-add_others-clause-asked : goal.returns-in_err-add_others-clause-asked
returns-in_err-add_others-clause-asked g c = λ told since past are.
    let old = g.T.Tree.history c.args.tree.now in
    let new = g.T.Tree.history c.add_others.new.tree in
    subst (λ (o : Option (List Piece)). AsksFor (λ dir. (needs_patterns c.args.wanted ≡ true) × IsDirIn (IsAskedDir (g.K.Entries.known c.args.entries.now) c.args.wanted (pieces_of o)) since new None dir) old new)
    c.as_ref.ensures.value (c.add_others.ensures.asked told since past are)

pub returns-in_err-sort-clause-asked : goal.returns-in_err-sort-clause-asked
returns-in_err-sort-clause-asked g c = λ told since past are.
    let old = g.T.Tree.history c.args.tree.now in
    let new = g.T.Tree.history c.add_others.new.tree in
    subst (λ (o : Option (List Piece)). AsksFor (λ dir. (needs_patterns c.args.wanted ≡ true) × IsDirIn (IsAskedDir (g.K.Entries.known c.args.entries.now) c.args.wanted (pieces_of o)) since new None dir) old new)
    c.as_ref.ensures.value (c.add_others.ensures.asked told since past are)

pub returns-clause-asked : goal.returns-clause-asked
returns-clause-asked g c = λ told since past are.
    let old = g.T.Tree.history c.args.tree.now in
    let new = g.T.Tree.history c.add_others.new.tree in
    subst (λ (o : Option (List Piece)). AsksFor (λ dir. (needs_patterns c.args.wanted ≡ true) × IsDirIn (IsAskedDir (g.K.Entries.known c.args.entries.now) c.args.wanted (pieces_of o)) since new None dir) old new)
    c.as_ref.ensures.value (c.add_others.ensures.asked told since past are)
