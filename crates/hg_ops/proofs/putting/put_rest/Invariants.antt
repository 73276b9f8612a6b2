use Rattle.std.proofs.Common.{ℕ, ◌≡◌, ◌-◌, ◌≤◌, List, [], ◌∷◌, length}
use Rattle.std.specs.Prelude.{IsTrue}
use Rattle.hg_base.specs.declared.stat.Kind.TheVariants as a_kind
use Rattle.hg_compare.specs.Same.{InPieces}
use Rattle.hg_compare.proofs.Counting.{IsWhole}
use Rattle.hg_ops.specs.Parts.{PutsPieces}
use Rattle.hg_ops.specs.Putting.{CanCopy, IsGrown}
use Rattle.hg_ops.proofs.OwnPuts.{HasPieces}
use Rattle.hg_tree.specs.declared.asked.Asked.{Asked}
use Rattle.hg_tree.specs.declared.asked.Asked.TheVariants as an_ask
use Rattle.hg_tree.specs.History.{History, Extends, IsOurs, now}
use Rattle.hg_tree.specs.Touched.{ChangesOnly}
use Rattle.hg_tree.specs.Moment.{Moment}
use Rattle.hg_ops.proofs.putting.put_rest.Given as goal

abbrev pub invariant-loop-place : goal.invariant-loop-place
invariant-loop-place g l = record {
  past : Extends (g.T.Tree.history l.initial.tree) (g.T.Tree.history l.tree);
  whole : IsWhole l.place l.stat.size;
  asked : IsTrue (g.T.Tree.history l.initial.tree).told → (before : List Asked)
      → InPieces l.first (an_ask.Read l.from.text.now) before (g.T.Tree.history l.initial.tree).asked → InPieces l.place (an_ask.Read l.from.text.now) before (g.T.Tree.history l.tree).asked;
  only : IsTrue (g.T.Tree.history l.initial.tree).told → ChangesOnly (l.to.text.now ∷ []) (g.T.Tree.history l.initial.tree) (g.T.Tree.history l.tree);
  pieces : (start : History) → (IsTrue start.told → PutsPieces l.from.text.now l.to.text.now l.stat 1 l.first start (g.T.Tree.history l.initial.tree)) → IsTrue start.told
      → HasPieces l.from.text.now l.to.text.now l.stat l.place start (g.T.Tree.history l.tree);
  grown : IsOurs (g.T.Tree.history l.initial.tree) (g.T.Tree.history l.tree) → (bytes : List ℕ) (start : Moment) → CanCopy l.from.text.now l.to.text.now l.stat bytes start → l.stat.kind ≡ a_kind.File
      → IsGrown l.to.text.now l.stat bytes start l.first (now (g.T.Tree.history l.initial.tree)) → IsGrown l.to.text.now l.stat bytes start l.place (now (g.T.Tree.history l.tree));
  still : g.T.Tree.faults l.tree ≡ g.T.Tree.faults l.initial.tree;
  within : l.place ≤ l.stat.size;
  later : l.first ≤ l.place;
  room : length l.room ≡ 65536;
}

abbrev pub decreases-loop-place : goal.decreases-loop-place
decreases-loop-place g l = l.stat.size - l.place
