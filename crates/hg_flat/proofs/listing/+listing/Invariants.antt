use Rattle.std.proofs.Common.{◌≡◌, ◌+◌, ◌-◌, ◌*◌, IsTrue, length, take, option_map}
use Rattle.hg_ignore.specs.Asked.{state_asked}
use Rattle.hg_tree.specs.History.{History, Passes, now}
use Rattle.hg_flat.specs.Asked.{AsksFor, IsAskedDir, IsDirAmong}
use Rattle.hg_flat.specs.Listing.{Gives, IsUnknownAmong}
use Rattle.hg_flat.specs.Passed.{AreKnown, ListsFormed}
use Rattle.hg_flat.specs.Serving.{IsDirAt, IsUnknownAt}
use Rattle.hg_flat.proofs.Rooms.{room}
use Rattle.hg_flat.proofs.listing.+listing.Given as goal

-- a listing goes down: each path is longer than the directory in which it stands
abbrev pub decreases-look : goal.decreases-look
decreases-look g l = 4 * (65536 - length l.path.text.now) + 4

abbrev pub decreases-go_in : goal.decreases-go_in
decreases-go_in g l = 4 * (65536 - length l.dir.text.now) + 3

abbrev pub decreases-visit : goal.decreases-visit
decreases-visit g l = 4 * room (option_map (λ d. d.text.now) l.dir) + 2

abbrev pub decreases-look_each : goal.decreases-look_each
decreases-look_each g l = 4 * room (option_map (λ d. d.text.now) l.dir) + 1

abbrev pub decreases-look_nodes : goal.decreases-look_nodes
decreases-look_nodes g l = 4 * (65536 - length l.dir.text.now) + 1

-- the names so far are looked at
abbrev pub invariant-look_each-loop-name : goal.invariant-look_each-loop-name
invariant-look_each-loop-name g l = record {
  passes : Passes (g.T.Tree.history l.initial.tree) (g.T.Tree.history l.tree);
  listed : ListsFormed (g.K.Entries.kept l.entries) (g.K.Entries.known l.entries) (Gives l.wanted (state_asked l.initial.matcher)) (g.T.Tree.history l.initial.tree) (g.T.Tree.history l.tree)
      (IsUnknownAmong (g.K.Entries.kept l.entries) (now (g.T.Tree.history l.initial.tree)) (option_map (λ d. d.text.now) l.dir) (take l.name-index l.names)) l.initial.rows.items l.rows.items;
  asked : IsTrue (g.T.Tree.history l.initial.tree).told
      → (since : History) → Passes since (g.T.Tree.history l.initial.tree) → AreKnown (g.K.Entries.known l.entries) (g.T.Tree.history l.initial.tree) since.last
      → AsksFor (IsDirAmong (IsAskedDir (g.K.Entries.known l.entries) l.wanted (state_asked l.initial.matcher)) since (g.T.Tree.history l.tree) (option_map (λ d. d.text.now) l.dir) (take l.name-index l.names))
      (g.T.Tree.history l.initial.tree) (g.T.Tree.history l.tree);
  same : state_asked l.matcher ≡ state_asked l.initial.matcher;
  still : g.T.Tree.faults l.tree ≡ g.T.Tree.faults l.initial.tree;
}

-- the nodes so far are looked at
abbrev pub invariant-look_nodes-loop-at : goal.invariant-look_nodes-loop-at
invariant-look_nodes-loop-at g l = record {
  passes : Passes (g.T.Tree.history l.initial.tree) (g.T.Tree.history l.tree);
  listed : ListsFormed (g.K.Entries.kept l.entries) (g.K.Entries.known l.entries) (Gives l.wanted (state_asked l.initial.matcher)) (g.T.Tree.history l.initial.tree) (g.T.Tree.history l.tree)
      (IsUnknownAt (g.K.Entries.kept l.entries) (now (g.T.Tree.history l.initial.tree)) l.dir.text.now (take l.at (g.K.Entries.known l.entries).nodes)) l.initial.rows.items l.rows.items;
  asked : IsTrue (g.T.Tree.history l.initial.tree).told
      → (since : History) → Passes since (g.T.Tree.history l.initial.tree) → AreKnown (g.K.Entries.known l.entries) (g.T.Tree.history l.initial.tree) since.last
      → AsksFor (IsDirAt (IsAskedDir (g.K.Entries.known l.entries) l.wanted (state_asked l.initial.matcher)) since (g.T.Tree.history l.tree) l.dir.text.now (take l.at (g.K.Entries.known l.entries).nodes))
      (g.T.Tree.history l.initial.tree) (g.T.Tree.history l.tree);
  same : state_asked l.matcher ≡ state_asked l.initial.matcher;
  still : g.T.Tree.faults l.tree ≡ g.T.Tree.faults l.initial.tree;
}
