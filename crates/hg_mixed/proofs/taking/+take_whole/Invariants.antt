use Rattle.hg_docket.specs.Docket as docket
use Rattle.hg_image.specs.View.{dir_of}
use Rattle.hg_mixed.specs.Parted.{IsMoved, image_rows}
use Rattle.hg_mixed.specs.Taken.{AreBared, CoversLess, IsBare}
use Rattle.hg_mixed.proofs.taking.+take_whole.Given as goal

-- a list has one level more than those of its nodes
abbrev pub decreases-take_whole : goal.decreases-take_whole
decreases-take_whole l = l.list.depth

-- what stands right in the directory isn't covered, nor what stands below the nodes so far
abbrev pub invariant-loop-i : goal.invariant-loop-i
invariant-loop-i l =
    (IsMoved (docket.view l.image.docket) (image_rows l.image) l.fn.left l.fn.memory l.left l.memory)
    × (CoversLess l.fn.left l.left) × (IsBare l.left (dir_of l.list)) × (AreBared l.list l.i l.left)
