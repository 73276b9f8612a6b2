-- What stood at the path goes, and the directory that it stood in has the time.
use Rattle.std.proofs.Common.{sym}
use Rattle.std.specs.BTreeMap.{get_by_text}
use Rattle.hg_tree.proofs.Making.{stands_above, unlinked, unlinked_alone}
use Rattle.hg_tree.proofs.Parents.{parent_joined}
use Rattle.hg_tree.proofs.own.unlink.Goals as goal

pub restore-requires-2 : goal.restore-requires-2
restore-requires-2 c =
    stands_above c.args.path.text.now c.args.time (get_by_text c.args.things.now) (get_by_text c.restore.new.things) c.restore.ensures c.requires.rooted c.requires.there c.in-Some.dir.text.now (parent_joined _ _ c.args.path.is_path c.in-Some.ensures.joined)

pub returns-in_default : goal.returns-in_default
returns-in_default c = unlinked_alone c.args.path.text.now c.args.time (get_by_text c.args.things.now) (get_by_text c.restore.new.things) c.restore.ensures (sym c.in_default.ensures.parent)

pub returns : goal.returns
returns c =
    unlinked c.args.path.text.now c.args.time (get_by_text c.args.things.now) (get_by_text c.restore.new.things) c.restore.ensures c.in-Some.dir.text.now (sym c.in-Some.ensures.parent)
    (parent_joined _ _ c.args.path.is_path c.in-Some.ensures.joined) (get_by_text c.restore-2.new.things) c.restore-2.ensures
