use Rattle.std.proofs.Common.{sym, ◌∙◌, ap}
use Rattle.std.specs.BTreeMap.{get_by_text}
use Rattle.hg_shelf.specs.Memory.{empty, replayed}
use Rattle.hg_shelf.proofs.CrashPlaced.{placed_all, placed_is, entry_placed, fresh_placed, sure_placed, only_from}
use Rattle.hg_shelf.proofs.Replay.{same_maps}
use Rattle.hg_shelf.proofs.crash.shelf_of.Goals as goal

pub loop-name-preserved : goal.loop-name-preserved
loop-name-preserved c =
    let made = c.in_ok-place.ensures.ok in
    record {
      fresh = fresh_placed c.loop-name.shelf c.place.new.self _ _ made c.loop-name.invariant.fresh;
      files = entry_placed c.loop-name.shelf c.place.new.self (c.in-Some.name.now, c.in-Some.bytes.now) _ _ c.loop-name.name-iterator c.next.new.self c.args.files.now.entries made
          c.in-Some.ensures.steps c.as_str.ensures.value c.as_bytes.ensures c.loop-name.invariant.files;
      sure = sure_placed c.loop-name.shelf c.place.new.self _ _ made c.loop-name.invariant.sure;
    }

pub returns : goal.returns
returns c =
    let entries = c.args.files.now.entries in
    let shown = sym (ap (λ l. placed_all l (replayed c.loop-name.shelf.changes empty).files) c.in-None.ensures.steps.0) ∙ c.loop-name.invariant.files in
    only_from (get_by_text c.args.files.now) c.loop-name.shelf c.loop-name.invariant.fresh
    (shown ∙ same_maps (placed_all entries empty.files) (get_by_text c.args.files.now) (λ at. placed_is entries at c.iter-name-items.ensures.ordered))
    c.loop-name.invariant.sure
