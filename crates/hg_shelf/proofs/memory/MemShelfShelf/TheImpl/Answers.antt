-- What the trait says of each call follows from the whole state that the call leaves.
use Rattle.std.proofs.Common.{◌≡◌, length, inr}
use Rattle.std.proofs.lemmas.Result.{on_err_weaker, on_ok_weaker}
use Rattle.hg_base.specs.Reads.{ReadsBytes}
use Rattle.hg_shelf.specs.Reads.{size_of}
use Rattle.hg_shelf.specs.Rules.{Writes, Syncs, SyncsNames, Renames, Removes}
use Rattle.hg_shelf.specs.declared.asked.Asked.TheVariants as an_ask
use Rattle.hg_shelf.specs.declared.outside.Step.TheVariants as a_step
use Rattle.hg_shelf.proofs.Asking.{asks, unasked, went}
use Rattle.hg_shelf.proofs.Courses.{acts_own, found_of, goes_acted, goes_of, ours_acted, passes_failed, passes_of, refusals_acted, waits_of}
use Rattle.hg_shelf.proofs.Locking.{calls_lock, calls_unlock, locks, notes_lock, notes_unlock, refusals_unlock, unlocks}
use Rattle.hg_shelf.proofs.Rules.{meets_removed, meets_renamed, meets_synced, meets_synced_names, meets_wrote}
use Rattle.hg_shelf.proofs.memory.MemShelfShelf.TheImpl.Goals as goal

pub size-tells : goal.size-tells
size-tells c =
    let went = went (an_ask.Size c.args.name.now) c.args.self.now c.new.self.now c.result c.ensures.answered c.ensures.failed in
    record {
      passes = passes_of c.args.self.now c.new.self.now went.grew went.ours went.locks;
      kept = goes_of c.args.self.now c.new.self.now went.grew;
      asked = λ told. asks (an_ask.Size c.args.name.now) c.args.self.now c.new.self.now c.result c.ensures.answered c.ensures.failed;
      found = λ told. found_of (an_ask.Size c.args.name.now) c.args.self.now c.new.self.now c.result (λ files size. size ≡ size_of (files c.args.name.now)) c.ensures.answered c.ensures.found;
      held = went.refusals;
      cause = c.ensures.cause;
    }

pub read_at-tells : goal.read_at-tells
read_at-tells c =
    let went = went (an_ask.Read c.args.name.now c.args.place (length c.args.buf.now)) c.args.self.now c.new.self.now c.result c.ensures.answered c.ensures.failed in
    record {
      passes = passes_of c.args.self.now c.new.self.now went.grew went.ours went.locks;
      kept = goes_of c.args.self.now c.new.self.now went.grew;
      asked = λ told. asks (an_ask.Read c.args.name.now c.args.place (length c.args.buf.now)) c.args.self.now c.new.self.now c.result c.ensures.answered c.ensures.failed;
      found = λ told. found_of (an_ask.Read c.args.name.now c.args.place (length c.args.buf.now)) c.args.self.now c.new.self.now c.result (λ files got. ReadsBytes (files c.args.name.now) c.args.place c.args.buf.now c.new.buf.now got) c.ensures.answered c.ensures.found;
      fit = c.ensures.fit;
      held = went.refusals;
      cause = c.ensures.cause;
    }

pub write_at-tells : goal.write_at-tells
write_at-tells c = record {
  written = λ told. on_ok_weaker c.result (λ is. acts_own c.args.self.now c.new.self.now (a_step.Wrote c.args.name.now c.args.place c.args.bytes.now) is (Writes c.args.name.now c.args.place c.args.bytes.now) (meets_wrote c.args.name.now c.args.place c.args.bytes.now)) c.ensures.acted;
  torn = λ told. on_err_weaker c.result (λ fails. inr (passes_failed c.args.self.now c.new.self.now fails)) c.ensures.failed;
  kept = goes_acted c.args.self.now c.new.self.now (a_step.Wrote c.args.name.now c.args.place c.args.bytes.now) c.result c.ensures.acted c.ensures.failed;
  ours = ours_acted c.args.self.now c.new.self.now (a_step.Wrote c.args.name.now c.args.place c.args.bytes.now) c.result c.ensures.acted c.ensures.failed;
  unasked = unasked c.args.self.now c.new.self.now (a_step.Wrote c.args.name.now c.args.place c.args.bytes.now) c.result c.ensures.acted c.ensures.failed;
  held = refusals_acted c.args.self.now c.new.self.now (a_step.Wrote c.args.name.now c.args.place c.args.bytes.now) c.result c.ensures.acted c.ensures.failed;
  cause = c.ensures.cause;
}

pub sync-tells : goal.sync-tells
sync-tells c = record {
  synced = λ told. on_ok_weaker c.result (λ is. acts_own c.args.self.now c.new.self.now (a_step.Synced c.args.name.now) is (Syncs c.args.name.now) (meets_synced c.args.name.now)) c.ensures.acted;
  unsynced = on_err_weaker c.result (passes_failed c.args.self.now c.new.self.now) c.ensures.failed;
  kept = goes_acted c.args.self.now c.new.self.now (a_step.Synced c.args.name.now) c.result c.ensures.acted c.ensures.failed;
  ours = ours_acted c.args.self.now c.new.self.now (a_step.Synced c.args.name.now) c.result c.ensures.acted c.ensures.failed;
  unasked = unasked c.args.self.now c.new.self.now (a_step.Synced c.args.name.now) c.result c.ensures.acted c.ensures.failed;
  held = refusals_acted c.args.self.now c.new.self.now (a_step.Synced c.args.name.now) c.result c.ensures.acted c.ensures.failed;
  cause = c.ensures.cause;
}

pub rename-tells : goal.rename-tells
rename-tells c = record {
  renamed = λ told. on_ok_weaker c.result (λ is. acts_own c.args.self.now c.new.self.now (a_step.Renamed c.args.from.now c.args.to.now) is (Renames c.args.from.now c.args.to.now) (meets_renamed c.args.from.now c.args.to.now)) c.ensures.acted;
  perhaps = λ told. on_err_weaker c.result (λ fails. inr (passes_failed c.args.self.now c.new.self.now fails)) c.ensures.failed;
  kept = goes_acted c.args.self.now c.new.self.now (a_step.Renamed c.args.from.now c.args.to.now) c.result c.ensures.acted c.ensures.failed;
  ours = ours_acted c.args.self.now c.new.self.now (a_step.Renamed c.args.from.now c.args.to.now) c.result c.ensures.acted c.ensures.failed;
  unasked = unasked c.args.self.now c.new.self.now (a_step.Renamed c.args.from.now c.args.to.now) c.result c.ensures.acted c.ensures.failed;
  held = refusals_acted c.args.self.now c.new.self.now (a_step.Renamed c.args.from.now c.args.to.now) c.result c.ensures.acted c.ensures.failed;
  cause = c.ensures.cause;
}

pub sync_names-tells : goal.sync_names-tells
sync_names-tells c = record {
  synced = λ told. on_ok_weaker c.result (λ is. acts_own c.args.self.now c.new.self.now a_step.SyncedNames is SyncsNames meets_synced_names) c.ensures.acted;
  unsynced = on_err_weaker c.result (passes_failed c.args.self.now c.new.self.now) c.ensures.failed;
  kept = goes_acted c.args.self.now c.new.self.now a_step.SyncedNames c.result c.ensures.acted c.ensures.failed;
  ours = ours_acted c.args.self.now c.new.self.now a_step.SyncedNames c.result c.ensures.acted c.ensures.failed;
  unasked = unasked c.args.self.now c.new.self.now a_step.SyncedNames c.result c.ensures.acted c.ensures.failed;
  held = refusals_acted c.args.self.now c.new.self.now a_step.SyncedNames c.result c.ensures.acted c.ensures.failed;
  cause = c.ensures.cause;
}

pub remove-tells : goal.remove-tells
remove-tells c = record {
  removed = λ told. on_ok_weaker c.result (λ is. acts_own c.args.self.now c.new.self.now (a_step.Removed c.args.name.now) is (Removes c.args.name.now) (meets_removed c.args.name.now)) c.ensures.acted;
  perhaps = λ told. on_err_weaker c.result (λ fails. inr (passes_failed c.args.self.now c.new.self.now fails)) c.ensures.failed;
  kept = goes_acted c.args.self.now c.new.self.now (a_step.Removed c.args.name.now) c.result c.ensures.acted c.ensures.failed;
  ours = ours_acted c.args.self.now c.new.self.now (a_step.Removed c.args.name.now) c.result c.ensures.acted c.ensures.failed;
  unasked = unasked c.args.self.now c.new.self.now (a_step.Removed c.args.name.now) c.result c.ensures.acted c.ensures.failed;
  held = refusals_acted c.args.self.now c.new.self.now (a_step.Removed c.args.name.now) c.result c.ensures.acted c.ensures.failed;
  cause = c.ensures.cause;
}

pub lock-tells : goal.lock-tells
lock-tells c =
    let called = calls_lock c.args.self.now c.new.self.now c.result c.ensures.answered c.ensures.failed in
    record {
      waits = waits_of c.args.self.now c.new.self.now called.grew;
      kept = goes_of c.args.self.now c.new.self.now called.grew;
      unasked = called.asked;
      noted = λ told. notes_lock c.args.self.now c.new.self.now c.result c.ensures.answered c.ensures.failed;
      locks = locks c.args.self.now c.new.self.now c.result c.ensures.answered c.ensures.failed;
      cause = c.ensures.cause;
    }

pub unlock-tells : goal.unlock-tells
unlock-tells c =
    let called = calls_unlock c.args.self.now c.new.self.now c.result c.ensures.answered c.ensures.failed in
    record {
      waits = waits_of c.args.self.now c.new.self.now called.grew;
      kept = goes_of c.args.self.now c.new.self.now called.grew;
      unasked = called.asked;
      noted = λ told. notes_unlock c.args.self.now c.new.self.now c.result c.ensures.answered c.ensures.failed;
      unlocks = unlocks c.args.self.now c.new.self.now c.result c.ensures.answered c.ensures.failed;
      held = refusals_unlock c.args.self.now c.new.self.now c.result c.ensures.answered c.ensures.failed;
      cause = c.ensures.cause;
    }
