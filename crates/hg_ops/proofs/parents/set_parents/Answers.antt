use Rattle.std.proofs.Common.{◌||◌, ℕ, List, false, not, ap, subst}
use Rattle.std.specs.Map.{keys_of}
use Rattle.hg_ops.proofs.NewParents.{done_by, has_lends, has_marks, has_parents, has_places}
use Rattle.hg_ops.proofs.Setting.{setting_first}
use Rattle.hg_ops.specs.Dropping.{AreDropping}
use Rattle.hg_ops.specs.Parents.{entry_by}
use Rattle.hg_ops.specs.Setting.{AreSetting, Wanted, is_among}
use Rattle.hg_ops.proofs.parents.set_parents.Goals as goal

pub returns-clause-parents : goal.returns-clause-parents
returns-clause-parents c =
    let want : Wanted = entry_by (not c.is_null-merged.result) c.args.m1.now c.args.m2.now in
    has_parents (not c.is_null-merged.result) c.args.m1.now c.args.m2.now c.args.mixed.now c.settle_paths.new.mixed c.drop_paths.new.mixed c.in_ok-paths.paths.items c.in_ok-paths.ensures.all
    c.in_ok-paths.ensures.formed c.in_ok-settle_paths.ensures.formed
    (subst (λ (l : List (List ℕ)). AreSetting want c.args.mixed.now c.settle_paths.new.mixed (done_by (not c.is_null-merged.result) c.args.m1.now c.args.m2.now l)) c.as_slice.ensures.value
    (c.in_ok-settle_paths.ensures.set c.args.mixed.now (λ at. (false || is_among (keys_of c.args.m1.now) at) || is_among (keys_of c.args.m2.now) at)
    (c.in_ok-settle_rows-2.ensures.set c.args.mixed.now (λ at. false || is_among (keys_of c.args.m1.now) at)
    (c.in_ok-settle_rows.ensures.set c.args.mixed.now (λ at. false) (setting_first want c.args.mixed.now)))))
    (subst (λ (l : List (List ℕ)). AreDropping want c.settle_paths.new.mixed c.drop_paths.new.mixed (is_among l)) c.as_slice-2.ensures.value c.in_ok-drop_paths.ensures.dropped)
    c.args.p1.0 c.args.p2.0 (ap not c.is_null-merged.ensures) c.set_ids.new.self c.set_ids.ensures.table c.parents.ensures.formed

pub returns-clause-changed : goal.returns-clause-changed
returns-clause-changed c =
    let want : Wanted = entry_by (not c.is_null-merged.result) c.args.m1.now c.args.m2.now in
    has_marks (not c.is_null-merged.result) c.args.m1.now c.args.m2.now c.args.mixed.now c.settle_paths.new.mixed c.drop_paths.new.mixed c.in_ok-paths.paths.items c.in_ok-paths.ensures.all
    c.in_ok-paths.ensures.formed c.in_ok-settle_paths.ensures.formed
    (subst (λ (l : List (List ℕ)). AreSetting want c.args.mixed.now c.settle_paths.new.mixed (done_by (not c.is_null-merged.result) c.args.m1.now c.args.m2.now l)) c.as_slice.ensures.value
    (c.in_ok-settle_paths.ensures.set c.args.mixed.now (λ at. (false || is_among (keys_of c.args.m1.now) at) || is_among (keys_of c.args.m2.now) at)
    (c.in_ok-settle_rows-2.ensures.set c.args.mixed.now (λ at. false || is_among (keys_of c.args.m1.now) at)
    (c.in_ok-settle_rows.ensures.set c.args.mixed.now (λ at. false) (setting_first want c.args.mixed.now)))))
    (subst (λ (l : List (List ℕ)). AreDropping want c.settle_paths.new.mixed c.drop_paths.new.mixed (is_among l)) c.as_slice-2.ensures.value c.in_ok-drop_paths.ensures.dropped)
    c.args.p1.0 c.args.p2.0 (ap not c.is_null-merged.ensures) c.set_ids.new.self c.set_ids.ensures.table c.parents.ensures.formed c.set_ids.ensures.changed

pub returns-clause-lent : goal.returns-clause-lent
returns-clause-lent c =
    let want : Wanted = entry_by (not c.is_null-merged.result) c.args.m1.now c.args.m2.now in
    has_lends (not c.is_null-merged.result) c.args.m1.now c.args.m2.now c.args.mixed.now c.settle_paths.new.mixed c.drop_paths.new.mixed c.in_ok-paths.paths.items c.in_ok-paths.ensures.all
    c.in_ok-paths.ensures.formed c.in_ok-settle_paths.ensures.formed
    (subst (λ (l : List (List ℕ)). AreSetting want c.args.mixed.now c.settle_paths.new.mixed (done_by (not c.is_null-merged.result) c.args.m1.now c.args.m2.now l)) c.as_slice.ensures.value
    (c.in_ok-settle_paths.ensures.set c.args.mixed.now (λ at. (false || is_among (keys_of c.args.m1.now) at) || is_among (keys_of c.args.m2.now) at)
    (c.in_ok-settle_rows-2.ensures.set c.args.mixed.now (λ at. false || is_among (keys_of c.args.m1.now) at)
    (c.in_ok-settle_rows.ensures.set c.args.mixed.now (λ at. false) (setting_first want c.args.mixed.now)))))
    (subst (λ (l : List (List ℕ)). AreDropping want c.settle_paths.new.mixed c.drop_paths.new.mixed (is_among l)) c.as_slice-2.ensures.value c.in_ok-drop_paths.ensures.dropped)
    c.args.p1.0 c.args.p2.0 (ap not c.is_null-merged.ensures) c.set_ids.new.self c.set_ids.ensures.table c.parents.ensures.formed c.set_ids.ensures.lent

pub returns-clause-places : goal.returns-clause-places
returns-clause-places c =
    let want : Wanted = entry_by (not c.is_null-merged.result) c.args.m1.now c.args.m2.now in
    has_places (not c.is_null-merged.result) c.args.m1.now c.args.m2.now c.args.mixed.now c.settle_paths.new.mixed c.drop_paths.new.mixed c.in_ok-paths.paths.items c.in_ok-paths.ensures.all
    c.in_ok-paths.ensures.formed c.in_ok-settle_paths.ensures.formed
    (subst (λ (l : List (List ℕ)). AreSetting want c.args.mixed.now c.settle_paths.new.mixed (done_by (not c.is_null-merged.result) c.args.m1.now c.args.m2.now l)) c.as_slice.ensures.value
    (c.in_ok-settle_paths.ensures.set c.args.mixed.now (λ at. (false || is_among (keys_of c.args.m1.now) at) || is_among (keys_of c.args.m2.now) at)
    (c.in_ok-settle_rows-2.ensures.set c.args.mixed.now (λ at. false || is_among (keys_of c.args.m1.now) at)
    (c.in_ok-settle_rows.ensures.set c.args.mixed.now (λ at. false) (setting_first want c.args.mixed.now)))))
    (subst (λ (l : List (List ℕ)). AreDropping want c.settle_paths.new.mixed c.drop_paths.new.mixed (is_among l)) c.as_slice-2.ensures.value c.in_ok-drop_paths.ensures.dropped)
    c.args.p1.0 c.args.p2.0 (ap not c.is_null-merged.ensures) c.set_ids.new.self c.set_ids.ensures.table c.parents.ensures.formed c.set_ids.ensures.places
