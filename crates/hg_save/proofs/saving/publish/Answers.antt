use Rattle.std.proofs.Common.{◌∙◌, arith}
use Rattle.std.proofs.lemmas.Result.{err_from_is_err_and}
use Rattle.hg_shelf.specs.Images.{Course, course, last_scene}
use Rattle.hg_shelf.proofs.Scenes.{goes_trans, second_part}
use Rattle.hg_save.proofs.Ends.{has_place, records_by}
use Rattle.hg_save.proofs.Exits.{ended_four, ended_one, ended_three, ended_two, exact_four, is_put, on_ok}
use Rattle.hg_save.proofs.Held.{held_then}
use Rattle.hg_save.proofs.saving.publish.Goals as goal

pub returns-in_err-put-clause-safe : goal.returns-in_err-put-clause-safe
returns-in_err-put-clause-safe g c = λ calm.
    let a : Course = course (g.S.Shelf.history c.args.shelf.now) (g.S.Shelf.images c.args.shelf.now) in
    let b : Course = course (g.S.Shelf.history c.put.new.shelf) (g.S.Shelf.images c.put.new.shelf) in
    is_put c.args.loaded.now c.args.new.now c.requires.over a b
    (g.met.S.Shelf.named_leaves c.args.shelf.now (g.S.Shelf.history c.args.shelf.now).last (last_scene a).files (g.met.S.Shelf.shown_named c.args.shelf.now (g.S.Shelf.history c.args.shelf.now).last calm.told (omega arith)))
    (ended_one c.args.loaded.now.shown.items c.args.loaded.now.nodes.items c.args.new.now c.requires.over a b
    (record {
      goes = c.in_err-put.ensures.kept;
      leads = rw (c.as_str.ensures, c.of-name.ensures, c.as_slice.ensures.value) at c.in_err-put.ensures.torn;
      either = c.in_err-put.ensures.either;
      steps = rw (c.as_str.ensures, c.of-name.ensures, c.as_slice.ensures.value) at c.in_err-put.ensures.tears;
    }) calm)

pub returns-in_err-put-2-clause-safe : goal.returns-in_err-put-2-clause-safe
returns-in_err-put-2-clause-safe g c = λ calm.
    let a : Course = course (g.S.Shelf.history c.args.shelf.now) (g.S.Shelf.images c.args.shelf.now) in
    let b : Course = course (g.S.Shelf.history c.put.new.shelf) (g.S.Shelf.images c.put.new.shelf) in
    let z : Course = course (g.S.Shelf.history c.put-2.new.shelf) (g.S.Shelf.images c.put-2.new.shelf) in
    is_put c.args.loaded.now c.args.new.now c.requires.over a z
    (g.met.S.Shelf.named_leaves c.args.shelf.now (g.S.Shelf.history c.args.shelf.now).last (last_scene a).files (g.met.S.Shelf.shown_named c.args.shelf.now (g.S.Shelf.history c.args.shelf.now).last calm.told (omega arith)))
    (ended_two c.args.loaded.now.shown.items c.args.loaded.now.nodes.items c.args.new.now c.requires.over a b
    (record {
      goes = c.in_ok-put.ensures.kept;
      leads = rw (c.as_str.ensures, c.of-name.ensures, c.as_slice.ensures.value) at c.in_ok-put.ensures.torn;
      either = c.in_ok-put.ensures.either;
      steps = rw (c.as_str.ensures, c.of-name.ensures, c.as_slice.ensures.value) at c.in_ok-put.ensures.tears;
    }) z
    (record {
      goes = c.in_err-put-2.ensures.kept;
      leads = rw c.as_slice-2.ensures.value at c.in_err-put-2.ensures.torn;
      either = c.in_err-put-2.ensures.either;
      steps = rw c.as_slice-2.ensures.value at c.in_err-put-2.ensures.tears;
    }) calm)

pub returns-in_err-swap-clause-safe : goal.returns-in_err-swap-clause-safe
returns-in_err-swap-clause-safe g c = λ calm.
    let a : Course = course (g.S.Shelf.history c.args.shelf.now) (g.S.Shelf.images c.args.shelf.now) in
    let b : Course = course (g.S.Shelf.history c.put.new.shelf) (g.S.Shelf.images c.put.new.shelf) in
    let d : Course = course (g.S.Shelf.history c.put-2.new.shelf) (g.S.Shelf.images c.put-2.new.shelf) in
    let z : Course = course (g.S.Shelf.history c.swap.new.shelf) (g.S.Shelf.images c.swap.new.shelf) in
    is_put c.args.loaded.now c.args.new.now c.requires.over a z
    (g.met.S.Shelf.named_leaves c.args.shelf.now (g.S.Shelf.history c.args.shelf.now).last (last_scene a).files (g.met.S.Shelf.shown_named c.args.shelf.now (g.S.Shelf.history c.args.shelf.now).last calm.told (omega arith)))
    (ended_three c.args.loaded.now.shown.items c.args.loaded.now.nodes.items c.args.new.now c.requires.over a b
    (record {
      goes = c.in_ok-put.ensures.kept;
      leads = rw (c.as_str.ensures, c.of-name.ensures, c.as_slice.ensures.value) at c.in_ok-put.ensures.torn;
      either = c.in_ok-put.ensures.either;
      steps = rw (c.as_str.ensures, c.of-name.ensures, c.as_slice.ensures.value) at c.in_ok-put.ensures.tears;
    }) d
    (record {
      goes = c.in_ok-put-2.ensures.kept;
      leads = rw c.as_slice-2.ensures.value at c.in_ok-put-2.ensures.torn;
      either = c.in_ok-put-2.ensures.either;
      steps = rw c.as_slice-2.ensures.value at c.in_ok-put-2.ensures.tears;
    })
    (rw (c.as_str.ensures, c.of-name.ensures, c.as_slice.ensures.value) at c.in_ok-put.ensures.sure) (rw c.as_slice-2.ensures.value at c.in_ok-put-2.ensures.sure) z
    (record { goes = c.in_err-swap.ensures.kept; leads = c.in_err-swap.ensures.leads; whole = c.in_err-swap.ensures.whole; either = c.in_err-swap.ensures.either; steps = c.in_err-swap.ensures.steps })
    (λ k within told. g.met.S.Shelf.named_leaves c.swap.new.shelf k ((g.S.Shelf.history c.swap.new.shelf).at k).files (g.met.S.Shelf.shown_named c.swap.new.shelf k told within)) calm)

pub returns-clause-safe : goal.returns-clause-safe
returns-clause-safe g c = λ calm.
    let a : Course = course (g.S.Shelf.history c.args.shelf.now) (g.S.Shelf.images c.args.shelf.now) in
    let b : Course = course (g.S.Shelf.history c.put.new.shelf) (g.S.Shelf.images c.put.new.shelf) in
    let d : Course = course (g.S.Shelf.history c.put-2.new.shelf) (g.S.Shelf.images c.put-2.new.shelf) in
    let e : Course = course (g.S.Shelf.history c.swap.new.shelf) (g.S.Shelf.images c.swap.new.shelf) in
    let z : Course = course (g.S.Shelf.history c.clear.new.shelf) (g.S.Shelf.images c.clear.new.shelf) in
    is_put c.args.loaded.now c.args.new.now c.requires.over a z
    (g.met.S.Shelf.named_leaves c.args.shelf.now (g.S.Shelf.history c.args.shelf.now).last (last_scene a).files (g.met.S.Shelf.shown_named c.args.shelf.now (g.S.Shelf.history c.args.shelf.now).last calm.told (omega arith)))
    (ended_four c.args.loaded.now.shown.items c.args.loaded.now.nodes.items c.args.new.now c.requires.over a b
    (record {
      goes = c.in_ok-put.ensures.kept;
      leads = rw (c.as_str.ensures, c.of-name.ensures, c.as_slice.ensures.value) at c.in_ok-put.ensures.torn;
      either = c.in_ok-put.ensures.either;
      steps = rw (c.as_str.ensures, c.of-name.ensures, c.as_slice.ensures.value) at c.in_ok-put.ensures.tears;
    }) d
    (record {
      goes = c.in_ok-put-2.ensures.kept;
      leads = rw c.as_slice-2.ensures.value at c.in_ok-put-2.ensures.torn;
      either = c.in_ok-put-2.ensures.either;
      steps = rw c.as_slice-2.ensures.value at c.in_ok-put-2.ensures.tears;
    })
    (rw (c.as_str.ensures, c.of-name.ensures, c.as_slice.ensures.value) at c.in_ok-put.ensures.sure) (rw c.as_slice-2.ensures.value at c.in_ok-put-2.ensures.sure) e
    (record { goes = c.in_ok-swap.ensures.kept; leads = c.in_ok-swap.ensures.leads; whole = c.in_ok-swap.ensures.whole; either = c.in_ok-swap.ensures.either; steps = c.in_ok-swap.ensures.steps })
    (λ k within told. g.met.S.Shelf.named_leaves c.swap.new.shelf k ((g.S.Shelf.history c.swap.new.shelf).at k).files (g.met.S.Shelf.shown_named c.swap.new.shelf k told within))
    c.in_ok-swap.ensures.done z
    (record {
      goes = c.clear.ensures.kept;
      leads = rw (c.as_slice-3.ensures.value, c.as_bytes.ensures.bytes) at c.clear.ensures.leads;
      either = c.clear.ensures.either;
      steps = rw (c.as_slice-3.ensures.value, c.as_bytes.ensures.bytes) at c.clear.ensures.steps;
    }) calm)

pub returns-in_err-put-clause-sure : goal.returns-in_err-put-clause-sure
returns-in_err-put-clause-sure g c = λ calm has.
    let p = err_from_is_err_and c.from_residual.result c.from_residual.ensures.1 in rw p.1 tt

pub returns-in_err-put-clause-exact : goal.returns-in_err-put-clause-exact
returns-in_err-put-clause-exact g c = λ calm.
    let p = err_from_is_err_and c.from_residual.result c.from_residual.ensures.1 in rw p.1 tt

pub returns-in_err-put-2-clause-sure : goal.returns-in_err-put-2-clause-sure
returns-in_err-put-2-clause-sure g c = λ calm has.
    let p = err_from_is_err_and c.from_residual-in_err-put-2.result c.from_residual-in_err-put-2.ensures.1 in rw p.1 tt

pub returns-in_err-put-2-clause-exact : goal.returns-in_err-put-2-clause-exact
returns-in_err-put-2-clause-exact g c = λ calm.
    let p = err_from_is_err_and c.from_residual-in_err-put-2.result c.from_residual-in_err-put-2.ensures.1 in rw p.1 tt

pub returns-in_err-swap-clause-sure : goal.returns-in_err-swap-clause-sure
returns-in_err-swap-clause-sure g c = λ calm has.
    let p = err_from_is_err_and c.from_residual-in_err-swap.result c.from_residual-in_err-swap.ensures.1 in rw p.1 tt

pub returns-in_err-swap-clause-exact : goal.returns-in_err-swap-clause-exact
returns-in_err-swap-clause-exact g c = λ calm.
    let p = err_from_is_err_and c.from_residual-in_err-swap.result c.from_residual-in_err-swap.ensures.1 in rw p.1 tt

pub returns-clause-exact : goal.returns-clause-exact
returns-clause-exact g c = λ calm.
    let a : Course = course (g.S.Shelf.history c.args.shelf.now) (g.S.Shelf.images c.args.shelf.now) in
    let b : Course = course (g.S.Shelf.history c.put.new.shelf) (g.S.Shelf.images c.put.new.shelf) in
    let d : Course = course (g.S.Shelf.history c.put-2.new.shelf) (g.S.Shelf.images c.put-2.new.shelf) in
    let e : Course = course (g.S.Shelf.history c.swap.new.shelf) (g.S.Shelf.images c.swap.new.shelf) in
    let z : Course = course (g.S.Shelf.history c.clear.new.shelf) (g.S.Shelf.images c.clear.new.shelf) in
    on_ok c.clear.result
    (exact_four c.args.loaded.now.shown.items c.args.loaded.now.nodes.items c.args.new.now c.requires.over a b
    (record {
      goes = c.in_ok-put.ensures.kept;
      leads = rw (c.as_str.ensures, c.of-name.ensures, c.as_slice.ensures.value) at c.in_ok-put.ensures.torn;
      either = c.in_ok-put.ensures.either;
      steps = rw (c.as_str.ensures, c.of-name.ensures, c.as_slice.ensures.value) at c.in_ok-put.ensures.tears;
    }) d
    (record {
      goes = c.in_ok-put-2.ensures.kept;
      leads = rw c.as_slice-2.ensures.value at c.in_ok-put-2.ensures.torn;
      either = c.in_ok-put-2.ensures.either;
      steps = rw c.as_slice-2.ensures.value at c.in_ok-put-2.ensures.tears;
    })
    (rw (c.as_str.ensures, c.of-name.ensures, c.as_slice.ensures.value) at c.in_ok-put.ensures.sure) (rw c.as_slice-2.ensures.value at c.in_ok-put-2.ensures.sure) e
    (record { goes = c.in_ok-swap.ensures.kept; leads = c.in_ok-swap.ensures.leads; whole = c.in_ok-swap.ensures.whole; either = c.in_ok-swap.ensures.either; steps = c.in_ok-swap.ensures.steps })
    (λ k within told. g.met.S.Shelf.named_leaves c.swap.new.shelf k ((g.S.Shelf.history c.swap.new.shelf).at k).files (g.met.S.Shelf.shown_named c.swap.new.shelf k told within))
    c.in_ok-swap.ensures.done z
    (record {
      goes = c.clear.ensures.kept;
      leads = rw (c.as_slice-3.ensures.value, c.as_bytes.ensures.bytes) at c.clear.ensures.leads;
      either = c.clear.ensures.either;
      steps = rw (c.as_slice-3.ensures.value, c.as_bytes.ensures.bytes) at c.clear.ensures.steps;
    }) calm)

pub returns-clause-sure : goal.returns-clause-sure
returns-clause-sure g c = λ calm has.
    let a : Course = course (g.S.Shelf.history c.args.shelf.now) (g.S.Shelf.images c.args.shelf.now) in
    let b : Course = course (g.S.Shelf.history c.put.new.shelf) (g.S.Shelf.images c.put.new.shelf) in
    let d : Course = course (g.S.Shelf.history c.put-2.new.shelf) (g.S.Shelf.images c.put-2.new.shelf) in
    let e : Course = course (g.S.Shelf.history c.swap.new.shelf) (g.S.Shelf.images c.swap.new.shelf) in
    let z : Course = course (g.S.Shelf.history c.clear.new.shelf) (g.S.Shelf.images c.clear.new.shelf) in
    on_ok c.clear.result
    (records_by c.args.loaded.now.shown.items c.args.loaded.now.nodes.items c.args.new.now c.requires.over a z (has_place c.args.loaded.now c.args.new.now c.requires.over (last_scene a) has)
    (exact_four c.args.loaded.now.shown.items c.args.loaded.now.nodes.items c.args.new.now c.requires.over a b
    (record {
      goes = c.in_ok-put.ensures.kept;
      leads = rw (c.as_str.ensures, c.of-name.ensures, c.as_slice.ensures.value) at c.in_ok-put.ensures.torn;
      either = c.in_ok-put.ensures.either;
      steps = rw (c.as_str.ensures, c.of-name.ensures, c.as_slice.ensures.value) at c.in_ok-put.ensures.tears;
    }) d
    (record {
      goes = c.in_ok-put-2.ensures.kept;
      leads = rw c.as_slice-2.ensures.value at c.in_ok-put-2.ensures.torn;
      either = c.in_ok-put-2.ensures.either;
      steps = rw c.as_slice-2.ensures.value at c.in_ok-put-2.ensures.tears;
    })
    (rw (c.as_str.ensures, c.of-name.ensures, c.as_slice.ensures.value) at c.in_ok-put.ensures.sure) (rw c.as_slice-2.ensures.value at c.in_ok-put-2.ensures.sure) e
    (record { goes = c.in_ok-swap.ensures.kept; leads = c.in_ok-swap.ensures.leads; whole = c.in_ok-swap.ensures.whole; either = c.in_ok-swap.ensures.either; steps = c.in_ok-swap.ensures.steps })
    (λ k within told. g.met.S.Shelf.named_leaves c.swap.new.shelf k ((g.S.Shelf.history c.swap.new.shelf).at k).files (g.met.S.Shelf.shown_named c.swap.new.shelf k told within))
    c.in_ok-swap.ensures.done z
    (record {
      goes = c.clear.ensures.kept;
      leads = rw (c.as_slice-3.ensures.value, c.as_bytes.ensures.bytes) at c.clear.ensures.leads;
      either = c.clear.ensures.either;
      steps = rw (c.as_slice-3.ensures.value, c.as_bytes.ensures.bytes) at c.clear.ensures.steps;
    }) calm))

pub returns-clause-gone : goal.returns-clause-gone
returns-clause-gone g c = λ calm.
    (rw (c.as_slice-3.ensures.value, c.as_bytes.ensures.bytes) at c.clear.ensures.gone)
    (second_part (course (g.S.Shelf.history c.args.shelf.now) (g.S.Shelf.images c.args.shelf.now)) (course (g.S.Shelf.history c.swap.new.shelf) (g.S.Shelf.images c.swap.new.shelf)) (course (g.S.Shelf.history c.clear.new.shelf) (g.S.Shelf.images c.clear.new.shelf))
    (goes_trans (course (g.S.Shelf.history c.args.shelf.now) (g.S.Shelf.images c.args.shelf.now)) (course (g.S.Shelf.history c.put-2.new.shelf) (g.S.Shelf.images c.put-2.new.shelf)) (course (g.S.Shelf.history c.swap.new.shelf) (g.S.Shelf.images c.swap.new.shelf)) (goes_trans (course (g.S.Shelf.history c.args.shelf.now) (g.S.Shelf.images c.args.shelf.now)) (course (g.S.Shelf.history c.put.new.shelf) (g.S.Shelf.images c.put.new.shelf)) (course (g.S.Shelf.history c.put-2.new.shelf) (g.S.Shelf.images c.put-2.new.shelf)) c.in_ok-put.ensures.kept c.in_ok-put-2.ensures.kept) c.in_ok-swap.ensures.kept) calm)

pub returns-in_err-put-2-clause-kept : goal.returns-in_err-put-2-clause-kept
returns-in_err-put-2-clause-kept g c =
    goes_trans (course (g.S.Shelf.history c.args.shelf.now) (g.S.Shelf.images c.args.shelf.now)) (course (g.S.Shelf.history c.put.new.shelf) (g.S.Shelf.images c.put.new.shelf)) (course (g.S.Shelf.history c.put-2.new.shelf) (g.S.Shelf.images c.put-2.new.shelf)) c.in_ok-put.ensures.kept c.in_err-put-2.ensures.kept

pub returns-in_err-swap-clause-kept : goal.returns-in_err-swap-clause-kept
returns-in_err-swap-clause-kept g c =
    goes_trans (course (g.S.Shelf.history c.args.shelf.now) (g.S.Shelf.images c.args.shelf.now)) (course (g.S.Shelf.history c.put-2.new.shelf) (g.S.Shelf.images c.put-2.new.shelf)) (course (g.S.Shelf.history c.swap.new.shelf) (g.S.Shelf.images c.swap.new.shelf)) (goes_trans (course (g.S.Shelf.history c.args.shelf.now) (g.S.Shelf.images c.args.shelf.now)) (course (g.S.Shelf.history c.put.new.shelf) (g.S.Shelf.images c.put.new.shelf)) (course (g.S.Shelf.history c.put-2.new.shelf) (g.S.Shelf.images c.put-2.new.shelf)) c.in_ok-put.ensures.kept c.in_ok-put-2.ensures.kept) c.in_err-swap.ensures.kept

pub returns-clause-kept : goal.returns-clause-kept
returns-clause-kept g c =
    goes_trans (course (g.S.Shelf.history c.args.shelf.now) (g.S.Shelf.images c.args.shelf.now)) (course (g.S.Shelf.history c.swap.new.shelf) (g.S.Shelf.images c.swap.new.shelf)) (course (g.S.Shelf.history c.clear.new.shelf) (g.S.Shelf.images c.clear.new.shelf)) (goes_trans (course (g.S.Shelf.history c.args.shelf.now) (g.S.Shelf.images c.args.shelf.now)) (course (g.S.Shelf.history c.put-2.new.shelf) (g.S.Shelf.images c.put-2.new.shelf)) (course (g.S.Shelf.history c.swap.new.shelf) (g.S.Shelf.images c.swap.new.shelf)) (goes_trans (course (g.S.Shelf.history c.args.shelf.now) (g.S.Shelf.images c.args.shelf.now)) (course (g.S.Shelf.history c.put.new.shelf) (g.S.Shelf.images c.put.new.shelf)) (course (g.S.Shelf.history c.put-2.new.shelf) (g.S.Shelf.images c.put-2.new.shelf)) c.in_ok-put.ensures.kept c.in_ok-put-2.ensures.kept) c.in_ok-swap.ensures.kept) c.clear.ensures.kept

pub returns-in_err-put-2-clause-lock : goal.returns-in_err-put-2-clause-lock
returns-in_err-put-2-clause-lock g c = λ told.
    held_then (g.S.Shelf.history c.args.shelf.now) (g.S.Shelf.history c.put.new.shelf) (g.S.Shelf.history c.put-2.new.shelf) c.in_err-put-2.ensures.kept.past (c.in_ok-put.ensures.lock told) (c.in_err-put-2.ensures.lock (c.in_ok-put.ensures.kept.past.told ∙ told))

pub returns-in_err-swap-clause-lock : goal.returns-in_err-swap-clause-lock
returns-in_err-swap-clause-lock g c = λ told.
    held_then (g.S.Shelf.history c.args.shelf.now) (g.S.Shelf.history c.put-2.new.shelf) (g.S.Shelf.history c.swap.new.shelf) c.in_err-swap.ensures.kept.past
    (held_then (g.S.Shelf.history c.args.shelf.now) (g.S.Shelf.history c.put.new.shelf) (g.S.Shelf.history c.put-2.new.shelf) c.in_ok-put-2.ensures.kept.past (c.in_ok-put.ensures.lock told) (c.in_ok-put-2.ensures.lock (c.in_ok-put.ensures.kept.past.told ∙ told)))
    (c.in_err-swap.ensures.lock (c.in_ok-put-2.ensures.kept.past.told ∙ c.in_ok-put.ensures.kept.past.told ∙ told))

pub returns-clause-lock : goal.returns-clause-lock
returns-clause-lock g c = λ told.
    held_then (g.S.Shelf.history c.args.shelf.now) (g.S.Shelf.history c.swap.new.shelf) (g.S.Shelf.history c.clear.new.shelf) c.clear.ensures.kept.past
    (held_then (g.S.Shelf.history c.args.shelf.now) (g.S.Shelf.history c.put-2.new.shelf) (g.S.Shelf.history c.swap.new.shelf) c.in_ok-swap.ensures.kept.past
    (held_then (g.S.Shelf.history c.args.shelf.now) (g.S.Shelf.history c.put.new.shelf) (g.S.Shelf.history c.put-2.new.shelf) c.in_ok-put-2.ensures.kept.past (c.in_ok-put.ensures.lock told) (c.in_ok-put-2.ensures.lock (c.in_ok-put.ensures.kept.past.told ∙ told)))
    (c.in_ok-swap.ensures.lock (c.in_ok-put-2.ensures.kept.past.told ∙ c.in_ok-put.ensures.kept.past.told ∙ told)))
    (c.clear.ensures.lock (c.in_ok-swap.ensures.kept.past.told ∙ c.in_ok-put-2.ensures.kept.past.told ∙ c.in_ok-put.ensures.kept.past.told ∙ told))
