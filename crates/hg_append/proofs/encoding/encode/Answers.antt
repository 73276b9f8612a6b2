use Rattle.std.proofs.Common.{◌≡◌, ℕ, List, Option, true}
use Rattle.hg_docket.specs.Docket.{docket_of}
use Rattle.hg_image.specs.Counts.{is_counted}
use Rattle.hg_image.specs.Reading.{reading_of}
use Rattle.hg_image.specs.Rows.{rows_of}
use Rattle.hg_mixed.specs.Held.{is_lent, table}
use Rattle.hg_append.specs.Encoded.{ReadsAs}
use Rattle.hg_append.specs.Lost.{waste}
use Rattle.hg_append.proofs.Written.{ok_then}
use Rattle.hg_append.specs.Appended.{IsSoundlyAppended, StaysAt}
use Rattle.hg_append.specs.Either.{file_of}
use Rattle.hg_append.proofs.Either.{counted_by, reads_by, told_behind, told_by}
use Rattle.hg_append.proofs.LentIn.{lent_rows}
use Rattle.hg_append.proofs.OnImage.{on_image}
use Rattle.hg_append.proofs.ReadBehind.{stays}
use Rattle.hg_append.proofs.encoding.encode.Goals as goal

pub returns-in-Append-clause-reads : goal.returns-in-Append-clause-reads
returns-in-Append-clause-reads c =
    let held = c.args.mixed.now in
    ok_then (IsSoundlyAppended held) (λ e. ReadsAs (table held) (reading_of e.docket.items (file_of held e))) (reads_by held c.append.ensures.over) c.append.result c.append.ensures.appended

pub returns-in-Append-clause-counted : goal.returns-in-Append-clause-counted
returns-in-Append-clause-counted c =
    let held = c.args.mixed.now in
    ok_then (IsSoundlyAppended held) (λ e. is_counted (docket_of e.docket.items) (rows_of (docket_of e.docket.items) (file_of held e)) ≡ true) (counted_by held c.append.ensures.over) c.append.result c.append.ensures.appended

pub returns-in-Append-clause-told : goal.returns-in-Append-clause-told
returns-in-Append-clause-told c = λ is exact.
    let held = c.args.mixed.now in
    ok_then (IsSoundlyAppended held) (λ e. (docket_of e.docket.items).unreachable ≡ waste (docket_of e.docket.items) (rows_of (docket_of e.docket.items) (file_of held e)))
    (λ e s. told_by held c.append.ensures.over e s exact) c.append.result c.append.ensures.appended

pub returns-in-Append-clause-stays : goal.returns-in-Append-clause-stays
returns-in-Append-clause-stays c = λ is.
    let held = c.args.mixed.now in
    ok_then (IsSoundlyAppended held) (λ e. (dir : Option (List ℕ)) → is_lent held dir ≡ true → StaysAt held e dir)
    (λ e s. stays held e s (lent_rows held) (on_image held e.bytes.items c.append.ensures.over)) c.append.result c.append.ensures.appended

pub returns-in-Append-clause-too_large : goal.returns-in-Append-clause-too_large
returns-in-Append-clause-too_large c = λ way tree is large. told_behind c.args.mixed.now c.append.result c.append.ensures.appended c.append.ensures.cause tree is large
