use Rattle.hg_docket.specs.Docket.{docket_of}
use Rattle.hg_image.specs.Counts.{is_counted}
use Rattle.hg_image.specs.Reading.{reading_of}
use Rattle.hg_image.specs.Rows.{rows_of}
use Rattle.hg_mixed.specs.Held.{table}
use Rattle.std.proofs.Common.{◌≡◌, true}
use Rattle.hg_append.specs.Encoded.{IsSoundly, ReadsAs}
use Rattle.hg_append.specs.Lost.{waste}
use Rattle.hg_append.proofs.Read.{counted, reads, wasted}
use Rattle.hg_append.proofs.Written.{ok_then, told_large}
use Rattle.hg_append.proofs.rewriting.rewrite.Goals as goal

pub returns-clause-reads : goal.returns-clause-reads
returns-clause-reads c =
    ok_then (IsSoundly c.args.mixed.now) (λ e. ReadsAs (table c.args.mixed.now) (reading_of e.docket.items e.bytes.items)) (reads c.args.mixed.now c.formed.ensures) c.write.result c.write.ensures.written

pub returns-clause-counted : goal.returns-clause-counted
returns-clause-counted c =
    ok_then (IsSoundly c.args.mixed.now) (λ e. is_counted (docket_of e.docket.items) (rows_of (docket_of e.docket.items) e.bytes.items) ≡ true) (counted c.args.mixed.now c.formed.ensures) c.write.result c.write.ensures.written

pub returns-clause-waste : goal.returns-clause-waste
returns-clause-waste c =
    ok_then (IsSoundly c.args.mixed.now) (λ e. waste (docket_of e.docket.items) (rows_of (docket_of e.docket.items) e.bytes.items) ≡ 0) (wasted c.args.mixed.now c.formed.ensures) c.write.result c.write.ensures.written

pub returns-clause-too_large : goal.returns-clause-too_large
returns-clause-too_large c = told_large c.args.mixed.now c.write.result c.write.ensures.written c.write.ensures.cause
