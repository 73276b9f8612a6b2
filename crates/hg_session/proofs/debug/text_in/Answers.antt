use Rattle.std.proofs.Common.{sym, subst}
use Rattle.std.proofs.lemmas.Result.{err_from_is_err_and}
use Rattle.hg_entry.specs.Table.{Table}
use Rattle.hg_image.specs.Reading.{table_in}
use Rattle.hg_mixed.specs.Held.{table}
use Rattle.hg_report.specs.Debug.{IsDebugText}
use Rattle.hg_session.proofs.SameTables.{one_table}
use Rattle.hg_session.proofs.debug.text_in.Goals as goal

pub returns-in_err-image : goal.returns-in_err-image
returns-in_err-image c =
    let p = err_from_is_err_and c.from_residual.result c.from_residual.ensures.1 in
    rw (p.1, p.2) (sym c.in_err-image.ensures.read)

pub returns-in_err-text : goal.returns-in_err-text
returns-in_err-text c =
    let p = err_from_is_err_and c.from_residual-in_err-text.result c.from_residual-in_err-text.ensures.1 in
    rw (p.1, p.2) tt

pub returns : goal.returns
returns c = (
  table_in c.in_ok-image.image,
  sym c.in_ok-image.ensures.read,
  subst (λ (t : Table). IsDebugText t c.in_ok-text.text.items) (one_table (table c.open-mixed.result) (table_in c.in_ok-image.image) c.open-mixed.ensures.table) c.in_ok-text.ensures.text,
)
