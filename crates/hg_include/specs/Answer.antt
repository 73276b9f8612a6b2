-- What a reading gives.
use Rattle.std.specs.Prelude.{List}
use Rattle.hg_include.specs.declared.piece.Piece.{Piece}
use Rattle.hg_include.specs.declared.warnings.Warning.{Warning}

-- the files that were read, with their texts, and of what one is warned; both in the order of reading
pub record Read : Type 0 where
  pub pieces : List Piece
  pub warnings : List Warning
