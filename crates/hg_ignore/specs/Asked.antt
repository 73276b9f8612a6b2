-- Which ignore state is asked.
use Rattle.std.specs.Prelude.{List}
use Rattle.hg_ignore.specs.State.{Piece}
use Rattle.hg_ignore.specs.declared.matcher.Matcher.{Matcher}

-- the state that a matcher asks
abbrev pub state_asked : Matcher → List Piece
state_asked matcher = matcher.ignore.now
