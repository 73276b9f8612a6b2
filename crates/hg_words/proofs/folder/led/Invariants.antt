use Rattle.std.proofs.Common.{◌≡◌, length}
use Rattle.std.specs.Str.{IsUtf8}
use Rattle.hg_base.specs.PathText.{components}
use Rattle.hg_words.specs.Told as told
use Rattle.hg_words.proofs.folder.led.Given as goal

-- the rest leads from the folder so far to where the word leads from its own
abbrev pub invariant-loop-front : goal.invariant-loop-front
invariant-loop-front l = record {
  leads : told.led l.folder (components l.word) ≡ told.led l.dir (components l.rest);
  dir : IsUtf8 l.dir;
  rest : IsUtf8 l.rest;
}

abbrev pub decreases-loop-front : goal.decreases-loop-front
decreases-loop-front l = length l.rest
