use Rattle.std.proofs.Common.{◌≡◌, ◌+◌, length}
use Rattle.std.specs.Str.{IsUtf8}
use Rattle.hg_base.specs.PathText.{components}
use Rattle.hg_base.specs.PathRefusal.{bad_place}
use Rattle.hg_base.proofs.rules.bad_place.Given as goal

abbrev pub invariant-loop-front : goal.invariant-loop-front
invariant-loop-front l = record {
  found : bad_place l.at (components l.rest) ≡ bad_place 0 (components l.text);
  far : l.at + length l.rest ≡ length l.text;
  text : IsUtf8 l.rest;
}

abbrev pub decreases-loop-front : goal.decreases-loop-front
decreases-loop-front l = length l.rest
