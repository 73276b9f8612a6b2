use Rattle.std.proofs.Common.{length, string_bytes, ap, ◌∙◌, arith}
use Rattle.hg_glob.specs.Refusal.{closers}
use Rattle.std.proofs.lemmas.Str.{IsUtf8-string_bytes}
use Rattle.hg_glob.proofs.Bounding.{glob_closed, glob_few}
use Rattle.hg_glob.proofs.glob.Glob.parts.Goals as goal

pub returns-clause-few : goal.returns-clause-few
returns-clause-few c = omega (arith, ap length c.as_slice.ensures.value, glob_few (string_bytes c.self.inside.text) c.self.inside.parts.items (IsUtf8-string_bytes c.self.inside.text) c.self.invariant.few c.self.invariant.parts_are)

pub returns-clause-closed : goal.returns-clause-closed
returns-clause-closed c = ap closers c.as_slice.ensures.value ∙ glob_closed (string_bytes c.self.inside.text) c.self.inside.parts.items c.self.invariant.parts_are
