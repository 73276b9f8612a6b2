use Rattle.std.proofs.Common.{arith, ◌∙◌, ap, Some, None}
use Rattle.hg_glob.specs.Part.{parts_of}
use Rattle.hg_glob.proofs.Faults.{refuses_first}
use Rattle.hg_glob.proofs.glob.Glob.read.Goals as goal

pub returns-in-Some-clause-refused : goal.returns-in-Some-clause-refused
returns-in-Some-clause-refused c =
    refuses_first c.args.text.now c.in_ok-characters.characters.items c.in_ok-parts.parts.items (Some c.in-Some.fault) (omega arith) c.in_ok-characters.ensures.text (c.in_ok-parts.ensures.parts ∙ ap parts_of c.as_slice.ensures.value) cc

pub returns-clause-refused : goal.returns-clause-refused
returns-clause-refused c = refuses_first c.args.text.now c.in_ok-characters.characters.items c.in_ok-parts.parts.items None (omega arith) c.in_ok-characters.ensures.text (c.in_ok-parts.ensures.parts ∙ ap parts_of c.as_slice.ensures.value) cc
