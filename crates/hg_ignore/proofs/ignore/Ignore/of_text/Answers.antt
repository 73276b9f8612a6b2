use Rattle.std.proofs.Common.{ap, ◌∙◌, Some}
use Rattle.hg_ignore.specs.State.{Hash, state_of}
use Rattle.hg_ignore.proofs.Asking.{kept_of}
use Rattle.hg_ignore.proofs.Globs.{also_where}
use Rattle.hg_ignore.proofs.ignore.Ignore.of_text.Goals as goal

pub invariant_of-result : goal.invariant_of-result
invariant_of-result g c =
    kept_of c.args.text.now c.in_ok-text.text c.in_ok-reading.reading c.in_ok-globs.globs c.in_ok-regexps.regexps.items c.hash_of-hash.result c.in_ok-text.ensures c.in_ok-reading.ensures.read (also_where c.in_ok-globs.globs c.in_ok-distinct.distinct.items c.in_ok-reading.reading.globs.items c.in_ok-globs.ensures c.in_ok-distinct.ensures) c.in_ok-regexps.ensures (c.hash_of-hash.ensures ∙ ap (λ v. Hash (state_of (Some v))) c.as_bytes.ensures.value)
