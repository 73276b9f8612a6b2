use Rattle.std.proofs.Common.{◌≡◌, false, ap, sym, ◌∙◌, option_map}
use Rattle.hg_base.specs.PathText.{is_path, joined, parent_of}
use Rattle.hg_include.proofs.Naming.{no_path, no_path_made, no_target}
use Rattle.hg_include.proofs.name.subincluded.Goals as goal

pub returns-in-Err : goal.returns-in-Err
returns-in-Err c = rw (no_path c.args.name.now _ (sym c.in-Err.ensures.refused))

pub returns-in_default : goal.returns-in_default
returns-in_default c =
    let bad = no_path_made (joined (option_map (λ d. d.text.now) c.parent.result) c.args.name.now) c.in-Err-join.fault c.in_default.not-OutOfMemory c.in-Err-join.ensures in
    let there : is_path (joined (parent_of c.args.file.text.now) c.args.name.now) ≡ false = ap (λ d. is_path (joined d c.args.name.now)) (sym c.parent.ensures.parent) ∙ bad in
    sym (no_target c.args.file.text.now c.args.name.now there)
