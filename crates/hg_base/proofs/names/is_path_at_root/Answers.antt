use Rattle.std.proofs.Common.{◌∙◌, sym, ap, not, ◌||◌, Bool, length, ltb}
use Rattle.hg_base.proofs.Joined.{path_at_root}
use Rattle.hg_base.proofs.names.is_path_at_root.Goals as goal
use Rattle.hg_base.proofs.names.is_path_at_root.Goals.{then-eq, else-eq}

pub returns : goal.returns
returns c =
    elim c.if-eq.branch [
      | then-eq w ↦
          ap not (w.result-is ∙ w.if-eq.true)
          ∙ ap (λ (t : Bool). not (t || ltb 65535 (length c.args.name.now))) (sym w.if-eq.true ∙ c.eq.ensures)
          ∙ path_at_root c.args.name.now c.requires
      | else-eq w ↦
          ap not w.result-is
          ∙ ap (λ (t : Bool). not (t || ltb 65535 (length c.args.name.now))) (sym w.if-eq.false ∙ c.eq.ensures)
          ∙ path_at_root c.args.name.now c.requires
    ]
