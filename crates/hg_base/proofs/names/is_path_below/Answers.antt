use Rattle.std.proofs.Common.{ℕ, ◌∙◌, sym, ap, not, ◌||◌, ◌-◌, Bool, length, leb, le-leb}
use Rattle.std.proofs.lemmas.Bool.{lt-leb}
use Rattle.hg_base.specs.PathText.{components}
use Rattle.hg_base.proofs.Joined.{path_below}
use Rattle.hg_base.proofs.names.is_path_below.Goals as goal
use Rattle.hg_base.proofs.names.is_path_below.Goals.{then-name-room, else-name-room}

pub returns : goal.returns
returns c =
    let below = path_below c.args.dir.text.now c.args.name.now c.args.dir.is_path c.requires in
    elim c.if-name-room.branch [
      | then-name-room w ↦
          ap not (w.result-is ∙ le-leb (65535 - length c.args.dir.text.now) (length c.args.name.now) w.if-name-room.true)
          ∙ ap (λ (t : Bool). not (t || leb 2048 (length (components c.args.dir.text.now)))) (sym (le-leb (65535 - length c.args.dir.text.now) (length c.args.name.now) w.if-name-room.true))
          ∙ below
      | else-name-room w ↦
          ap not w.result-is
          ∙ ap (λ (n : ℕ). not (leb 2048 n)) w.depth.ensures
          ∙ ap (λ (t : Bool). not (t || leb 2048 (length (components c.args.dir.text.now)))) (sym (lt-leb (65535 - length c.args.dir.text.now) (length c.args.name.now) w.if-name-room.false))
          ∙ below
    ]
