use Rattle.std.proofs.Common.{◌≡◌, ◌||◌, false, sym, subst}
use Rattle.std.specs.Prelude.{is_some}
use Rattle.std.specs.Option.{option_map}
use Rattle.hg_mixed.specs.Held.{Held, is_left_in}
use Rattle.hg_mixed.specs.Lent.{lent_at}
use Rattle.hg_nodes.specs.Lists.{or_root}
use Rattle.hg_mixed.proofs.ImageLists.{asked_none}
use Rattle.hg_mixed.proofs.mixed.Mixed.is_unchanged.Goals as goal

pub returns-in-None : goal.returns-in-None
returns-in-None c =
    subst (λ (h : Held). false ≡ (is_left_in h.left (or_root (option_map (λ d. d.text.now) c.args.dir)) || is_some (lent_at h.kept (or_root (option_map (λ d. d.text.now) c.args.dir))))) c.self.view_is
    (asked_none c.self.inside.left c.self.inside.memory.kept c.args.dir c.in-None.is c.text_of-text.result.now c.text_of-text.ensures (sym c.if-has.ensures) (sym c.if-keeps.ensures))
