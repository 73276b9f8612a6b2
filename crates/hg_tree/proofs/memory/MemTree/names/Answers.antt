-- The names of what is shown now are those of the last moment.
use Rattle.std.proofs.Common.{sym, ap, ◌∙◌}
use Rattle.std.specs.Prelude.{option_map}
use Rattle.std.specs.BTreeMap.{get_by_text}
use Rattle.hg_tree.specs.Memory.{Memory}
use Rattle.hg_tree.proofs.Shown.{kept_seen, seen_formed, seen_lists, seen_fit}
use Rattle.hg_tree.proofs.memory.MemTree.names.Goals as goal

pub returns-then-not-is_listed-clause-formed : goal.returns-then-not-is_listed-clause-formed
returns-then-not-is_listed-clause-formed c =
    seen_formed c.args.self.now c.self.inside.clock (get_by_text c.self.inside.things) (kept_seen c.args.self.now c.self.inside.start c.self.inside.changes.items c.self.inside.clock (get_by_text c.self.inside.things) (sym (ap (λ (m : Memory). m.start) c.self.view_is)) (sym (ap (λ (m : Memory). m.changes) c.self.view_is)) c.self.invariant)

pub returns-clause-formed : goal.returns-clause-formed
returns-clause-formed c =
    seen_formed c.args.self.now c.self.inside.clock (get_by_text c.self.inside.things) (kept_seen c.args.self.now c.self.inside.start c.self.inside.changes.items c.self.inside.clock (get_by_text c.self.inside.things) (sym (ap (λ (m : Memory). m.start) c.self.view_is)) (sym (ap (λ (m : Memory). m.changes) c.self.view_is)) c.self.invariant)

pub returns-clause-found : goal.returns-clause-found
returns-clause-found c =
    seen_lists c.args.self.now c.self.inside.clock (get_by_text c.self.inside.things) (kept_seen c.args.self.now c.self.inside.start c.self.inside.changes.items c.self.inside.clock (get_by_text c.self.inside.things) (sym (ap (λ (m : Memory). m.start) c.self.view_is)) (sym (ap (λ (m : Memory). m.changes) c.self.view_is)) c.self.invariant)
    (option_map (λ d. d.text.now) c.args.dir) c.in_ok-names.names.items c.in_ok-names.ensures (sym c.is_listed.ensures ∙ c.if-not-is_listed.false)

pub returns-clause-fit : goal.returns-clause-fit
returns-clause-fit c =
    seen_fit c.args.self.now c.self.inside.clock (get_by_text c.self.inside.things) (kept_seen c.args.self.now c.self.inside.start c.self.inside.changes.items c.self.inside.clock (get_by_text c.self.inside.things) (sym (ap (λ (m : Memory). m.start) c.self.view_is)) (sym (ap (λ (m : Memory). m.changes) c.self.view_is)) c.self.invariant)
    (option_map (λ d. d.text.now) c.args.dir) c.in_ok-names.names.items c.in_ok-names.ensures
