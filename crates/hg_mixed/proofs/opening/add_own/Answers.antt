use Rattle.std.proofs.Common.{ap, subst, sym, ◌∙◌, List, ℕ}
use Rattle.std.specs.Prelude.{is_some, OnErr}
use Rattle.std.proofs.lemmas.Result.{on_ok_weaker}
use Rattle.hg_base.specs.PathText.{parent_of}
use Rattle.hg_entry.specs.Entry.{cache_view, has_entry, view}
use Rattle.hg_image.specs.View.{row}
use Rattle.hg_mixed.proofs.Adding.{adds_same, mapped_some, no_entry, no_source, source_false}
use Rattle.hg_nodes.specs.Adding.{IsElsewhere}
use Rattle.hg_nodes.specs.Node.{IsThere, NodeData}
use Rattle.hg_nodes.proofs.Added.{none_mapped, none_viewed}
use Rattle.hg_mixed.proofs.opening.add_own.Goals as goal

pub add-requires-clause-dir : goal.add-requires-clause-dir
add-requires-clause-dir c = subst (λ (p : List ℕ). IsThere c.args.memory.now.rows (parent_of p)) (sym c.recorded.ensures.path) c.requires

pub add-requires-clause-sourced : goal.add-requires-clause-sourced
add-requires-clause-sourced c = λ none.
    none_viewed (λ s. s.text.now) c.recorded.result.source
    (ap (λ (n : NodeData). n.source) c.recorded.ensures.node
    ∙ no_source (row c.args.node) (λ h. source_false (has_entry c.args.node.rec.flags) _ _ h) (sym (ap (λ (n : NodeData). n.entry) c.recorded.ensures.node) ∙ none_mapped view c.recorded.result.entry none))

pub add-requires-clause-apart : goal.add-requires-clause-apart
add-requires-clause-apart c = λ some.
    none_viewed view c.recorded.result.entry
    (ap (λ (n : NodeData). n.entry) c.recorded.ensures.node ∙ no_entry (row c.args.node) (sym (ap is_some c.recorded.ensures.cache) ∙ mapped_some cache_view c.recorded.result.cache some))

pub returns-clause-ok : goal.returns-clause-ok
returns-clause-ok c = on_ok_weaker c.add.result
    (adds_same _ _ _ _ _ _ c.recorded.ensures.path c.recorded.ensures.node c.recorded.ensures.cache c.args.memory.now.rows c.args.memory.now.times c.add.new.self.rows c.add.new.self.times)
    c.add.ensures.ok

pub returns-clause-err : goal.returns-clause-err
returns-clause-err c =
    subst (λ (p : List ℕ). OnErr c.add.result (IsElsewhere p c.args.memory.now.rows c.args.memory.now.times c.add.new.self.rows c.add.new.self.times)) c.recorded.ensures.path c.add.ensures.err
