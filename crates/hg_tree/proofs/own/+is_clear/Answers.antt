-- What is above a path is its directory, and what is above that.
use Rattle.std.proofs.Common.{sym, ◌∙◌, ap}
use Rattle.std.specs.Prelude.{is_some}
use Rattle.std.specs.BTreeMap.{get_by_text}
use Rattle.hg_tree.specs.Moment.{is_dir}
use Rattle.hg_tree.proofs.Planting.{parent_above}
use Rattle.hg_tree.proofs.Parents.{parent_joined, no_parent}
use Rattle.hg_tree.proofs.Making.{barred_more, clear_alone, clear_by_parent, clear_more}
use Rattle.hg_tree.proofs.own.+is_clear.Goals as goal

pub returns-in_default-clause-clear : goal.returns-in_default-clause-clear
returns-in_default-clause-clear t c = λ _. clear_alone _ (get_by_text c.args.things.now) (no_parent _ c.args.path.is_path c.in_default.ensures.joined)

pub returns-in-Some-get-clause-clear : goal.returns-in-Some-get-clause-clear
returns-in-Some-get-clause-clear t c = λ yes_dir.
    clear_by_parent c.in-Some.dir.text.now _ (get_by_text c.args.things.now) c.requires (parent_joined _ _ c.args.path.is_path c.in-Some.ensures.joined)
    (sym (ap is_dir (c.in-Some-get.ensures.value)) ∙ sym c.is_dir.ensures ∙ yes_dir)

pub returns-in-Some-get-clause-barred : goal.returns-in-Some-get-clause-barred
returns-in-Some-get-clause-barred t c = λ no_dir. record {
  at = c.in-Some.dir.text.now;
  above = parent_above _ _ (parent_joined _ _ c.args.path.is_path c.in-Some.ensures.joined);
  there = sym (ap is_some (c.in-Some-get.ensures.value));
  other = sym (ap is_dir (c.in-Some-get.ensures.value)) ∙ sym c.is_dir.ensures ∙ no_dir;
}

pub returns-in-None-clause-clear : goal.returns-in-None-clause-clear
returns-in-None-clause-clear t c = λ clear.
    clear_more c.in-Some.dir.text.now _ (get_by_text c.args.things.now) (parent_joined _ _ c.args.path.is_path c.in-Some.ensures.joined) (sym (ap is_some c.in-None.ensures.value)) (c.is_clear.ensures.clear clear)

pub returns-in-None-clause-barred : goal.returns-in-None-clause-barred
returns-in-None-clause-barred t c = λ barred.
    barred_more c.in-Some.dir.text.now _ (get_by_text c.args.things.now) (parent_joined _ _ c.args.path.is_path c.in-Some.ensures.joined) (c.is_clear.ensures.barred barred)
