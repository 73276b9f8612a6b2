use Rattle.std.proofs.Common.{rules, None, nat_cmp}
use Rattle.std.specs.Cmp.Lexicographic.{nat_list_cmp_total, slice_cmp}
use Rattle.std.specs.Ordering.{is_lt}
use Rattle.std.proofs.lemmas.List.Sorted.{answers_always, ranks_by}
use Rattle.hg_base.specs.Within.{is_above}
use Rattle.hg_mixed.specs.Gathered.{path_of}
use Rattle.hg_mixed.proofs.Ordered.{strict}
use Rattle.hg_mixed.proofs.Gathering.{gathered_all}
use Rattle.hg_mixed.proofs.gathered.gather.Goals as goal

pub returns-clause-gathered : goal.returns-clause-gathered
returns-clause-gathered c =
    gathered_all c.args.mixed.now (is_above None) c.in_ok-rows.rows.items c.sort_by.new.self.items c.add_children.new.rows.items c.in_ok-rows.ensures c.in_ok-add_children.ensures c.sort_by.ensures.permutation

pub returns-clause-ascending : goal.returns-clause-ascending
returns-clause-ascending c =
    strict path_of c.sort_by.new.self.items
    (c.in_ok-sort_by.ensures.sorted (λ a b. is_lt (slice_cmp nat_cmp (path_of a) (path_of b))) (ranks_by nat_list_cmp_total path_of) (answers_always _ _ _ (λ f a r g called. search rules)))
    (gathered_all c.args.mixed.now (is_above None) c.in_ok-rows.rows.items c.sort_by.new.self.items c.add_children.new.rows.items c.in_ok-rows.ensures c.in_ok-add_children.ensures c.sort_by.ensures.permutation).own
