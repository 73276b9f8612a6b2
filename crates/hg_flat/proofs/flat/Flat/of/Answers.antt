-- The rows in order, of which no two are of one path still.
use Rattle.std.proofs.Common.{rules}
use Rattle.std.specs.Cmp.Lexicographic.{nat_list_cmp_total, slice_cmp}
use Rattle.std.specs.Ordering.{is_lt, nat_cmp}
use Rattle.std.proofs.lemmas.List.Sorted.{answers_always, ranks_by}
use Rattle.hg_flat.proofs.Holding.{moved_same, own_moved}
use Rattle.hg_flat.proofs.flat.Flat.of.Goals as goal

pub invariant_of-result : goal.invariant_of-result
invariant_of-result c = record {
  ascending =
      c.in_ok-sort_by.ensures.sorted (λ a b. is_lt (slice_cmp nat_cmp a.path b.path)) (ranks_by nat_list_cmp_total (λ row. row.path))
      (answers_always _ _ _ (λ f a r g called. search rules));
  own = own_moved c.args.rows.items c.sort_by.new.self.items c.sort_by.ensures.permutation c.requires;
}

pub returns-clause-kept : goal.returns-clause-kept
returns-clause-kept c = moved_same c.args.rows.items c.sort_by.new.self.items c.sort_by.ensures.permutation c.requires
