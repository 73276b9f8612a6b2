-- The order of the rows of a listing.
use Rattle.std.specs.Prelude.{ℕ}
use Rattle.std.specs.Option.{option_cmp}
use Rattle.std.specs.Ordering.{nat_cmp, on, then_cmp}
use Rattle.std.specs.Cmp.{IsTotalOrder, nat_cmp_total, on_total, then_total}
use Rattle.std.specs.Cmp.Lexicographic.{nat_list_cmp_total, options_total, slice_cmp}
use Rattle.std.specs.declared.cmp.Ordering.{Ordering}
use Rattle.hg_compare.specs.declared.letter.Letter.{Letter}
use Rattle.hg_compare.specs.declared.letter.Letter.TheVariants as a_letter
use Rattle.hg_listing.specs.declared.row.Row.{Row}

-- the place of a letter's group in a listing: M A R ! ? I C
abbrev pub group_of : Letter → ℕ
group_of a_letter.M = 0
group_of a_letter.A = 1
group_of a_letter.R = 2
group_of a_letter.Gone = 3
group_of a_letter.Unknown = 4
group_of a_letter.I = 5
group_of a_letter.C = 6

-- rows go by the groups of their letters, and in a group by the bytes of their paths
abbrev pub row_order : Row → Row → Ordering
row_order = then_cmp (on (λ row. group_of row.letter) nat_cmp) (on (λ row. row.path) (slice_cmp nat_cmp))

-- and rows that are alike by what they were copied from
abbrev pub whole_order : Row → Row → Ordering
whole_order = then_cmp row_order (on (λ row. row.source) (option_cmp (slice_cmp nat_cmp)))

-- it is a total order
pub whole_order_total : IsTotalOrder whole_order
whole_order_total =
    then_total (then_total (on_total (λ row. group_of row.letter) nat_cmp_total) (on_total (λ row. row.path) nat_list_cmp_total))
    (on_total (λ row. row.source) (options_total nat_list_cmp_total))
