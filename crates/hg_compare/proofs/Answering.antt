-- What a comparison answers, from what its steps answer.
use Rattle.std.proofs.Common.{◌≡◌, ℕ, true, None, Result, Ok, Err, refl, ◌∙◌, inl, inr}
use Rattle.hg_base.specs.declared.stat.Stat.{Stat}
use Rattle.hg_manifest.specs.declared.row.FileRow.{FileRow}
use Rattle.hg_tree.specs.History as tree
use Rattle.hg_tree.specs.Moment.{bytes_at}
use Rattle.hg_compare.specs.Alike.{is_alike}
use Rattle.hg_compare.specs.Pieces.{CountsTree, EndsBy, LooksAgain, Meets}
use Rattle.hg_compare.specs.Same.{Compares, IsSame}
use Rattle.hg_compare.specs.Seen.{Compared, HasOtherSize}
use Rattle.hg_compare.specs.declared.fault.CompareFault.{CompareFault}
use Rattle.hg_compare.specs.declared.fault.CompareFault.TheVariants as a_fault
use Rattle.hg_compare.specs.declared.looked.Looked.{Looked}
use Rattle.hg_compare.specs.declared.looked.Looked.TheVariants as a_look
use Rattle.hg_compare.proofs.Moments.{shown_last}

pub compares_met : (c : Compared) (row : FileRow) (before : Stat) (fault : CompareFault) → is_alike row before ≡ true → Meets c row.id fault → Compares c row before (Err fault)
compares_met c row before (a_fault.NoContents gone) alike met = (alike, met.0, met.1)
compares_met c row before a_fault.TreeFailed alike met = alike
compares_met c row before a_fault.ShelfFailed alike met = alike

pub not_tree : (count : ℕ) (fault : CompareFault) → (fault ≡ a_fault.TreeFailed → ⊥) → CountsTree {A = Looked} count count (Err fault)
not_tree count (a_fault.NoContents gone) other = refl
not_tree count a_fault.TreeFailed other = absurd (other refl)
not_tree count a_fault.ShelfFailed other = refl

pub compares_size : (c : Compared) (row : FileRow) (before : Stat) → is_alike row before ≡ true → HasOtherSize c before.size → Compares c row before (Ok a_look.Differs)
compares_size c row before alike other = inr (alike, inl other)

pub compares_end : (c : Compared) (row : FileRow) (before : Stat) (looked : Looked) → is_alike row before ≡ true → EndsBy c looked → Compares c row before (Ok looked)
compares_end c row before (a_look.Same settled) alike ends = absurd ends
compares_end c row before a_look.Differs alike ends = inr (alike, inr ends)
compares_end c row before a_look.Gone alike ends = (alike, ends)

pub compares_last : (c : Compared) (row : FileRow) (before : Stat) (result : Result Looked CompareFault) → tree.Passes c.tree_old c.tree_new → is_alike row before ≡ true → IsSame c before → LooksAgain c.tree_new c.path before result
    → Compares c row before result
compares_last c row before (Ok (a_look.Same settled)) passes alike same again = (alike, same, λ told. again (passes.past.told ∙ told))
compares_last c row before (Ok a_look.Differs) passes alike same again = absurd again
compares_last c row before (Ok a_look.Gone) passes alike same again = (alike, shown_last c (λ moment. bytes_at moment c.path ≡ None) passes again)
compares_last c row before (Err (a_fault.NoContents gone)) passes alike same again = absurd again
compares_last c row before (Err a_fault.TreeFailed) passes alike same again = alike
compares_last c row before (Err a_fault.ShelfFailed) passes alike same again = absurd again
