-- A copy source is told of nodes with an entry alone.
use Rattle.std.proofs.Common.{◌≡◌, ℕ, zero, suc, ◌+◌, ◌==◌, Bool, true, false, not, ◌&&◌, cond, List, [], ◌∷◌, ◌++◌, Some, None, refl}
use Rattle.std.specs.List.{AllByRecursion}
use Rattle.hg_entry.specs.Entry.{entry_of, has_entry}
use Rattle.hg_image.specs.Node.{fields_of, part_at, record_at}
use Rattle.hg_image.specs.Rows.{Row, list_rows, nodes_rows}

-- where there is no entry there is no source
abbrev pub IsSourcedByEntry : Row → Type 0
IsSourcedByEntry row = entry_of (fields_of row.rec) ≡ None → row.source ≡ None

none_without : {A B : Type 0} (has named : Bool) (entry : A) (source : B) → cond has (Some entry) None ≡ None → cond (has && named) (Some source) None ≡ None
none_without true named entry source none = absurd (cc (none))
none_without false named entry source none = refl

all_both : (xs ys : List Row) → AllByRecursion IsSourcedByEntry xs → AllByRecursion IsSourcedByEntry ys → AllByRecursion IsSourcedByEntry (xs ++ ys)
all_both [] ys first later = later
all_both (x ∷ xs) ys first later = (first.0, all_both xs ys first.1 later)

nodes_sourced : (below : ℕ → ℕ → List Row) (bytes : List ℕ) → ((start count : ℕ) → AllByRecursion IsSourcedByEntry (below start count)) → (at n : ℕ) → AllByRecursion IsSourcedByEntry (nodes_rows below bytes at n)
unfolding nodes_rows
nodes_sourced below bytes each at zero = tt
nodes_sourced below bytes each at (suc n) =
    let rec = record_at bytes at in (
      none_without (has_entry rec.flags) (not (rec.copy_start == 0)) _ (part_at bytes rec.copy_start rec.copy_len),
      all_both (below rec.kids_start rec.kids_count) (nodes_rows below bytes (at + 44) n) (each rec.kids_start rec.kids_count) (nodes_sourced below bytes each (at + 44) n),
    )

-- each row of a list, and of all below it
pub list_sourced : (depth : ℕ) (bytes : List ℕ) (start count : ℕ) → AllByRecursion IsSourcedByEntry (list_rows depth bytes start count)
unfolding list_rows
list_sourced zero bytes start count = tt
list_sourced (suc depth) bytes start count = nodes_sourced (list_rows depth bytes) bytes (list_sourced depth bytes) start count
