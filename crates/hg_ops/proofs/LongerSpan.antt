-- What `remove` did with a word holds over each longer span of the files below `.hg`.
use Rattle.std.proofs.Common.{ℕ, ◌≡◌, ◌⊎◌, Bool, List, Option, Some, None, inl, inr}
use Rattle.hg_base.specs.declared.stat.Stat.{Stat}
use Rattle.hg_compare.specs.Same.{IsSame}
use Rattle.hg_compare.specs.Seen.{SeesNothing}
use Rattle.hg_compare.proofs.Spans.{Parts, bytes_first, parts_of, shown_first}
use Rattle.hg_entry.specs.Steps.{is_file}
use Rattle.hg_entry.specs.Table.{Table}
use Rattle.hg_manifest.specs.declared.row.FileRow.{FileRow}
use Rattle.hg_ops.specs.Parent.{Span, upto}
use Rattle.hg_ops.specs.Parents.{row_at}
use Rattle.hg_ops.specs.Remove.{IsUnlikeRow, RefusesBehind, RefusesByRow, RefusesShown, Removes, SeesClean, TakesClean, compared, early_refusal, needs_row}
use Rattle.hg_ops.specs.declared.refusal.Refusal.{Refusal}
use Rattle.hg_ops.specs.declared.refusal.Refusal.TheVariants as a_refusal
use Rattle.hg_ops.proofs.FoundSpans.{is_other_first, match_map, size_first}
use Rattle.hg_ops.proofs.ReadParent.{manifest_later}
use Rattle.hg_shelf.specs.History as shelves
use Rattle.hg_shelf.proofs.Histories as shelf
use Rattle.hg_tree.specs.History.{History, Passes}
use Rattle.hg_tree.specs.Moment.{bytes_at}
use Rattle.hg_tree.proofs.Spans.{passes_same}

module _ (path : List ℕ) (old mid : History) (s : Span) (later : shelves.History) (looks : Passes old mid) (reads : shelves.Passes s.old s.new) (second : shelves.Passes s.new later) where
  abbrev parts : FileRow → Parts
  parts row = parts_of path (compared path row old mid s.old later).name old mid mid s.old s.new later looks (passes_same mid) reads second

  pub same_later : (row : FileRow) (before : Stat) → IsSame (compared path row old mid s.old s.new) before → IsSame (compared path row old mid s.old later) before
  same_later row before same = record { size = size_first (parts row) before.size same.size; bytes = bytes_first (parts row) before.size same.bytes }

  seen_later : (row : FileRow) (before : Stat) → IsSame (compared path row old mid s.old s.new) before ⊎ SeesNothing (compared path row old mid s.old s.new)
      → IsSame (compared path row old mid s.old later) before ⊎ SeesNothing (compared path row old mid s.old later)
  seen_later row before (inl same) = inl (same_later row before same)
  seen_later row before (inr none) = inr (shown_first (parts row) (λ moment. bytes_at moment path ≡ None) none)

  unlike_later : (before : Stat) (o : Option FileRow) → IsUnlikeRow path old mid s before o → IsUnlikeRow path old mid (upto s later) before o
  unlike_later before None seen = seen
  unlike_later before (Some row) (inl unlike) = inl unlike
  unlike_later before (Some row) (inr other) = inr (is_other_first (parts row) before other)

  by_row_later : (before : Stat) (refused : Option Refusal) → RefusesByRow path old mid s before refused → RefusesByRow path old mid (upto s later) before refused
  by_row_later before None is = record {
    rows = is.rows;
    read = manifest_later s s.new later is.rows reads second is.read;
    row = is.row;
    has = is.has;
    seen = record { alike = is.seen.alike; seen = seen_later is.row before is.seen.seen };
  }
  by_row_later before (Some a_refusal.Changed) is = record {
    rows = is.rows;
    read = manifest_later s s.new later is.rows reads second is.read;
    seen = unlike_later before (row_at is.rows path) is.seen;
  }
  by_row_later before (Some refusal) is = absurd is

  shown_later : (after needs : Bool) (shown : Option Stat) (refused : Option Refusal) → RefusesShown after needs path old mid s shown refused → RefusesShown after needs path old mid (upto s later) shown refused
  shown_later after needs None refused is = is
  shown_later after needs (Some before) refused is =
      match_map (is_file before.kind) _ _ _ _ (match_map after _ _ _ _ (λ still. still) (match_map needs _ _ _ _ (by_row_later before refused) (λ changed. changed))) (λ nothing. nothing) is

  pub refuses_later : (early : Option Refusal) (after needs : Bool) (shown : Option Stat) (refused : Option Refusal) → RefusesBehind early after needs path old mid s shown refused
      → RefusesBehind early after needs path old mid (upto s later) shown refused
  refuses_later (Some refusal) after needs shown refused is = is
  refuses_later None after needs shown refused is = shown_later after needs shown refused is

clean_later : (needs : Bool) (path : List ℕ) (old mid : History) (s : Span) (later : shelves.History) → Passes old mid → shelves.Passes s.old s.new → shelves.Passes s.new later → SeesClean needs path old mid s
    → SeesClean needs path old mid (upto s later)
clean_later needs path old mid s later looks reads second is = record {
  need = is.need;
  rows = is.rows;
  read = manifest_later s s.new later is.rows reads second is.read;
  row = is.row;
  has = is.has;
  alike = is.alike;
  same = same_later path old mid s later looks reads second is.row is.need.stat is.same;
}

took_later : (after : Bool) (word : List ℕ) (was : Table) (old mid new : History) (s : Span) (later : shelves.History) (refused : Option Refusal) → Passes old mid → shelves.Passes s.old s.new → shelves.Passes s.new later
    → Passes mid new ⊎ ((refused ≡ None) × TakesClean after word was old mid new s) → Passes mid new ⊎ ((refused ≡ None) × TakesClean after word was old mid new (upto s later))
took_later after word was old mid new s later refused looks reads second (inl passes) = inl passes
took_later after word was old mid new s later refused looks reads second (inr (none, took)) = inr (
  none,
  record {
    early = took.early;
    clean = clean_later (needs_row after word was) word old mid s later looks reads second took.clean;
    past = took.past;
    taken = took.taken;
  },
)

pub removes_longer : (after : Bool) (word : List ℕ) (old new : History) (s : Span) (later : shelves.History) (was : Table) (refused : Option Refusal) (made : Table) → shelves.Passes s.new later
    → Removes after word old new s was refused made → Removes after word old new (upto s later) was refused made
removes_longer after word old new s later was refused made second r = record {
  mid = r.mid;
  looks = r.looks;
  reads = shelf.passes_trans s.old s.new later r.reads second;
  past = r.past;
  shown = r.shown;
  was_shown = r.was_shown;
  refusal = refuses_later word old r.mid s later r.looks r.reads second (early_refusal after word was) after (needs_row after word was) r.shown refused r.refusal;
  takes = r.takes;
  took = took_later after word was old r.mid new s later refused r.looks r.reads second r.took;
  gone = r.gone;
  table = r.table;
}
