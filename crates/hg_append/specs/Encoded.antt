-- What a table is encoded as.
use Rattle.std.specs.Prelude.{ℕ, ◌≡◌, ◌<◌, ◌≤◌, ◌+◌, ◌^◌, if◌then◌else◌, nat_lt, List, length, Some, None, Result, Ok, Err, ◌⊎◌}
use Rattle.hg_docket.specs.Docket.{Contents}
use Rattle.hg_docket.specs.Number.{next_name}
use Rattle.hg_docket.specs.Written as docket
use Rattle.hg_entry.specs.Table.{Table}
use Rattle.hg_image.specs.Reading.{RecordFault}
use Rattle.hg_nodes.specs.Edits.{IsSame}
use Rattle.hg_mixed.specs.Held.{Held}
use Rattle.hg_append.specs.declared.encoding.Encoded.{Encoded}
use Rattle.hg_append.specs.declared.fault.EncodeFault.{EncodeFault}
use Rattle.hg_append.specs.declared.fault.EncodeFault.TheVariants as a_fault
use Rattle.hg_append.specs.Tree.{IsTreeOf, Tree, count_in, has_entry, has_source, heads}
use Rattle.hg_append.specs.Layout.{list_start, put_of, size_of}
use Rattle.hg_append.specs.declared.lists.Put.{Put}
use Rattle.hg_append.specs.Put.{AreSound, kept}

-- what the docket of a table says that is written anew as a tree, under an identifier
abbrev pub contents_of : Held → List ℕ → Tree → Contents
contents_of held id tree =
    record {
      p1 = held.p1;
      p2 = held.p2;
      root_start = list_start 0 tree;
      root_count = length (heads tree);
      entries = count_in has_entry tree;
      copies = count_in has_source tree;
      unreachable = 0;
      hash = held.hash;
      used = size_of tree;
      id = id;
    }

-- a table was written anew: a tree of its nodes from place 0 on, and the docket of that
pub record IsWritten (held : Held) (e : Encoded) : Type 0 where
  pub tree : Tree
  pub is : IsTreeOf held None tree
  pub place : e.place ≡ 0
  pub next : next_name held.docket.id ≡ Some e.id
  pub bytes : e.bytes.items ≡ put_of 0 tree
  pub docket : e.docket.items ≡ docket.bytes_of (contents_of held e.id tree)
  pub small : size_of tree < 2 ^ 32

-- and each node can be read back, and so can the docket
pub record IsSoundly (held : Held) (e : Encoded) : Type 0 where
  pub written : IsWritten held e
  pub sound : AreSound written.tree
  pub back : docket.ReadsAs e.docket.items (contents_of held e.id written.tree)

-- the docket with what was put, and an end
abbrev pub contents_with : Held → List ℕ → Put → ℕ → Contents
contents_with held id put used =
    record {
      p1 = held.p1;
      p2 = held.p2;
      root_start = put.start;
      root_count = put.sums.count;
      entries = put.sums.entries;
      copies = put.sums.copies;
      unreachable = 0;
      hash = held.hash;
      used = used;
      id = id;
    }

-- the numbers of a docket fit 32 bits
pub record IsFit (put : Put) : Type 0 where
  pub start : put.start < 2 ^ 32
  pub count : put.sums.count < 2 ^ 32
  pub entries : put.sums.entries < 2 ^ 32
  pub copies : put.sums.copies < 2 ^ 32

-- the nodes of a table take so many bytes, which are too many
pub record IsTooLarge (held : Held) (told : ℕ) : Type 0 where
  pub tree : Tree
  pub is : IsTreeOf held None tree
  pub large : 2 ^ 32 ≤ size_of tree
  pub size : told ≡ kept (size_of tree)
  pub next : (id : List ℕ) × (next_name held.docket.id ≡ Some id)

-- why a table isn't encoded
abbrev pub HasCause : Held → EncodeFault → Type 0
HasCause held a_fault.OutOfMemory = Unit {0}
HasCause held (a_fault.TooLarge size) = IsTooLarge held size
HasCause held a_fault.IdsSpent = next_name held.docket.id ≡ None

-- this fault is answered, unless there is no memory
abbrev pub Yields : {T : Type 0} → EncodeFault → Result T EncodeFault → Type 0
Yields fault (Ok x) = ⊥
Yields fault (Err e) = (e ≡ fault) ⊎ (e ≡ a_fault.OutOfMemory)

-- a reading is a table that says the same
pub record ReadsAs (t : Table) (read : Result Table RecordFault) : Type 0 where
  pub found : Table
  pub is : read ≡ Ok found
  pub same : IsSame found t

-- where so many used bytes and more behind them end; past the last place that 32 bits can name, that sum
abbrev pub end_in : ℕ → ℕ → Result ℕ ℕ
end_in used more = if nat_lt (used + more) (2 ^ 32) then Ok (used + more) else Err (kept (used + more))
