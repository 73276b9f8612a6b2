-- How a table is appended: what is put of the list of the root, and the docket that goes with it.
use Rattle.std.specs.Prelude.{ℕ, ◌≡◌, ◌<◌, ◌≤◌, ◌+◌, ◌-◌, ◌^◌, if◌then◌else◌, nat_lt, List, length, None}
use Rattle.hg_docket.specs.Docket.{Contents}
use Rattle.hg_mixed.specs.Held.{Held, is_lent}
use Rattle.hg_append.specs.declared.fault.EncodeFault.{EncodeFault}
use Rattle.hg_append.specs.declared.fault.EncodeFault.TheVariants as a_fault
use Rattle.hg_append.specs.declared.lists.Put.{Put}
use Rattle.hg_append.specs.Keeps.{keeps_lent}
use Rattle.hg_append.specs.Layout.{put_in, start_in}
use Rattle.hg_append.specs.Put.{AreSoundIn, kept}
use Rattle.hg_append.specs.Tree.{Tree, has_entry, has_source, heads, number_in}
use Rattle.hg_append.specs.Appended.{IsNewTree, end_with}
use Rattle.hg_append.specs.declared.loss.Loss.{Loss}

-- the list of the root was put behind the data file with all that isn't lent, or stands where it stood
pub record IsRootPut (held : Held) (put : Put) (new : List ℕ) : Type 0 where
  pub tree : Tree
  pub is : IsNewTree held tree
  pub sound : AreSoundIn (keeps_lent held) tree
  pub ends : put.sums.end ≡ kept (end_with held tree)
  pub start : end_with held tree < 2 ^ 32 → put.start ≡ (if is_lent held None then held.docket.root_start else start_in (keeps_lent held) held.docket.used tree)
  pub count : end_with held tree < 2 ^ 32 → put.sums.count ≡ (if is_lent held None then held.docket.root_count else length (heads tree))
  pub entries : end_with held tree < 2 ^ 32 → put.sums.entries ≡ (if is_lent held None then held.docket.entries else number_in (keeps_lent held) has_entry tree)
  pub copies : end_with held tree < 2 ^ 32 → put.sums.copies ≡ number_in (keeps_lent held) has_source tree
  pub bytes : end_with held tree < 2 ^ 32 → new ≡ put_in (keeps_lent held) held.docket.used tree

-- the docket with what was put and what is lost, and an end
abbrev pub contents_put : Held → List ℕ → Put → Loss → ℕ → Contents
contents_put held id put loss used =
    record {
      p1 = held.p1;
      p2 = held.p2;
      root_start = put.start;
      root_count = put.sums.count;
      entries = put.sums.entries;
      copies = held.docket.copies - loss.copies + put.sums.copies;
      unreachable = if nat_lt used loss.bytes then used else loss.bytes;
      hash = held.hash;
      used = used;
      id = id;
    }

-- its numbers fit 32 bits
pub record IsFitBehind (held : Held) (put : Put) (loss : Loss) : Type 0 where
  pub start : put.start < 2 ^ 32
  pub count : put.sums.count < 2 ^ 32
  pub entries : put.sums.entries < 2 ^ 32
  pub copies : held.docket.copies - loss.copies + put.sums.copies < 2 ^ 32

-- the data file would end so far behind, which is too far
pub record IsTooLargeBehind (held : Held) (told : ℕ) : Type 0 where
  pub tree : Tree
  pub is : IsNewTree held tree
  pub large : 2 ^ 32 ≤ end_with held tree
  pub size : told ≡ kept (end_with held tree)

-- why a table isn't appended
abbrev pub HasAppendCause : Held → EncodeFault → Type 0
HasAppendCause held a_fault.OutOfMemory = Unit {0}
HasAppendCause held (a_fault.TooLarge size) = IsTooLargeBehind held size
HasAppendCause held a_fault.IdsSpent = ⊥
