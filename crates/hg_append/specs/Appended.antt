-- What a table is encoded as where it is appended to the data file that it was opened from.
use Rattle.std.specs.Prelude.{ℕ, ◌≡◌, ◌<◌, ◌+◌, ◌-◌, ◌^◌, true, not, ◌&&◌, if◌then◌else◌, MatchBool, count_by, nat_lt, List, ◌++◌, length, Option, None}
use Rattle.std.specs.List.{sum_by}
use Rattle.hg_base.specs.PathText.{parent_of}
use Rattle.hg_docket.specs.Docket.{Contents, docket_of}
use Rattle.hg_docket.specs.Written as docket
use Rattle.hg_image.specs.Counts.{is_copy, is_counted}
use Rattle.hg_image.specs.Rows.{rows_of}
use Rattle.hg_image.specs.Walk.{levels, list_fault}
use Rattle.hg_nodes.specs.Edits.{IsFormed}
use Rattle.hg_mixed.specs.Held.{Held, is_lent, table}
use Rattle.hg_mixed.specs.Shown.{AreLentWhole, ArePlacesOfImage, list_place}
use Rattle.hg_append.specs.declared.encoding.Encoded.{Encoded}
use Rattle.hg_append.specs.Keeps.{keeps_lent}
use Rattle.hg_append.specs.Tree.{IsTreeIn, Nothing, Tree, has_entry, has_source, heads, number_in}
use Rattle.hg_append.specs.Layout.{put_in, size_in, start_in}
use Rattle.hg_append.specs.Lost.{lost, reached}
use Rattle.hg_append.specs.Put.{AreSoundIn}

-- a table over an image without fault, of which all bytes are used and all counts are right
pub record IsOverImage (held : Held) : Type 0 where
  pub sound : list_fault levels held.bytes None held.docket.root_start held.docket.root_count ≡ None
  pub used : length held.bytes ≡ held.docket.used
  pub small : held.docket.used < 2 ^ 32
  pub whole : AreLentWhole held
  pub places : ArePlacesOfImage held
  pub counted : is_counted held.docket (rows_of held.docket held.bytes) ≡ true
  pub formed : IsFormed (table held)

-- how many copy sources the image has in lists that aren't lent any more
abbrev pub lost_copies : Held → ℕ
lost_copies held = count_by (λ row. not (is_lent held (parent_of row.path)) && is_copy row) (rows_of held.docket held.bytes)

-- the unreachable number of the image is its waste, and no two of its texts or records share bytes
abbrev pub IsExact : Held → Type 0
IsExact held = held.docket.unreachable + sum_by reached (rows_of held.docket held.bytes) ≡ held.docket.used

-- the nodes of a table that aren't in lists that are lent, as a tree; nothing where the root's list is lent
abbrev pub IsNewTree : Held → Tree → Type 0
IsNewTree held tree = MatchBool (is_lent held None) (tree ≡ Nothing) (IsTreeIn held (keeps_lent held) None tree)

-- where the data file ends behind them
abbrev pub end_with : Held → Tree → ℕ
end_with held tree = held.docket.used + size_in (keeps_lent held) tree

-- how many copy sources the table has: those of the image but for lists that aren't lent any more, and those of the tree
abbrev pub copies_with : Held → Tree → ℕ
copies_with held tree = held.docket.copies - lost_copies held + number_in (keeps_lent held) has_source tree

-- how many bytes are said to be unreachable: what is lost, and not more than there are
abbrev pub unreachable_with : Held → Tree → ℕ
unreachable_with held tree = if nat_lt (end_with held tree) (lost held) then end_with held tree else lost held

-- what the docket says of a table of which a tree is put behind what the data file has
abbrev pub contents_behind : Held → Tree → Contents
contents_behind held tree =
    record {
      p1 = held.p1;
      p2 = held.p2;
      root_start = if is_lent held None then held.docket.root_start else start_in (keeps_lent held) held.docket.used tree;
      root_count = if is_lent held None then held.docket.root_count else length (heads tree);
      entries = if is_lent held None then held.docket.entries else number_in (keeps_lent held) has_entry tree;
      copies = copies_with held tree;
      unreachable = unreachable_with held tree;
      hash = held.hash;
      used = end_with held tree;
      id = held.docket.id;
    }

-- a table was appended: the tree of what isn't lent behind the used bytes, under the identifier that the data file has
pub record IsAppended (held : Held) (e : Encoded) : Type 0 where
  pub tree : Tree
  pub is : IsNewTree held tree
  pub place : e.place ≡ held.docket.used
  pub same : held.docket.id ≡ e.id
  pub bytes : e.bytes.items ≡ put_in (keeps_lent held) held.docket.used tree
  pub docket : e.docket.items ≡ docket.bytes_of (contents_behind held tree)
  pub small : end_with held tree < 2 ^ 32

-- and each node can be read back, and so can the docket
pub record IsSoundlyAppended (held : Held) (e : Encoded) : Type 0 where
  pub appended : IsAppended held e
  pub sound : AreSoundIn (keeps_lent held) appended.tree
  pub back : docket.ReadsAs e.docket.items (contents_behind held appended.tree)

-- the bytes of the data file once these are written behind it
abbrev pub file_with : Held → Encoded → List ℕ
file_with held e = held.bytes ++ e.bytes.items

-- a directory's list stands where it stood
abbrev pub StaysAt : Held → Encoded → Option (List ℕ) → Type 0
StaysAt held e dir = list_place (docket_of e.docket.items) (rows_of (docket_of e.docket.items) (file_with held e)) dir ≡ list_place held.docket (rows_of held.docket held.bytes) dir
