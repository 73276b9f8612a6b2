-- What a look at a path tells of a row of the first parent, before any byte is read.
use Rattle.std.specs.Prelude.{ℕ, ◌≡◌, Bool, false, not, ◌&&◌, List, ◌++◌, codes, MatchBool}
use Rattle.hex.specs.Hex.{encode_lower}
use Rattle.hg_base.specs.declared.stat.Kind.{Kind}
use Rattle.hg_base.specs.declared.stat.Kind.TheVariants as a_kind
use Rattle.hg_base.specs.declared.stat.Stat.{Stat}
use Rattle.hg_manifest.specs.declared.row.FileRow.{FileRow}
use Rattle.hg_compare.specs.Tracked.{equal_bools}

-- the name of a file's contents below `.hg`, by their identifier
abbrev pub contents_name : List ℕ → List ℕ
contents_name id = codes "plain/f-" ++ encode_lower id

abbrev pub is_alike_as : Kind → Bool → FileRow → Bool
is_alike_as a_kind.File exec row = not row.link && equal_bools row.exec exec
is_alike_as a_kind.Link exec row = row.link
is_alike_as a_kind.Dir exec row = false
is_alike_as a_kind.Other exec row = false

-- what stands there is of the row's kind, and a file has the row's executable bit
abbrev pub is_alike : FileRow → Stat → Bool
is_alike row stat = is_alike_as stat.kind stat.exec row

-- nothing changed between two looks, as far as they show
abbrev pub Settles : Bool → Stat → Stat → Type 0
Settles settled before after = MatchBool settled (after ≡ before) (after ≡ before → ⊥)
