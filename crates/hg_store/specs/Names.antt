-- The names of plain files below `.hg`.
use Rattle.std.specs.Prelude.{ℕ, List, ◌++◌, codes}
use Rattle.hex.specs.Hex.{encode_lower}
use Rattle.hg_store.specs.declared.names.Plain.{Plain}
use Rattle.hg_store.specs.declared.names.Plain.TheVariants as a_plain

-- what stands before the digits
abbrev pub front_of : Plain → List ℕ
front_of a_plain.Contents = codes "plain/f-"
front_of a_plain.Manifest = codes "plain/m-"

-- the name of the plain file with an identifier; `contents_name` for contents, `plain_name` for a manifest
abbrev pub plain_file : Plain → List ℕ → List ℕ
plain_file plain id = front_of plain ++ encode_lower id
