-- The text of a manifest, as a list of rows is written.
use Rattle.std.specs.Prelude.{ℕ, ◌≡◌, ◌≤◌, ◌<◌, ◌-◌, ◌^◌, min, Bool, true, false, ◌&&◌, if◌then◌else◌, List, [], ◌∷◌, ◌++◌, map, length, Result, Ok, Err, All, bytes_eq, replicate}
use Rattle.sha1.specs.Sha1.{sha1}
use Rattle.hex.specs.Hex.{IsBytes, encode_lower}
use Rattle.hg_base.specs.declared.id.Id20.{Id20}
use Rattle.hg_manifest.specs.Line.{is_file_path}
use Rattle.hg_manifest.specs.Plain.{most}
use Rattle.hg_manifest.specs.Rows.{is_before, manifest_of}
use Rattle.hg_manifest.specs.declared.row.FileRow.{FileRow}
use Rattle.hg_store.specs.declared.fault.StoreFault.{StoreFault}
use Rattle.hg_store.specs.declared.fault.StoreFault.TheVariants as a_fault
use Rattle.hg_store.specs.declared.rows.NewRow.{NewRow}

-- the flag of a link is `l`, that of an executable file `x`, and another file has none
abbrev pub flag_of : FileRow → List ℕ
flag_of row = if row.link then 108 ∷ [] else (if row.exec then 120 ∷ [] else [])

-- the line of a row: its path, a NUL, the digits of its identifier, its flag and a line feed
abbrev pub line_of : NewRow → List ℕ
line_of row = row.path ++ (0 ∷ (encode_lower row.row.id.0 ++ (flag_of row.row ++ (10 ∷ []))))

-- the lines, one behind another
unfoldable pub text_of : List NewRow → List ℕ
text_of [] = []
text_of (row ∷ rows) = line_of row ++ text_of rows

-- each path comes after that of the row before; the empty text comes before each path
abbrev pub ascend : List ℕ → List NewRow → Bool
ascend before [] = true
ascend before (row ∷ rows) = is_before before row.path && ascend row.path rows

-- a row that a line can say: its path is one in UTF-8, its identifier has twenty bytes, and it isn't both executable and a link
pub record IsSayable (row : NewRow) : Type 0 where
  pub path : is_file_path row.path ≡ true
  pub long : length row.row.id.0 ≡ 20
  pub bytes : IsBytes row.row.id.0
  pub flag : (row.row.exec && row.row.link) ≡ false

-- a row as a manifest says it
abbrev pub said : NewRow → List ℕ × FileRow
said row = (row.path, row.row)

-- rows that ascend are read back from their text as they are
abbrev pub AreReadBack : Type 0
AreReadBack = (rows : List NewRow) → ascend [] rows ≡ true → All IsSayable rows → manifest_of (text_of rows) ≡ Ok (map said rows)

-- what storing a manifest answers; a shelf that failed says nothing but that the text wasn't too large
abbrev pub AnswersManifest : List ℕ → Result Id20 StoreFault → Type 0
AnswersManifest text (Ok id) = (id.0 ≡ sha1 text) × (length text ≤ most) × (bytes_eq (sha1 text) (replicate 20 0) ≡ false)
AnswersManifest text (Err a_fault.OutOfMemory) = length text ≤ most
AnswersManifest text (Err (a_fault.Gone path)) = ⊥
AnswersManifest text (Err (a_fault.StoreClash id)) = (id.0 ≡ sha1 text) × (length text ≤ most)
AnswersManifest text (Err (a_fault.ManifestTooLarge size)) = (most < length text) × (size ≡ min (length text) (2 ^ 64 - 1))
AnswersManifest text (Err a_fault.TreeFailed) = ⊥
AnswersManifest text (Err a_fault.ShelfFailed) = length text ≤ most

-- and it clashes exactly where the text does
abbrev pub DecidesManifest : Bool → Result Id20 StoreFault → Type 0
DecidesManifest clash (Ok id) = clash ≡ false
DecidesManifest clash (Err a_fault.OutOfMemory) = Unit {0}
DecidesManifest clash (Err (a_fault.Gone path)) = ⊥
DecidesManifest clash (Err (a_fault.StoreClash id)) = clash ≡ true
DecidesManifest clash (Err (a_fault.ManifestTooLarge size)) = Unit {0}
DecidesManifest clash (Err a_fault.TreeFailed) = ⊥
DecidesManifest clash (Err a_fault.ShelfFailed) = Unit {0}

-- want of memory, and a text that is too large
abbrev pub IsBefore : StoreFault → Type 0
IsBefore a_fault.OutOfMemory = Unit {0}
IsBefore (a_fault.ManifestTooLarge size) = Unit {0}
IsBefore (a_fault.Gone path) = ⊥
IsBefore (a_fault.StoreClash id) = ⊥
IsBefore a_fault.TreeFailed = ⊥
IsBefore a_fault.ShelfFailed = ⊥
