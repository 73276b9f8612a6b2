-- What the parent of the copy has: the manifest of its files.
use Rattle.std.specs.Prelude.{String, ℕ, ◌≡◌, ◌≤◌, ◌<◌, ◌*◌, ◌%◌, ◌==◌, ◌||◌, Bool, true, false, not, if◌then◌else◌, List, [], ◌∷◌, ◌++◌, length, Option, Some, None, Ok, IfSome, is_some, option_map}
use Rattle.std.specs.BTreeMap.{BTreeMap, get_by_text}
use Rattle.std.specs.Map.{lookup}
use Rattle.std.specs.Str.{bytes_eq}
use Rattle.std.specs.String.{string_bytes}
use Rattle.hex.specs.Hex.{encode_lower}
use Rattle.hg_gen.specs.Copy.{contents_of, path_of}
use Rattle.hg_manifest.specs.Plain.{most}
use Rattle.hg_manifest.specs.Rows.{Rows, manifest_of}
use Rattle.hg_manifest.specs.declared.row.FileRow.{FileRow}

abbrev pub is_in_parent : ℕ → Bool
is_in_parent file = not (file % 16 == 9 || file % 16 == 11)

-- the name of a file's contents, where the parent has it
abbrev pub in_parent : ℕ → Option (List ℕ)
in_parent file = if is_in_parent file then Some (contents_of file) else None

-- the first so many files have the names of their contents, where the parent has them, and nothing else has one
pub record AreNamed (files : ℕ) (named : List ℕ → Option (List ℕ)) : Type 0 where
  pub file : (i : ℕ) → i < files → named (path_of i) ≡ in_parent i
  pub only : (at : List ℕ) → is_some (named at) ≡ true → (i : ℕ) × (i < files) × (at ≡ path_of i)

-- the names in a map, by path
abbrev pub names_in : {Y Z : Type 0} → BTreeMap (String Y) (String Z) → List ℕ → Option (List ℕ)
names_in map at = option_map string_bytes (get_by_text map at)

-- a path and the name of its contents
abbrev pub Named : Type 0
Named = List ℕ × List ℕ

abbrev pub pair : {Y Z : Type 0} → String Y × String Z → Named
pair entry = (string_bytes entry.0, string_bytes entry.1)

-- the lines of some, one behind another: path, NUL, name and LF
abbrev pub lines_of : List Named → List ℕ
lines_of [] = []
lines_of (one ∷ more) = one.0 ++ 0 ∷ (one.1 ++ 10 ∷ lines_of more)

-- the names in rows
abbrev pub named_in : Rows → List ℕ → Option (List ℕ)
named_in rows at = option_map (λ row. encode_lower row.id.0) (lookup (bytes_eq at) rows)

-- a row without a flag
abbrev pub IsPlain : FileRow → Type 0
IsPlain row = (row.exec ≡ false) × (row.link ≡ false)

-- a text is the manifest of the parent of so many directories: it has a row for each of its files, without a flag, and no other
pub record IsManifest (dirs : ℕ) (text : List ℕ) : Type 0 where
  pub rows : Rows
  pub reads : manifest_of text ≡ Ok rows
  pub few : length text ≤ most
  pub named : AreNamed (16 * dirs) (named_in rows)
  pub plain : (at : List ℕ) → IfSome (lookup (bytes_eq at) rows) IsPlain
