-- What a status over the copy goes by, from what is recorded of it and what the plain store keeps.
use Rattle.std.proofs.Common.{ℕ, ◌≡◌, ◌*◌, ◌/◌, ◌<◌, Bool, true, cond, List, [], ◌++◌, get_or, Option, Some, None, Ok, inl, inr, refl, sym, ap, subst, ◌∙◌, arith}
use Rattle.std.specs.Prelude.{IfSome, Result, codes, is_some, option_map}
use Rattle.std.specs.Map.{lookup}
use Rattle.std.specs.Str.{bytes_eq}
use Rattle.std.proofs.lemmas.Bool.{both_ways, cond-true}
use Rattle.hex.specs.Hex.{encode_lower}
use Rattle.hg_base.specs.PathText.{is_below}
use Rattle.hg_base.proofs.Below.{below_name}
use Rattle.hg_compare.specs.Alike.{contents_name}
use Rattle.hg_compare.specs.Same.{parent_row}
use Rattle.hg_entry.specs.Entry.{EntryData}
use Rattle.hg_entry.specs.Table.{Table, flat_of, marks_of}
use Rattle.hg_flat.specs.Parent.{parent_rows, row_among}
use Rattle.hg_flat.specs.Patterns.{ignored_at}
use Rattle.hg_gen.specs.Copy.{AreFiles, contents_of, dir_of, path_of, text_of}
use Rattle.hg_gen.specs.Manifest.{AreNamed, IsPlain, is_in_parent, named_in}
use Rattle.hg_gen.specs.Recorded.{AreContents, IsStored, IsTable, entry_of, parent}
use Rattle.hg_gen.proofs.Naming.{dir_above}
use Rattle.hg_ignore.specs.State.{Ignore, Ignored, Piece, ignore_file, state_of}
use Rattle.hg_manifest.specs.Load.{manifest_in}
use Rattle.hg_manifest.specs.Plain.{plain_name}
use Rattle.hg_manifest.specs.Rows.{Rows}
use Rattle.hg_manifest.specs.declared.fault.ManifestFault.{ManifestFault}
use Rattle.hg_manifest.specs.declared.row.FileRow.{FileRow}
use Rattle.hg_shelf.specs.History.{Files}
use Rattle.hg_tree.specs.Moment.{Moment, bytes_at, is_file}
use Rattle.hg_walk.specs.Notes.{CleanNote, NotesData, applied, clean_at, with_clean}
use Rattle.hg_walk.specs.Walking.{rows_in}
use Rattle.hg_cli.proofs.Letters.{parent_of}
use Rattle.hg_cli.proofs.Numbering.{Stands, none_there}

-- ---- the plain store

-- what the plain store keeps of the copy's parent
pub record HasParent (dirs : ℕ) (files : Files) : Type 0 where
  pub rows : Rows
  pub manifest : manifest_in (record { 0 = parent }) (files (plain_name parent)) ≡ Ok rows
  pub named : AreNamed (16 * dirs) (named_in rows)
  pub plain : (at : List ℕ) → IfSome (lookup (bytes_eq at) rows) IsPlain
  pub contents : AreContents (16 * dirs) files

pub stored_parent : (dirs : ℕ) (files : Files) → IsStored dirs files → HasParent dirs files
stored_parent dirs files stored =
    record { rows = stored.rows; manifest = stored.manifest; named = stored.named; plain = stored.plain; contents = stored.contents }

abbrev some_bytes : Option (List ℕ) → List ℕ
some_bytes None = []
some_bytes (Some bytes) = bytes

row_so : (files : Files) (name text : List ℕ) → files (codes "plain/f-" ++ name) ≡ Some text → (o : Option FileRow) → IfSome o IsPlain → option_map (λ row. encode_lower row.id.0) o ≡ Some name
    → option_map (λ row. parent_row row (files (contents_name row.id.0))) o ≡ Some (parent_of text)
row_so files name text there None plain named = absurd (cc (named))
row_so files name text there (Some row) plain named =
    let is : encode_lower row.id.0 ≡ name = ap some_bytes named in
    let file : files (codes "plain/f-" ++ encode_lower row.id.0) ≡ Some text = ap (λ (n : List ℕ). files (codes "plain/f-" ++ n)) is ∙ there in
    λ k. Some (record { exec = plain.0 k; link = plain.1 k; bytes = file k })

pub parent_so : (dirs : ℕ) (files : Files) → HasParent dirs files → (i : ℕ) → i < 16 * dirs → is_in_parent i ≡ true → parent_rows files (record { 0 = parent }) (path_of i) ≡ Some (parent_of (text_of i))
parent_so dirs files has i below there =
    ap (λ (m : Result Rows ManifestFault). option_map (λ row. parent_row row (files (contents_name row.id.0))) (row_among m (path_of i))) has.manifest
    ∙ row_so files (contents_of i) (text_of i) (has.contents i below there) (lookup (bytes_eq (path_of i)) has.rows) (has.plain (path_of i))
    (has.named.file i below ∙ cond-true (is_in_parent i) (Some (contents_of i)) None there)

-- ---- no path is ignored

module _ (dirs : ℕ) (moment : Moment) (files : AreFiles (16 * dirs) moment.things) where
  no_patterns : moment.things ignore_file ≡ None
  no_patterns =
      none_there (moment.things ignore_file)
      (λ there.
      let at = files.only ignore_file there in
      elim at.2 [
        | inl file ↦
            both_ways (is_below (dir_of (at.0 / 16)) ignore_file) (below_name (dir_of (at.0 / 16)) ignore_file refl)
            (subst (λ (p : List ℕ). is_below (dir_of (at.0 / 16)) p ≡ true) (sym file) (dir_above at.0))
        | inr dir ↦ let first : 46 ≡ 100 = ap (λ (l : List ℕ). get_or l 0 0) dir in absurd (omega (arith, first))
      ])

  no_state : Ignore moment ≡ []
  no_state = ap (λ (b : Bool). cond b (state_of (bytes_at moment ignore_file)) []) (ap is_file no_patterns)

  pub none_ignored : (at : List ℕ) → ignored_at moment at → ⊥
  none_ignored at ignored = (subst (λ (state : List Piece). Ignored state at) no_state ignored).2

-- ---- what is recorded

-- a table has the marks of the copy's files, and no sources: what it says of sizes, modes and times is left open
pub record IsMarked (dirs : ℕ) (t : Table) : Type 0 where
  pub p1 : t.p1 ≡ parent
  pub marks : (i : ℕ) → i < 16 * dirs → option_map marks_of (t.entries (path_of i)) ≡ option_map marks_of (entry_of i)
  pub only : (at : List ℕ) → is_some (t.entries at) ≡ true → (i : ℕ) × (i < 16 * dirs) × (at ≡ path_of i)
  pub sources : (at : List ℕ) → t.sources at ≡ None

pub table_marked : (dirs : ℕ) (t : Table) → IsTable dirs t → IsMarked dirs t
table_marked dirs t is = record {
  p1 = is.p1;
  marks = λ i below. ap (option_map marks_of) (is.entries.entry i below);
  only = is.entries.only;
  sources = is.entries.sources;
}

noted_marks : (note : Option CleanNote) (entry : Option EntryData) → option_map marks_of (with_clean note entry) ≡ option_map marks_of entry
noted_marks None entry = refl
noted_marks (Some note) None = refl
noted_marks (Some note) (Some entry) = refl

noted_some : (note : Option CleanNote) (entry : Option EntryData) → is_some (with_clean note entry) ≡ is_some entry
noted_some None entry = refl
noted_some (Some note) None = refl
noted_some (Some note) (Some entry) = refl

-- and so has one with notes
pub noted_marked : (dirs : ℕ) (notes : NotesData) (t : Table) → IsMarked dirs t → IsMarked dirs (applied notes t)
noted_marked dirs notes t is = record {
  p1 = is.p1;
  marks = λ i below. noted_marks (clean_at notes.clean (path_of i)) (t.entries (path_of i)) ∙ is.marks i below;
  only = λ at there. is.only at (sym (noted_some (clean_at notes.clean at) (t.entries at)) ∙ there);
  sources = is.sources;
}

map_some : (entry : Option EntryData) → is_some (option_map marks_of entry) ≡ true → is_some entry ≡ true
map_some None there = there
map_some (Some entry) there = refl

pub stands : (dirs : ℕ) (t : Table) (files : Files) (moment : Moment) → IsMarked dirs t → HasParent dirs files → AreFiles (16 * dirs) moment.things
    → Stands dirs (flat_of t) moment (rows_in t files) (ignored_at moment)
stands dirs t files moment is has copy = record {
  marks = is.marks;
  only = λ at there. is.only at (map_some (t.entries at) there);
  sources = is.sources;
  things = copy;
  parent = λ i below there. ap (λ (p : List ℕ). parent_rows files (record { 0 = p }) (path_of i)) is.p1 ∙ parent_so dirs files has i below there;
  none = none_ignored dirs moment copy;
}
