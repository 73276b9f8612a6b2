-- The requirements of a repository, one in each line of its file `requires`, and what they ask of a program that keeps its dirstate.
use Rattle.std.specs.Prelude.{ℕ, Bool, true, false, if◌then◌else◌, List, Option, codes, ◌==◌}
use Rattle.std.specs.List.{find, list_any, slice_split}
use Rattle.std.specs.Str.{bytes_eq}
use Rattle.std.specs.Str.Lines.{lines}
use Rattle.hg_front.specs.declared.requirement.Class.{Class}
use Rattle.hg_front.specs.declared.requirement.Class.TheVariants as a_class

-- the tables: names with a space between them. These say how the store is kept, where it is, or that the dirstate is kept as dirstate-v2
abbrev pub harmless : List ℕ
harmless = codes "bookmarksinstore dirstate-v2 dotencode exp-archived-phase exp-changelog-v2 exp-compression-none exp-compression-zlib exp-compression-zstd exp-copies-sidedata-changeset exp-revlogv2.2 fncache generaldelta internal-phase-2 persistent-nodemap relshared revlog-compression-zstd revlogv1 share-safe shared sparserevlog store treemanifest"

-- these ask more of who changes the dirstate: a file beside it that is written at each change of what is tracked
abbrev pub writers : List ℕ
writers = codes "dirstate-tracked-key-v1"

-- with these a working copy holds other things than the files of its commit
abbrev pub unsupported : List ℕ
unsupported = codes "exp-sparse git largefiles lfs narrowhg-experimental"

abbrev pub is_listed : List ℕ → List ℕ → Bool
is_listed table name = list_any (λ listed. bytes_eq listed name) (slice_split (λ b. b == 32) table)

-- what a requirement asks: of one that stands in no table it isn't known
abbrev pub class_of : List ℕ → Class
class_of name =
    if is_listed harmless name
    then a_class.Harmless
    else (if is_listed writers name then a_class.Writers else (if is_listed unsupported name then a_class.Unsupported else a_class.Unknown))

-- a command, of which it is said whether it changes the dirstate, is refused for a requirement of that class
abbrev pub is_refused_class : Bool → Class → Bool
is_refused_class changes a_class.Harmless = false
is_refused_class changes a_class.Writers = changes
is_refused_class changes a_class.Unsupported = true
is_refused_class changes a_class.Unknown = true

abbrev pub is_refused : Bool → List ℕ → Bool
is_refused changes name = is_refused_class changes (class_of name)

-- the first line of a text for which it is refused
abbrev pub refused_in : Bool → List ℕ → Option (List ℕ)
refused_in changes text = find (is_refused changes) (lines text)

-- some line of a text is this requirement
abbrev pub names : List ℕ → List ℕ → Bool
names text requirement = list_any (λ name. bytes_eq name requirement) (lines text)
