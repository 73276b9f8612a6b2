-- A look at a file: the size that a stat states of it, and what a read then gives.
use Rattle.std.specs.Prelude.{ℕ, ◌+◌, if◌then◌else◌, List, Option, Some, None, length, nat_lt, codes}
use Rattle.std.specs.Str.{is_utf8}
use Rattle.std.specs.Str.Lossy.{utf8_valid_len}
use Rattle.hg_base.specs.declared.stat.Stat.{Stat}
use Rattle.hg_base.specs.declared.stat.Kind.{Kind}
use Rattle.hg_base.specs.declared.stat.Kind.TheVariants as a_kind
use Rattle.hg_tree.specs.Moment.{Moment, bytes_at, stat_at}
use Rattle.hg_include.specs.declared.fault.Bad.TheVariants as a_bad
use Rattle.hg_include.specs.declared.look.Given.{Given}
use Rattle.hg_include.specs.declared.look.Given.TheVariants as given

-- the file at which a reading begins
abbrev pub ignore_file : List ℕ
ignore_file = codes ".hgignore"

-- the size that a stat shows of a file; anything else has none
abbrev pub size_of_kind : Kind → ℕ → Option ℕ
size_of_kind a_kind.File size = Some size
size_of_kind a_kind.Link size = None
size_of_kind a_kind.Dir size = None
size_of_kind a_kind.Other size = None

abbrev pub file_size : Option Stat → Option ℕ
file_size None = None
file_size (Some stat) = size_of_kind stat.kind stat.size

-- what a stat shows and what a read gives; nothing is read where the stat shows no file, or one over the size
pub record Look : Type 0 where
  pub size : Option ℕ
  pub bytes : Option (List ℕ)

-- a look at a path at one moment
abbrev pub look_at : Moment → List ℕ → Look
look_at moment path = record { size = file_size (stat_at moment path); bytes = bytes_at moment path }

-- bytes are taken as a text where they are one; else they are refused at the first byte from which they aren't
abbrev pub given_text : List ℕ → Given
given_text bytes = if is_utf8 bytes then given.There bytes else given.Refused (a_bad.Text (utf8_valid_len bytes))

-- what a read of one byte more than is taken gives; a file that went in the meantime is missing
abbrev pub given_bytes : ℕ → Option (List ℕ) → Given
given_bytes most None = given.Missing
given_bytes most (Some bytes) = if nat_lt most (length bytes) then given.Refused (a_bad.TooLarge (most + 1)) else given_text bytes

abbrev pub given_size : ℕ → Option ℕ → Option (List ℕ) → Given
given_size most None bytes = given.Missing
given_size most (Some size) bytes = if nat_lt most size then given.Refused (a_bad.TooLarge size) else given_bytes most bytes

-- what a look comes to, where so many bytes are taken at most: no file, one that is refused, or a text
unfoldable pub given_by : ℕ → Look → Given
given_by most look = given_size most look.size look.bytes
