-- The flags of a node (Mercurial help, internals.dirstate-v2, "The data file format"), by the number of their bit.
use Rattle.std.specs.Prelude.{ℕ, ◌/◌, ◌%◌, ◌^◌, Bool, true, false, ◌==◌}

-- the bit of this number is set
abbrev pub has : ℕ → ℕ → Bool
has flags bit = flags / 2 ^ bit % 2 == 1

-- what a bit of this number adds, where it is set
abbrev pub flag : Bool → ℕ → ℕ
flag true bit = 2 ^ bit
flag false bit = 0

abbrev pub wdir_tracked : ℕ
wdir_tracked = 0

abbrev pub p1_tracked : ℕ
p1_tracked = 1

abbrev pub p2_info : ℕ
p2_info = 2

abbrev pub mode_exec_perm : ℕ
mode_exec_perm = 3

abbrev pub mode_is_symlink : ℕ
mode_is_symlink = 4

-- the first of the four bits that record the fallbacks of file systems without modes
abbrev pub has_fallback_exec : ℕ
has_fallback_exec = 5

abbrev pub expected_state_is_modified : ℕ
expected_state_is_modified = 9

abbrev pub has_mode_and_size : ℕ
has_mode_and_size = 10

abbrev pub has_mtime : ℕ
has_mtime = 11

abbrev pub mtime_second_ambiguous : ℕ
mtime_second_ambiguous = 12

abbrev pub directory : ℕ
directory = 13

abbrev pub all_unknown_recorded : ℕ
all_unknown_recorded = 14
