-- Why a command met a fault: one table, a line a fault, for every command.
use Rattle.std.specs.Prelude.{◌≡◌, ◌⊎◌, false, true}
use Rattle.hg_append.specs.declared.fault.EncodeFault.TheVariants as an_encode_fault
use Rattle.hg_base.specs.Fault.{Rose}
use Rattle.hg_entry.specs.Table.{Table}
use Rattle.hg_listing.specs.declared.fault.StatusFault.{StatusFault}
use Rattle.hg_listing.specs.declared.fault.StatusFault.TheVariants as a_status
use Rattle.hg_report.specs.Cause.{of_status}
use Rattle.hg_report.specs.declared.fault.Fault.{Fault}
use Rattle.hg_report.specs.declared.fault.Fault.TheVariants as a_fault
use Rattle.hg_session.specs.Call.{Call, Fails}
use Rattle.hg_session.specs.Change.{MetStop, MetUnfit, makes_in}
use Rattle.hg_session.specs.Commands.{is_change, is_done}
use Rattle.hg_session.specs.Flags.{wanted_of}
use Rattle.hg_session.specs.Listed.{StatusMet}
use Rattle.hg_session.specs.Loaded.{IsLoaded, LoadMet, WasLoaded}
use Rattle.hg_session.specs.declared.read_fault.ReadFault.TheVariants as a_read
use Rattle.hg_words.specs.declared.flags.StatusFlags.{StatusFlags}
use Rattle.hg_words.specs.declared.given.Command.TheVariants as a_command

-- the command is a status, whose listing over the table that was read met this fault
abbrev pub MetByStatus : Call → StatusFault → Type 0
MetByStatus call fault =
    (flags : StatusFlags) × (call.command ≡ a_command.Status flags) × (table : Table) × IsLoaded call.looked.shelf table × StatusMet call.looked (wanted_of flags) table fault

-- the command changes the record, and met its fault so
abbrev pub MetByChange : Call → Type 0 → Type 0
MetByChange call Met = (is_change call.command ≡ true) × Met

-- a fault of the plain store was met by a status, or by a command that changes the record
abbrev pub MetInStore : Call → StatusFault → Type 0
MetInStore call fault = MetByStatus call fault ⊎ MetByChange call (MetStop (makes_in call) call.looked.shelf (of_status fault))

-- each fault comes only for its cause; want of memory needs none, and no fault of the words comes once they are a command
abbrev pub CommandCause : Call → Fault → Type 0
CommandCause call a_fault.OutOfMemory = Unit {0}
CommandCause call a_fault.NotBuilt = is_done call.command ≡ false
CommandCause call (a_fault.Docket fault) = LoadMet (a_read.Docket fault) call.looked.shelf
CommandCause call (a_fault.Node fault) = LoadMet (a_read.Node fault) call.looked.shelf
CommandCause call (a_fault.DataGone ids) = LoadMet (a_read.DataGone ids) call.looked.shelf
CommandCause call (a_fault.NoManifest id) = MetInStore call (a_status.NoManifest id)
CommandCause call (a_fault.ManifestTooLarge size) = MetInStore call (a_status.ManifestTooLarge size)
CommandCause call (a_fault.ManifestLine line) = MetInStore call (a_status.ManifestLine line)
CommandCause call (a_fault.ManifestOrder line) = MetInStore call (a_status.ManifestOrder line)
CommandCause call (a_fault.NoContents id) = MetInStore call (a_status.NoContents id)
CommandCause call (a_fault.IgnoreTooLarge size) = MetByStatus call (a_status.IgnoreTooLarge size)
CommandCause call (a_fault.IgnoreText at) = MetByStatus call (a_status.IgnoreText at)
CommandCause call (a_fault.BadGlob line) = MetByStatus call (a_status.BadGlob line)
CommandCause call (a_fault.BadRegexp line) = MetByStatus call (a_status.BadRegexp line)
CommandCause call (a_fault.RegexpTooBig line) = MetByStatus call (a_status.RegexpTooBig line) × Rose call.looked.oversize.before call.looked.oversize.after
CommandCause call (a_fault.BadInclude line) = MetByStatus call (a_status.BadInclude line)
CommandCause call a_fault.Held = MetByChange call (Rose call.locks.before call.locks.after)
CommandCause call (a_fault.TooLarge size) = MetByChange call (MetUnfit (makes_in call) call.looked.shelf (an_encode_fault.TooLarge size))
CommandCause call a_fault.IdsSpent = MetByChange call (MetUnfit (makes_in call) call.looked.shelf an_encode_fault.IdsSpent)
CommandCause call a_fault.TreeFailed = Fails call.looked.tree × WasLoaded call.looked.shelf
CommandCause call a_fault.ShelfFailed = Fails call.looked.shelf
CommandCause call a_fault.OutFailed = Fails call.out
CommandCause call a_fault.ErrFailed = Fails call.err
CommandCause call fault = ⊥
