-- The faults of the crates below, under the names of a command's faults.
use Rattle.hg_append.specs.declared.fault.EncodeFault.{EncodeFault}
use Rattle.hg_append.specs.declared.fault.EncodeFault.TheVariants as an_encode_fault
use Rattle.hg_listing.specs.declared.fault.StatusFault.{StatusFault}
use Rattle.hg_listing.specs.declared.fault.StatusFault.TheVariants as a_status_fault
use Rattle.hg_ops.specs.declared.refusal.OpFault.{OpFault}
use Rattle.hg_ops.specs.declared.refusal.OpFault.TheVariants as an_op_fault
use Rattle.hg_words.specs.declared.fault.WordsFault.{WordsFault}
use Rattle.hg_words.specs.declared.fault.WordsFault.TheVariants as a_words_fault
use Rattle.hg_report.specs.declared.fault.Fault.{Fault}
use Rattle.hg_report.specs.declared.fault.Fault.TheVariants as a_fault

abbrev pub of_status : StatusFault → Fault
of_status a_status_fault.OutOfMemory = a_fault.OutOfMemory
of_status a_status_fault.TreeFailed = a_fault.TreeFailed
of_status a_status_fault.ShelfFailed = a_fault.ShelfFailed
of_status (a_status_fault.NoManifest id) = a_fault.NoManifest id
of_status (a_status_fault.ManifestTooLarge size) = a_fault.ManifestTooLarge size
of_status (a_status_fault.ManifestLine line) = a_fault.ManifestLine line
of_status (a_status_fault.ManifestOrder line) = a_fault.ManifestOrder line
of_status (a_status_fault.NoContents id) = a_fault.NoContents id
of_status (a_status_fault.IgnoreTooLarge size) = a_fault.IgnoreTooLarge size
of_status (a_status_fault.IgnoreText at) = a_fault.IgnoreText at
of_status (a_status_fault.BadGlob line) = a_fault.BadGlob line
of_status (a_status_fault.BadRegexp line) = a_fault.BadRegexp line
of_status (a_status_fault.RegexpTooBig line) = a_fault.RegexpTooBig line
of_status (a_status_fault.BadInclude line) = a_fault.BadInclude line

abbrev pub of_encode : EncodeFault → Fault
of_encode an_encode_fault.OutOfMemory = a_fault.OutOfMemory
of_encode (an_encode_fault.TooLarge size) = a_fault.TooLarge size
of_encode an_encode_fault.IdsSpent = a_fault.IdsSpent

abbrev pub of_op : OpFault → Fault
of_op an_op_fault.OutOfMemory = a_fault.OutOfMemory
of_op an_op_fault.TreeFailed = a_fault.TreeFailed
of_op an_op_fault.ShelfFailed = a_fault.ShelfFailed
of_op (an_op_fault.NoManifest id) = a_fault.NoManifest id
of_op (an_op_fault.ManifestTooLarge size) = a_fault.ManifestTooLarge size
of_op (an_op_fault.ManifestLine line) = a_fault.ManifestLine line
of_op (an_op_fault.ManifestOrder line) = a_fault.ManifestOrder line
of_op (an_op_fault.NoContents id) = a_fault.NoContents id

abbrev pub of_words : WordsFault → Fault
of_words a_words_fault.OutOfMemory = a_fault.OutOfMemory
of_words a_words_fault.NoCommand = a_fault.NoCommand
of_words a_words_fault.UnknownCommand = a_fault.UnknownCommand
of_words a_words_fault.Usage = a_fault.Usage
of_words (a_words_fault.BadNode word) = a_fault.BadNode word
