-- The faults of reading the record and of printing it: from those of a load, and as a command tells them.
use Rattle.hg_report.specs.declared.fault.Fault.{Fault}
use Rattle.hg_report.specs.declared.fault.Fault.TheVariants as a_fault
use Rattle.hg_session.specs.declared.print_fault.PrintFault.{PrintFault}
use Rattle.hg_session.specs.declared.print_fault.PrintFault.TheVariants as a_print
use Rattle.hg_session.specs.declared.read_fault.ReadFault.{ReadFault}
use Rattle.hg_session.specs.declared.read_fault.ReadFault.TheVariants as a_read

abbrev pub of_read : ReadFault → Fault
of_read a_read.OutOfMemory = a_fault.OutOfMemory
of_read (a_read.Docket fault) = a_fault.Docket fault
of_read (a_read.Node fault) = a_fault.Node fault
of_read (a_read.DataGone ids) = a_fault.DataGone ids
of_read a_read.Failed = a_fault.ShelfFailed

abbrev pub of_print : PrintFault → Fault
of_print (a_print.Read fault) = of_read fault
of_print a_print.OutFailed = a_fault.OutFailed
