-- Why the records of a data file were not read.
use Rattle.dp_io.specs.declared.faults.WholeFault.{WholeFault}
use Rattle.dp_io.specs.declared.faults.WholeFault.TheVariants as whole
use Rattle.dp_records.specs.declared.faults.DataFault.{DataFault}
use Rattle.dp_records.specs.declared.faults.DataFault.TheVariants as fault

-- the fault of data whose text was not read whole
abbrev pub fault_of_whole : WholeFault → DataFault
fault_of_whole whole.Failed = fault.ReadFault
fault_of_whole whole.TooLong = fault.TooLong
fault_of_whole whole.NoMemory = fault.NoMemory
