-- Why a run may end before its end: the table of its statuses, a row a stop.
use Rattle.std.specs.Prelude.{ℕ, ◌+◌, ◌%◌, ◌==◌, ◌||◌, ◌++◌, Bool, List, [], ◌∷◌, Option, Some, None, codes}
use Rattle.dp_io.specs.declared.faults.OpenFault.{OpenFault}
use Rattle.dp_io.specs.declared.faults.OpenFault.TheVariants as open_fault
use Rattle.dp_io.specs.declared.faults.LineFault.{LineFault}
use Rattle.dp_io.specs.declared.faults.LineFault.TheVariants as line_fault
use Rattle.dp_io.specs.declared.faults.WholeFault.{WholeFault}
use Rattle.dp_io.specs.declared.faults.WholeFault.TheVariants as whole_fault
use Rattle.dp_pipeline.specs.declared.faults.PipelineFault.{PipelineFault}
use Rattle.dp_pipeline.specs.declared.faults.PipelineFault.TheVariants as pipeline_fault
use Rattle.dp_records.specs.declared.faults.DataFault.{DataFault}
use Rattle.dp_records.specs.declared.faults.DataFault.TheVariants as data_fault
use Rattle.dp_runner.specs.declared.stop.Stop.{Stop}
use Rattle.dp_runner.specs.declared.stop.Stop.TheVariants as stop

-- what a stop shows: the status that the run ends with, and the line that the error output gains
pub record StopRow : Type 0 where
  pub status : ℕ
  pub line : List ℕ

-- the line of a refused pipeline: its number, which is from 1 to 9 and so has one digit
abbrev pub refused_line : ℕ → List ℕ
refused_line c = codes "dp: pipeline refused " ++ (48 + c % 10) ∷ codes "\n"

-- the table
abbrev pub row_of : Stop → StopRow
row_of stop.Usage = record { status = 2; line = codes "dp: usage\n" }
row_of (stop.Pipeline c) = record { status = 3; line = refused_line c }
row_of stop.ReadFault = record { status = 4; line = codes "dp: read fault\n" }
row_of stop.WriteFault = record { status = 5; line = codes "dp: write fault\n" }
row_of stop.DrawFault = record { status = 6; line = codes "dp: draw fault\n" }
row_of stop.TooLong = record { status = 7; line = codes "dp: too long\n" }
row_of stop.QueryLimit = record { status = 8; line = codes "dp: query limit\n" }
row_of stop.NoMemory = record { status = 9; line = codes "dp: no memory\n" }

-- the status of a run that this stop ended, or that nothing stopped
abbrev pub status_at : Option Stop → ℕ
status_at None = 0
status_at (Some reason) = (row_of reason).status

-- the line that the error output gains, none where nothing stopped the run
abbrev pub line_at : Option Stop → List ℕ
line_at None = []
line_at (Some reason) = (row_of reason).line

-- the statuses of runs that wrote nothing, whatever the command and whatever the shelf tells
abbrev pub is_silent : ℕ → Bool
is_silent status = status == 2 || status == 3 || status == 7

-- what a fault of opening a file stops a run with
abbrev pub stop_of_open : OpenFault → Stop
stop_of_open open_fault.Failed = stop.ReadFault
stop_of_open open_fault.NoMemory = stop.NoMemory

-- what a fault of reading a file whole stops a run with
abbrev pub stop_of_whole : WholeFault → Stop
stop_of_whole whole_fault.Failed = stop.ReadFault
stop_of_whole whole_fault.TooLong = stop.TooLong
stop_of_whole whole_fault.NoMemory = stop.NoMemory

-- what a fault of reading the records of a data file stops a run with
abbrev pub stop_of_data : DataFault → Stop
stop_of_data data_fault.ReadFault = stop.ReadFault
stop_of_data data_fault.TooLong = stop.TooLong
stop_of_data data_fault.NoMemory = stop.NoMemory

-- what a fault of reading a line of queries stops a run with
abbrev pub stop_of_line : LineFault → Stop
stop_of_line line_fault.Failed = stop.ReadFault
stop_of_line line_fault.TooLong = stop.QueryLimit

-- what a fault of reading a pipeline stops a run with
abbrev pub stop_of_pipeline : PipelineFault → Stop
stop_of_pipeline (pipeline_fault.Refused c) = stop.Pipeline c
stop_of_pipeline pipeline_fault.NoMemory = stop.NoMemory
