-- How the readers answer: what a text is, its refusal, or want of memory.
use Rattle.std.specs.Prelude.{◌≡◌, ◌≤◌, ℕ, Option, Some, None, Result, Ok, Err}
use Rattle.dp_pipeline.specs.declared.faults.PipelineFault.{PipelineFault}
use Rattle.dp_pipeline.specs.declared.faults.PipelineFault.TheVariants as fault
use Rattle.dp_pipeline.specs.declared.faults.QueryFault.{QueryFault}
use Rattle.dp_pipeline.specs.declared.faults.QueryFault.TheVariants as query_fault
use Rattle.dp_pipeline.specs.declared.query.Query.{Query}

-- a value of that meaning, or that refusal, unless memory ran out
abbrev pub Answers : {T M : Type 0} → (T → M) → Result T PipelineFault → Result M ℕ → Type 0
Answers meaning (Ok made) wanted = wanted ≡ Ok (meaning made)
Answers meaning (Err (fault.Refused c)) wanted = wanted ≡ Err c
Answers meaning (Err fault.NoMemory) wanted = Unit {0}

-- the number of a refusal is from 1 to 9
abbrev pub IsNumbered : PipelineFault → Type 0
IsNumbered (fault.Refused c) = (1 ≤ c) × (c ≤ 9)
IsNumbered fault.NoMemory = Unit {0}

-- the query that a line spells, or that it spells none, unless memory ran out
abbrev pub Reads : Result Query QueryFault → Option Query → Type 0
Reads (Ok query) wanted = wanted ≡ Some query
Reads (Err query_fault.Malformed) wanted = wanted ≡ None
Reads (Err query_fault.NoMemory) wanted = Unit {0}
