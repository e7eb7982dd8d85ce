use Rattle.std.proofs.Common.{◌≡◌, ◌++◌, drop}
use Rattle.std.specs.Prelude.{string_bytes}
use Rattle.dp_pipeline.specs.Printing.{mids_text}
use Rattle.dp_pipeline.proofs.printing.push_mids.Given as goal

-- the line so far, and then what is left
abbrev pub invariant-loop-mid : goal.invariant-loop-mid
invariant-loop-mid l =
    string_bytes l.initial.line ++ mids_text l.mids ≡ string_bytes l.line ++ mids_text (drop l.mid-index l.mids)
