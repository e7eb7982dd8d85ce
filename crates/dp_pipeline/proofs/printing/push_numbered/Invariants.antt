use Rattle.std.proofs.Common.{◌≡◌, ◌+◌, ◌++◌, drop}
use Rattle.dp_num.specs.Fractions.{fraction_of}
use Rattle.dp_pipeline.specs.Printing.{numbered_lines}
use Rattle.dp_pipeline.proofs.printing.push_numbered.Given as goal

-- the lines so far, and then what is left

abbrev pub invariant-loop-part : goal.invariant-loop-part
invariant-loop-part l =
    (l.number ≡ l.part-index + 1)
    × (l.initial.lines ++ numbered_lines (fraction_of l.ratio) 1 l.parts l.at
    ≡ l.lines ++ numbered_lines (fraction_of l.ratio) l.number (drop l.part-index l.parts) l.at)
