use Rattle.std.proofs.Common.{◌≡◌, ◌++◌, drop}
use Rattle.dp_num.specs.Fractions.{fraction_of}
use Rattle.dp_pipeline.specs.Printing.{plain_lines}
use Rattle.dp_pipeline.proofs.printing.push_parts.Given as goal

-- the lines so far, and then what is left
abbrev pub invariant-loop-part : goal.invariant-loop-part
invariant-loop-part l =
    l.initial.lines ++ plain_lines (fraction_of l.ratio) l.parts l.at
    ≡ l.lines ++ plain_lines (fraction_of l.ratio) (drop l.part-index l.parts) l.at
