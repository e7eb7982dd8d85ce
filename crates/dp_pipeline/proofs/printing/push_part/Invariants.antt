use Rattle.std.proofs.Common.{◌≡◌, ◌++◌, drop}
use Rattle.dp_num.specs.Fractions.{fraction_of}
use Rattle.dp_pipeline.specs.Printing.{part_lines}
use Rattle.dp_pipeline.proofs.printing.push_part.Given as goal

-- the lines so far, and then what is left, from where the stages so far lead
abbrev pub invariant-loop-stage : goal.invariant-loop-stage
invariant-loop-stage l =
    l.initial.lines ++ part_lines (fraction_of l.ratio) l.part.noise l.part.stages l.fn.from
    ≡ l.lines ++ part_lines (fraction_of l.ratio) l.part.noise (drop l.stage-index l.part.stages) l.at
