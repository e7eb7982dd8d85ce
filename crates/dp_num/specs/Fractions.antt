-- A ratio as the fraction of its two numbers.
use Rattle.dp_num.specs.Limits.{Fraction}
use Rattle.dp_num.specs.declared.ratio.Ratio.{Ratio}

-- the two numbers of a ratio
abbrev pub fraction_of : Ratio → Fraction
fraction_of ratio = record { p = ratio.p; q = ratio.q }
