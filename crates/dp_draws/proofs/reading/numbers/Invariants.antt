use Rattle.std.proofs.Common.{◌≡◌, ◌++◌, length, drop}
use Rattle.dp_draws.specs.Numbers.{drawn_numbers, leading_numbers, tokens}
use Rattle.dp_draws.proofs.reading.numbers.Given as goal

-- the numbers so far and those of the tokens left are those of the file
abbrev pub invariant-loop-token : goal.invariant-loop-token
invariant-loop-token l = l.numbers.items ++ leading_numbers (drop (length l.yielded) (tokens l.bytes)) ≡ drawn_numbers l.bytes
