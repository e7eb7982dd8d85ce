use Rattle.std.proofs.Common.{◌≡◌, ◌-◌}
use Rattle.dp_draws.specs.ChaChaDraws.{first_taken, most_turns}
use Rattle.dp_draws.proofs.chacha_draws.first_taken.Given as goal

-- the turns left give from here what all turns give from the start
abbrev pub invariant-loop-turn : goal.invariant-loop-turn
invariant-loop-turn l = first_taken most_turns l.m l.initial.rng ≡ first_taken (most_turns - l._turn) l.m l.rng
