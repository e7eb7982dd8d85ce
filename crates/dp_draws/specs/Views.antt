-- What is seen of the draw sources.
use Rattle.std.specs.Prelude.{ℕ, List, drop}
use Rattle.dp_draws.specs.declared.replay.Replay.{Replay}
use Rattle.dp_draws.specs.declared.no_draws.NoDraws.{NoDraws}
use Rattle.dp_draws.specs.declared.chacha_draws.ChaChaDraws.{ChaChaDraws}
use Rattle.dp_draws.specs.ChaChaDraws.{state_of}

-- the numbers that a replay has still to give
abbrev pub numbers_left : Replay → List ℕ
numbers_left source = drop source.place source.list.items

-- how many faults a replay has met
abbrev pub replay_faults : Replay → ℕ
replay_faults source = source.failed

-- how many faults a source that always fails has met
abbrev pub no_draws_faults : NoDraws → ℕ
no_draws_faults source = source.failed

-- the state of a source of ChaCha20
abbrev pub chacha_state : ChaChaDraws → List ℕ
chacha_state source = state_of source.rng

-- how many faults a source of ChaCha20 has met
abbrev pub chacha_faults : ChaChaDraws → ℕ
chacha_faults source = source.failed
