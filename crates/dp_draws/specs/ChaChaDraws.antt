-- The draws of ChaCha20, whose stream of 32-bit words a key of eight words gives. A draw is made of two words.
use Rattle.std.specs.Prelude.{ℕ, zero, suc, ◌+◌, ◌*◌, ◌/◌, ◌%◌, ◌^◌, List, [], ◌∷◌, ◌++◌, Option, Some, None}
use Rattle.std.specs.Prelude.{take, slice_index, nat_lt, if◌then◌else◌}
use Rattle.rand_chacha.specs.ChaCha.{ChaCha, next_word, of_seed}
use Rattle.dp_draws.specs.Taking.{Turn}

-- a number made of the next two words, and the generator after them
pub record TwoWords : Type 0 where
  pub number : ℕ
  pub after : ChaCha

-- the first word is the low half of the number, the second its high half
abbrev pub two_words : ChaCha → TwoWords
two_words generator =
    let first = next_word 10 generator in
    let second = next_word 10 first.1 in
    record { number = first.0 + second.0 * 2 ^ 32; after = second.1 }

-- the greatest multiple of a bound that is at most 2 ^ 64: the numbers below it are taken
abbrev pub taken_below : ℕ → ℕ
taken_below bound = bound * (2 ^ 64 / bound)

-- a draw, or none, and the generator after it
pub record Drawn : Type 0 where
  pub draw : Option ℕ
  pub after : ChaCha

-- the remainder of the first number that is taken, of so many; or none, where none of them is
unfoldable pub first_taken : ℕ → ℕ → ChaCha → Drawn
first_taken zero bound generator = record { draw = None; after = generator }
first_taken (suc turns) bound generator =
    let words = two_words generator in
    if nat_lt words.number (taken_below bound)
    then record { draw = Some (words.number % bound); after = words.after }
    else first_taken turns bound words.after

-- how many numbers in a row may not be taken before a draw fails
abbrev pub most_turns : ℕ
most_turns = 128

-- a generator's state: the eight words of its key, and the place of its next word, modulo 2 ^ 68
abbrev pub state_of : ChaCha → List ℕ
state_of generator = generator.key ++ generator.word_pos ∷ []

-- the generator of a state, on the stream of words with the number 0
abbrev pub generator_of : List ℕ → ChaCha
generator_of state = record { key = take 8 state; stream = 0; word_pos = slice_index state 8 }

-- the state of a seed of 32 bytes: the key is its bytes as eight words, each lowest byte first, and the place is 0
abbrev pub seed_state : List ℕ → List ℕ
seed_state seed = state_of (of_seed seed)

-- the draw of a state for a bound, and the next state
unfoldable pub chacha_step : List ℕ → ℕ → Turn
chacha_step state bound =
    let drawn = first_taken most_turns bound (generator_of state) in
    record { draw = drawn.draw; next = state_of drawn.after }
