-- A draw of ChaCha20 is below its bound.
use Rattle.std.specs.Prelude.{ℕ, zero, suc, ◌≡◌, ◌<◌, ◌%◌, Bool, true, false, List, Some, nat_lt, if◌then◌else◌}
use Rattle.std.proofs.Common.{arith}
use Rattle.rand_chacha.specs.ChaCha.{ChaCha}
use Rattle.dp_draws.specs.ChaChaDraws.{Drawn, two_words, taken_below, first_taken, most_turns}
use Rattle.dp_draws.specs.ChaChaDraws.{generator_of, chacha_step}

-- a remainder is below the bound, and so is what later numbers give
one-below : (number bound draw : ℕ) (is_taken : Bool) (after : ChaCha) (later : Drawn) → 0 < bound
    → (later.draw ≡ Some draw → draw < bound)
    → (if is_taken then record { draw = Some (number % bound); after = after } else later).draw ≡ Some draw
    → draw < bound
one-below number bound draw true after later positive rest taken =
    let same : number % bound ≡ draw = cc in omega arith
one-below number bound draw false after later positive rest taken = rest taken

first-below : (turns bound draw : ℕ) (generator : ChaCha) → 0 < bound
    → (first_taken turns bound generator).draw ≡ Some draw → draw < bound
unfolding first_taken
first-below zero bound draw generator positive taken = absurd (cc)
first-below (suc turns) bound draw generator positive taken =
    let words = two_words generator in
    one-below words.number bound draw (nat_lt words.number (taken_below bound)) words.after
    (first_taken turns bound words.after) positive (first-below turns bound draw words.after positive) taken

pub chacha_below : (state : List ℕ) (bound draw : ℕ) → 0 < bound → (chacha_step state bound).draw ≡ Some draw
    → draw < bound
unfolding chacha_step
chacha_below state bound draw positive taken = first-below most_turns bound draw (generator_of state) positive taken
