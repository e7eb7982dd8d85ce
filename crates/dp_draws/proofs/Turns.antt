-- Numbers of two words, turn by turn: which are taken, and what stays of the generator.
use Rattle.std.proofs.Common.{◌≡◌, ℕ, zero, suc, ◌-◌, ◌%◌, ◌<◌, ◌≤◌, length, Bool, true, false, List, [], ◌∷◌, ◌++◌, Option, Some, None, refl, sym, ap, ◌∙◌, subst, arith, nat_lt, if◌then◌else◌, take}
use Rattle.std.specs.Prelude.{slice_index}
use Rattle.std.proofs.lemmas.Bool.Decides.{nat_tests}
use Rattle.std.proofs.lemmas.Bool.{lt-ltb}
use Rattle.std.proofs.Math.Seq.{take-append_seam, get_or-append_seam}
use Rattle.rand_core.specs.Steps.{u64_via_u32}
use Rattle.rand_chacha.specs.ChaCha.{ChaCha, next_word}
use Rattle.dp_draws.specs.Taking.{Turn}
use Rattle.dp_draws.specs.ChaChaDraws.{TwoWords, Drawn, two_words, taken_below, first_taken, most_turns, state_of, generator_of, chacha_step}

-- the next 64 bits of a generator, as its crate reads them
abbrev pub Reads : ChaCha → ℕ → ChaCha → Type 0
Reads generator number after = ◌≡◌ {A = ℕ × ChaCha} (number, after) (u64_via_u32 (next_word 10) generator)

words-read : (generator : ChaCha) (number : ℕ) (after : ChaCha) → Reads generator number after → two_words generator ≡ record { number = number; after = after }
words-read generator number after read =
    let words : ℕ × ChaCha → TwoWords = λ r. record { number = r.0; after = r.1 } in
    sym (ap words read)

-- what a number gives that is or is not taken, with what the turns after it would give
chosen : Bool → ℕ → TwoWords → Drawn → Drawn
chosen is_taken bound words later = if is_taken then record { draw = Some (words.number % bound); after = words.after } else later

one-turn : (turns bound : ℕ) (generator : ChaCha) → first_taken (suc turns) bound generator ≡ chosen (nat_lt (two_words generator).number (taken_below bound)) bound (two_words generator) (first_taken turns bound (two_words generator).after)
unfolding first_taken chosen
one-turn turns bound generator = refl

one-read : (turns bound number : ℕ) (generator after : ChaCha) (is_taken : Bool) → Reads generator number after → nat_lt number (taken_below bound) ≡ is_taken → first_taken (suc turns) bound generator ≡ chosen is_taken bound (record { number = number; after = after }) (first_taken turns bound after)
one-read turns bound number generator after is_taken read test =
    one-turn turns bound generator
    ∙ ap (λ w. chosen (nat_lt w.number (taken_below bound)) bound w (first_taken turns bound w.after)) (words-read generator number after read)
    ∙ ap (λ b. chosen b bound (record { number = number; after = after }) (first_taken turns bound after)) test

-- a number below the limit is taken
pub first_taken-now : (left bound number : ℕ) (generator after : ChaCha) → 0 < left → Reads generator number after → number < taken_below bound → first_taken left bound generator ≡ record { draw = Some (number % bound); after = after }
unfolding chosen
first_taken-now zero bound number generator after some read below = absurd (omega arith)
first_taken-now (suc turns) bound number generator after some read below = one-read turns bound number generator after true read (lt-ltb _ _ below)

-- any other is passed over
pub first_taken-later : (left bound number : ℕ) (generator after : ChaCha) → 0 < left → Reads generator number after → taken_below bound ≤ number → first_taken left bound generator ≡ first_taken (left - 1) bound after
unfolding chosen
first_taken-later zero bound number generator after some read above = absurd (omega arith)
first_taken-later (suc turns) bound number generator after some read above =
    let passed : nat_lt number (taken_below bound) ≡ false = grind (arith, nat_tests) in
    let rest : turns ≡ suc turns - 1 = omega arith in
    one-read turns bound number generator after false read passed ∙ ap (λ k. first_taken k bound after) rest

-- without a turn left there is no draw
pub first_taken-none : (left bound : ℕ) (generator : ChaCha) → left ≡ 0 → first_taken left bound generator ≡ record { draw = None; after = generator }
unfolding first_taken
first_taken-none zero bound generator none = refl
first_taken-none (suc turns) bound generator none = absurd (omega arith)

-- the key and the stream stay
one-keeps : {A : Type 0} (of : ChaCha → A) (words : TwoWords) (later : Drawn) (is_taken : Bool) (bound : ℕ) (kept : A) → of words.after ≡ kept → of later.after ≡ kept → of (chosen is_taken bound words later).after ≡ kept
unfolding chosen
one-keeps of words later true bound kept now after = now
one-keeps of words later false bound kept now after = after

first_taken-key : (turns bound : ℕ) (generator : ChaCha) → (first_taken turns bound generator).after.key ≡ generator.key
unfolding first_taken chosen
first_taken-key zero bound generator = refl
first_taken-key (suc turns) bound generator =
    let words = two_words generator in
    one-keeps (λ g. g.key) words (first_taken turns bound words.after) (nat_lt words.number (taken_below bound)) bound generator.key refl (first_taken-key turns bound words.after)

first_taken-stream : (turns bound : ℕ) (generator : ChaCha) → (first_taken turns bound generator).after.stream ≡ generator.stream
unfolding first_taken chosen
first_taken-stream zero bound generator = refl
first_taken-stream (suc turns) bound generator =
    let words = two_words generator in
    one-keeps (λ g. g.stream) words (first_taken turns bound words.after) (nat_lt words.number (taken_below bound)) bound generator.stream refl (first_taken-stream turns bound words.after)

-- a generator of eight words of key on the stream 0 is that of its state
state-back : (generator : ChaCha) → length generator.key ≡ 8 → generator.stream ≡ 0 → generator_of (state_of generator) ≡ generator
state-back generator whole first =
    let key : List ℕ = generator.key in
    let place : ℕ = generator.word_pos in
    let front : take 8 (key ++ place ∷ []) ≡ key = subst (λ (n : ℕ). take n (key ++ place ∷ []) ≡ key) whole (take-append_seam key (place ∷ [])) in
    let last : slice_index (key ++ place ∷ []) 8 ≡ place = subst (λ (n : ℕ). slice_index (key ++ place ∷ []) n ≡ place) whole (get_or-append_seam key place [] 0) in
    ap {B = ChaCha} (λ k. record { key = k; stream = 0; word_pos = slice_index (key ++ place ∷ []) 8 }) front
    ∙ ap {B = ChaCha} (λ p. record { key = key; stream = 0; word_pos = p }) last
    ∙ ap {B = ChaCha} (λ s. record { key = key; stream = s; word_pos = place }) (sym first)

-- what the turns give is the step of the generator's state
pub chacha_step-of : (generator after : ChaCha) (bound : ℕ) (draw : Option ℕ) → length generator.key ≡ 8 → generator.stream ≡ 0 → first_taken most_turns bound generator ≡ record { draw = draw; after = after } → chacha_step (state_of generator) bound ≡ record { draw = draw; next = state_of after }
unfolding chacha_step
chacha_step-of generator after bound draw whole first given =
    ap {B = Turn} (λ d. record { draw = d.draw; next = state_of d.after }) (ap (first_taken most_turns bound) (state-back generator whole first) ∙ given)

-- what the turns leave of the key and the stream
pub key-after : (generator after : ChaCha) (bound : ℕ) (draw : Option ℕ) → first_taken most_turns bound generator ≡ record { draw = draw; after = after } → length generator.key ≡ 8 → length after.key ≡ 8
key-after generator after bound draw given whole = sym (ap (λ d. length d.after.key) given) ∙ ap length (first_taken-key most_turns bound generator) ∙ whole

pub stream-after : (generator after : ChaCha) (bound : ℕ) (draw : Option ℕ) → first_taken most_turns bound generator ≡ record { draw = draw; after = after } → generator.stream ≡ 0 → after.stream ≡ 0
stream-after generator after bound draw given first = sym (ap (λ d. d.after.stream) given) ∙ first_taken-stream most_turns bound generator ∙ first
