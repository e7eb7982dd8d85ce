-- Digits read one at a time, each step within 64 bits, spell the number that the whole list spells.
use Rattle.std.proofs.Common.{◌≡◌, ℕ, ◌+◌, ◌*◌, ◌-◌, ◌^◌, ◌≤◌, ◌<◌, Bool, true, false, cond, ◌&&◌, List, [], ◌∷◌, length, Option, Some, None, refl, sym, ◌∙◌, ap, fold, arith, drop, lit<, ◌≢◌, suc, add-zero, zero-add, get_or, ℤ, to_z, of_z, SFits, w64}
use Rattle.std.specs.Prelude.{nat_le, option_and_then, IfSome, option_map, ◌==◌}
use Rattle.std.specs.List.{list_all}
use Rattle.std.specs.Char.{is_ascii_digit}
use Rattle.std.proofs.lemmas.Bool.Decides.{nat_tests}
use Rattle.std.proofs.lemmas.Int.{ints, to_z-of_z}
use Rattle.std.proofs.lemmas.Bool.{and_parts}
use Rattle.std.proofs.lemmas.List.{at_drop_more, at_drop_all}
use Rattle.std.proofs.Math.Nat.{pow-suc, pow-le-pow_right}
use Rattle.dp_count.specs.Digits.{word, decimal, short_decimal, without_sign, with_sign, by_sign, are_digits, digits_value}

abbrev pub more : ℕ → ℕ → ℕ
more n byte = 10 * n + (byte - 48)

-- the number that n and the digits after it spell
unfoldable pub spelled : ℕ → List ℕ → Option ℕ
spelled n [] = word (Some n)
spelled n (byte ∷ bytes) = cond (is_ascii_digit byte) (option_and_then (λ m. spelled m bytes) (word (Some (more n byte)))) None

fits-word : (n : ℕ) → n < 2 ^ 64 → nat_le n (2 ^ 64 - 1) ≡ true
fits-word n h = grind (arith, nat_tests)

grows : (n : ℕ) (bytes : List ℕ) → n ≤ fold more n bytes
grows n [] = omega arith
grows n (byte ∷ bytes) = omega (arith, grows (more n byte) bytes)

-- a number past 64 bits stays past them
past : (n : ℕ) (bytes : List ℕ) → nat_le n (2 ^ 64 - 1) ≡ false → word (Some (fold more n bytes)) ≡ None
past n bytes h =
    let g = grows n bytes in
    let e : nat_le (fold more n bytes) (2 ^ 64 - 1) ≡ false = grind (arith, nat_tests) in
    rw e refl

none_either_way : (c : Bool) (o : Option ℕ) → o ≡ None → None ≡ cond c o None
none_either_way true o h = sym h
none_either_way false o h = refl

spelled-step : (digit fits : Bool) (m : ℕ) (bytes : List ℕ) → nat_le m (2 ^ 64 - 1) ≡ fits →
    (nat_le m (2 ^ 64 - 1) ≡ true → spelled m bytes ≡ cond (list_all is_ascii_digit bytes) (word (Some (fold more m bytes))) None) →
    cond digit (option_and_then (λ k. spelled k bytes) (cond fits (Some m) None)) None ≡ cond (digit && list_all is_ascii_digit bytes) (word (Some (fold more m bytes))) None
spelled-step false fits m bytes e ih = refl
spelled-step true true m bytes e ih = ih e
spelled-step true false m bytes e ih = none_either_way (list_all is_ascii_digit bytes) (word (Some (fold more m bytes))) (past m bytes e)

spelled-all : (n : ℕ) (bytes : List ℕ) → nat_le n (2 ^ 64 - 1) ≡ true → spelled n bytes ≡ cond (list_all is_ascii_digit bytes) (word (Some (fold more n bytes))) None
unfolding spelled
spelled-all n [] h = refl
spelled-all n (byte ∷ bytes) h =
    spelled-step (is_ascii_digit byte) (nat_le (more n byte) (2 ^ 64 - 1)) (more n byte) bytes refl (spelled-all (more n byte) bytes)

word-cond : (c : Bool) (n : ℕ) → cond c (word (Some n)) None ≡ word (cond c (Some n) None)
word-cond true n = refl
word-cond false n = refl

-- from 0 on, the digits spell what `decimal` says
pub spelled-decimal : (bytes : List ℕ) → 0 < length bytes → spelled 0 bytes ≡ word (decimal bytes)
unfolding decimal
spelled-decimal [] h = absurd (omega arith)
spelled-decimal (byte ∷ bytes) h = spelled-all 0 (byte ∷ bytes) refl ∙ word-cond (list_all is_ascii_digit (byte ∷ bytes)) _

digit-lt : (byte : ℕ) → is_ascii_digit byte ≡ true → byte - 48 < 10
digit-lt byte h = grind (arith, nat_tests)

digits-lt : (k n : ℕ) (bytes : List ℕ) → n < 10 ^ k → list_all is_ascii_digit bytes ≡ true → fold more n bytes < 10 ^ (k + length bytes)
digits-lt k n [] fits all = rw add-zero fits
digits-lt k n (byte ∷ bytes) fits all =
    let both = and_parts _ _ all in
    let digit = digit-lt byte both.0 in
    let power = pow-suc 10 k in
    let next : more n byte < 10 ^ suc k = omega (arith, power) in
    let shift : k + length (byte ∷ bytes) ≡ suc k + length bytes = omega arith in
    rw shift (digits-lt (suc k) (more n byte) bytes next both.1)

are_digits-all : (bytes : List ℕ) → are_digits bytes ≡ true → list_all is_ascii_digit bytes ≡ true
are_digits-all [] h = refl
are_digits-all (byte ∷ bytes) h = h

decimal-some : (bytes : List ℕ) (d : Bool) (n : ℕ) → are_digits bytes ≡ d → cond d (Some (digits_value bytes)) None ≡ Some n → n < 10 ^ length bytes
decimal-some bytes true n e h =
    let lt = digits-lt 0 0 bytes (lit< tt) (are_digits-all bytes e) in
    let same : digits_value bytes ≡ n = cc in
    omega (arith, rw zero-add at lt)
decimal-some bytes false n e h = absurd cc

-- so many digits spell a number below that power of ten
pub decimal-lt : (bytes : List ℕ) (n longest : ℕ) → decimal bytes ≡ Some n → length bytes ≤ longest → n < 10 ^ longest
unfolding decimal
decimal-lt bytes n longest h short =
    let below = decimal-some bytes (are_digits bytes) n refl h in
    let more = pow-le-pow_right {n = 10} (lit< tt) short in
    omega arith

and_then-cond : (d : Bool) (f : ℕ → Option ℕ) (o : Option ℕ) → cond d (option_and_then f o) None ≡ option_and_then f (cond d o None)
and_then-cond true f o = refl
and_then-cond false f o = refl

-- what one more byte makes of it: `read` is the number with that digit, if it is one and the number fits
pub spelled-more : (bytes : List ℕ) (n i : ℕ) (read : Option ℕ) → i < length bytes →
    read ≡ cond (is_ascii_digit (get_or bytes i 0)) (word (Some (more n (get_or bytes i 0)))) None →
    spelled n (drop i bytes) ≡ option_and_then (λ m. spelled m (drop (i + 1) bytes)) read
unfolding spelled
spelled-more bytes n i read h e =
    at_drop_more (spelled n) bytes i 0 h ∙ and_then-cond (is_ascii_digit (get_or bytes i 0)) (λ m. spelled m (drop (i + 1) bytes)) (word (Some (more n (get_or bytes i 0)))) ∙ ap (option_and_then (λ m. spelled m (drop (i + 1) bytes))) (sym e)

pub spelled-end : (bytes : List ℕ) (n i : ℕ) → length bytes ≤ i → n < 2 ^ 64 → spelled n (drop i bytes) ≡ Some n
unfolding spelled
spelled-end bytes n i h fits =
    at_drop_all (spelled n) bytes i h ∙ rw (fits-word n fits) refl

pub decimal-empty : (bytes : List ℕ) → length bytes ≤ 0 → word (decimal bytes) ≡ None
unfolding decimal
decimal-empty [] h = refl
decimal-empty (byte ∷ bytes) h = absurd (omega arith)

word-lt : (fits : Bool) (m n : ℕ) → nat_le m (2 ^ 64 - 1) ≡ fits → cond fits (Some m) None ≡ Some n → n < 2 ^ 64
word-lt true m n e h =
    let same : m ≡ n = cc in
    let le : m ≤ 2 ^ 64 - 1 = grind (arith, nat_tests) in
    omega arith
word-lt false m n e h = absurd cc

-- what was read is a number of 64 bits
pub read-lt : (digit : Bool) (m n : ℕ) → cond digit (word (Some m)) None ≡ Some n → n < 2 ^ 64
read-lt true m n h = word-lt (nat_le m (2 ^ 64 - 1)) m n refl h
read-lt false m n h = absurd cc

pub word-of : (o : Option ℕ) → ((n : ℕ) → o ≡ Some n → n < 2 ^ 64) → word o ≡ o
word-of None h = refl
word-of (Some n) h = rw (fits-word n (h n refl)) refl

-- a short number fits 64 bits
pub word-short : (bytes : List ℕ) (longest : ℕ) → length bytes ≤ longest → longest ≤ 19 → word (decimal bytes) ≡ decimal bytes
word-short bytes longest short few = word-of (decimal bytes) (λ n h. let lt = decimal-lt bytes n 19 h (omega arith) in omega arith)

pub short-longer : (bytes : List ℕ) (longest : ℕ) → longest < length bytes → short_decimal longest bytes ≡ None
unfolding short_decimal
short-longer bytes longest h =
    let e : nat_le (length bytes) longest ≡ false = grind (arith, nat_tests) in
    rw e refl

pub short-shorter : (bytes : List ℕ) (longest : ℕ) → length bytes ≤ longest → short_decimal longest bytes ≡ decimal bytes
unfolding short_decimal
short-shorter bytes longest h =
    let e : nat_le (length bytes) longest ≡ true = grind (arith, nat_tests) in
    rw e refl

pub below-from : (o : Option ℕ) (limit : ℕ) → ((n : ℕ) → o ≡ Some n → n < limit) → IfSome o (λ n. n < limit)
below-from None limit h = tt
below-from (Some n) limit h = h n refl

pub sign-empty : (bytes : List ℕ) → length bytes ≡ 0 → without_sign bytes ≡ (false, bytes)
unfolding without_sign
sign-empty [] h = refl
sign-empty (byte ∷ bytes) h = absurd (omega arith)

pub sign-minus : (bytes rest : List ℕ) (byte : ℕ) → bytes ≡ byte ∷ rest → byte ≡ 45 → without_sign bytes ≡ (true, rest)
unfolding without_sign
sign-minus bytes rest byte e h =
    let minus : (byte == 45) ≡ true = grind (arith, nat_tests) in
    ap without_sign e ∙ rw minus refl

pub sign-plain : (bytes rest : List ℕ) (byte : ℕ) → bytes ≡ byte ∷ rest → byte ≢ 45 → without_sign bytes ≡ (false, bytes)
unfolding without_sign
sign-plain bytes rest byte e h =
    let plain : (byte == 45) ≡ false = grind (arith, nat_tests) in
    ap without_sign e ∙ rw plain refl ∙ ap (λ (bs : List ℕ). (false, bs)) (sym e)

-- digits that spell nothing, and digits that spell a number, behind a sign or without
pub by_sign-none : (spelled : List ℕ → Option ℕ) (bytes digits : List ℕ) (negative : Bool) → (negative, digits) ≡ without_sign bytes
    → None ≡ spelled digits → None ≡ by_sign spelled bytes
by_sign-none spelled bytes digits negative e h = rw (← e) (ap (option_map (with_sign negative)) h)

sign-fits : (negative : Bool) (n : ℕ) → n < 2 ^ 63 → SFits w64 (with_sign negative n)
sign-fits true n h = omega (arith, ints)
sign-fits false n h = omega (arith, ints)

pub by_sign-some : (spelled : List ℕ → Option ℕ) (bytes digits : List ℕ) (negative : Bool) (n : ℕ) (number : ℤ) → (negative, digits) ≡ without_sign bytes
    → Some n ≡ spelled digits → n < 2 ^ 63 → number ≡ with_sign negative n → Some (to_z w64 (of_z w64 number)) ≡ by_sign spelled bytes
by_sign-some spelled bytes digits negative n number e h below is =
    let same = ap (λ (z : ℤ). to_z w64 (of_z w64 z)) is ∙ to_z-of_z w64 _ (sign-fits negative n below) in
    rw (← e) (ap Some same ∙ ap (option_map (with_sign negative)) h)
