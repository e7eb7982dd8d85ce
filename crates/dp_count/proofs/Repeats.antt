-- A list several times one after the other.
use Rattle.std.proofs.Common.{◌≡◌, ℕ, zero, suc, ◌*◌, List, length, arith, length-append}
use Rattle.std.specs.List.{All, repeat}
use Rattle.std.proofs.Math.Nat.{suc-mul}
use Rattle.std.proofs.lemmas.List.Elements.{All-append, All-nil}

pub length-repeat : {A : Type 0} (n : ℕ) (xs : List A) → length (repeat n xs) ≡ n * length xs
length-repeat zero xs = omega arith
length-repeat (suc n) xs =
    let joined = length-append xs (repeat n xs) in
    let rest = length-repeat n xs in
    rw suc-mul (omega arith)

pub All-repeat : {A : Type 0} (P : A → Type 0) (n : ℕ) (xs : List A) → All P xs → All P (repeat n xs)
All-repeat P zero xs h = All-nil P
All-repeat P (suc n) xs h = All-append P xs (repeat n xs) h (All-repeat P n xs h)
