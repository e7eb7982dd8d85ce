-- A list repeated once more has it at the end too.
use Rattle.std.proofs.Common.{◌≡◌, ℕ, zero, suc, ◌+◌, List, ◌++◌, sym, ◌∙◌, ap, append_assoc, add-one}
use Rattle.std.specs.List.{repeat}
use Rattle.std.proofs.lemmas.List.{append-nil}

repeat-end : {A : Type 0} (n : ℕ) (xs : List A) → repeat n xs ++ xs ≡ repeat (suc n) xs
repeat-end zero xs = sym (append-nil xs)
repeat-end (suc n) xs = append_assoc xs (repeat n xs) xs ∙ ap (λ (rest : List _). xs ++ rest) (repeat-end n xs)

pub repeat-more : {A : Type 0} (n : ℕ) (xs : List A) → repeat n xs ++ xs ≡ repeat (n + 1) xs
repeat-more n xs = rw (add-one n) (repeat-end n xs)
