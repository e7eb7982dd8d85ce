-- The selection of all numbers below one.
use Rattle.std.proofs.Common.{◌≡◌, ℕ, ◌<◌, length, get_or, arith}
use Rattle.std.proofs.lemmas.List.FromFn.{length-range_with_len, get_or-range_with_len}
use Rattle.dp_store.specs.Selections.{numbers_of}
use Rattle.dp_store.specs.declared.selection.Numbers.{Numbers}
use Rattle.dp_store.specs.declared.selection.Numbers.TheVariants as numbers

pub all-length : (given : Numbers) (count : ℕ) → given ≡ numbers.All count → length (numbers_of given) ≡ count
all-length given count e = rw e (length-range_with_len 0 count)

pub all-at : (given : Numbers) (count k : ℕ) → given ≡ numbers.All count → k < count → k ≡ get_or (numbers_of given) k 0
all-at given count k e h =
    let at = get_or-range_with_len 0 count k 0 h in
    rw e (omega (arith, at))
