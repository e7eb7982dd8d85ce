-- What the test of a narrow range tells.
use Rattle.std.proofs.Common.{◌≡◌, true, ℤ, pos, ◌-ℤ◌, ◌≤ℤ◌, arith}
use Rattle.std.proofs.lemmas.Int.{ints}
use Rattle.dp_domain.specs.Domains.{number_limit, IsRange}
use Rattle.dp_domain.specs.Ranges.{is_narrow_range, IsNarrowRange}

bounds-of : (lo hi : ℤ) → is_narrow_range lo hi ≡ true → IsRange number_limit lo hi × ((hi -ℤ lo) ≤ℤ pos 65535)
bounds-of lo hi e = grind (arith, ints)

pub narrow-range : (lo hi : ℤ) → is_narrow_range lo hi ≡ true → IsNarrowRange lo hi
narrow-range lo hi e =
    let all = bounds-of lo hi e in
    record { least = all.0.0; ordered = all.0.1; greatest = all.0.2; narrow = all.1 }
