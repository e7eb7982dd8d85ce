-- The privacy of weighted choice, as a law of all its numbers.
use Rattle.std.specs.Prelude.{◌≡◌, ℕ, ◌+◌, ◌*◌, ◌^◌, ◌≤◌, ◌≤ℤ◌}
use Rattle.dp_num.specs.Limits.{Fraction}
use Rattle.dp_domain.specs.declared.domains.Domain.TheVariants as domain
use Rattle.dp_domain.specs.Domains.{Fits}
use Rattle.dp_law.specs.Mechanism.{IsBelowOne, IsPrivate}
use Rattle.dp_choice.specs.Weights.{ChoiceNumbers, greatest}
use Rattle.dp_choice.specs.Choice.{choice_of}

-- each cell's share leaves room for the rounding of the shares: n first (q - p) is at least the greatest sum of the
-- weights times (q + p), said without the difference
abbrev pub HasRoom : ℕ → ℕ → Fraction → ChoiceNumbers → Type 0
HasRoom n first ratio c =
    n * first * ratio.p + c.len * greatest first c * (ratio.q + ratio.p) ≤ n * first * ratio.q

-- with that room, the choice among n draws is private at a loss of 2 u d + 1 units, and of none at the distance 0
abbrev pub PrivacyLaw : Type 0
PrivacyLaw =
    (n first : ℕ) (ratio : Fraction) (u : ℕ) (c : ChoiceNumbers) → 1 ≤ n → n ≤ 2 ^ 62 → 1 ≤ first
    → Fits (domain.IntVec c.len c.least c.most) → IsBelowOne ratio.p ratio.q
    → 1 ≤ c.low → c.low ≤ c.high → c.low ≡ ratio.p ^ u → c.high ≡ ratio.q ^ u → c.floor ≤ℤ c.top
    → HasRoom n first ratio c → IsPrivate (choice_of n first ratio u c)
