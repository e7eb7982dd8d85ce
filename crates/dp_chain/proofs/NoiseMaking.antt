-- A noise is made where the two powers of its ratio are there and its own bounds hold.
use Rattle.std.proofs.Common.{◌≡◌, ℕ, ℤ, ◌^◌, Bool, true, false, cond, Option, Some, None, Ok, Err, refl}
use Rattle.std.specs.Prelude.{Result, nat_le}
use Rattle.dp_num.specs.Limits.{Fraction, powers}
use Rattle.dp_domain.specs.declared.domains.Domain.{Domain}
use Rattle.dp_domain.specs.Ranges.{is_narrow_range}
use Rattle.dp_law.specs.declared.refusals.Refused.{Refused}
use Rattle.dp_law.specs.declared.refusals.Refused.TheVariants as refused
use Rattle.dp_law.specs.Making.{with_powers}
use Rattle.dp_law.specs.Mechanism.{Mechanism}
use Rattle.dp_geometric.specs.OneCell.{CellNumbers}
use Rattle.dp_geometric.specs.Geometric.{geometric, geometric_if}
use Rattle.dp_response.specs.Response.{ReplyNumbers, draw_bound, response, response_if}
use Rattle.dp_choice.specs.Weights.{ChoiceNumbers}
use Rattle.dp_choice.specs.Choice.{choice, choice_if, is_choice}

where-good : (P : Result Mechanism Refused → Type 0) (good : Bool) (made : Mechanism) → P (Err refused.Bound) → (good ≡ true → P (Ok made))
    → P (cond good (Ok made) (Err refused.Bound))
where-good P true made refusal holds = holds refl
where-good P false made refusal holds = refusal

-- what holds of the refusal and of each noise that is made, holds of what the constructor gives
where-made : (P : Result Mechanism Refused → Type 0) (both : Option (ℕ × ℕ)) (good : ℕ × ℕ → Bool) (made : ℕ × ℕ → Mechanism)
    → P (Err refused.Bound) → ((b : ℕ × ℕ) → both ≡ Some b → good b ≡ true → P (Ok (made b)))
    → P (with_powers both (λ b. cond (good b) (Ok (made b)) (Err refused.Bound)))
where-made P None good made refusal holds = refusal
where-made P (Some b) good made refusal holds = where-good P (good b) (made b) refusal (holds b refl)

-- the numbers of each noise with those powers
abbrev pub cell_with : ℤ → ℤ → ℕ × ℕ → CellNumbers
cell_with lo hi both = record { lo = lo; hi = hi; low = both.0; high = both.1 }

abbrev pub replies_with : ℕ → ℕ × ℕ → ReplyNumbers
replies_with n both = record { n = n; low = both.0; high = both.1 }

abbrev pub choice_with : ℕ → ℤ → ℤ → ℤ → ℤ → ℕ × ℕ → ChoiceNumbers
choice_with len least most floor top both =
    record { len = len; least = least; most = most; floor = floor; top = top; low = both.0; high = both.1 }

-- the three noises
module _ (P : Result Mechanism Refused → Type 0) (ratio : Fraction) (u : ℕ) (refusal : P (Err refused.Bound)) where
  pub geometric-made : (input : Domain) (lo hi : ℤ)
      → ((b : ℕ × ℕ) → powers ratio.p ratio.q u ≡ Some b → is_narrow_range lo hi ≡ true → P (Ok (geometric input ratio u (cell_with lo hi b))))
      → P (with_powers (powers ratio.p ratio.q u) (λ b. geometric_if input ratio u (cell_with lo hi b)))
  geometric-made input lo hi holds = where-made P (powers ratio.p ratio.q u) (λ b. is_narrow_range lo hi)
      (λ b. geometric input ratio u (cell_with lo hi b)) refusal holds

  pub response-made : (n : ℕ)
      → ((b : ℕ × ℕ) → powers ratio.p ratio.q u ≡ Some b → nat_le (draw_bound (replies_with n b)) (2 ^ 62) ≡ true → P (Ok (response ratio u (replies_with n b))))
      → P (with_powers (powers ratio.p ratio.q u) (λ b. response_if ratio u (replies_with n b)))
  response-made n holds = where-made P (powers ratio.p ratio.q u) (λ b. nat_le (draw_bound (replies_with n b)) (2 ^ 62))
      (λ b. response ratio u (replies_with n b)) refusal holds

  pub choice-made : (len : ℕ) (least most floor top : ℤ)
      → ((b : ℕ × ℕ) → powers ratio.p ratio.q u ≡ Some b → is_choice ratio (choice_with len least most floor top b) ≡ true
      → P (Ok (choice ratio u (choice_with len least most floor top b))))
      → P (with_powers (powers ratio.p ratio.q u) (λ b. choice_if ratio u (choice_with len least most floor top b)))
  choice-made len least most floor top holds = where-made P (powers ratio.p ratio.q u)
      (λ b. is_choice ratio (choice_with len least most floor top b)) (λ b. choice ratio u (choice_with len least most floor top b)) refusal holds
