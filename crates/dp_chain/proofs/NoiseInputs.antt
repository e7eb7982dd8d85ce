-- A noise that is made takes the domain, the metric and the ratio on which it is made, with few draws.
use Rattle.std.proofs.Common.{◌≡◌, ℕ, ℤ, ◌+◌, ◌*◌, ◌≤◌, ◌^◌, Bool, true, false, cond, Option, Some, None, Ok, Err, refl, arith}
use Rattle.std.specs.Prelude.{Result}
use Rattle.std.proofs.Math.Nat.{mul-le-mul}
use Rattle.dp_num.specs.Limits.{Fraction}
use Rattle.dp_domain.specs.declared.domains.Domain.{Domain}
use Rattle.dp_domain.specs.declared.domains.Domain.TheVariants as domain
use Rattle.dp_domain.specs.declared.metrics.Metric.{Metric}
use Rattle.dp_domain.specs.declared.metrics.Metric.TheVariants as metrics
use Rattle.dp_domain.specs.Domains.{Fits}
use Rattle.dp_law.specs.declared.refusals.Refused.{Refused}
use Rattle.dp_law.specs.declared.refusals.Refused.TheVariants as refused
use Rattle.dp_law.specs.Mechanism.{Mechanism}
use Rattle.dp_domain.specs.Ranges.{is_narrow_range}
use Rattle.dp_domain.proofs.NarrowRanges.{narrow-range}
use Rattle.dp_geometric.specs.Geometric.{geometric}
use Rattle.dp_geometric.specs.OneCell.{CellNumbers, width}
use Rattle.dp_geometric.specs.GeometricProof.{length-cell, length-cells, narrow-width}
use Rattle.dp_response.specs.Response.{ReplyNumbers, response}
use Rattle.dp_choice.specs.Weights.{ChoiceNumbers}
use Rattle.dp_choice.specs.Choice.{choice}
use Rattle.dp_chain.specs.Releases.{IsLike}
use Rattle.dp_chain.proofs.NoiseMaking.{cell_with, replies_with, choice_with, geometric-made, response-made, choice-made}
use Rattle.dp_chain.specs.Stages.{noise_on}
use Rattle.dp_chain.specs.declared.noise.Noise.{Noise}
use Rattle.dp_chain.specs.declared.noise.Noise.TheVariants as noise

-- what is made is like it
abbrev pub Likes : Result Mechanism Refused → Fraction → Domain → Metric → Type 0
Likes (Ok made) ratio domain metric = IsLike ratio domain metric made
Likes (Err refusal) ratio domain metric = Unit {0}

answers-narrow : (c : CellNumbers) → is_narrow_range c.lo c.hi ≡ true → width c ≤ 65535
answers-narrow c h = let range = narrow-range c.lo c.hi h in narrow-width c range.ordered range.narrow

number-likes : (ratio : Fraction) (u : ℕ) (least most : ℤ) (c : CellNumbers) → is_narrow_range c.lo c.hi ≡ true →
    IsLike ratio (domain.Int least most) metrics.Absolute (geometric (domain.Int least most) ratio u c)
number-likes ratio u least most c good = record {
  input_domain = refl;
  input_metric = refl;
  one_ratio = refl;
  few_draws = let narrow = answers-narrow c good in rw (length-cell c) (omega arith);
  few_pieces = omega arith;
}

vector-likes : (ratio : Fraction) (u len : ℕ) (least most : ℤ) (c : CellNumbers) → len ≤ 1024 → is_narrow_range c.lo c.hi ≡ true →
    IsLike ratio (domain.IntVec len least most) metrics.L1 (geometric (domain.IntVec len least most) ratio u c)
vector-likes ratio u len least most c short good = record {
  input_domain = refl;
  input_metric = refl;
  one_ratio = refl;
  few_draws =
      let narrow = answers-narrow c good in
      let cell : 1 + width c ≤ 65536 = omega arith in
      let few : len * (1 + width c) ≤ 1024 * 65536 = mul-le-mul short cell in
      rw (length-cells len c) (omega arith);
  few_pieces = omega arith;
}

response-likes : (ratio : Fraction) (u : ℕ) (c : ReplyNumbers) → IsLike ratio (domain.Cat c.n) metrics.Discrete (response ratio u c)
response-likes ratio u c = record { input_domain = refl; input_metric = refl; one_ratio = refl; few_draws = omega arith; few_pieces = omega arith }

choice-likes : (ratio : Fraction) (u : ℕ) (c : ChoiceNumbers) → IsLike ratio (domain.IntVec c.len c.least c.most) metrics.L1 (choice ratio u c)
choice-likes ratio u c = record { input_domain = refl; input_metric = refl; one_ratio = refl; few_draws = omega arith; few_pieces = omega arith }

pub noise-likes : (ratio : Fraction) (n : Noise) (d : Domain) (m : Metric) → Fits d → Likes (noise_on ratio n d m) ratio d m
unfolding noise_on
noise-likes ratio (noise.Geometric u lo hi) (domain.Int least most) metrics.Absolute fits =
    geometric-made (λ r. Likes r ratio (domain.Int least most) metrics.Absolute) ratio u tt (domain.Int least most) lo hi
    (λ both made good. number-likes ratio u least most (cell_with lo hi both) good)
noise-likes ratio (noise.Geometric u lo hi) (domain.Int least most) m fits = tt
noise-likes ratio (noise.Geometric u lo hi) (domain.IntVec len least most) metrics.L1 fits =
    geometric-made (λ r. Likes r ratio (domain.IntVec len least most) metrics.L1) ratio u tt (domain.IntVec len least most) lo hi
    (λ both made good. vector-likes ratio u len least most (cell_with lo hi both) fits.0.1 good)
noise-likes ratio (noise.Geometric u lo hi) (domain.IntVec len least most) m fits = tt
noise-likes ratio (noise.Geometric u lo hi) d m fits = tt
noise-likes ratio (noise.Response u) (domain.Cat n) metrics.Discrete fits =
    response-made (λ r. Likes r ratio (domain.Cat n) metrics.Discrete) ratio u tt n
    (λ both made good. response-likes ratio u (replies_with n both))
noise-likes ratio (noise.Response u) (domain.Cat n) m fits = tt
noise-likes ratio (noise.Response u) d m fits = tt
noise-likes ratio (noise.Choice u floor top) (domain.IntVec len least most) metrics.L1 fits =
    choice-made (λ r. Likes r ratio (domain.IntVec len least most) metrics.L1) ratio u tt len least most floor top
    (λ both made good. choice-likes ratio u (choice_with len least most floor top both))
noise-likes ratio (noise.Choice u floor top) (domain.IntVec len least most) m fits = tt
noise-likes ratio (noise.Choice u floor top) d m fits = tt
