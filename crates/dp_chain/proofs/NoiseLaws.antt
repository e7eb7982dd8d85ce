-- A noise that is made on a domain that fits, with a ratio below 1, is private.
use Rattle.std.proofs.Common.{◌≡◌, ℕ, ℤ, ◌≤◌, ◌^◌, Bool, true, false, cond, Option, Some, None, Ok, Err, refl, subst, arith}
use Rattle.std.specs.Prelude.{Result, nat_le}
use Rattle.std.proofs.lemmas.Bool.Decides.{nat_tests}
use Rattle.dp_num.specs.Limits.{Fraction, powers, is_ratio}
use Rattle.dp_num.proofs.Powers.{are-powers}
use Rattle.dp_domain.specs.declared.domains.Domain.{Domain}
use Rattle.dp_domain.specs.declared.domains.Domain.TheVariants as domain
use Rattle.dp_domain.specs.declared.metrics.Metric.{Metric}
use Rattle.dp_domain.specs.declared.metrics.Metric.TheVariants as metrics
use Rattle.dp_domain.specs.Domains.{Fits}
use Rattle.dp_domain.proofs.NarrowRanges.{narrow-range}
use Rattle.dp_law.specs.declared.refusals.Refused.{Refused}
use Rattle.dp_law.specs.declared.refusals.Refused.TheVariants as refused
use Rattle.dp_law.specs.Making.{with_powers}
use Rattle.dp_law.specs.Mechanism.{Mechanism, IsPrivate, IsBelowOne}
use Rattle.dp_geometric.specs.Geometric.{geometric_if, is_numeric}
use Rattle.dp_geometric.specs.GeometricProof.{geometric_law}
use Rattle.dp_response.specs.Response.{draw_bound}
use Rattle.dp_response.specs.ResponseProof.{response_law}
use Rattle.dp_choice.specs.ChoiceProof.{choice_law}
use Rattle.dp_choice.proofs.Conditions.{is-choice}
use Rattle.dp_chain.specs.Laws.{NoiseLaw}
use Rattle.dp_chain.specs.Stages.{noise_on}
use Rattle.dp_chain.specs.declared.noise.Noise.{Noise}
use Rattle.dp_chain.specs.declared.noise.Noise.TheVariants as noise
use Rattle.dp_chain.proofs.NoiseMaking.{cell_with, replies_with, choice_with, geometric-made, response-made, choice-made}
use Rattle.dp_chain.proofs.ReleaseMaking.{noise-takes}
use Rattle.dp_chain.proofs.ZeroLoss.{LossZero, noise-zero}

-- what is made is private
abbrev pub PrivateIfMade : Result Mechanism Refused → Type 0
PrivateIfMade (Ok made) = IsPrivate made
PrivateIfMade (Err refusal) = Unit {0}

pub below-one : (p q : ℕ) → is_ratio p q ≡ true → IsBelowOne p q
below-one p q told = (grind (arith, nat_tests), grind (arith, nat_tests), grind (arith, nat_tests))

bound-holds : (bound limit : ℕ) → nat_le bound limit ≡ true → bound ≤ limit
bound-holds bound limit told = grind (arith, nat_tests)

cells-private : (ratio : Fraction) (u : ℕ) → IsBelowOne ratio.p ratio.q → (input : Domain) (lo hi : ℤ) → Fits input → is_numeric input ≡ true →
    PrivateIfMade (with_powers (powers ratio.p ratio.q u) (λ both. geometric_if input ratio u (cell_with lo hi both)))
cells-private ratio u below input lo hi fits numeric = geometric-made PrivateIfMade ratio u tt input lo hi (λ both made good.
    let range = narrow-range lo hi good in
    geometric_law input ratio u (cell_with lo hi both) fits numeric below (are-powers ratio.p ratio.q u both below.0 below.1 made) range.ordered range.narrow)

pub noise-private : (ratio : Fraction) (n : Noise) (d : Domain) (m : Metric) → Fits d → IsBelowOne ratio.p ratio.q →
    PrivateIfMade (noise_on ratio n d m)
unfolding noise_on
noise-private ratio (noise.Geometric u lo hi) (domain.Int least most) metrics.Absolute fits below =
    cells-private ratio u below (domain.Int least most) lo hi fits refl
noise-private ratio (noise.Geometric u lo hi) (domain.Int least most) m fits below = tt
noise-private ratio (noise.Geometric u lo hi) (domain.IntVec len least most) metrics.L1 fits below =
    cells-private ratio u below (domain.IntVec len least most) lo hi fits refl
noise-private ratio (noise.Geometric u lo hi) (domain.IntVec len least most) m fits below = tt
noise-private ratio (noise.Geometric u lo hi) d m fits below = tt
noise-private ratio (noise.Response u) (domain.Cat n) metrics.Discrete fits below =
    response-made PrivateIfMade ratio u tt n (λ both made good.
    response_law ratio u (replies_with n both) fits below (are-powers ratio.p ratio.q u both below.0 below.1 made) (bound-holds (draw_bound (replies_with n both)) (2 ^ 62) good))
noise-private ratio (noise.Response u) (domain.Cat n) m fits below = tt
noise-private ratio (noise.Response u) d m fits below = tt
noise-private ratio (noise.Choice u floor top) (domain.IntVec len least most) metrics.L1 fits below =
    choice-made PrivateIfMade ratio u tt len least most floor top (λ both made good.
    let c = choice_with len least most floor top both in
    let told = is-choice ratio c below.1 good in
    choice_law ratio u c fits below (are-powers ratio.p ratio.q u both below.0 below.1 made) told.0.ordered told.2)
noise-private ratio (noise.Choice u floor top) (domain.IntVec len least most) m fits below = tt
noise-private ratio (noise.Choice u floor top) d m fits below = tt

pub noise-law : NoiseLaw
noise-law ratio n d m made fits told is =
    let like = noise-takes ratio n d m made fits is in
    record {
      private = subst PrivateIfMade is (noise-private ratio n d m fits (below-one ratio.p ratio.q told));
      input_domain = like.input_domain;
      input_metric = like.input_metric;
      one_ratio = like.one_ratio;
      zero_loss = subst LossZero is (noise-zero ratio n d m);
    }
