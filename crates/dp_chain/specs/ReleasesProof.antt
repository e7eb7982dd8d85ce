-- Private measurements on one input are private as one.
use Rattle.std.proofs.Common.{◌≡◌, ℕ, ◌+◌, ◌*◌, ◌≤◌, ◌^◌, List, [], ◌∷◌, length, map, refl, sym, subst, arith, length-append}
use Rattle.std.proofs.Math.Nat.{suc-mul}
use Rattle.std.proofs.Props.{props}
use Rattle.std.proofs.lemmas.List.Elements.{All-nil}
use Rattle.std.proofs.lemmas.List.{length-map}
use Rattle.dp_count.specs.Ratios.{KeepsRatio}
use Rattle.dp_count.proofs.Ratios.{ratio-same}
use Rattle.dp_num.specs.Limits.{Fraction}
use Rattle.dp_domain.specs.declared.domains.Domain.{Domain}
use Rattle.dp_domain.specs.declared.metrics.Metric.{Metric}
use Rattle.dp_domain.specs.Domains.{Fits}
use Rattle.dp_domain.specs.Metrics.{SuitsMetric}
use Rattle.dp_law.specs.Mechanism.{Mechanism, IsPrivate, IsBound, IsBelowOne, ways}
use Rattle.dp_law.proofs.JoiningLaw.{both_law}
use Rattle.dp_chain.specs.Releases.{joined_shape, joined_answer, all_pieces, total_loss, joined, IsLike, AreAlike}

nothing_law : (ratio : Fraction) (domain : Domain) (metric : Metric) → Fits domain → SuitsMetric domain metric → IsBelowOne ratio.p ratio.q → IsPrivate (joined ratio domain metric [])
unfolding joined_shape joined_answer all_pieces total_loss ways
nothing_law ratio domain metric fits suits below = record {
  input_fits = fits;
  input_suits = suits;
  below_one = below;
  few_draws = omega arith;
  bounds = All-nil IsBound;
  few_pieces = omega arith;
  whole = λ v draws has f. refl;
  limited = λ d k map_is. let none : 0 ≡ k = cc in omega arith;
  private = λ d k v w answer map_is has_v has_w near.
      let none : 0 ≡ k = cc in
      subst (λ (n : ℕ). KeepsRatio ratio.p ratio.q n (ways (joined ratio domain metric []) v answer) (ways (joined ratio domain metric []) w answer)) none
      (ratio-same ratio.p ratio.q (ways (joined ratio domain metric []) v answer));
}

-- all the draws and pieces of n measurements
shape-few : (ratio : Fraction) (domain : Domain) (metric : Metric) (parts : List Mechanism) → AreAlike ratio domain metric parts → length (joined_shape parts) ≤ length parts * 2 ^ 26
unfolding joined_shape AreAlike
shape-few ratio domain metric [] alike = omega arith
shape-few ratio domain metric (first ∷ rest) alike =
    let ih = shape-few ratio domain metric rest alike.1 in
    let few = alike.0.few_draws in
    rw (length-append first.shape (joined_shape rest), suc-mul) (omega arith)

pieces-few : (ratio : Fraction) (domain : Domain) (metric : Metric) (parts : List Mechanism) → AreAlike ratio domain metric parts → all_pieces parts ≤ length parts * 2 ^ 26
unfolding all_pieces AreAlike
pieces-few ratio domain metric [] alike = omega arith
pieces-few ratio domain metric (first ∷ rest) alike =
    let ih = pieces-few ratio domain metric rest alike.1 in
    let few = alike.0.few_pieces in rw suc-mul (omega arith)

-- the first measurement and those after it are two on one input
first_law : (first : Mechanism) (rest : List Mechanism) → IsPrivate first → IsPrivate (joined first.ratio first.input_domain first.input_metric rest) →
    length first.shape + length (joined_shape rest) ≤ 2 ^ 40 → first.pieces + all_pieces rest ≤ 2 ^ 31 →
    IsPrivate (joined first.ratio first.input_domain first.input_metric (first ∷ rest))
unfolding joined_shape joined_answer all_pieces total_loss
first_law first rest one others draws pieces = both_law first (joined first.ratio first.input_domain first.input_metric rest) one others refl refl refl draws pieces

-- what holds for the ratio, domain and metric of a part that is alike holds for those of all parts, and the other way
to-like : (ratio : Fraction) (domain : Domain) (metric : Metric) (part : Mechanism) → IsLike ratio domain metric part → (P : Fraction → Domain → Metric → Type 0) →
    P part.ratio part.input_domain part.input_metric → P ratio domain metric
to-like ratio domain metric part like P holds =
    subst (λ (m : Metric). P ratio domain m) like.input_metric
    (subst (λ (d : Domain). P ratio d part.input_metric) like.input_domain
    (subst (λ (r : Fraction). P r part.input_domain part.input_metric) like.one_ratio holds))

from-like : (ratio : Fraction) (domain : Domain) (metric : Metric) (part : Mechanism) → IsLike ratio domain metric part → (P : Fraction → Domain → Metric → Type 0) →
    P ratio domain metric → P part.ratio part.input_domain part.input_metric
from-like ratio domain metric part like P holds =
    subst (λ (r : Fraction). P r part.input_domain part.input_metric) (sym like.one_ratio)
    (subst (λ (d : Domain). P ratio d part.input_metric) (sym like.input_domain)
    (subst (λ (m : Metric). P ratio domain m) (sym like.input_metric) holds))

-- the law of at most 16 parts, each of which is private
pub release_law : {T : Type 0} (mechanism : T → Mechanism) → ((t : T) → IsPrivate (mechanism t)) → (ratio : Fraction) (domain : Domain) (metric : Metric) (parts : List T) →
    Fits domain → SuitsMetric domain metric → IsBelowOne ratio.p ratio.q → length parts ≤ 16 → AreAlike ratio domain metric (map mechanism parts) →
    IsPrivate (joined ratio domain metric (map mechanism parts))
unfolding AreAlike
release_law mechanism law ratio domain metric [] fits suits below few alike = nothing_law ratio domain metric fits suits below
release_law mechanism law ratio domain metric (t ∷ ts) fits suits below few alike =
    let first = mechanism t in
    let rest = map mechanism ts in
    let others = release_law mechanism law ratio domain metric ts fits suits below (omega arith) alike.1 in
    let like = alike.0 in
    let shapes = shape-few ratio domain metric rest alike.1 in
    let pieces = pieces-few ratio domain metric rest alike.1 in
    let as_many : length rest ≡ length ts = length-map ts mechanism in
    let few_draws = like.few_draws in
    let few_pieces = like.few_pieces in
    to-like ratio domain metric first like (λ r d m. IsPrivate (joined r d m (first ∷ rest)))
    (first_law first rest (law t) (from-like ratio domain metric first like (λ r d m. IsPrivate (joined r d m rest)) others) (omega arith) (omega arith))

pub AreAlike-prop : (ratio : Fraction) (domain : Domain) (metric : Metric) (parts : List Mechanism) → IsProp (AreAlike ratio domain metric parts)
unfolding AreAlike
AreAlike-prop ratio domain metric [] = hlevel props
AreAlike-prop ratio domain metric (first ∷ rest) = hlevel (props, AreAlike-prop ratio domain metric rest)
