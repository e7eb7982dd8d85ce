-- Which metric is used with a list of a size.
use Rattle.std.proofs.Common.{◌↔◌, ℕ, ℤ, Option, Some, None}
use Rattle.dp_domain.specs.declared.domains.Domain.TheVariants as domain
use Rattle.dp_domain.specs.Metrics.{SuitsMetric}
use Rattle.dp_law.specs.Making.{list_metric}

-- two facts that hold are equivalent
pub both-hold : {A B : Type 0} → A → B → A ↔ B
both-hold a b = (λ _. b, λ _. a)

pub ints-suit : (lo hi : ℤ) (size : Option ℕ) → SuitsMetric (domain.Ints lo hi size) (list_metric size)
ints-suit lo hi None = tt
ints-suit lo hi (Some n) = tt

pub cats-suit : (n : ℕ) (size : Option ℕ) → SuitsMetric (domain.Cats n size) (list_metric size)
cats-suit n None = tt
cats-suit n (Some m) = tt
