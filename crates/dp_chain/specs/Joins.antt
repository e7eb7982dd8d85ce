-- When two parts are joined.
use Rattle.std.specs.Prelude.{◌≡◌, Result, Ok, Err}
use Rattle.dp_domain.specs.declared.domains.Domain.{Domain}
use Rattle.dp_domain.specs.declared.metrics.Metric.{Metric}
use Rattle.dp_chain.specs.declared.faults.JoinFault.{JoinFault}
use Rattle.dp_chain.specs.declared.faults.JoinFault.TheVariants as fault

-- a domain with a metric
pub record Space : Type 0 where
  pub domain : Domain
  pub metric : Metric

-- two parts are joined as that meaning where their spaces are the same; Kind comes exactly where the domains differ,
-- and Metric exactly where the metrics alone do
abbrev pub Joins : {T M : Type 0} → (T → M) → Result T JoinFault → Space → Space → M → Type 0
Joins meaning (Ok part) one other wanted =
    (one.domain ≡ other.domain) × (one.metric ≡ other.metric) × (meaning part ≡ wanted)
Joins meaning (Err fault.Kind) one other wanted = ¬ (one.domain ≡ other.domain)
Joins meaning (Err fault.Metric) one other wanted = (one.domain ≡ other.domain) × ¬ (one.metric ≡ other.metric)
