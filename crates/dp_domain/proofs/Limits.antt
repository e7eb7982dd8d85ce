-- That a domain's numbers are within their limits is a fact with one proof, so that a ghost field may keep it.
use Rattle.std.proofs.Common.{ℕ, Option, Some, None}
use Rattle.std.proofs.Props.{props}
use Rattle.dp_domain.specs.Domains.{Fits, FitsSize}
use Rattle.dp_domain.specs.Metrics.{SuitsMetric}
use Rattle.dp_domain.specs.declared.metrics.Metric.{Metric}
use Rattle.dp_domain.specs.declared.metrics.Metric.TheVariants as metrics
use Rattle.dp_domain.specs.declared.domains.Domain.{Domain}
use Rattle.dp_domain.specs.declared.domains.Domain.TheVariants as domain

pub FitsSize-prop : (size : Option ℕ) → IsProp (FitsSize size)
FitsSize-prop None = hlevel props
FitsSize-prop (Some n) = hlevel props

pub Fits-prop : (d : Domain) → IsProp (Fits d)
Fits-prop (domain.Rows columns) = hlevel props
Fits-prop domain.Texts = hlevel props
Fits-prop (domain.OptInts lo hi) = hlevel props
Fits-prop (domain.Ints lo hi size) = hlevel (props, FitsSize-prop size)
Fits-prop (domain.Cats n size) = hlevel (props, FitsSize-prop size)
Fits-prop (domain.Int lo hi) = hlevel props
Fits-prop (domain.Cat n) = hlevel props
Fits-prop (domain.IntVec len lo hi) = hlevel props

-- nor does it matter how a metric is shown to be used with a domain
pub SuitsMetric-prop : (d : Domain) (m : Metric) → IsProp (SuitsMetric d m)
SuitsMetric-prop (domain.Rows columns) metrics.Symmetric = hlevel props
SuitsMetric-prop (domain.Rows columns) (metrics.Users column) = hlevel props
SuitsMetric-prop (domain.Rows columns) m = hlevel props
SuitsMetric-prop domain.Texts metrics.Symmetric = hlevel props
SuitsMetric-prop domain.Texts m = hlevel props
SuitsMetric-prop (domain.OptInts lo hi) metrics.Symmetric = hlevel props
SuitsMetric-prop (domain.OptInts lo hi) m = hlevel props
SuitsMetric-prop (domain.Ints lo hi None) metrics.Symmetric = hlevel props
SuitsMetric-prop (domain.Ints lo hi None) m = hlevel props
SuitsMetric-prop (domain.Ints lo hi (Some size)) metrics.ChangeOne = hlevel props
SuitsMetric-prop (domain.Ints lo hi (Some size)) m = hlevel props
SuitsMetric-prop (domain.Cats n None) metrics.Symmetric = hlevel props
SuitsMetric-prop (domain.Cats n None) m = hlevel props
SuitsMetric-prop (domain.Cats n (Some size)) metrics.ChangeOne = hlevel props
SuitsMetric-prop (domain.Cats n (Some size)) m = hlevel props
SuitsMetric-prop (domain.Int lo hi) metrics.Absolute = hlevel props
SuitsMetric-prop (domain.Int lo hi) m = hlevel props
SuitsMetric-prop (domain.Cat n) metrics.Discrete = hlevel props
SuitsMetric-prop (domain.Cat n) m = hlevel props
SuitsMetric-prop (domain.IntVec len lo hi) metrics.L1 = hlevel props
SuitsMetric-prop (domain.IntVec len lo hi) m = hlevel props
