-- That parts are alike is a fact with one proof, so that a ghost field may keep it.
use Rattle.std.specs.Prelude.{List}
use Rattle.dp_num.specs.Fractions.{fraction_of}
use Rattle.dp_num.specs.declared.ratio.Ratio.{Ratio}
use Rattle.dp_domain.specs.declared.domains.Domain.{Domain}
use Rattle.dp_domain.specs.declared.metrics.Metric.{Metric}
use Rattle.dp_chain.specs.ReleasesProof.{AreAlike-prop}
use Rattle.dp_chain.specs.PartMeanings.{MeasuredLine, part_mechanisms, PartsAlike}

pub PartsAlike-prop : (ratio : Ratio) (domain : Domain) (metric : Metric) (parts : List MeasuredLine) → IsProp (PartsAlike ratio domain metric parts)
PartsAlike-prop ratio domain metric parts = AreAlike-prop (fraction_of ratio) domain metric (part_mechanisms parts)
