-- That stages join is a fact with one proof, so that a ghost field may keep it.
use Rattle.std.specs.Prelude.{List}
use Rattle.dp_domain.specs.declared.domains.Domain.{Domain}
use Rattle.dp_domain.specs.declared.metrics.Metric.{Metric}
use Rattle.dp_chain.specs.LinesProof.{AreJoined-prop}
use Rattle.dp_chain.specs.Meanings.{stage_mappings, StagesJoin}
use Rattle.dp_chain.specs.declared.any_transformation.AnyTransformation.{AnyTransformation}

pub StagesJoin-prop : (domain : Domain) (metric : Metric) (stages : List AnyTransformation) → IsProp (StagesJoin domain metric stages)
StagesJoin-prop domain metric stages = AreJoined-prop domain metric (stage_mappings stages)
