-- What lists of made transformations mean.
use Rattle.std.specs.Prelude.{List, map}
use Rattle.dp_domain.specs.declared.domains.Domain.{Domain}
use Rattle.dp_domain.specs.declared.metrics.Metric.{Metric}
use Rattle.dp_law.specs.Mapping.{Mapping}
use Rattle.dp_chain.specs.Lines.{AreJoined}
use Rattle.dp_chain.specs.declared.any_transformation.AnyTransformation.{AnyTransformation}
use Rattle.dp_chain.specs.contracts.any_transformation.AnyTransformationTransformation.TheImpl.{ghosts as stage_ghosts}

-- what each of the transformations means
abbrev pub stage_mappings : List AnyTransformation → List Mapping
stage_mappings stages = map stage_ghosts.mapping stages

-- each of them takes what the one before gives, and the first the domain and the metric
abbrev pub StagesJoin : Domain → Metric → List AnyTransformation → Type 0
StagesJoin domain metric stages = AreJoined domain metric (stage_mappings stages)
