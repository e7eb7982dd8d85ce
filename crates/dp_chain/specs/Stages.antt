-- What each stage and each noise is on a domain and a metric.
use Rattle.std.specs.Prelude.{Result}
use Rattle.dp_num.specs.Limits.{Fraction}
use Rattle.dp_domain.specs.declared.domains.Domain.{Domain}
use Rattle.dp_domain.specs.declared.metrics.Metric.{Metric}
use Rattle.dp_law.specs.declared.refusals.Refused.{Refused}
use Rattle.dp_law.specs.Mapping.{Mapping}
use Rattle.dp_law.specs.Mechanism.{Mechanism}
use Rattle.dp_rowwise.specs.Filter.{filter_from}
use Rattle.dp_rowwise.specs.Select.{select_from}
use Rattle.dp_rowwise.specs.Cast.{cast_from}
use Rattle.dp_rowwise.specs.Categories.{categories_from}
use Rattle.dp_rowwise.specs.Impute.{impute_from}
use Rattle.dp_rowwise.specs.DropNone.{drop_none_from}
use Rattle.dp_rowwise.specs.Clamp.{clamp_from}
use Rattle.dp_rowwise.specs.Bins.{bins_from}
use Rattle.dp_rowwise.specs.Truncate.{truncate_from}
use Rattle.dp_aggregate.specs.Resize.{resize_from}
use Rattle.dp_aggregate.specs.Count.{count_from}
use Rattle.dp_aggregate.specs.Sum.{sum_from}
use Rattle.dp_aggregate.specs.Histogram.{histogram_from}
use Rattle.dp_aggregate.specs.Quantise.{quantise_from}
use Rattle.dp_aggregate.specs.AtLeast.{at_least_from}
use Rattle.dp_geometric.specs.Geometric.{geometric_from}
use Rattle.dp_response.specs.Response.{response_from}
use Rattle.dp_choice.specs.Choice.{choice_from}
use Rattle.dp_chain.specs.declared.stage.Stage.{Stage}
use Rattle.dp_chain.specs.declared.stage.Stage.TheVariants as stage
use Rattle.dp_chain.specs.declared.noise.Noise.{Noise}
use Rattle.dp_chain.specs.declared.noise.Noise.TheVariants as noise

-- the transformation of the stage, or its refusal
unfoldable pub stage_on : Stage → Domain → Metric → Result Mapping Refused
stage_on (stage.Filter column text) domain metric = filter_from column text domain metric
stage_on (stage.Select column) domain metric = select_from column domain metric
stage_on stage.Cast domain metric = cast_from domain metric
stage_on (stage.Categories texts) domain metric = categories_from texts domain metric
stage_on (stage.Impute number) domain metric = impute_from number domain metric
stage_on stage.DropNone domain metric = drop_none_from domain metric
stage_on (stage.Clamp lo hi) domain metric = clamp_from lo hi domain metric
stage_on (stage.Bins edges) domain metric = bins_from edges domain metric
stage_on (stage.Resize size fill) domain metric = resize_from size fill domain metric
stage_on stage.Count domain metric = count_from domain metric
stage_on stage.Sum domain metric = sum_from domain metric
stage_on stage.Histogram domain metric = histogram_from domain metric
stage_on (stage.Quantise step) domain metric = quantise_from step domain metric
stage_on (stage.AtLeast edges) domain metric = at_least_from edges domain metric
stage_on (stage.Truncate most) domain metric = truncate_from most domain metric

-- the measurement of the noise with the ratio, or its refusal
unfoldable pub noise_on : Fraction → Noise → Domain → Metric → Result Mechanism Refused
noise_on ratio (noise.Geometric u lo hi) domain metric = geometric_from ratio u lo hi domain metric
noise_on ratio (noise.Response u) domain metric = response_from ratio u domain metric
noise_on ratio (noise.Choice u floor top) domain metric = choice_from ratio u floor top domain metric
