-- What the parts of a release mean.
use Rattle.std.specs.Prelude.{List, map}
use Rattle.dp_num.specs.Fractions.{fraction_of}
use Rattle.dp_num.specs.declared.ratio.Ratio.{Ratio}
use Rattle.dp_domain.specs.declared.domains.Domain.{Domain}
use Rattle.dp_domain.specs.declared.metrics.Metric.{Metric}
use Rattle.dp_law.specs.Mechanism.{Mechanism}
use Rattle.dp_law.specs.Joining.{measured}
use Rattle.dp_chain.specs.Releases.{AreAlike}
use Rattle.dp_chain.specs.declared.any_measurement.AnyMeasurement.{AnyMeasurement}
use Rattle.dp_chain.specs.declared.line.Line.{Line}
use Rattle.dp_chain.specs.declared.measured.Measured.{Measured}
use Rattle.dp_chain.specs.contracts.line.LineTransformation.TheImpl.{ghosts as line_ghosts}
use Rattle.dp_chain.specs.contracts.any_measurement.AnyMeasurementMeasurement.TheImpl.{ghosts as noise_ghosts}

-- a line and the measurement of what it gives
abbrev pub MeasuredLine : Type 0
MeasuredLine = Measured Line AnyMeasurement line_ghosts noise_ghosts

-- what it means
abbrev pub part_mechanism : MeasuredLine → Mechanism
part_mechanism part = measured (line_ghosts.mapping part.first) (noise_ghosts.mechanism part.second)

-- what each of them means
abbrev pub part_mechanisms : List MeasuredLine → List Mechanism
part_mechanisms parts = map part_mechanism parts

-- each of them takes the domain and the metric, with the ratio
abbrev pub PartsAlike : Ratio → Domain → Metric → List MeasuredLine → Type 0
PartsAlike ratio domain metric parts = AreAlike (fraction_of ratio) domain metric (part_mechanisms parts)
