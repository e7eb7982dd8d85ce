-- The parts of a release are private.
use Rattle.dp_law.proofs.ChainingLaw.{measured_law}
use Rattle.dp_law.specs.Mechanism.{IsPrivate}
use Rattle.dp_chain.specs.PartMeanings.{MeasuredLine, part_mechanism}
use Rattle.dp_chain.specs.contracts.line.LineTransformation.TheImpl.{ghosts as line_ghosts}
use Rattle.dp_chain.specs.contracts.any_measurement.AnyMeasurementMeasurement.TheImpl.{ghosts as noise_ghosts}
use Rattle.dp_chain.specs.contracts.line.LineTransformation.TheImpl.Laws.{law-law as line_law}
use Rattle.dp_chain.specs.contracts.any_measurement.AnyMeasurementMeasurement.TheImpl.Laws.{law-law as noise_law}

-- a measured line is private
pub part_law : (part : MeasuredLine) → IsPrivate (part_mechanism part)
part_law part =
    measured_law (line_ghosts.mapping part.first) (noise_ghosts.mechanism part.second)
    (line_law part.first) (noise_law part.second) part.domains part.metrics
