-- The parts of a release.
use Rattle.std.specs.Prelude.{List}
use Rattle.dp_chain.specs.declared.release.Release.{Release}
use Rattle.dp_chain.specs.PartMeanings.{MeasuredLine}

-- the parts of a release in order, each a line and the measurement of what it gives
abbrev pub release_parts : Release → List MeasuredLine
release_parts release = release.parts.items
