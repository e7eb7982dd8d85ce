-- The transformations of a line.
use Rattle.std.specs.Prelude.{List}
use Rattle.dp_chain.specs.declared.any_transformation.AnyTransformation.{AnyTransformation}
use Rattle.dp_chain.specs.declared.line.Line.{Line}

-- the transformations of a line from first to last
abbrev pub line_stages : Line → List AnyTransformation
line_stages line = line.stages.items
