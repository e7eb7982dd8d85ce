use Rattle.std.proofs.Common.{◌∙◌}
use Rattle.dp_io.specs.Lines.{is_line_feed}
use Rattle.dp_io.proofs.FirstPlaces.{place-or}
use Rattle.dp_io.proofs.lines.line_end.Goals as goal

pub returns : goal.returns
returns c = c.unwrap_or.ensures ∙ rw c.line_feed.ensures (place-or is_line_feed c.args.bytes.now)
