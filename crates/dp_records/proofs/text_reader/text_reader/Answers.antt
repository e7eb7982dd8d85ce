use Rattle.std.proofs.Common.{rules}
use Rattle.dp_records.proofs.ReaderSteps.{gives-all}
use Rattle.dp_records.proofs.text_reader.text_reader.Goals as goal

pub returns : goal.returns
returns c = gives-all _ c.args.text.now (search rules) (search rules) (search rules) (search rules) c.from_reader.ensures.headers c.from_reader.ensures.state c.from_reader.ensures.source
