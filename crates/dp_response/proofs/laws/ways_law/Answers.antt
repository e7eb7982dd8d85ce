use Rattle.dp_response.specs.ResponseProof.{response_ways}
use Rattle.dp_response.proofs.laws.ways_law.Goals as goal

pub returns : goal.returns
returns c = response_ways
