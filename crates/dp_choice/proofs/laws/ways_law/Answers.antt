use Rattle.dp_choice.specs.ChoiceProof.{choice_ways}
use Rattle.dp_choice.proofs.laws.ways_law.Goals as goal

pub returns : goal.returns
returns c = choice_ways
