use Rattle.dp_choice.specs.ChoiceProof.{choice_law_of}
use Rattle.dp_choice.proofs.laws.privacy_law.Goals as goal

pub returns : goal.returns
returns c = choice_law_of
