use Rattle.dp_chain.proofs.NoiseLaws.{noise-law}
use Rattle.dp_chain.proofs.ReleaseLaws.{part-law, release-law}
use Rattle.dp_chain.proofs.laws.release_law.Goals as goal

pub returns-clause-noise : goal.returns-clause-noise
returns-clause-noise c = noise-law

pub returns-clause-part : goal.returns-clause-part
returns-clause-part c = part-law

pub returns-clause-release : goal.returns-clause-release
returns-clause-release c = release-law
