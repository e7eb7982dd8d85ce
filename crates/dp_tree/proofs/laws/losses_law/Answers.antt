use Rattle.std.proofs.Common.{refl, arith}
use Rattle.dp_tree.proofs.Losses.{losses-law, root-losses-law}
use Rattle.dp_tree.proofs.laws.losses_law.Goals as goal

pub returns-clause-node : goal.returns-clause-node
returns-clause-node c = losses-law

pub returns-clause-root : goal.returns-clause-root
returns-clause-root c = root-losses-law

pub returns-clause-odometer : goal.returns-clause-odometer
returns-clause-odometer c = λ domain metric distance. (((tt, omega arith, refl, refl), omega arith, refl, refl), refl, refl)
