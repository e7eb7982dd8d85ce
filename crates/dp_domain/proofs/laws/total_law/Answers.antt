use Rattle.dp_domain.proofs.Distance.{diff-lengths}
use Rattle.dp_domain.proofs.Histograms.{l1-histogram}
use Rattle.dp_domain.proofs.WeightedSums.{sums-apart, even-sums-apart}
use Rattle.dp_domain.proofs.laws.total_law.Goals as goal

pub returns-clause-length : goal.returns-clause-length
returns-clause-length g c = diff-lengths

pub returns-clause-sum : goal.returns-clause-sum
returns-clause-sum g c = sums-apart

pub returns-clause-even_sum : goal.returns-clause-even_sum
returns-clause-even_sum g c = even-sums-apart

pub returns-clause-histogram : goal.returns-clause-histogram
returns-clause-histogram g c = l1-histogram
