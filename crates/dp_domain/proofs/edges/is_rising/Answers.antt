use Rattle.std.proofs.Common.{◌≡◌, rules}
use Rattle.std.specs.Prelude.{int_lt}
use Rattle.std.proofs.lemmas.List.Sorted.{answers_always}
use Rattle.dp_domain.proofs.EdgeTests.{rising-answer}
use Rattle.dp_domain.proofs.edges.is_rising.Goals as goal

pub returns : goal.returns
returns c = rising-answer c.args.edges.now c.is_sorted_by.result (c.is_sorted_by.ensures.cases int_lt (answers_always _ (λ a r. r ≡ int_lt a.0.now a.1.0.now) _ (λ f a r q k. search rules)))
