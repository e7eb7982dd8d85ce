use Rattle.std.specs.Prelude.{int_lt}
use Rattle.std.specs.List.{IsFirstBest}
use Rattle.dp_post.proofs.cells.first_greatest.Given as goal

abbrev pub invariant-loop-k : goal.invariant-loop-k
invariant-loop-k l = IsFirstBest (λ x y. int_lt y x) l.cells l.k l.best
