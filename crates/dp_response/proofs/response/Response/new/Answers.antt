use Rattle.std.proofs.Common.{arith}
use Rattle.std.proofs.lemmas.Bool.Decides.{nat_tests}
use Rattle.dp_response.proofs.response.Response.new.Goals as goal

pub invariant_of-result : goal.invariant_of-result
invariant_of-result c = record {
  input_fits = rw c.in-Cat.is at c.requires;
  powers = c.in-Ok.ensures.facts;
  bounded = grind (arith, nat_tests);
}
