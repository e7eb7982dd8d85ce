-- A cost and a mapped distance are numbers of units.
use Rattle.std.proofs.Common.{◌≡◌, ℕ, ◌≤◌, ◌^◌, Bool, true, false, cond, length, nat_le, Option, Some, None, Ok, Err, refl, arith}
use Rattle.std.proofs.lemmas.Bool.Decides.{nat_tests}
use Rattle.dp_chain.specs.declared.faults.CostFault.TheVariants as cost_fault
use Rattle.dp_chain.specs.Releases.{cost_within, cost_of}
use Rattle.dp_law.specs.Mechanism.{Mechanism, IsPrivate}

-- a cost is a loss
pub cost-loss : (draws : ℕ) (loss : Option ℕ) (cost : ℕ) → cost_within draws loss ≡ Ok cost → loss ≡ Some cost
cost-loss draws None cost h = absurd cc
cost-loss draws (Some k) cost h = few (nat_le draws (2 ^ 20)) h
  where
    few : (test : Bool) → cond test (Ok k) (Err cost_fault.Draws) ≡ Ok cost → Some k ≡ Some cost
    few true e = cc
    few false e = absurd cc

pub cost-le : (m : Mechanism) (d cost : ℕ) → IsPrivate m → cost_of m d ≡ Ok cost → cost ≤ 2 ^ 32
cost-le m d cost law h = law.limited d cost (cost-loss (length m.shape) (m.privacy_map d) cost h)

-- what has a cost has few draws
pub cost-draws : (draws : ℕ) (loss : Option ℕ) (cost : ℕ) → cost_within draws loss ≡ Ok cost → draws ≤ 2 ^ 20
cost-draws draws None cost h = absurd cc
cost-draws draws (Some k) cost h = few (nat_le draws (2 ^ 20)) refl h
  where
    few : (test : Bool) → nat_le draws (2 ^ 20) ≡ test → cond test (Ok k) (Err cost_fault.Draws) ≡ Ok cost → draws ≤ 2 ^ 20
    few true is e = grind (arith, nat_tests, is)
    few false is e = absurd cc
