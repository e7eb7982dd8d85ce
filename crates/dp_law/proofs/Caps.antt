-- What a number of units at most 2 ^ 32 is.
use Rattle.std.proofs.Common.{◌≡◌, ℕ, ◌^◌, ◌≤◌, Bool, true, false, cond, Some, None, refl, arith}
use Rattle.std.specs.Prelude.{nat_le}
use Rattle.std.proofs.lemmas.Bool.Decides.{nat_tests}
use Rattle.dp_num.specs.Limits.{capped}

capped-same_by : (b : Bool) (d e : ℕ) → cond b (Some d) None ≡ Some e → d ≡ e
capped-same_by true d e h = cc
capped-same_by false d e h = absurd cc

-- the number itself
pub capped-same : (d e : ℕ) → capped d ≡ Some e → d ≡ e
capped-same d e h = capped-same_by (nat_le d (2 ^ 32)) d e h

capped-le_by : (b : Bool) (d e : ℕ) → nat_le d (2 ^ 32) ≡ b → cond b (Some d) None ≡ Some e → e ≤ 2 ^ 32
capped-le_by true d e t h =
    let same : d ≡ e = cc in
    let le : d ≤ 2 ^ 32 = grind (arith, nat_tests) in
    omega arith
capped-le_by false d e t h = absurd cc

pub capped-le : (d e : ℕ) → capped d ≡ Some e → e ≤ 2 ^ 32
capped-le d e h = capped-le_by (nat_le d (2 ^ 32)) d e refl h
