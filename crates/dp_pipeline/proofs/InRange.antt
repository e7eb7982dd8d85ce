-- What holds of contents within their ranges.
use Rattle.std.proofs.Common.{◌≡◌, ◌≤◌, ℕ, true, length, arith}
use Rattle.std.specs.Prelude.{nat_le}
use Rattle.std.proofs.lemmas.Bool.{and_parts}
use Rattle.std.proofs.lemmas.Bool.Decides.{nat_tests}
use Rattle.dp_num.specs.Limits.{is_ratio}
use Rattle.dp_pipeline.specs.declared.content.Content.{Content}
use Rattle.dp_pipeline.specs.Accepted.{is_in_range, is_rule, few_columns, are_columns}

-- columns, the ratio and the root are in their ranges
parts : (content : Content) → is_in_range content ≡ true
    → (are_columns content.columns ≡ true) × (is_ratio content.p content.q ≡ true) × (is_rule content.root ≡ true)
unfolding is_in_range
parts content h =
    let four = (and_parts _ _ h).0 in
    let three = (and_parts _ _ four).0 in
    let two = (and_parts _ _ three).0 in
    ((and_parts _ _ two).1, (and_parts _ _ three).1, (and_parts _ _ four).1)

few-bounds : (n : ℕ) → few_columns n ≡ true → (1 ≤ n) × (n ≤ 64)
few-bounds n h =
    let both = and_parts (nat_le 1 n) (nat_le n 64) h in (grind (arith, nat_tests, both), grind (arith, nat_tests, both))

-- there are 1 to 64 columns
pub columns_few : (content : Content) → is_in_range content ≡ true → (1 ≤ length content.columns) × (length content.columns ≤ 64)
unfolding are_columns
columns_few content h = few-bounds (length content.columns) (and_parts _ _ (parts content h).0).0

-- the ratio is one
pub ratio_in : (content : Content) → is_in_range content ≡ true → is_ratio content.p content.q ≡ true
ratio_in content h = (parts content h).1

-- the mids of the root are within their limits
pub root_rule : (content : Content) → is_in_range content ≡ true → is_rule content.root ≡ true
root_rule content h = (parts content h).2
