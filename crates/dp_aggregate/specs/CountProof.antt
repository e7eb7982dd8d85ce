-- Counting is stable.
use Rattle.std.proofs.Common.{ℕ, pos, ◌≤◌, ◌^◌, ◌-ℤ◌, IsTrue, length, Some, None, subst, arith}
use Rattle.std.specs.Prelude.{nat_abs, nat_eq}
use Rattle.std.specs.Ordering.{int_eq}
use Rattle.std.proofs.lemmas.Int.{ints}
use Rattle.dp_domain.specs.declared.domains.Domain.{Domain}
use Rattle.dp_domain.specs.declared.domains.Domain.TheVariants as domain
use Rattle.dp_domain.specs.declared.metrics.Metric.TheVariants as metrics
use Rattle.dp_domain.specs.declared.values.Value.{Value}
use Rattle.dp_domain.specs.declared.values.Value.TheVariants as value
use Rattle.dp_domain.specs.Distance.{diff, apart, text_eq, record_eq, opt_int_eq}
use Rattle.dp_domain.specs.Domains.{Fits, Has}
use Rattle.dp_domain.specs.Metrics.{Within, SuitsMetric}
use Rattle.dp_domain.proofs.Distance.{diff-lengths}
use Rattle.dp_domain.proofs.Equality.{nat_eq-decides, int_eq-decides, text_eq-decides, record_eq-decides, opt_int_eq-decides}
use Rattle.dp_law.specs.Mapping.{IsStable}
use Rattle.dp_law.proofs.Caps.{capped-same, capped-le}
use Rattle.dp_law.proofs.Suits.{both-hold}
use Rattle.dp_aggregate.specs.Count.{has_unsized_lists, count_value, count_mapping}

count_lands : (lists : Domain) → IsTrue (has_unsized_lists lists) → (v : Value) → Has lists v → Has (domain.Int (pos 0) (pos (2 ^ 30))) (count_value v)
count_lands (domain.Rows columns) plain (value.Rows xs) has = let most = has.0 in (omega (arith, ints), omega (arith, ints))
count_lands domain.Texts plain (value.Texts xs) has = (omega (arith, ints), omega (arith, ints))
count_lands (domain.OptInts lo hi) plain (value.OptInts xs) has = let most = has.0 in (omega (arith, ints), omega (arith, ints))
count_lands (domain.Ints lo hi None) plain (value.Ints xs) has = let most = has.0 in (omega (arith, ints), omega (arith, ints))
count_lands (domain.Ints lo hi (Some size)) plain (value.Ints xs) has = absurd cc
count_lands (domain.Cats n None) plain (value.Cats xs) has = let most = has.0 in (omega (arith, ints), omega (arith, ints))
count_lands (domain.Cats n (Some size)) plain (value.Cats xs) has = absurd cc
count_lands (domain.Int lo hi) plain v has = absurd cc
count_lands (domain.Cat n) plain v has = absurd cc
count_lands (domain.IntVec len lo hi) plain v has = absurd cc
count_lands lists plain v has = absurd has

lengths_near : (n m b d : ℕ) → apart n m ≤ b → b ≤ d → nat_abs (pos n -ℤ pos m) ≤ d
lengths_near n m b d h k = omega (arith, ints)

count_stable : (d : ℕ) (v w : Value) → Within metrics.Symmetric d v w → Within metrics.Absolute d (count_value v) (count_value w)
count_stable d (value.Rows xs) (value.Rows ys) near = lengths_near (length xs) (length ys) (diff record_eq xs ys) d (diff-lengths record_eq record_eq-decides xs ys) near
count_stable d (value.Texts xs) (value.Texts ys) near = lengths_near (length xs) (length ys) (diff text_eq xs ys) d (diff-lengths text_eq text_eq-decides xs ys) near
count_stable d (value.OptInts xs) (value.OptInts ys) near = lengths_near (length xs) (length ys) (diff opt_int_eq xs ys) d (diff-lengths opt_int_eq opt_int_eq-decides xs ys) near
count_stable d (value.Ints xs) (value.Ints ys) near = lengths_near (length xs) (length ys) (diff int_eq xs ys) d (diff-lengths int_eq int_eq-decides xs ys) near
count_stable d (value.Cats xs) (value.Cats ys) near = lengths_near (length xs) (length ys) (diff nat_eq xs ys) d (diff-lengths nat_eq nat_eq-decides xs ys) near
count_stable d v w near = absurd near

lists-suit : (lists : Domain) → IsTrue (has_unsized_lists lists) → SuitsMetric lists metrics.Symmetric
lists-suit (domain.Rows columns) plain = tt
lists-suit domain.Texts plain = tt
lists-suit (domain.OptInts lo hi) plain = tt
lists-suit (domain.Ints lo hi None) plain = tt
lists-suit (domain.Cats n None) plain = tt
lists-suit lists plain = absurd (cc)

pub count_law : (lists : Domain) → Fits lists → IsTrue (has_unsized_lists lists) → IsStable (count_mapping lists)
count_law lists input plain = record {
  input_fits = input;
  output_fits = (omega (arith, ints), omega (arith, ints), omega (arith, ints));
  suits = both-hold (lists-suit lists plain) tt;
  lands = count_lands lists plain;
  limited = capped-le;
  stable = λ d e v w map_is has_v has_w near. let same = capped-same d e map_is in subst (λ (n : ℕ). Within metrics.Absolute n (count_value v) (count_value w)) same (count_stable d v w near);
}
