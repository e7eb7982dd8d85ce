-- Imputing is stable.
use Rattle.std.proofs.Common.{◌≡◌, ℕ, ℤ, Option, Some, None, arith}
use Rattle.std.specs.Prelude.{unwrap_or, IfSome}
use Rattle.std.specs.Ordering.{int_eq}
use Rattle.std.proofs.lemmas.List.{length-map}
use Rattle.std.proofs.lemmas.List.Elements.{All-map, All-weaker}
use Rattle.dp_domain.specs.declared.domains.Domain.TheVariants as domain
use Rattle.dp_domain.specs.declared.metrics.Metric.TheVariants as metrics
use Rattle.dp_domain.specs.declared.values.Value.{Value}
use Rattle.dp_domain.specs.declared.values.Value.TheVariants as value
use Rattle.dp_domain.specs.Distance.{opt_int_eq}
use Rattle.dp_domain.specs.Domains.{Fits, Has, IsBetween}
use Rattle.dp_domain.specs.Metrics.{Within}
use Rattle.dp_domain.proofs.Distance.{diff-map}
use Rattle.dp_domain.proofs.Equality.{int_eq-decides, opt_int_eq-decides}
use Rattle.dp_law.specs.Mapping.{IsStable}
use Rattle.dp_law.proofs.Caps.{capped-same, capped-le}
use Rattle.dp_law.proofs.Suits.{both-hold}
use Rattle.dp_rowwise.specs.Impute.{impute_value, impute_mapping}

imputed-between : (number lo hi : ℤ) (x : Option ℤ) → IsBetween lo hi number → IfSome x (IsBetween lo hi) → IsBetween lo hi (unwrap_or x number)
imputed-between number lo hi None between has = between
imputed-between number lo hi (Some z) between has = has

impute_lands : (number lo hi : ℤ) → IsBetween lo hi number → (v : Value) → Has (domain.OptInts lo hi) v → Has (domain.Ints lo hi None) (impute_value number v)
impute_lands number lo hi between (value.OptInts xs) has =
    (rw length-map has.0, All-map (IsBetween lo hi) (λ x. unwrap_or x number) xs (All-weaker (λ x. IfSome x (IsBetween lo hi)) (λ x. IsBetween lo hi (unwrap_or x number)) (λ x h. imputed-between number lo hi x between h) xs has.1))
impute_lands number lo hi between v has = absurd has

impute_stable : (number lo hi : ℤ) (d e : ℕ) (v w : Value) → d ≡ e → Has (domain.OptInts lo hi) v → Has (domain.OptInts lo hi) w
    → Within metrics.Symmetric d v w → Within metrics.Symmetric e (impute_value number v) (impute_value number w)
impute_stable number lo hi d e (value.OptInts xs) (value.OptInts ys) same has_v has_w near =
    omega (arith, near, diff-map opt_int_eq opt_int_eq-decides int_eq int_eq-decides (λ x. unwrap_or x number) xs ys)
impute_stable number lo hi d e (value.OptInts xs) w same has_v has_w near = absurd has_w
impute_stable number lo hi d e v w same has_v has_w near = absurd has_v

pub impute_law : (number lo hi : ℤ) → Fits (domain.OptInts lo hi) → IsBetween lo hi number → IsStable (impute_mapping number lo hi)
impute_law number lo hi fits between = record {
  input_fits = fits;
  output_fits = (fits, tt);
  suits = both-hold tt tt;
  lands = impute_lands number lo hi between;
  limited = capped-le;
  stable = λ d e v w map_is. impute_stable number lo hi d e v w (capped-same d e map_is);
}
