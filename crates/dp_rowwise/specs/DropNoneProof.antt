-- Dropping the missing numbers is stable.
use Rattle.std.proofs.Common.{◌≡◌, ℕ, ℤ, ◌+◌, ◌≤◌, List, [], ◌∷◌, length, Option, Some, None, arith}
use Rattle.std.specs.Prelude.{filter_map, All, IfSome}
use Rattle.std.specs.Ordering.{int_eq}
use Rattle.std.proofs.lemmas.List.Elements.{All-nil, All-cons, All-head, All-tail}
use Rattle.dp_domain.specs.declared.domains.Domain.TheVariants as domain
use Rattle.dp_domain.specs.declared.metrics.Metric.TheVariants as metrics
use Rattle.dp_domain.specs.declared.values.Value.{Value}
use Rattle.dp_domain.specs.declared.values.Value.TheVariants as value
use Rattle.dp_domain.specs.Distance.{opt_int_eq}
use Rattle.dp_domain.specs.Domains.{Fits, Has, IsBetween}
use Rattle.dp_domain.specs.Metrics.{Within}
use Rattle.dp_domain.proofs.Distance.{diff-filter_map}
use Rattle.dp_domain.proofs.Equality.{int_eq-decides, opt_int_eq-decides}
use Rattle.dp_law.specs.Mapping.{IsStable}
use Rattle.dp_law.proofs.Caps.{capped-same, capped-le}
use Rattle.dp_law.proofs.Suits.{both-hold}
use Rattle.std.specs.List.{cons_option}
use Rattle.dp_rowwise.specs.DropNone.{drop_none_value, drop_none_mapping}

length-option : (x : Option ℤ) (xs : List ℤ) → length (cons_option x xs) ≤ length xs + 1
length-option None xs = omega arith
length-option (Some z) xs = omega arith

length-numbers : (xs : List (Option ℤ)) → length (filter_map (λ x. x) xs) ≤ length xs
length-numbers [] = omega arith
length-numbers (x ∷ xs) = omega (arith, length-numbers xs, length-option x (filter_map (λ y. y) xs))

All-option : (P : ℤ → Type 0) (x : Option ℤ) (xs : List ℤ) → IfSome x P → All P xs → All P (cons_option x xs)
All-option P None xs h all = all
All-option P (Some z) xs h all = All-cons P z xs h all

All-numbers : (P : ℤ → Type 0) (xs : List (Option ℤ)) → All (λ x. IfSome x P) xs → All P (filter_map (λ x. x) xs)
All-numbers P [] all = All-nil P
All-numbers P (x ∷ xs) all = All-option P x (filter_map (λ y. y) xs) (All-head (λ y. IfSome y P) x xs all) (All-numbers P xs (All-tail (λ y. IfSome y P) x xs all))

drop_none_lands : (lo hi : ℤ) (v : Value) → Has (domain.OptInts lo hi) v → Has (domain.Ints lo hi None) (drop_none_value v)
drop_none_lands lo hi (value.OptInts xs) has = (omega (arith, has.0, length-numbers xs), All-numbers (IsBetween lo hi) xs has.1)
drop_none_lands lo hi v has = absurd has

drop_none_stable : (lo hi : ℤ) (d e : ℕ) (v w : Value) → d ≡ e → Has (domain.OptInts lo hi) v → Has (domain.OptInts lo hi) w
    → Within metrics.Symmetric d v w → Within metrics.Symmetric e (drop_none_value v) (drop_none_value w)
drop_none_stable lo hi d e (value.OptInts xs) (value.OptInts ys) same has_v has_w near =
    omega (arith, near, diff-filter_map opt_int_eq opt_int_eq-decides int_eq int_eq-decides (λ x. x) xs ys)
drop_none_stable lo hi d e (value.OptInts xs) w same has_v has_w near = absurd has_w
drop_none_stable lo hi d e v w same has_v has_w near = absurd has_v

pub drop_none_law : (lo hi : ℤ) → Fits (domain.OptInts lo hi) → IsStable (drop_none_mapping lo hi)
drop_none_law lo hi fits = record {
  input_fits = fits;
  output_fits = (fits, tt);
  suits = both-hold tt tt;
  lands = drop_none_lands lo hi;
  limited = capped-le;
  stable = λ d e v w map_is. drop_none_stable lo hi d e v w (capped-same d e map_is);
}
