-- Casting is stable.
use Rattle.std.proofs.Common.{◌≡◌, ℕ, ℤ, pos, neg_ℤ, ◌^◌, ◌≤◌, Bool, true, false, cond, List, get_or, Option, Some, None, refl, arith}
use Rattle.std.specs.Prelude.{IfSome}
use Rattle.std.proofs.lemmas.Int.{ints}
use Rattle.std.proofs.lemmas.List.{length-map}
use Rattle.std.proofs.lemmas.List.Elements.{All-map}
use Rattle.dp_domain.specs.declared.domains.Domain.TheVariants as domain
use Rattle.dp_domain.specs.declared.metrics.Metric.TheVariants as metrics
use Rattle.dp_domain.specs.declared.values.Value.{Value}
use Rattle.dp_domain.specs.declared.values.Value.TheVariants as value
use Rattle.dp_domain.specs.Distance.{text_eq, opt_int_eq}
use Rattle.dp_domain.specs.Domains.{Has, IsBetween}
use Rattle.dp_domain.specs.Metrics.{Within}
use Rattle.dp_domain.proofs.Distance.{diff-map}
use Rattle.dp_domain.proofs.Equality.{text_eq-decides, opt_int_eq-decides}
use Rattle.dp_law.specs.Mapping.{IsStable}
use Rattle.dp_law.proofs.Caps.{capped-same, capped-le}
use Rattle.dp_law.proofs.Suits.{both-hold}
use Rattle.std.specs.Prelude.{nat_le, option_map}
use Rattle.std.proofs.lemmas.Bool.Decides.{nat_tests}
use Rattle.dp_count.specs.Digits.{decimal, without_sign, with_sign}
use Rattle.dp_rowwise.specs.Cast.{small, cast, cast_value, cast_mapping}

abbrev IsSmall : ℤ → Type 0
IsSmall z = IsBetween (neg_ℤ (pos (2 ^ 31))) (pos (2 ^ 31)) z

signed-small : (negative fits : Bool) (n : ℕ) → nat_le n (2 ^ 31) ≡ fits
    → IfSome (option_map (with_sign negative) (cond fits (Some n) None)) IsSmall
signed-small true true n h = let le : n ≤ 2 ^ 31 = grind (arith, nat_tests) in (omega (arith, ints), omega (arith, ints))
signed-small false true n h = let le : n ≤ 2 ^ 31 = grind (arith, nat_tests) in (omega (arith, ints), omega (arith, ints))
signed-small negative false n h = tt

either-small : (negative : Bool) (number : Option ℕ) → IfSome (option_map (with_sign negative) (small number)) IsSmall
either-small negative None = tt
either-small negative (Some n) = signed-small negative (nat_le n (2 ^ 31)) n refl

cast-small : (text : List ℕ) → IfSome (cast text) IsSmall
unfolding cast
cast-small text = either-small (without_sign text).0 (decimal (without_sign text).1)

cast_lands : (v : Value) → Has domain.Texts v → Has (domain.OptInts (neg_ℤ (pos (2 ^ 31))) (pos (2 ^ 31))) (cast_value v)
cast_lands (value.Texts texts) has = (rw length-map has, All-map (λ x. IfSome x IsSmall) cast texts (λ k d within. cast-small (get_or texts k d)))
cast_lands v has = absurd has

cast_stable : (d e : ℕ) (v w : Value) → d ≡ e → Has domain.Texts v → Has domain.Texts w
    → Within metrics.Symmetric d v w → Within metrics.Symmetric e (cast_value v) (cast_value w)
cast_stable d e (value.Texts xs) (value.Texts ys) same has_v has_w near =
    omega (arith, near, diff-map text_eq text_eq-decides opt_int_eq opt_int_eq-decides cast xs ys)
cast_stable d e (value.Texts xs) w same has_v has_w near = absurd has_w
cast_stable d e v w same has_v has_w near = absurd has_v

pub cast_law : IsStable cast_mapping
cast_law = record {
  input_fits = tt;
  output_fits = (omega (arith, ints), omega (arith, ints), omega (arith, ints));
  suits = both-hold tt tt;
  lands = cast_lands;
  limited = capped-le;
  stable = λ d e v w map_is. cast_stable d e v w (capped-same d e map_is);
}
