-- Bins are stable.
use Rattle.std.proofs.Common.{◌≡◌, ℕ, ℤ, ◌+◌, ◌<◌, List, length, get_or, Option, Some, None, arith}
use Rattle.std.specs.Prelude.{nat_eq}
use Rattle.std.specs.Ordering.{int_eq}
use Rattle.std.proofs.lemmas.List.{length-map}
use Rattle.std.proofs.lemmas.List.Sums.{count_by-le-length}
use Rattle.std.proofs.lemmas.List.Elements.{All-map}
use Rattle.dp_domain.specs.declared.domains.Domain.TheVariants as domain
use Rattle.dp_domain.specs.declared.values.Value.{Value}
use Rattle.dp_domain.specs.declared.values.Value.TheVariants as value
use Rattle.dp_domain.specs.Domains.{Fits, Has}
use Rattle.dp_domain.specs.Edges.{edges_at_most}
use Rattle.dp_domain.specs.Metrics.{Within}
use Rattle.dp_domain.proofs.Distance.{diff-map}
use Rattle.dp_domain.proofs.Equality.{nat_eq-decides, int_eq-decides}
use Rattle.dp_law.specs.Making.{list_metric}
use Rattle.dp_law.specs.Mapping.{IsStable}
use Rattle.dp_law.proofs.Caps.{capped-same, capped-le}
use Rattle.dp_law.proofs.Suits.{both-hold, ints-suit, cats-suit}
use Rattle.std.specs.Prelude.{int_le}
use Rattle.dp_rowwise.specs.Bins.{bins_value, bins_mapping}

bins_lands : (edges : List ℤ) (lo hi : ℤ) (size : Option ℕ) (v : Value) → Has (domain.Ints lo hi size) v → Has (domain.Cats (length edges + 1) size) (bins_value edges v)
bins_lands edges lo hi size (value.Ints xs) has =
    (rw length-map has.0, All-map (λ category. category < length edges + 1) (edges_at_most edges) xs (λ k d within. omega (arith, count_by-le-length (λ edge. int_le edge (get_or xs k d)) edges)))
bins_lands edges lo hi size v has = absurd has

bins_stable : (edges : List ℤ) (lo hi : ℤ) (size : Option ℕ) (d e : ℕ) (v w : Value) → d ≡ e → Has (domain.Ints lo hi size) v → Has (domain.Ints lo hi size) w
    → Within (list_metric size) d v w → Within (list_metric size) e (bins_value edges v) (bins_value edges w)
bins_stable edges lo hi None d e (value.Ints xs) (value.Ints ys) same has_v has_w near =
    omega (arith, near, diff-map int_eq int_eq-decides nat_eq nat_eq-decides (edges_at_most edges) xs ys)
bins_stable edges lo hi (Some size) d e (value.Ints xs) (value.Ints ys) same has_v has_w near =
    (simp length-map near.0, omega (arith, near.1, diff-map int_eq int_eq-decides nat_eq nat_eq-decides (edges_at_most edges) xs ys))
bins_stable edges lo hi size d e (value.Ints xs) w same has_v has_w near = absurd has_w
bins_stable edges lo hi size d e v w same has_v has_w near = absurd has_v

pub bins_law : (edges : List ℤ) (lo hi : ℤ) (size : Option ℕ) → Fits (domain.Ints lo hi size) → Fits (domain.Cats (length edges + 1) size) → IsStable (bins_mapping edges lo hi size)
bins_law edges lo hi size input output = record {
  input_fits = input;
  output_fits = output;
  suits = both-hold (ints-suit lo hi size) (cats-suit (length edges + 1) size);
  lands = bins_lands edges lo hi size;
  limited = capped-le;
  stable = λ d e v w map_is. bins_stable edges lo hi size d e v w (capped-same d e map_is);
}
