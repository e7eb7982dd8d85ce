-- Histograms are stable.
use Rattle.std.proofs.Common.{◌≡◌, ℕ, ◌*◌, ◌≤◌, pos, List, length, get_or, map, Option, Some, None, ◌∙◌, sym, arith}
use Rattle.std.specs.Prelude.{nat_eq, All}
use Rattle.std.specs.List.{range_with_len}
use Rattle.std.proofs.lemmas.Int.{ints}
use Rattle.std.proofs.lemmas.List.Sums.{count_by-le-length}
use Rattle.std.proofs.lemmas.List.FromFn.{length-map-range_with_len, get_or-map-range_with_len}
use Rattle.dp_domain.specs.declared.domains.Domain.TheVariants as domain
use Rattle.dp_domain.specs.declared.metrics.Metric.TheVariants as metrics
use Rattle.dp_domain.specs.declared.values.Value.{Value}
use Rattle.dp_domain.specs.declared.values.Value.TheVariants as value
use Rattle.dp_domain.specs.Distance.{occurrences, diff, l1}
use Rattle.dp_domain.specs.Domains.{Fits, Has, HasSize, IsBetween}
use Rattle.dp_domain.specs.Metrics.{Within}
use Rattle.dp_domain.proofs.Equality.{nat_eq-decides}
use Rattle.dp_domain.proofs.Histograms.{l1-occurrences, range-once}
use Rattle.dp_law.specs.Making.{list_metric}
use Rattle.dp_law.specs.Mapping.{IsStable}
use Rattle.dp_law.proofs.Caps.{capped-same, capped-le}
use Rattle.dp_law.proofs.Suits.{both-hold, cats-suit}
use Rattle.dp_aggregate.specs.Histogram.{histogram, histogram_value, histogram_most, histogram_factor, histogram_mapping}

histogram_fits : (n : ℕ) (size : Option ℕ) → Fits (domain.Cats n size) → Fits (domain.IntVec n (pos 0) (pos (histogram_most size)))
histogram_fits n None h = (h.0, (omega (arith, ints), omega (arith, ints), omega (arith, ints)))
histogram_fits n (Some size) h = let most = h.1.1 in (h.0, (omega (arith, ints), omega (arith, ints), omega (arith, ints)))

at-most : (size : Option ℕ) (n : ℕ) → HasSize size n → n ≤ histogram_most size
at-most None n h = omega arith
at-most (Some size) n h = omega arith

cells-between : (n most : ℕ) (xs : List ℕ) → length xs ≤ most → All (IsBetween (pos 0) (pos most)) (histogram n xs)
unfolding histogram
cells-between n most xs h = λ k d l.
    let cell : get_or (map (λ category. pos (occurrences nat_eq xs category)) (range_with_len 0 n)) k d ≡ pos (occurrences nat_eq xs k) =
    get_or-map-range_with_len (λ category. pos (occurrences nat_eq xs category)) 0 n k k d (omega (arith, length-map-range_with_len (λ category. pos (occurrences nat_eq xs category)) 0 n)) (omega arith) in
    let few = count_by-le-length (nat_eq k) xs in
    rw cell (omega (arith, ints), omega (arith, ints))

length-histogram : (n : ℕ) (xs : List ℕ) → length (histogram n xs) ≡ n
unfolding histogram
length-histogram n xs = length-map-range_with_len (λ category. pos (occurrences nat_eq xs category)) 0 n

histogram_lands : (n : ℕ) (size : Option ℕ) (v : Value) → Has (domain.Cats n size) v → Has (domain.IntVec n (pos 0) (pos (histogram_most size))) (histogram_value n v)
histogram_lands n size (value.Cats xs) has = (length-histogram n xs, cells-between n (histogram_most size) xs (at-most size (length xs) has.0))
histogram_lands n size v has = absurd has

histograms-apart : (n : ℕ) (xs ys : List ℕ) → l1 (histogram n xs) (histogram n ys) ≤ diff nat_eq xs ys
unfolding histogram
histograms-apart n xs ys = l1-occurrences nat_eq nat_eq-decides (range_with_len 0 n) (range-once 0 n) xs ys

histogram_stable : (n : ℕ) (size : Option ℕ) (d e : ℕ) (v w : Value) → histogram_factor size * d ≡ e → Has (domain.Cats n size) v → Has (domain.Cats n size) w
    → Within (list_metric size) d v w → Within metrics.L1 e (histogram_value n v) (histogram_value n w)
histogram_stable n None d e (value.Cats xs) (value.Cats ys) map_is has_v has_w near =
    let far = histograms-apart n xs ys in (length-histogram n xs ∙ sym (length-histogram n ys), omega arith)
histogram_stable n (Some size) d e (value.Cats xs) (value.Cats ys) map_is has_v has_w near =
    let far = histograms-apart n xs ys in (length-histogram n xs ∙ sym (length-histogram n ys), omega (arith, near.1))
histogram_stable n size d e (value.Cats xs) w map_is has_v has_w near = absurd has_w
histogram_stable n size d e v w map_is has_v has_w near = absurd has_v

pub histogram_law : (n : ℕ) (size : Option ℕ) → Fits (domain.Cats n size) → IsStable (histogram_mapping n size)
histogram_law n size input = record {
  input_fits = input;
  output_fits = histogram_fits n size input;
  suits = both-hold (cats-suit n size) tt;
  lands = histogram_lands n size;
  limited = λ d e map_is. capped-le (histogram_factor size * d) e map_is;
  stable = λ d e v w map_is. histogram_stable n size d e v w (capped-same (histogram_factor size * d) e map_is);
}
