-- Filtering is stable, by records and by persons.
use Rattle.std.proofs.Common.{◌≡◌, ℕ, List, length, arith}
use Rattle.std.proofs.lemmas.List.Sums.{length-filter, count_by-le-length}
use Rattle.std.proofs.lemmas.List.Elements.{All-filter}
use Rattle.dp_domain.specs.declared.domains.Domain.TheVariants as domain
use Rattle.dp_domain.specs.declared.metrics.Metric.{Metric}
use Rattle.dp_domain.specs.declared.metrics.Metric.TheVariants as metrics
use Rattle.dp_domain.specs.declared.values.Value.{Value}
use Rattle.dp_domain.specs.declared.values.Value.TheVariants as value
use Rattle.dp_domain.specs.Distance.{text_eq, record_eq}
use Rattle.dp_domain.specs.Domains.{Fits, Has}
use Rattle.dp_domain.specs.Metrics.{Within}
use Rattle.dp_domain.proofs.Distance.{diff-filter}
use Rattle.dp_domain.proofs.Equality.{text_eq-decides, record_eq-decides}
use Rattle.dp_domain.proofs.Groups.{parts-filter}
use Rattle.dp_law.specs.Mapping.{IsStable}
use Rattle.dp_law.proofs.Caps.{capped-same, capped-le}
use Rattle.dp_domain.specs.Users.{cell}
use Rattle.dp_rowwise.specs.Filter.{filter_value, filter_mapping}

filter_lands : (column : ℕ) (text : List ℕ) (columns : ℕ) (v : Value) → Has (domain.Rows columns) v
    → Has (domain.Rows columns) (filter_value column text v)
filter_lands column text columns (value.Rows rows) has =
    let kept = λ (cells : List (List ℕ)). text_eq (cell column cells) text in (
      omega (arith, has.0, length-filter kept rows, count_by-le-length kept rows),
      All-filter kept (λ cells. length cells ≡ columns) rows has.1,
    )
filter_lands column text columns v has = absurd has

rows_stable : (metric : Metric) (column : ℕ) (text : List ℕ) (d e : ℕ) (xs ys : List (List (List ℕ))) → d ≡ e
    → Within metric d (value.Rows xs) (value.Rows ys)
    → Within metric e (filter_value column text (value.Rows xs)) (filter_value column text (value.Rows ys))
rows_stable metrics.Symmetric column text d e xs ys same near =
    omega (arith, near, diff-filter record_eq record_eq-decides (λ cells. text_eq (cell column cells) text) xs ys)
rows_stable (metrics.Users user) column text d e xs ys same near =
    omega (
      arith,
      near,
      parts-filter (cell user) text_eq text_eq-decides record_eq record_eq-decides
          (λ cells. text_eq (cell column cells) text) xs ys,
    )
rows_stable metric column text d e xs ys same near = absurd near

filter_stable : (metric : Metric) (column : ℕ) (text : List ℕ) (columns d e : ℕ) (v w : Value) → d ≡ e
    → Has (domain.Rows columns) v → Has (domain.Rows columns) w
    → Within metric d v w → Within metric e (filter_value column text v) (filter_value column text w)
filter_stable metric column text columns d e (value.Rows xs) (value.Rows ys) same has_v has_w near =
    rows_stable metric column text d e xs ys same near
filter_stable metric column text columns d e (value.Rows xs) w same has_v has_w near = absurd has_w
filter_stable metric column text columns d e v w same has_v has_w near = absurd has_v

pub filter_law : (column : ℕ) (text : List ℕ) (columns : ℕ) (metric : Metric) → Fits (domain.Rows columns)
    → IsStable (filter_mapping column text columns metric)
filter_law column text columns metric fits = record {
  input_fits = fits;
  output_fits = fits;
  suits = (λ h. h, λ h. h);
  lands = filter_lands column text columns;
  limited = capped-le;
  stable = λ d e v w map_is. filter_stable metric column text columns d e v w (capped-same d e map_is);
}
