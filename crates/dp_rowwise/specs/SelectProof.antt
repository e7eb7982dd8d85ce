-- Selecting is stable.
use Rattle.std.proofs.Common.{◌≡◌, ℕ, arith}
use Rattle.std.proofs.lemmas.List.{length-map}
use Rattle.dp_domain.specs.declared.domains.Domain.TheVariants as domain
use Rattle.dp_domain.specs.declared.metrics.Metric.TheVariants as metrics
use Rattle.dp_domain.specs.declared.values.Value.{Value}
use Rattle.dp_domain.specs.declared.values.Value.TheVariants as value
use Rattle.dp_domain.specs.Distance.{text_eq, record_eq}
use Rattle.dp_domain.specs.Domains.{Fits, Has}
use Rattle.dp_domain.specs.Metrics.{Within}
use Rattle.dp_domain.proofs.Distance.{diff-map}
use Rattle.dp_domain.proofs.Equality.{text_eq-decides, record_eq-decides}
use Rattle.dp_law.specs.Mapping.{IsStable}
use Rattle.dp_law.proofs.Caps.{capped-same, capped-le}
use Rattle.dp_law.proofs.Suits.{both-hold}
use Rattle.dp_domain.specs.Users.{cell}
use Rattle.dp_rowwise.specs.Select.{select_value, select_mapping}

select_lands : (column columns : ℕ) (v : Value) → Has (domain.Rows columns) v → Has domain.Texts (select_value column v)
select_lands column columns (value.Rows rows) has = rw length-map has.0
select_lands column columns v has = absurd has

select_stable : (column columns d e : ℕ) (v w : Value) → d ≡ e → Has (domain.Rows columns) v → Has (domain.Rows columns) w
    → Within metrics.Symmetric d v w → Within metrics.Symmetric e (select_value column v) (select_value column w)
select_stable column columns d e (value.Rows xs) (value.Rows ys) same has_v has_w near =
    omega (arith, near, diff-map record_eq record_eq-decides text_eq text_eq-decides (cell column) xs ys)
select_stable column columns d e (value.Rows xs) w same has_v has_w near = absurd has_w
select_stable column columns d e v w same has_v has_w near = absurd has_v

pub select_law : (column columns : ℕ) → Fits (domain.Rows columns) → IsStable (select_mapping column columns)
select_law column columns fits = record {
  input_fits = fits;
  output_fits = tt;
  suits = both-hold tt tt;
  lands = select_lands column columns;
  limited = capped-le;
  stable = λ d e v w map_is. select_stable column columns d e v w (capped-same d e map_is);
}
