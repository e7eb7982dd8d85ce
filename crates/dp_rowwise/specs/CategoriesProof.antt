-- Categories are stable.
use Rattle.std.proofs.Common.{◌≡◌, ℕ, ◌+◌, ◌≤◌, ◌<◌, List, length, get_or, None, arith}
use Rattle.std.specs.Prelude.{nat_eq, not}
use Rattle.std.proofs.lemmas.List.{length-map}
use Rattle.std.proofs.lemmas.List.Sums.{prefix_len-le-length}
use Rattle.std.proofs.lemmas.List.Elements.{All-map}
use Rattle.dp_domain.specs.declared.domains.Domain.TheVariants as domain
use Rattle.dp_domain.specs.declared.metrics.Metric.TheVariants as metrics
use Rattle.dp_domain.specs.declared.values.Value.{Value}
use Rattle.dp_domain.specs.declared.values.Value.TheVariants as value
use Rattle.dp_domain.specs.Distance.{text_eq}
use Rattle.dp_domain.specs.Domains.{Fits, Has}
use Rattle.dp_domain.specs.Metrics.{Within}
use Rattle.dp_domain.proofs.Distance.{diff-map}
use Rattle.dp_domain.proofs.Equality.{nat_eq-decides, text_eq-decides}
use Rattle.dp_law.specs.Mapping.{IsStable}
use Rattle.dp_law.proofs.Caps.{capped-same, capped-le}
use Rattle.dp_law.proofs.Suits.{both-hold}
use Rattle.dp_rowwise.specs.Categories.{place_in, categories_value, categories_mapping}

place_in-le : (texts : List (List ℕ)) (text : List ℕ) → place_in texts text ≤ length texts
place_in-le texts text = prefix_len-le-length (λ other. not (text_eq text other)) texts

categories_lands : (texts : List (List ℕ)) (v : Value) → Has domain.Texts v → Has (domain.Cats (length texts + 1) None) (categories_value texts v)
categories_lands texts (value.Texts found) has =
    (rw length-map has, All-map (λ category. category < length texts + 1) (place_in texts) found (λ k d within. omega (arith, place_in-le texts (get_or found k d))))
categories_lands texts v has = absurd has

categories_stable : (texts : List (List ℕ)) (d e : ℕ) (v w : Value) → d ≡ e → Has domain.Texts v → Has domain.Texts w
    → Within metrics.Symmetric d v w → Within metrics.Symmetric e (categories_value texts v) (categories_value texts w)
categories_stable texts d e (value.Texts xs) (value.Texts ys) same has_v has_w near =
    omega (arith, near, diff-map text_eq text_eq-decides nat_eq nat_eq-decides (place_in texts) xs ys)
categories_stable texts d e (value.Texts xs) w same has_v has_w near = absurd has_w
categories_stable texts d e v w same has_v has_w near = absurd has_v

pub categories_law : (texts : List (List ℕ)) → Fits (domain.Cats (length texts + 1) None) → IsStable (categories_mapping texts)
categories_law texts fits = record {
  input_fits = tt;
  output_fits = fits;
  suits = both-hold tt tt;
  lands = categories_lands texts;
  limited = capped-le;
  stable = λ d e v w map_is. categories_stable texts d e v w (capped-same d e map_is);
}
