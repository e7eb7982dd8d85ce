-- Texts as categories.
use Rattle.std.specs.Prelude.{ℕ, ◌+◌, ◌&&◌, Bool, true, List, [], ◌∷◌, None, Result, Err, map, length, not}
use Rattle.std.specs.List.{list_any, position_or_len}
use Rattle.dp_domain.specs.Distance.{text_eq}
use Rattle.dp_num.specs.Limits.{capped}
use Rattle.dp_domain.specs.Domains.{few_and_one}
use Rattle.dp_domain.specs.declared.domains.Domain.{Domain}
use Rattle.dp_domain.specs.declared.domains.Domain.TheVariants as domain
use Rattle.dp_domain.specs.declared.metrics.Metric.{Metric}
use Rattle.dp_domain.specs.declared.metrics.Metric.TheVariants as metrics
use Rattle.dp_domain.specs.declared.values.Value.{Value}
use Rattle.dp_domain.specs.declared.values.Value.TheVariants as value
use Rattle.dp_law.specs.declared.refusals.Refused.{Refused}
use Rattle.dp_law.specs.declared.refusals.Refused.TheVariants as refused
use Rattle.dp_law.specs.Mapping.{Mapping}
use Rattle.dp_law.specs.Making.{tested, is_symmetric}

-- the place of a text in a list from 0, and the length where it is not there
abbrev pub place_in : List (List ℕ) → List ℕ → ℕ
place_in texts text = position_or_len (text_eq text) texts

-- the place of each text
abbrev pub categories_value : List (List ℕ) → Value → Value
categories_value texts (value.Texts found) = value.Cats (map (place_in texts) found)
categories_value texts v = v

-- no text is equal to one after it
unfoldable pub are_different : List (List ℕ) → Bool
are_different [] = true
are_different (text ∷ texts) = not (list_any (text_eq text) texts) && are_different texts

-- from texts to categories, one of each text of the list and one of all others
abbrev pub categories_mapping : List (List ℕ) → Mapping
categories_mapping texts = record {
  input_domain = domain.Texts;
  input_metric = metrics.Symmetric;
  output_domain = domain.Cats (length texts + 1) None;
  output_metric = metrics.Symmetric;
  function = categories_value texts;
  stability_map = capped;
}

-- what categories are on a domain and a metric
abbrev pub categories_from : List (List ℕ) → Domain → Metric → Result Mapping Refused
categories_from texts domain.Texts metric =
    tested (is_symmetric metric) (few_and_one (length texts) && are_different texts) (categories_mapping texts)
categories_from texts _ metric = Err refused.Kind
