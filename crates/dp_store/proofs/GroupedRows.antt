-- The records of the groups of a selection, by the texts in a column.
use Rattle.std.proofs.Common.{◌≡◌, ℕ, List, [], ◌∷◌, map, get_or, refl, ap}
use Rattle.std.specs.Prelude.{All, filter}
use Rattle.std.proofs.lemmas.List.Elements.{All-map}
use Rattle.dp_domain.specs.Distance.{text_eq}
use Rattle.dp_domain.specs.Users.{cell}
use Rattle.dp_domain.specs.declared.values.Value.{Value}
use Rattle.dp_domain.specs.declared.values.Value.TheVariants as value
use Rattle.dp_rowwise.specs.Filter.{filter_value}
use Rattle.dp_rowwise.specs.Truncate.{record_at}
use Rattle.dp_store.specs.Selections.{IsSelection, selected, has_text}
use Rattle.dp_store.proofs.ChosenRows.{filter-map, filter-IsSelection}

module _ (rows : List (List (List ℕ))) (base : List ℕ) (column : ℕ) where
  -- the numbers of the records of a text
  abbrev pub numbers_with : List ℕ → List ℕ
  numbers_with text = filter (has_text rows column text) base

  group-records : (text : List ℕ)
      → value.Rows (selected rows (numbers_with text)) ≡ filter_value column text (value.Rows (selected rows base))
  group-records text = ap value.Rows (filter-map (λ cells. text_eq (cell column cells) text) (record_at rows) base)

  -- they are those that filtering by the text leaves
  pub groups-records : (texts : List (List ℕ))
      → map (λ group. value.Rows (selected rows group)) (map numbers_with texts)
      ≡ map (λ text. filter_value column text (value.Rows (selected rows base))) texts
  groups-records [] = refl
  groups-records (text ∷ texts) = rw (group-records text, groups-records texts) refl

  pub groups-selections : (texts : List (List ℕ)) → IsSelection rows base
      → All (IsSelection rows) (map numbers_with texts)
  groups-selections texts h =
      All-map (IsSelection rows) numbers_with texts
      (λ k d below. filter-IsSelection rows (has_text rows column (get_or texts k d)) base h)
