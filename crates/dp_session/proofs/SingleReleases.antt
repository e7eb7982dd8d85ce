-- The groups of a store's records, as they are held.
use Rattle.std.proofs.Common.{◌≡◌, ◌∙◌, ℕ, List, map, refl, ap}
use Rattle.dp_domain.specs.Domains.{Has}
use Rattle.dp_domain.specs.declared.domains.Domain.TheVariants as domain
use Rattle.dp_domain.specs.declared.values.Value.{Value}
use Rattle.dp_domain.specs.declared.values.Value.TheVariants as value
use Rattle.dp_group.specs.Grouped.{groups_of}
use Rattle.dp_rowwise.specs.Filter.{filter_value}
use Rattle.dp_store.specs.declared.held.Held.TheVariants as held
use Rattle.dp_store.specs.Selections.{IsSelection, selected}
use Rattle.dp_store.specs.Stores.{StoreValue}
use Rattle.dp_store.proofs.ChosenRows.{selected-Has}
use Rattle.dp_session.specs.Serving.{Suits}

-- the groups of all records are those of the records
pub groups-whole : (rows : List (List (List ℕ))) (whole : List ℕ) (column : ℕ) (texts : List (List ℕ))
    → (chosen : List (List ℕ)) → selected rows whole ≡ rows
    → map (λ group. value.Rows (selected rows group)) chosen
    ≡ map (λ text. filter_value column text (value.Rows (selected rows whole))) texts
    → map (λ group. value.Rows (selected rows group)) chosen ≡ groups_of column texts (value.Rows rows)
groups-whole rows whole column texts chosen all made =
    made ∙ ap (λ (source : List (List (List ℕ))). map (λ text. filter_value column text (value.Rows source)) texts) all

-- each is held as a value of the records' domain
pub group-suits : (store : StoreValue) (chosen : List ℕ)
    → Has (domain.Rows store.columns) (value.Rows store.records) → IsSelection store.records chosen
    → Suits store (held.Chosen chosen) (domain.Rows store.columns)
group-suits store chosen has is = record {
  is_held = is;
  has = selected-Has store.columns store.records chosen has.1 is;
  of_columns = refl;
}
