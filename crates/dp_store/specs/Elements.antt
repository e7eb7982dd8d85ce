-- Elements of lists, as a pass over records has them.
use Rattle.std.specs.Prelude.{◌≡◌, ℕ, ◌<◌, List, [], ◌∷◌, length, Option, Some, None}
use Rattle.dp_domain.specs.declared.values.Value.{Value}
use Rattle.dp_domain.specs.declared.values.Value.TheVariants as value
use Rattle.dp_rowwise.specs.Truncate.{record_at}
use Rattle.dp_store.specs.declared.element.Element.{Element}
use Rattle.dp_store.specs.declared.element.Element.TheVariants as element
use Rattle.dp_store.specs.Rowwise.{list_len}

-- the list of one element alone, by the store's records
abbrev pub element_value : List (List (List ℕ)) → Element → Value
element_value rows (element.Record number) = value.Rows (record_at rows number ∷ [])
element_value rows (element.Text text) = value.Texts (text.now ∷ [])
element_value rows (element.OptInt x) = value.OptInts (x ∷ [])
element_value rows (element.Int x) = value.Ints (x ∷ [])
element_value rows (element.Cat x) = value.Cats (x ∷ [])

-- a list has the element alone, or none where there is none
abbrev pub HasElement : List (List (List ℕ)) → Option Element → Value → Type 0
HasElement rows None v = list_len v ≡ 0
HasElement rows (Some one) v = v ≡ element_value rows one

-- a record is one of the store
abbrev pub IsStoredElement : List (List (List ℕ)) → Element → Type 0
IsStoredElement rows (element.Record number) = number < length rows
IsStoredElement rows _ = Unit {0}
