-- JSON values, in the reading of the crate `serde_json`, and the small forms of which the others are made.
use Rattle.std.specs.Prelude.{ℕ, ℤ, pos, neg_ℤ, ◌^◌, ◌&&◌, List, [], ◌∷◌, Option, Some, None, if◌then◌else◌, option_map, option_and_then, int_le}
use Rattle.std.specs.Str.{is_utf8}
use Rattle.dp_num.specs.Limits.{capped}
use Rattle.serde_json.specs.Data.{Data, Items, no_items, item, Members, no_members, member}
use Rattle.serde_json.specs.Find.{as_number, as_i64, as_u64, as_array, as_object, as_str, get}
use Rattle.serde_json.specs.Read.{read}

-- the next step, where there is a value
infixl 10 ◌>>=◌
abbrev pub ◌>>=◌ : {A B : Type 0} → Option A → (A → Option B) → Option B
found >>= next = option_and_then next found

-- the value of a JSON text in UTF-8, nested at most 127 deep
unfoldable pub json_of : List ℕ → Option Data
json_of bytes = if is_utf8 bytes then read bytes else None

-- the items of an array in order
abbrev pub items_of : Items → List Data
items_of no_items = []
items_of (item first rest) = first ∷ items_of rest

unfoldable pub array_of : Data → Option (List Data)
array_of d = option_map items_of (as_array d)

-- the members of an object, each a name and a value, in the order of the names' bytes; of two with one name in the text
-- there is the last
abbrev pub members_of : Members → List (List ℕ × Data)
members_of no_members = []
members_of (member name d rest) = (name, d) ∷ members_of rest

unfoldable pub object_of : Data → Option (List (List ℕ × Data))
object_of d = option_map members_of (as_object d)

-- the value of the member of that name
unfoldable pub member_at : List ℕ → Data → Option Data
member_at name d = get name d

-- a text
unfoldable pub text_of : Data → Option (List ℕ)
text_of d = as_str d

-- a whole number from 0 to 2 ^ 32
unfoldable pub count_of : Data → Option ℕ
count_of d = do
  number ← as_number d
  whole ← as_u64 number
  capped whole

-- a whole number from -2 ^ 62 to 2 ^ 62
abbrev pub signed_within : ℤ → Option ℤ
signed_within z = if int_le (neg_ℤ (pos (2 ^ 62))) z && int_le z (pos (2 ^ 62)) then Some z else None

unfoldable pub signed_of : Data → Option ℤ
signed_of d = do
  number ← as_number d
  whole ← as_i64 number
  signed_within whole

-- each item by that form, where all are of it
unfoldable pub all_of : {A : Type 0} → (Data → Option A) → List Data → Option (List A)
all_of form [] = Some []
all_of form (d ∷ rest) = do
  first ← form d
  others ← all_of form rest
  Some (first ∷ others)

-- an array of any number of items of one form
abbrev pub list_of : {A : Type 0} → (Data → Option A) → Data → Option (List A)
list_of form d = array_of d >>= all_of form
