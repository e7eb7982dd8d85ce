-- Lists of elements that a pass over records makes.
use Rattle.std.specs.Prelude.{ℕ, ◌<◌, List, [], length, All}
use Rattle.dp_domain.specs.declared.values.Value.{Value}
use Rattle.dp_domain.specs.declared.values.Value.TheVariants as value
use Rattle.dp_store.specs.declared.listing.Kind.{Kind}
use Rattle.dp_store.specs.declared.listing.Kind.TheVariants as kind
use Rattle.dp_store.specs.declared.listing.Listing.{Listing}
use Rattle.dp_store.specs.declared.listing.Listing.TheVariants as listing
use Rattle.dp_store.specs.Selections.{selected}

-- the list of a kind without elements
abbrev pub no_elements : Kind → Value
no_elements kind.Records = value.Rows []
no_elements kind.Texts = value.Texts []
no_elements kind.OptInts = value.OptInts []
no_elements kind.Ints = value.Ints []
no_elements kind.Cats = value.Cats []

-- the list that is made, by the store's records
abbrev pub listing_value : List (List (List ℕ)) → Listing → Value
listing_value rows (listing.Records numbers) = value.Rows (selected rows numbers.items)
listing_value rows (listing.Texts texts) = value.Texts texts.items
listing_value rows (listing.OptInts xs) = value.OptInts xs.items
listing_value rows (listing.Ints xs) = value.Ints xs.items
listing_value rows (listing.Cats xs) = value.Cats xs.items

-- records are of the store
abbrev pub IsStoredListing : List (List (List ℕ)) → Listing → Type 0
IsStoredListing rows (listing.Records numbers) = All (λ number. number < length rows) numbers.items
IsStoredListing rows _ = Unit {0}
