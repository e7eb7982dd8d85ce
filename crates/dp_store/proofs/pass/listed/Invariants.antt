use Rattle.std.proofs.Common.{◌≡◌, take}
use Rattle.dp_domain.specs.declared.values.Value.TheVariants as value
use Rattle.dp_store.specs.Listings.{listing_value, IsStoredListing}
use Rattle.dp_store.specs.Selections.{selected}
use Rattle.dp_store.proofs.Passes.{given_of}
use Rattle.dp_store.proofs.pass.listed.Given as goal

abbrev pub invariant-loop-k : goal.invariant-loop-k
invariant-loop-k l = record {
  value : listing_value l.store.records l.listing ≡ given_of l.stages (value.Rows (selected l.store.records (take l.k l.base)));
  stored : IsStoredListing l.store.records l.listing;
}
