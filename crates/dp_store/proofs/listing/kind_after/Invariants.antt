use Rattle.std.proofs.Common.{◌≡◌, [], drop}
use Rattle.dp_domain.specs.declared.values.Value.TheVariants as value
use Rattle.dp_store.specs.Listings.{no_elements}
use Rattle.dp_store.proofs.Passes.{given_of}
use Rattle.dp_store.proofs.listing.kind_after.Given as goal

abbrev pub invariant-loop-stage : goal.invariant-loop-stage
invariant-loop-stage l = given_of l.stages (value.Rows []) ≡ given_of (drop l.stage-index l.stages) (no_elements l.kind)
