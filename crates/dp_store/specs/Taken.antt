-- Transformations that take the records of a store.
use Rattle.std.specs.Prelude.{◌≡◌, ℕ, List, All}
use Rattle.dp_domain.specs.declared.domains.Domain.{Domain}
use Rattle.dp_domain.specs.declared.domains.Domain.TheVariants as domain
use Rattle.dp_chain.specs.declared.any_transformation.AnyTransformation.{AnyTransformation}
use Rattle.dp_chain.specs.contracts.any_transformation.AnyTransformationTransformation.TheImpl.{ghosts as stage_ghosts}

-- where the domain is one of records, they have so many cells
abbrev pub IsOfColumns : ℕ → Domain → Type 0
IsOfColumns columns (domain.Rows n) = n ≡ columns
IsOfColumns columns _ = Unit {0}

-- where the transformation takes records, they have so many cells
abbrev pub TakesColumns : ℕ → AnyTransformation → Type 0
TakesColumns columns stage = IsOfColumns columns (stage_ghosts.mapping stage).input_domain

-- so of each of the transformations
abbrev pub AllTakeColumns : ℕ → List AnyTransformation → Type 0
AllTakeColumns columns stages = All (TakesColumns columns) stages
