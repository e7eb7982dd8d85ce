-- The groups of a value of the inner measurement's input are values of it too.
use Rattle.std.proofs.Common.{◌≡◌, ℕ, List, [], ◌∷◌, map, refl, sym, subst, ap, ◌∙◌}
use Rattle.std.specs.List.{All}
use Rattle.dp_domain.specs.declared.domains.Domain.{Domain}
use Rattle.dp_domain.specs.declared.values.Value.{Value}
use Rattle.dp_domain.specs.declared.values.Value.TheVariants as value
use Rattle.dp_domain.specs.Domains.{Fits, Has}
use Rattle.dp_rowwise.specs.Columns.{HasColumn}
use Rattle.dp_group.specs.Grouped.{groups_of}
use Rattle.dp_group.specs.GroupedLaw.{Records}
use Rattle.dp_group.specs.GroupedProof.{groups-have}

pub map-twice : {X Y Z : Type 0} (f : X → Y) (g : Y → Z) (xs : List X) → map g (map f xs) ≡ map (λ x. g (f x)) xs
map-twice f g [] = refl
map-twice {X} {Y} {Z} f g (x ∷ xs) = ap (λ (rest : List Z). g (f x) ∷ rest) (map-twice f g xs)

-- the groups as code has them
pub inputs-have : (d : Domain) (column : ℕ) (texts : List (List ℕ)) (v : Value) (rows slice : Records)
    (values groups : List Value) → HasColumn d column → Fits d → Has d v → v ≡ value.Rows rows → slice ≡ rows
    → groups ≡ values → values ≡ groups_of column texts (value.Rows slice) → All (Has d) groups
inputs-have d column texts v rows slice values groups within fits has is same stands made =
    let source : value.Rows slice ≡ v = ap value.Rows same ∙ sym is in
    let whole : groups ≡ groups_of column texts v = stands ∙ made ∙ ap (groups_of column texts) source in
    subst (λ (all : List Value). All (Has d) all) (sym whole) (groups-have d column texts v within fits has)
