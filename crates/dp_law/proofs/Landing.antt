-- The function of a stable transformation lands in the output domain.
use Rattle.std.proofs.Common.{◌≡◌, sym, subst}
use Rattle.dp_domain.specs.declared.values.Value.{Value}
use Rattle.dp_domain.specs.Domains.{Has}
use Rattle.dp_law.specs.Mapping.{Mapping, IsStable}

-- what is the function's value lies in the output domain
pub lands_at : (m : Mapping) → IsStable m → (v w : Value) → w ≡ m.function v → Has m.input_domain v → Has m.output_domain w
lands_at m law v w same has = subst (λ (x : Value). Has m.output_domain x) (sym same) (law.lands v has)
