-- A line of stable transformations is stable, and how it grows.
use Rattle.std.proofs.Common.{◌≡◌, ℕ, List, [], ◌∷◌, ◌++◌, map, refl, subst}
use Rattle.std.proofs.Props.{props}
use Rattle.dp_domain.specs.declared.domains.Domain.{Domain}
use Rattle.dp_domain.specs.declared.metrics.Metric.{Metric}
use Rattle.dp_domain.specs.Domains.{Fits}
use Rattle.dp_domain.specs.Metrics.{Within}
use Rattle.dp_law.proofs.Caps.{capped-same, capped-le}
use Rattle.dp_law.proofs.ChainingLaw.{chained_law}
use Rattle.dp_law.specs.Mapping.{Mapping, IsStable}
use Rattle.dp_chain.specs.Lines.{line_value, line_map, end_domain, end_metric, composed, AreJoined}

nothing_law : (domain : Domain) (metric : Metric) → Fits domain → IsStable (composed domain metric [])
unfolding line_value line_map end_domain end_metric
nothing_law domain metric fits = record {
  input_fits = fits;
  output_fits = fits;
  suits = (λ h. h, λ h. h);
  lands = λ v has. has;
  limited = capped-le;
  stable = λ d e v w map_is has_v has_w near. subst (λ (n : ℕ). Within metric n v w) (capped-same d e map_is) near;
}

-- the first transformation and those after it are a chain
first_law : (first : Mapping) (rest : List Mapping) → IsStable first → IsStable (composed first.output_domain first.output_metric rest) →
    IsStable (composed first.input_domain first.input_metric (first ∷ rest))
unfolding line_value line_map end_domain end_metric
first_law first rest one others = chained_law first (composed first.output_domain first.output_metric rest) one others refl refl

-- the law of a line of parts, each of which is stable
pub line_law : {T : Type 0} (mapping : T → Mapping) → ((t : T) → IsStable (mapping t)) → (domain : Domain) (metric : Metric) (parts : List T) →
    Fits domain → AreJoined domain metric (map mapping parts) → IsStable (composed domain metric (map mapping parts))
unfolding AreJoined
line_law mapping law domain metric [] fits joined = nothing_law domain metric fits
line_law mapping law domain metric (first ∷ rest) fits joined =
    let m = mapping first in
    let whole = first_law m (map mapping rest) (law first) (line_law mapping law m.output_domain m.output_metric rest (law first).output_fits joined.2) in
    let domain_is : IsStable (composed domain m.input_metric (m ∷ map mapping rest)) =
    subst (λ (d : Domain). IsStable (composed d m.input_metric (m ∷ map mapping rest))) joined.0 whole in
    subst (λ (n : Metric). IsStable (composed domain n (m ∷ map mapping rest))) joined.1 domain_is

-- that a line is joined is a fact with one proof, so that a ghost field may keep it
pub AreJoined-prop : (domain : Domain) (metric : Metric) (line : List Mapping) → IsProp (AreJoined domain metric line)
unfolding AreJoined
AreJoined-prop domain metric [] = hlevel props
AreJoined-prop domain metric (first ∷ rest) = hlevel (props, AreJoined-prop first.output_domain first.output_metric rest)

-- a line without a transformation
pub nothing-joined : (domain : Domain) (metric : Metric) → AreJoined domain metric []
unfolding AreJoined
nothing-joined domain metric = tt

pub nothing-ends : (domain : Domain) → end_domain domain [] ≡ domain
unfolding end_domain
nothing-ends domain = refl

pub nothing-ends_by : (metric : Metric) → end_metric metric [] ≡ metric
unfolding end_metric
nothing-ends_by metric = refl

-- one more at the end of a line
pub joined-more : (domain : Domain) (metric : Metric) (line : List Mapping) (last : Mapping) → AreJoined domain metric line →
    last.input_domain ≡ end_domain domain line → last.input_metric ≡ end_metric metric line → AreJoined domain metric (line ++ last ∷ [])
unfolding AreJoined end_domain end_metric
joined-more domain metric [] last joined domains metrics = (domains, metrics, tt)
joined-more domain metric (first ∷ rest) last joined domains metrics =
    (joined.0, joined.1, joined-more first.output_domain first.output_metric rest last joined.2 domains metrics)

pub end_domain-more : (domain : Domain) (line : List Mapping) (last : Mapping) → end_domain domain (line ++ last ∷ []) ≡ last.output_domain
unfolding end_domain
end_domain-more domain [] last = refl
end_domain-more domain (first ∷ rest) last = end_domain-more first.output_domain rest last

pub end_metric-more : (metric : Metric) (line : List Mapping) (last : Mapping) → end_metric metric (line ++ last ∷ []) ≡ last.output_metric
unfolding end_metric
end_metric-more metric [] last = refl
end_metric-more metric (first ∷ rest) last = end_metric-more first.output_metric rest last
