-- A line of stages that is made on a domain that fits is stable.
use Rattle.std.proofs.Common.{◌≡◌, List, [], ◌∷◌, map, Ok, Err, refl, sym, subst, ◌∙◌, ap}
use Rattle.std.specs.Prelude.{Result}
use Rattle.dp_count.specs.Results.{◌>>=◌, on_ok}
use Rattle.dp_domain.specs.declared.domains.Domain.{Domain}
use Rattle.dp_domain.specs.declared.metrics.Metric.{Metric}
use Rattle.dp_domain.specs.Domains.{Fits}
use Rattle.dp_law.specs.declared.refusals.Refused.{Refused}
use Rattle.dp_law.specs.Mapping.{Mapping, IsStable}
use Rattle.dp_chain.specs.Laws.{IsStableOn, LineLaw}
use Rattle.dp_chain.specs.Lines.{stages_on, composed, AreJoined}
use Rattle.dp_chain.specs.LinesProof.{line_law}
use Rattle.dp_chain.specs.Stages.{stage_on}
use Rattle.dp_chain.specs.declared.stage.Stage.{Stage}
use Rattle.dp_chain.proofs.Making.{first_and, stages-more, stages-none, stages-joined}
use Rattle.dp_chain.proofs.StageLaws.{stage-law}

-- a transformation with its law
abbrev pub StableMapping : Type 0
StableMapping = (m : Mapping) × IsStable m

-- the transformations of a list, each with its law
abbrev pub AreStable : List Mapping → Type 0
AreStable line = (parts : List StableMapping) × (map (λ (t : StableMapping). t.0) parts ≡ line)

stable-first : (first : Mapping) (r : Result (List Mapping) Refused) (line : List Mapping) → IsStable first →
    ((rest : List Mapping) → r ≡ Ok rest → AreStable rest) →
    (r >>= (λ rest. Ok (first ∷ rest))) ≡ Ok line → AreStable line
stable-first first (Ok rest) line one others is =
    let parts = others rest refl in
    let same : first ∷ rest ≡ line = cc in
    ((first, one) ∷ parts.0, ap (λ (l : List Mapping). first ∷ l) parts.1 ∙ same)
stable-first first (Err refusal) line one others is = absurd (cc)

stable-after : (made : Result Mapping Refused) (ss : List Stage) (line : List Mapping) →
    ((first : Mapping) → made ≡ Ok first → IsStable first) →
    ((first : Mapping) (rest : List Mapping) → IsStable first →
    stages_on ss first.output_domain first.output_metric ≡ Ok rest → AreStable rest) →
    first_and made ss ≡ Ok line → AreStable line
stable-after (Ok first) ss line one others is =
    let law = one first refl in
    stable-first first (stages_on ss first.output_domain first.output_metric) line law (λ rest. others first rest law) is
stable-after (Err refusal) ss line one others is = absurd (cc)

pub stages-stable : (ss : List Stage) (d : Domain) (m : Metric) (line : List Mapping) → Fits d → stages_on ss d m ≡ Ok line → AreStable line
stages-stable [] d m line fits is = ([], let same : [] ≡ line = cc (stages-none d m) in same)
stages-stable (s ∷ ss) d m line fits is =
    stable-after (stage_on s d m) ss line (λ first made. (stage-law s d m first fits made).stable)
    (λ first rest law. stages-stable ss first.output_domain first.output_metric rest law.output_fits)
    (sym (stages-more s ss d m) ∙ is)

composed-stable : (d : Domain) (m : Metric) (line : List Mapping) → Fits d → AreJoined d m line → AreStable line →
    IsStable (composed d m line)
composed-stable d m line fits joined stable =
    subst (λ (l : List Mapping). IsStable (composed d m l)) stable.1
    (line_law (λ (t : StableMapping). t.0) (λ t. t.1) d m stable.0 fits (subst (AreJoined d m) (sym stable.1) joined))

line-from : (d : Domain) (m : Metric) (r : Result (List Mapping) Refused) (made : Mapping) →
    ((line : List Mapping) → r ≡ Ok line → IsStable (composed d m line)) →
    on_ok (composed d m) r ≡ Ok made → IsStableOn d m made
line-from d m (Ok line) made law is =
    let same : composed d m line ≡ made = cc in
    subst (IsStableOn d m) same (record { stable = law line refl; input_domain = refl; input_metric = refl })
line-from d m (Err refusal) made law is = absurd (cc)

pub line-law : LineLaw
line-law ss d m made fits is =
    line-from d m (stages_on ss d m) made
    (λ line told. composed-stable d m line fits (stages-joined ss d m line told) (stages-stable ss d m line fits told)) is
