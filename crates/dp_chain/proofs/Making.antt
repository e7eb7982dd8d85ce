-- Stages that are made, one after the other.
use Rattle.std.proofs.Common.{◌≡◌, List, [], ◌∷◌, ◌++◌, Ok, Err, refl, sym, subst, ◌∙◌, ap, append_assoc}
use Rattle.std.specs.Prelude.{Result}
use Rattle.dp_count.specs.Results.{◌>>=◌, on_ok}
use Rattle.dp_domain.specs.declared.domains.Domain.{Domain}
use Rattle.dp_domain.specs.declared.metrics.Metric.{Metric}
use Rattle.dp_law.specs.declared.refusals.Refused.{Refused}
use Rattle.dp_law.specs.Mapping.{Mapping}
use Rattle.dp_chain.specs.Lines.{stages_on, AreJoined}
use Rattle.dp_chain.specs.Stages.{stage_on}
use Rattle.dp_chain.specs.declared.stage.Stage.{Stage}
use Rattle.dp_chain.proofs.StageInputs.{Takes, stage-takes}

-- the first stage and those after it
abbrev pub first_and : Result Mapping Refused → List Stage → Result (List Mapping) Refused
first_and made stages = made >>= (λ first. stages_on stages first.output_domain first.output_metric >>= (λ rest. Ok (first ∷ rest)))

pub stages-more : (s : Stage) (ss : List Stage) (d : Domain) (m : Metric) → stages_on (s ∷ ss) d m ≡ first_and (stage_on s d m) ss
unfolding stages_on
stages-more s ss d m = refl

-- one more stage is made
pub stages-made : (s : Stage) (ss : List Stage) (d : Domain) (m : Metric) (first : Mapping) → stage_on s d m ≡ Ok first →
    stages_on (s ∷ ss) d m ≡ on_ok (λ rest. first ∷ rest) (stages_on ss first.output_domain first.output_metric)
stages-made s ss d m first made = stages-more s ss d m ∙ ap (λ r. first_and r ss) made ∙ as-on_ok (stages_on ss first.output_domain first.output_metric) first
  where
    as-on_ok : (r : Result (List Mapping) Refused) (first : Mapping) → (r >>= (λ rest. Ok (first ∷ rest))) ≡ on_ok (λ rest. first ∷ rest) r
    as-on_ok (Ok rest) first = refl
    as-on_ok (Err refusal) first = refl

-- a refused stage refuses all
pub stages-refused : (s : Stage) (ss : List Stage) (d : Domain) (m : Metric) (refusal : Refused) → stage_on s d m ≡ Err refusal → stages_on (s ∷ ss) d m ≡ Err refusal
stages-refused s ss d m refusal made = stages-more s ss d m ∙ ap (λ r. first_and r ss) made

pub stages-none : (d : Domain) (m : Metric) → stages_on [] d m ≡ Ok []
unfolding stages_on
stages-none d m = refl

-- a further list put behind
pub on_ok-append : (front : List Mapping) (first : Mapping) (r : Result (List Mapping) Refused) →
    on_ok (λ rest. front ++ rest) (on_ok (λ rest. first ∷ rest) r) ≡ on_ok (λ rest. (front ++ first ∷ []) ++ rest) r
on_ok-append front first (Ok rest) = ap Ok (sym (append_assoc front (first ∷ []) rest))
on_ok-append front first (Err refusal) = refl

-- made stages are joined
joined-more : (first : Mapping) (r : Result (List Mapping) Refused) (d : Domain) (m : Metric) (line : List Mapping) → (first.input_domain ≡ d) × (first.input_metric ≡ m) →
    ((rest : List Mapping) → r ≡ Ok rest → AreJoined first.output_domain first.output_metric rest) → (r >>= (λ rest. Ok (first ∷ rest))) ≡ Ok line → AreJoined d m line
unfolding AreJoined
joined-more first (Ok rest) d m line takes told made =
    subst (λ (l : List Mapping). AreJoined d m l) (let same : first ∷ rest ≡ line = cc in same) (takes.0, takes.1, told rest refl)
joined-more first (Err refusal) d m line takes told made = absurd (cc)

joined-first : (ss : List Stage) (d : Domain) (m : Metric) (line : List Mapping) (made : Result Mapping Refused) → Takes made d m →
    ((first : Mapping) (rest : List Mapping) → stages_on ss first.output_domain first.output_metric ≡ Ok rest → AreJoined first.output_domain first.output_metric rest) →
    first_and made ss ≡ Ok line → AreJoined d m line
joined-first ss d m line (Ok first) takes told made =
    joined-more first (stages_on ss first.output_domain first.output_metric) d m line takes (told first) made
joined-first ss d m line (Err refusal) takes told made = absurd (cc)

none-joined : (d : Domain) (m : Metric) (line : List Mapping) (made : Result (List Mapping) Refused) → made ≡ Ok [] → made ≡ Ok line → AreJoined d m line
unfolding AreJoined
none-joined d m [] made is also = tt
none-joined d m (first ∷ rest) made is also = absurd (cc)

pub stages-joined : (ss : List Stage) (d : Domain) (m : Metric) (line : List Mapping) → stages_on ss d m ≡ Ok line → AreJoined d m line
stages-joined [] d m line made = none-joined d m line (stages_on [] d m) (stages-none d m) made
stages-joined (s ∷ ss) d m line made =
    joined-first ss d m line (stage_on s d m) (stage-takes s d m) (λ first. stages-joined ss first.output_domain first.output_metric) (sym (stages-more s ss d m) ∙ made)
