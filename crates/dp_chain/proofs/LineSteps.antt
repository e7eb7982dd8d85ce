-- The steps of the loops over a line.
use Rattle.std.proofs.Common.{◌≡◌, ℕ, suc, ◌+◌, ◌<◌, ◌≤◌, List, [], ◌∷◌, ◌++◌, map, length, take, drop, ◌-◌, Option, Some, None, Ok, Err, refl, sym, subst, ◌∙◌, ap, add-one, drop-cons, append-nil, ◌^◌, arith}
use Rattle.std.specs.Prelude.{Result, option_and_then, slice_index_or}
use Rattle.std.proofs.lemmas.List.{drop_all, take_all, map-append}
use Rattle.std.proofs.lemmas.Bool.Decides.{nat_tests}
use Rattle.dp_count.specs.Results.{on_ok}
use Rattle.dp_domain.specs.declared.domains.Domain.{Domain}
use Rattle.dp_domain.specs.declared.metrics.Metric.{Metric}
use Rattle.dp_domain.specs.declared.values.Value.{Value}
use Rattle.dp_domain.specs.Domains.{Has}
use Rattle.dp_law.specs.declared.refusals.Refused.{Refused}
use Rattle.dp_law.specs.declared.refusals.Refused.TheVariants as refused
use Rattle.dp_law.specs.declared.refusals.MakeFault.{MakeFault}
use Rattle.dp_law.specs.declared.refusals.MakeFault.TheVariants as fault
use Rattle.dp_law.specs.Making.{MakesOr}
use Rattle.dp_law.specs.Mapping.{Mapping, IsStable}
use Rattle.dp_chain.specs.Lines.{stages_on, line_on, line_map, line_value, end_domain, end_metric, composed, AreJoined, Runs}
use Rattle.dp_chain.specs.LinesProof.{end_domain-more, end_metric-more}
use Rattle.dp_chain.specs.Stages.{stage_on}
use Rattle.dp_chain.specs.declared.stage.Stage.{Stage}
use Rattle.dp_chain.proofs.Making.{stages-made, stages-refused, stages-none, on_ok-append}

-- what is left of a list begins with its next item
pub left-cons : {T : Type 0} (xs : List T) (i : ℕ) (x : T) → i < length xs → x ≡ slice_index_or xs i x → drop i xs ≡ x ∷ drop (i + 1) xs
left-cons xs i x h is = rw add-one (drop-cons xs i x h ∙ ap (λ (y : _). y ∷ drop (suc i) xs) (sym is))

pub line_map-cons : (first : Mapping) (rest : List Mapping) (d : ℕ) → line_map (first ∷ rest) d ≡ option_and_then (line_map rest) (first.stability_map d)
unfolding line_map
line_map-cons first rest d = refl

pub line_map-nil : (d : ℕ) → d ≤ 2 ^ 32 → line_map [] d ≡ Some d
unfolding line_map
line_map-nil d few = grind (arith, nat_tests)

line_value-nil : (v : Value) → line_value [] v ≡ v
unfolding line_value
line_value-nil v = refl

line_value-cons : (first : Mapping) (rest : List Mapping) (v : Value) → line_value (first ∷ rest) v ≡ line_value rest (first.function v)
unfolding line_value
line_value-cons first rest v = refl

runs-cons : (first : Mapping) (rest : List Mapping) (v : Value) → Runs (first ∷ rest) v → Has first.input_domain v × Runs rest (first.function v)
unfolding Runs
runs-cons first rest v runs = runs

on_ok-nothing : (r : Result (List Mapping) Refused) → on_ok (λ rest. [] ++ rest) r ≡ r
on_ok-nothing (Ok rest) = refl
on_ok-nothing (Err refusal) = refl

first-cons : {T : Type 0} (xs : List T) (x : T) → 1 ≤ length xs → x ≡ slice_index_or xs 0 x → xs ≡ x ∷ take (length xs - 1) (drop 1 xs)
first-cons [] x h is = absurd (omega arith)
first-cons (y ∷ ys) x h is =
    let same : x ≡ y = is in
    let all : take (length (y ∷ ys) - 1) (drop 1 (y ∷ ys)) ≡ ys = take_all (length (y ∷ ys) - 1) ys (omega arith) in
    rw all (ap (λ z. z ∷ ys) (sym same))

none-is : {T : Type 0} (xs : List T) → length xs < 1 → xs ≡ []
none-is [] h = refl
none-is (x ∷ xs) h = absurd (omega arith)

-- what a loop has made or mapped so far, for parts that stand for transformations by f
module _ {T : Type 0} (f : T → Mapping) where
  map-next : (xs : List T) (i : ℕ) (x : T) (at : ℕ) → i < length xs → x ≡ slice_index_or xs i x →
      line_map (map f (drop i xs)) at ≡ option_and_then (line_map (map f (drop (i + 1) xs))) ((f x).stability_map at)
  map-next xs i x at h is = ap (λ (ys : List T). line_map (map f ys) at) (left-cons xs i x h is) ∙ line_map-cons (f x) (map f (drop (i + 1) xs)) at

  pub map-more : (xs : List T) (i : ℕ) (x : T) (d at next : ℕ) → i < length xs → x ≡ slice_index_or xs i x →
      line_map (map f xs) d ≡ line_map (map f (drop i xs)) at → Some next ≡ (f x).stability_map at →
      line_map (map f xs) d ≡ line_map (map f (drop (i + 1) xs)) next
  map-more xs i x d at next h is forward mapped =
      forward ∙ map-next xs i x at h is ∙ ap (λ (o : Option ℕ). option_and_then (line_map (map f (drop (i + 1) xs))) o) (sym mapped)

  pub map-past : (xs : List T) (i : ℕ) (x : T) (d at : ℕ) → i < length xs → x ≡ slice_index_or xs i x →
      line_map (map f xs) d ≡ line_map (map f (drop i xs)) at → None ≡ (f x).stability_map at → None ≡ line_map (map f xs) d
  map-past xs i x d at h is forward past =
      sym (forward ∙ map-next xs i x at h is ∙ ap (λ (o : Option ℕ). option_and_then (line_map (map f (drop (i + 1) xs))) o) (sym past))

  pub map-end : (xs : List T) (i d at : ℕ) → at ≤ 2 ^ 32 → length xs ≤ i → line_map (map f xs) d ≡ line_map (map f (drop i xs)) at → Some at ≡ line_map (map f xs) d
  map-end xs i d at few h forward =
      sym (forward ∙ ap (λ (ys : List T). line_map (map f ys) at) (drop_all i xs h) ∙ line_map-nil at few)

  value-next : (xs : List T) (i : ℕ) (x : T) (at : Value) → i < length xs → x ≡ slice_index_or xs i x →
      line_value (map f (drop i xs)) at ≡ line_value (map f (drop (i + 1) xs)) ((f x).function at)
  value-next xs i x at h is = ap (λ (ys : List T). line_value (map f ys) at) (left-cons xs i x h is) ∙ line_value-cons (f x) (map f (drop (i + 1) xs)) at

  pub value-more : (xs : List T) (i : ℕ) (x : T) (v at next : Value) → i < length xs → x ≡ slice_index_or xs i x →
      line_value (map f xs) v ≡ line_value (map f (drop i xs)) at → next ≡ (f x).function at →
      line_value (map f xs) v ≡ line_value (map f (drop (i + 1) xs)) next
  value-more xs i x v at next h is forward applied =
      forward ∙ value-next xs i x at h is ∙ ap (λ (w : Value). line_value (map f (drop (i + 1) xs)) w) (sym applied)

  pub value-end : (xs : List T) (i : ℕ) (v at : Value) → length xs ≤ i → line_value (map f xs) v ≡ line_value (map f (drop i xs)) at → at ≡ line_value (map f xs) v
  value-end xs i v at h forward = sym (forward ∙ ap (λ (ys : List T). line_value (map f ys) at) (drop_all i xs h) ∙ line_value-nil at)

  pub runs-next : (xs : List T) (i : ℕ) (x : T) (at : Value) → i < length xs → x ≡ slice_index_or xs i x → Runs (map f (drop i xs)) at →
      Has (f x).input_domain at × Runs (map f (drop (i + 1) xs)) ((f x).function at)
  runs-next xs i x at h is runs = runs-cons (f x) (map f (drop (i + 1) xs)) at (subst (λ (ys : List T). Runs (map f ys) at) (left-cons xs i x h is) runs)

  -- the first of a list and those after it
  pub first-runs : (xs : List T) (x : T) (v : Value) → 1 ≤ length xs → x ≡ slice_index_or xs 0 x → Runs (map f xs) v →
      Has (f x).input_domain v × Runs (map f (take (length xs - 1) (drop 1 xs))) ((f x).function v)
  first-runs xs x v h is runs =
      runs-cons (f x) (map f (take (length xs - 1) (drop 1 xs))) v (subst (λ (ys : List T). Runs (map f ys) v) (first-cons xs x h is) runs)

  pub first-value : (xs : List T) (x : T) (v next : Value) → 1 ≤ length xs → x ≡ slice_index_or xs 0 x → next ≡ (f x).function v →
      line_value (map f (take (length xs - 1) (drop 1 xs))) next ≡ line_value (map f xs) v
  first-value xs x v next h is applied =
      sym (ap (λ (ys : List T). line_value (map f ys) v) (first-cons xs x h is)
      ∙ line_value-cons (f x) (map f (take (length xs - 1) (drop 1 xs))) v
      ∙ ap (λ (w : Value). line_value (map f (take (length xs - 1) (drop 1 xs))) w) (sym applied))

  pub none-value : (xs : List T) (v : Value) → length xs < 1 → v ≡ line_value (map f xs) v
  none-value xs v h = sym (ap (λ (ys : List T). line_value (map f ys) v) (none-is xs h) ∙ line_value-nil v)

  -- a joined line of stable transformations runs on each value of its domain
  pub joined-runs : ((t : T) → IsStable (f t)) → (domain : Domain) (metric : Metric) (xs : List T) (v : Value) → AreJoined domain metric (map f xs) → Has domain v → Runs (map f xs) v
  unfolding AreJoined Runs
  joined-runs law domain metric [] v joined has = tt
  joined-runs law domain metric (x ∷ xs) v joined has =
      let has_first : Has (f x).input_domain v = subst (λ (d : Domain). Has d v) (sym joined.0) has in
      (has_first, joined-runs law (f x).output_domain (f x).output_metric xs ((f x).function v) joined.2 ((law x).lands v has_first))

  -- one more stage is made
  pub makes-more : (all : List Stage) (i : ℕ) (s : Stage) (domain at : Domain) (metric at_metric : Metric) (made : List T) (next : T) →
      i < length all → s ≡ slice_index_or all i s →
      stages_on all domain metric ≡ on_ok (λ rest. map f made ++ rest) (stages_on (drop i all) at at_metric) →
      stage_on s at at_metric ≡ Ok (f next) →
      stages_on all domain metric ≡ on_ok (λ rest. map f (made ++ next ∷ []) ++ rest) (stages_on (drop (i + 1) all) (f next).output_domain (f next).output_metric)
  makes-more all i s domain at metric at_metric made next h is forward stage_is =
      let left : List Stage = drop (i + 1) all in
      forward
      ∙ ap (λ (ss : List Stage). on_ok (λ rest. map f made ++ rest) (stages_on ss at at_metric)) (left-cons all i s h is)
      ∙ ap (λ (r : Result (List Mapping) Refused). on_ok (λ rest. map f made ++ rest) r) (stages-made s left at at_metric (f next) stage_is)
      ∙ on_ok-append (map f made) (f next) (stages_on left (f next).output_domain (f next).output_metric)
      ∙ ap (λ (ms : List Mapping). on_ok (λ rest. ms ++ rest) (stages_on left (f next).output_domain (f next).output_metric)) (sym (map-append f made (next ∷ [])))

  -- the same, where the longer list and its ends go by other names
  pub makes-more_as : (all : List Stage) (i : ℕ) (s : Stage) (domain at to : Domain) (metric at_metric to_metric : Metric) (made longer : List T) (next : T) →
      i < length all → s ≡ slice_index_or all i s →
      stages_on all domain metric ≡ on_ok (λ rest. map f made ++ rest) (stages_on (drop i all) at at_metric) →
      stage_on s at at_metric ≡ Ok (f next) → longer ≡ made ++ next ∷ [] → to ≡ (f next).output_domain → to_metric ≡ (f next).output_metric →
      stages_on all domain metric ≡ on_ok (λ rest. map f longer ++ rest) (stages_on (drop (i + 1) all) to to_metric)
  makes-more_as all i s domain at to metric at_metric to_metric made longer next h is forward stage_is grown domains metrics =
      makes-more all i s domain at metric at_metric made next h is forward stage_is
      ∙ sym (ap (λ (ts : List T). on_ok (λ rest. map f ts ++ rest) (stages_on (drop (i + 1) all) to to_metric)) grown
      ∙ ap (λ (d : Domain). on_ok (λ rest. map f (made ++ next ∷ []) ++ rest) (stages_on (drop (i + 1) all) d to_metric)) domains
      ∙ ap (λ (m : Metric). on_ok (λ rest. map f (made ++ next ∷ []) ++ rest) (stages_on (drop (i + 1) all) (f next).output_domain m)) metrics)

  -- a refused stage refuses the line
  refuses : (all : List Stage) (i : ℕ) (s : Stage) (domain at : Domain) (metric at_metric : Metric) (made : List T) (refusal : Refused) →
      i < length all → s ≡ slice_index_or all i s →
      stages_on all domain metric ≡ on_ok (λ rest. map f made ++ rest) (stages_on (drop i all) at at_metric) →
      stage_on s at at_metric ≡ Err refusal → line_on all domain metric ≡ Err refusal
  refuses all i s domain at metric at_metric made refusal h is forward stage_is =
      ap (λ (r : Result (List Mapping) Refused). on_ok (composed domain metric) r)
      (forward
      ∙ ap (λ (ss : List Stage). on_ok (λ rest. map f made ++ rest) (stages_on ss at at_metric)) (left-cons all i s h is)
      ∙ ap (λ (r : Result (List Mapping) Refused). on_ok (λ rest. map f made ++ rest) r) (stages-refused s (drop (i + 1) all) at at_metric refusal stage_is))

  pub makes-fault : {L : Type 0} (meaning : L → Mapping) (all : List Stage) (i : ℕ) (s : Stage) (domain at : Domain) (metric at_metric : Metric) (made : List T) (why : MakeFault) →
      i < length all → s ≡ slice_index_or all i s →
      stages_on all domain metric ≡ on_ok (λ rest. map f made ++ rest) (stages_on (drop i all) at at_metric) →
      MakesOr f (Err why) (stage_on s at at_metric) → MakesOr meaning (Err why) (line_on all domain metric)
  makes-fault meaning all i s domain at metric at_metric made fault.Kind h is forward stage_is = refuses all i s domain at metric at_metric made refused.Kind h is forward stage_is
  makes-fault meaning all i s domain at metric at_metric made fault.Metric h is forward stage_is = refuses all i s domain at metric at_metric made refused.Metric h is forward stage_is
  makes-fault meaning all i s domain at metric at_metric made fault.Bound h is forward stage_is = refuses all i s domain at metric at_metric made refused.Bound h is forward stage_is
  makes-fault meaning all i s domain at metric at_metric made fault.NoMemory h is forward stage_is = tt

  -- all stages are made
  pub makes-all : (all : List Stage) (i : ℕ) (domain at : Domain) (metric at_metric : Metric) (made : List T) → length all ≤ i →
      stages_on all domain metric ≡ on_ok (λ rest. map f made ++ rest) (stages_on (drop i all) at at_metric) →
      stages_on all domain metric ≡ Ok (map f made)
  makes-all all i domain at metric at_metric made h forward =
      forward
      ∙ ap (λ (ss : List Stage). on_ok (λ rest. map f made ++ rest) (stages_on ss at at_metric)) (drop_all i all h)
      ∙ ap (λ (r : Result (List Mapping) Refused). on_ok (λ rest. map f made ++ rest) r) (stages-none at at_metric)
      ∙ ap Ok (append-nil (map f made))

  pub makes-line : (all : List Stage) (i : ℕ) (domain at : Domain) (metric at_metric : Metric) (made : List T) → length all ≤ i →
      stages_on all domain metric ≡ on_ok (λ rest. map f made ++ rest) (stages_on (drop i all) at at_metric) →
      line_on all domain metric ≡ Ok (composed domain metric (map f made))
  makes-line all i domain at metric at_metric made h forward =
      ap (λ (r : Result (List Mapping) Refused). on_ok (composed domain metric) r) (makes-all all i domain at metric at_metric made h forward)

  -- before the first stage nothing is made
  pub makes-start : (all : List Stage) (domain : Domain) (metric : Metric) (made : List T) → made ≡ [] →
      stages_on all domain metric ≡ on_ok (λ rest. map f made ++ rest) (stages_on all domain metric)
  makes-start all domain metric made none =
      sym (ap (λ (ts : List T). on_ok (λ rest. map f ts ++ rest) (stages_on all domain metric)) none ∙ on_ok-nothing (stages_on all domain metric))

  -- one more at the end
  pub ends-more : (domain : Domain) (made : List T) (next : T) → end_domain domain (map f (made ++ next ∷ [])) ≡ (f next).output_domain
  ends-more domain made next = ap (λ (ms : List Mapping). end_domain domain ms) (map-append f made (next ∷ [])) ∙ end_domain-more domain (map f made) (f next)

  pub ends_by-more : (metric : Metric) (made : List T) (next : T) → end_metric metric (map f (made ++ next ∷ [])) ≡ (f next).output_metric
  ends_by-more metric made next = ap (λ (ms : List Mapping). end_metric metric ms) (map-append f made (next ∷ [])) ∙ end_metric-more metric (map f made) (f next)
