-- Parts of a release that are made, one after the other.
use Rattle.std.proofs.Common.{◌≡◌, ℕ, ◌+◌, ◌<◌, ◌≤◌, List, [], ◌∷◌, ◌++◌, map, length, drop, Option, Some, Ok, Err, refl, sym, subst, ◌∙◌, ap, append_assoc, append-nil, arith}
use Rattle.std.specs.Prelude.{Result, slice_index_or, option_and_then}
use Rattle.std.proofs.lemmas.List.{drop_all, map-append}
use Rattle.dp_count.specs.Results.{◌>>=◌, on_ok}
use Rattle.dp_num.specs.Limits.{Fraction}
use Rattle.dp_domain.specs.declared.domains.Domain.{Domain}
use Rattle.dp_domain.specs.declared.metrics.Metric.{Metric}
use Rattle.dp_domain.specs.Domains.{Fits}
use Rattle.dp_domain.specs.Metrics.{SuitsMetric}
use Rattle.dp_law.specs.declared.refusals.Refused.{Refused}
use Rattle.dp_law.specs.declared.refusals.Refused.TheVariants as refused
use Rattle.dp_law.specs.declared.refusals.MakeFault.{MakeFault}
use Rattle.dp_law.specs.declared.refusals.MakeFault.TheVariants as fault
use Rattle.dp_law.specs.Making.{MakesOr}
use Rattle.dp_law.specs.Mapping.{Mapping}
use Rattle.dp_law.specs.Mechanism.{Mechanism, IsPrivate}
use Rattle.dp_law.specs.Joining.{measured, added}
use Rattle.dp_chain.specs.Lines.{line_on, composed, line_map, stages_on}
use Rattle.dp_chain.specs.Releases.{part_on, parts_on, release_on, joined, total_loss, IsLike, AreAlike}
use Rattle.dp_chain.specs.Stages.{noise_on}
use Rattle.dp_chain.specs.declared.noise.Noise.{Noise}
use Rattle.dp_chain.specs.declared.noise.Part.{Part}
use Rattle.dp_chain.specs.declared.stage.Stage.{Stage}
use Rattle.dp_chain.proofs.LineSteps.{left-cons}
use Rattle.dp_chain.proofs.ReleaseSteps.{loss-nil, loss-cons}
use Rattle.dp_chain.proofs.NoiseInputs.{Likes, noise-likes}
use Rattle.dp_chain.proofs.ZeroLoss.{LossZero, noise-zero, stages-zero}

-- the line and the noise of a part
abbrev pub noise_after : Fraction → Noise → Result Mapping Refused → Result Mechanism Refused
noise_after ratio noise made = made >>= (λ line. noise_on ratio noise line.output_domain line.output_metric >>= (λ last. Ok (measured line last)))

pub part-more : (ratio : Fraction) (part : Part) (d : Domain) (m : Metric) → part_on ratio part d m ≡ noise_after ratio part.noise (line_on part.stages d m)
unfolding part_on
part-more ratio part d m = refl

pub part-made : (ratio : Fraction) (part : Part) (d : Domain) (m : Metric) (line : Mapping) (last : Mechanism) →
    line_on part.stages d m ≡ Ok line → noise_on ratio part.noise line.output_domain line.output_metric ≡ Ok last → part_on ratio part d m ≡ Ok (measured line last)
part-made ratio part d m line last line_is noise_is =
    part-more ratio part d m ∙ ap (λ r. noise_after ratio part.noise r) line_is ∙ ap (λ (r : Result Mechanism Refused). r >>= (λ last. Ok (measured line last))) noise_is

part-refused : (ratio : Fraction) (part : Part) (d : Domain) (m : Metric) (refusal : Refused) → line_on part.stages d m ≡ Err refusal → part_on ratio part d m ≡ Err refusal
part-refused ratio part d m refusal line_is = part-more ratio part d m ∙ ap (λ r. noise_after ratio part.noise r) line_is

noise-refused : (ratio : Fraction) (part : Part) (d : Domain) (m : Metric) (line : Mapping) (refusal : Refused) →
    line_on part.stages d m ≡ Ok line → noise_on ratio part.noise line.output_domain line.output_metric ≡ Err refusal → part_on ratio part d m ≡ Err refusal
noise-refused ratio part d m line refusal line_is noise_is =
    part-more ratio part d m ∙ ap (λ r. noise_after ratio part.noise r) line_is ∙ ap (λ (r : Result Mechanism Refused). r >>= (λ last. Ok (measured line last))) noise_is

-- a fault of the line, and one of the noise, is the part's
pub line-fault : {L M : Type 0} (line : L → Mapping) (meaning : M → Mechanism) (ratio : Fraction) (part : Part) (d : Domain) (m : Metric) (why : MakeFault) →
    MakesOr line (Err why) (line_on part.stages d m) → MakesOr meaning (Err why) (part_on ratio part d m)
line-fault line meaning ratio part d m fault.Kind is = part-refused ratio part d m refused.Kind is
line-fault line meaning ratio part d m fault.Metric is = part-refused ratio part d m refused.Metric is
line-fault line meaning ratio part d m fault.Bound is = part-refused ratio part d m refused.Bound is
line-fault line meaning ratio part d m fault.NoMemory is = tt

pub noise-fault : {N M : Type 0} (last : N → Mechanism) (meaning : M → Mechanism) (ratio : Fraction) (part : Part) (d : Domain) (m : Metric) (line : Mapping) (why : MakeFault) →
    line_on part.stages d m ≡ Ok line → MakesOr last (Err why) (noise_on ratio part.noise line.output_domain line.output_metric) → MakesOr meaning (Err why) (part_on ratio part d m)
noise-fault last meaning ratio part d m line fault.Kind line_is is = noise-refused ratio part d m line refused.Kind line_is is
noise-fault last meaning ratio part d m line fault.Metric line_is is = noise-refused ratio part d m line refused.Metric line_is is
noise-fault last meaning ratio part d m line fault.Bound line_is is = noise-refused ratio part d m line refused.Bound line_is is
noise-fault last meaning ratio part d m line fault.NoMemory line_is is = tt

-- the noise that is made takes what the line gives
pub noise-takes : (ratio : Fraction) (n : Noise) (d : Domain) (m : Metric) (last : Mechanism) → Fits d → noise_on ratio n d m ≡ Ok last → IsLike ratio d m last
noise-takes ratio n d m last fits is = subst (λ (r : Result Mechanism Refused). Likes r ratio d m) is (noise-likes ratio n d m fits)

-- the same noise, where the domain and the metric go by other names
pub noise-at : (ratio : Fraction) (n : Noise) (d to : Domain) (m to_metric : Metric) (made : Result Mechanism Refused) → d ≡ to → m ≡ to_metric → noise_on ratio n d m ≡ made → noise_on ratio n to to_metric ≡ made
noise-at ratio n d to m to_metric made domains metrics is =
    sym (ap (λ (x : Domain). noise_on ratio n x m) domains ∙ ap (λ (x : Metric). noise_on ratio n to x) metrics) ∙ is

-- one more part
abbrev pub first_and : Fraction → Result Mechanism Refused → List Part → Domain → Metric → Result (List Mechanism) Refused
first_and ratio made parts d m = made >>= (λ first. parts_on ratio parts d m >>= (λ rest. Ok (first ∷ rest)))

pub parts-more : (ratio : Fraction) (part : Part) (parts : List Part) (d : Domain) (m : Metric) → parts_on ratio (part ∷ parts) d m ≡ first_and ratio (part_on ratio part d m) parts d m
unfolding parts_on
parts-more ratio part parts d m = refl

pub parts-none : (ratio : Fraction) (d : Domain) (m : Metric) → parts_on ratio [] d m ≡ Ok []
unfolding parts_on
parts-none ratio d m = refl

as-on_ok : (r : Result (List Mechanism) Refused) (first : Mechanism) → (r >>= (λ rest. Ok (first ∷ rest))) ≡ on_ok (λ rest. first ∷ rest) r
as-on_ok (Ok rest) first = refl
as-on_ok (Err refusal) first = refl

on_ok-append : (front : List Mechanism) (first : Mechanism) (r : Result (List Mechanism) Refused) →
    on_ok (λ rest. front ++ rest) (on_ok (λ rest. first ∷ rest) r) ≡ on_ok (λ rest. (front ++ first ∷ []) ++ rest) r
on_ok-append front first (Ok rest) = ap Ok (sym (append_assoc front (first ∷ []) rest))
on_ok-append front first (Err refusal) = refl

on_ok-nothing : (r : Result (List Mechanism) Refused) → on_ok (λ rest. [] ++ rest) r ≡ r
on_ok-nothing (Ok rest) = refl
on_ok-nothing (Err refusal) = refl

-- the line that is made takes the domain and the metric
line-input_by : (d : Domain) (m : Metric) (r : Result (List Mapping) Refused) (made : Mapping) → on_ok (composed d m) r ≡ Ok made → (made.input_domain ≡ d) × (made.input_metric ≡ m)
line-input_by d m (Ok ms) made is =
    subst (λ (l : Mapping). (l.input_domain ≡ d) × (l.input_metric ≡ m)) (let same : composed d m ms ≡ made = cc in same) (refl, refl)
line-input_by d m (Err refusal) made is = absurd (cc)

pub line-input : (ss : List Stage) (d : Domain) (m : Metric) (made : Mapping) → line_on ss d m ≡ Ok made → (made.input_domain ≡ d) × (made.input_metric ≡ m)
line-input ss d m made is = line-input_by d m (stages_on ss d m) made is

-- no loss at the distance 0
line-zero_by : (d : Domain) (m : Metric) (r : Result (List Mapping) Refused) (made : Mapping) → ((ms : List Mapping) → r ≡ Ok ms → line_map ms 0 ≡ Some 0) → on_ok (composed d m) r ≡ Ok made → made.stability_map 0 ≡ Some 0
line-zero_by d m (Ok ms) made zero_is is =
    subst (λ (l : Mapping). l.stability_map 0 ≡ Some 0) (let same : composed d m ms ≡ made = cc in same) (zero_is ms refl)
line-zero_by d m (Err refusal) made zero_is is = absurd (cc)

noise-zero_by : (line : Mapping) (r : Result Mechanism Refused) (made : Mechanism) → line.stability_map 0 ≡ Some 0 → LossZero r → (r >>= (λ last. Ok (measured line last))) ≡ Ok made → made.privacy_map 0 ≡ Some 0
noise-zero_by line (Ok last) made zero_is none is =
    subst (λ (l : Mechanism). l.privacy_map 0 ≡ Some 0) (let same : measured line last ≡ made = cc in same) (ap (λ (o : Option ℕ). option_and_then last.privacy_map o) zero_is ∙ none)
noise-zero_by line (Err refusal) made zero_is none is = absurd (cc)

part-zero_by : (ratio : Fraction) (n : Noise) (r : Result Mapping Refused) (made : Mechanism) → ((line : Mapping) → r ≡ Ok line → line.stability_map 0 ≡ Some 0) → noise_after ratio n r ≡ Ok made → made.privacy_map 0 ≡ Some 0
part-zero_by ratio n (Ok line) made zero_is is =
    noise-zero_by line (noise_on ratio n line.output_domain line.output_metric) made (zero_is line refl) (noise-zero ratio n line.output_domain line.output_metric) is
part-zero_by ratio n (Err refusal) made zero_is is = absurd (cc)

pub part-zero : (ratio : Fraction) (part : Part) (d : Domain) (m : Metric) (made : Mechanism) → part_on ratio part d m ≡ Ok made → made.privacy_map 0 ≡ Some 0
part-zero ratio part d m made is =
    part-zero_by ratio part.noise (line_on part.stages d m) made
    (λ line line_is. line-zero_by d m (stages_on part.stages d m) line (stages-zero part.stages d m) line_is)
    (sym (part-more ratio part d m) ∙ is)

parts-zero_by : (ratio : Fraction) (d : Domain) (m : Metric) (first : Result Mechanism Refused) (rest : Result (List Mechanism) Refused) (ms : List Mechanism) →
    ((made : Mechanism) → first ≡ Ok made → made.privacy_map 0 ≡ Some 0) → ((others : List Mechanism) → rest ≡ Ok others → total_loss others 0 ≡ Some 0) →
    (first >>= (λ made. rest >>= (λ others. Ok (made ∷ others)))) ≡ Ok ms → total_loss ms 0 ≡ Some 0
parts-zero_by ratio d m (Ok made) (Ok others) ms one all is =
    subst (λ (l : List Mechanism). total_loss l 0 ≡ Some 0) (let same : made ∷ others ≡ ms = cc in same)
    (loss-cons made others 0 ∙ ap (λ (o : Option ℕ). added o (total_loss others 0)) (one made refl) ∙ ap (λ (o : Option ℕ). added (Some 0) o) (all others refl))
parts-zero_by ratio d m (Ok made) (Err refusal) ms one all is = absurd (cc)
parts-zero_by ratio d m (Err refusal) rest ms one all is = absurd (cc)

pub parts-zero : (ratio : Fraction) (parts : List Part) (d : Domain) (m : Metric) (ms : List Mechanism) → parts_on ratio parts d m ≡ Ok ms → total_loss ms 0 ≡ Some 0
parts-zero ratio [] d m ms is =
    subst (λ (l : List Mechanism). total_loss l 0 ≡ Some 0) (let same : [] ≡ ms = cc (parts-none ratio d m) in same) (loss-nil 0)
parts-zero ratio (part ∷ parts) d m ms is =
    parts-zero_by ratio d m (part_on ratio part d m) (parts_on ratio parts d m) ms (part-zero ratio part d m) (parts-zero ratio parts d m)
    (sym (parts-more ratio part parts d m) ∙ is)

pub alike-nil : (ratio : Fraction) (d : Domain) (m : Metric) → AreAlike ratio d m []
unfolding AreAlike
alike-nil ratio d m = tt

pub alike-cons : (ratio : Fraction) (d : Domain) (m : Metric) (first : Mechanism) (rest : List Mechanism) → IsLike ratio d m first → AreAlike ratio d m rest → AreAlike ratio d m (first ∷ rest)
unfolding AreAlike
alike-cons ratio d m first rest like alike = (like, alike)

alike-parts : (ratio : Fraction) (d : Domain) (m : Metric) (first : Mechanism) (rest : List Mechanism) → AreAlike ratio d m (first ∷ rest) → IsLike ratio d m first × AreAlike ratio d m rest
unfolding AreAlike
alike-parts ratio d m first rest alike = alike

-- what a loop over the parts has made so far, for parts that stand for measurements by f
module _ {T : Type 0} (f : T → Mechanism) where
  pub parts-start : (ratio : Fraction) (all : List Part) (d : Domain) (m : Metric) (made : List T) → made ≡ [] →
      parts_on ratio all d m ≡ on_ok (λ rest. map f made ++ rest) (parts_on ratio all d m)
  parts-start ratio all d m made none =
      sym (ap (λ (ts : List T). on_ok (λ rest. map f ts ++ rest) (parts_on ratio all d m)) none ∙ on_ok-nothing (parts_on ratio all d m))

  pub parts-next : (ratio : Fraction) (all : List Part) (i : ℕ) (part : Part) (d : Domain) (m : Metric) (made longer : List T) (next : T) →
      i < length all → part ≡ slice_index_or all i part →
      parts_on ratio all d m ≡ on_ok (λ rest. map f made ++ rest) (parts_on ratio (drop i all) d m) →
      part_on ratio part d m ≡ Ok (f next) → longer ≡ made ++ next ∷ [] →
      parts_on ratio all d m ≡ on_ok (λ rest. map f longer ++ rest) (parts_on ratio (drop (i + 1) all) d m)
  parts-next ratio all i part d m made longer next h is forward part_is grown =
      let left : List Part = drop (i + 1) all in
      forward
      ∙ ap (λ (ps : List Part). on_ok (λ rest. map f made ++ rest) (parts_on ratio ps d m)) (left-cons all i part h is)
      ∙ ap (λ (r : Result (List Mechanism) Refused). on_ok (λ rest. map f made ++ rest) r)
      (parts-more ratio part left d m ∙ ap (λ (r : Result Mechanism Refused). first_and ratio r left d m) part_is ∙ as-on_ok (parts_on ratio left d m) (f next))
      ∙ on_ok-append (map f made) (f next) (parts_on ratio left d m)
      ∙ ap (λ (ms : List Mechanism). on_ok (λ rest. ms ++ rest) (parts_on ratio left d m)) (sym (ap (λ (ts : List T). map f ts) grown ∙ map-append f made (next ∷ [])))

  parts-refused : (ratio : Fraction) (all : List Part) (i : ℕ) (part : Part) (d : Domain) (m : Metric) (made : List T) (refusal : Refused) →
      i < length all → part ≡ slice_index_or all i part →
      parts_on ratio all d m ≡ on_ok (λ rest. map f made ++ rest) (parts_on ratio (drop i all) d m) →
      part_on ratio part d m ≡ Err refusal → release_on ratio all d m ≡ Err refusal
  parts-refused ratio all i part d m made refusal h is forward part_is =
      ap (λ (r : Result (List Mechanism) Refused). on_ok (joined ratio d m) r)
      (forward
      ∙ ap (λ (ps : List Part). on_ok (λ rest. map f made ++ rest) (parts_on ratio ps d m)) (left-cons all i part h is)
      ∙ ap (λ (r : Result (List Mechanism) Refused). on_ok (λ rest. map f made ++ rest) r)
      (parts-more ratio part (drop (i + 1) all) d m ∙ ap (λ (r : Result Mechanism Refused). first_and ratio r (drop (i + 1) all) d m) part_is))

  pub release-fault : {R : Type 0} (meaning : R → Mechanism) (ratio : Fraction) (all : List Part) (i : ℕ) (part : Part) (d : Domain) (m : Metric) (made : List T) (why : MakeFault) →
      i < length all → part ≡ slice_index_or all i part →
      parts_on ratio all d m ≡ on_ok (λ rest. map f made ++ rest) (parts_on ratio (drop i all) d m) →
      MakesOr f (Err why) (part_on ratio part d m) → MakesOr meaning (Err why) (release_on ratio all d m)
  release-fault meaning ratio all i part d m made fault.Kind h is forward part_is = parts-refused ratio all i part d m made refused.Kind h is forward part_is
  release-fault meaning ratio all i part d m made fault.Metric h is forward part_is = parts-refused ratio all i part d m made refused.Metric h is forward part_is
  release-fault meaning ratio all i part d m made fault.Bound h is forward part_is = parts-refused ratio all i part d m made refused.Bound h is forward part_is
  release-fault meaning ratio all i part d m made fault.NoMemory h is forward part_is = tt

  pub parts-end : (ratio : Fraction) (all : List Part) (i : ℕ) (d : Domain) (m : Metric) (made : List T) → length all ≤ i →
      parts_on ratio all d m ≡ on_ok (λ rest. map f made ++ rest) (parts_on ratio (drop i all) d m) → parts_on ratio all d m ≡ Ok (map f made)
  parts-end ratio all i d m made h forward =
      forward
      ∙ ap (λ (ps : List Part). on_ok (λ rest. map f made ++ rest) (parts_on ratio ps d m)) (drop_all i all h)
      ∙ ap (λ (r : Result (List Mechanism) Refused). on_ok (λ rest. map f made ++ rest) r) (parts-none ratio d m)
      ∙ ap Ok (append-nil (map f made))

  pub alike-more : (ratio : Fraction) (d : Domain) (m : Metric) (made longer : List T) (next : T) → AreAlike ratio d m (map f made) → IsLike ratio d m (f next) → longer ≡ made ++ next ∷ [] → AreAlike ratio d m (map f longer)
  alike-more ratio d m made longer next alike like grown =
      subst (λ (ts : List T). AreAlike ratio d m (map f ts)) (sym grown) (alike-append ratio d m made next alike like)
    where
      alike-append : (ratio : Fraction) (d : Domain) (m : Metric) (made : List T) (next : T) → AreAlike ratio d m (map f made) → IsLike ratio d m (f next) → AreAlike ratio d m (map f (made ++ next ∷ []))
      alike-append ratio d m [] next alike like = alike-cons ratio d m (f next) [] like (alike-nil ratio d m)
      alike-append ratio d m (x ∷ xs) next alike like =
          let parts = alike-parts ratio d m (f x) (map f xs) alike in
          alike-cons ratio d m (f x) (map f (xs ++ next ∷ [])) parts.0 (alike-append ratio d m xs next parts.1 like)

  -- the metric of a part that is made is used with its domain
  pub made-suits : ((t : T) → IsPrivate (f t)) → (ratio : Fraction) (d : Domain) (m : Metric) (made : List T) → 1 ≤ length made → AreAlike ratio d m (map f made) → SuitsMetric d m
  made-suits law ratio d m [] some alike = absurd (omega arith)
  made-suits law ratio d m (x ∷ xs) some alike =
      let like = (alike-parts ratio d m (f x) (map f xs) alike).0 in
      subst (λ (n : Metric). SuitsMetric d n) like.input_metric (subst (λ (e : Domain). SuitsMetric e (f x).input_metric) like.input_domain (law x).input_suits)
