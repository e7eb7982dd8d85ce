-- A release of parts that is made on a domain that fits, with a ratio below 1, is private.
use Rattle.std.proofs.Common.{◌≡◌, ℕ, suc, ◌≤◌, true, List, [], ◌∷◌, map, length, Some, Ok, Err, refl, sym, subst, ◌∙◌, ap, arith}
use Rattle.std.specs.Prelude.{Result}
use Rattle.dp_count.specs.Results.{◌>>=◌, on_ok}
use Rattle.dp_num.specs.Limits.{Fraction, is_ratio}
use Rattle.dp_domain.specs.declared.domains.Domain.{Domain}
use Rattle.dp_domain.specs.declared.metrics.Metric.{Metric}
use Rattle.dp_domain.specs.Domains.{Fits}
use Rattle.dp_law.specs.declared.refusals.Refused.{Refused}
use Rattle.dp_law.specs.Mapping.{Mapping}
use Rattle.dp_law.specs.Mechanism.{Mechanism, IsPrivate, IsBelowOne}
use Rattle.dp_law.specs.Joining.{measured}
use Rattle.dp_law.proofs.ChainingLaw.{measured_law}
use Rattle.dp_chain.specs.Laws.{IsStableOn, IsPrivateOn, PartLaw, ReleaseLaw}
use Rattle.dp_chain.specs.Lines.{line_on}
use Rattle.dp_chain.specs.Releases.{part_on, parts_on, joined, total_loss, IsLike, AreAlike}
use Rattle.dp_chain.specs.ReleasesProof.{release_law}
use Rattle.dp_chain.specs.Stages.{noise_on}
use Rattle.dp_chain.specs.declared.noise.Noise.{Noise}
use Rattle.dp_chain.specs.declared.noise.Part.{Part}
use Rattle.dp_chain.proofs.LineLaws.{line-law}
use Rattle.dp_chain.proofs.NoiseLaws.{noise-law, below-one}
use Rattle.dp_chain.proofs.ReleaseMaking.{noise_after, part-more, part-zero, parts-more, parts-none, parts-zero, noise-takes, alike-nil, alike-cons, made-suits}

-- a part that is made: private, and like the others
pub record IsPartOn (ratio : Fraction) (domain : Domain) (metric : Metric) (m : Mechanism) : Type 0 where
  pub private : IsPrivate m
  pub like : IsLike ratio domain metric m

measured-part : (ratio : Fraction) (d : Domain) (m : Metric) (line : Mapping) (last : Mechanism) → IsStableOn d m line →
    IsPrivateOn ratio line.output_domain line.output_metric last →
    IsLike ratio line.output_domain line.output_metric last → IsPartOn ratio d m (measured line last)
measured-part ratio d m line last one other like = record {
  private = measured_law line last one.stable other.private (sym other.input_domain) (sym other.input_metric);
  like = record {
    input_domain = one.input_domain;
    input_metric = one.input_metric;
    one_ratio = other.one_ratio;
    few_draws = like.few_draws;
    few_pieces = like.few_pieces;
  };
}

noise-part : (ratio : Fraction) (d : Domain) (m : Metric) (line : Mapping) (r : Result Mechanism Refused) (made : Mechanism) →
    IsStableOn d m line →
    ((last : Mechanism) → r ≡ Ok last →
    IsPrivateOn ratio line.output_domain line.output_metric last × IsLike ratio line.output_domain line.output_metric last) →
    (r >>= (λ last. Ok (measured line last))) ≡ Ok made → IsPartOn ratio d m made
noise-part ratio d m line (Ok last) made one told is =
    let same : measured line last ≡ made = cc in
    let noise = told last refl in
    subst (IsPartOn ratio d m) same (measured-part ratio d m line last one noise.0 noise.1)
noise-part ratio d m line (Err refusal) made one told is = absurd (cc)

line-part : (ratio : Fraction) (noise : Noise) (d : Domain) (m : Metric) (r : Result Mapping Refused) (made : Mechanism) →
    is_ratio ratio.p ratio.q ≡ true →
    ((line : Mapping) → r ≡ Ok line → IsStableOn d m line) → noise_after ratio noise r ≡ Ok made → IsPartOn ratio d m made
line-part ratio noise d m (Ok line) made below told is =
    let one = told line refl in
    let fits = one.stable.output_fits in
    noise-part ratio d m line (noise_on ratio noise line.output_domain line.output_metric) made one
    (λ last noise_is. (
      noise-law ratio noise line.output_domain line.output_metric last fits below noise_is,
      noise-takes ratio noise line.output_domain line.output_metric last fits noise_is,
    ))
    is
line-part ratio noise d m (Err refusal) made below told is = absurd (cc)

pub part-made-well : (ratio : Fraction) (part : Part) (d : Domain) (m : Metric) (made : Mechanism) → Fits d →
    is_ratio ratio.p ratio.q ≡ true → part_on ratio part d m ≡ Ok made → IsPartOn ratio d m made
part-made-well ratio part d m made fits below is =
    line-part ratio part.noise d m (line_on part.stages d m) made below
    (λ line told. line-law part.stages d m line fits told) (sym (part-more ratio part d m) ∙ is)

pub part-law : PartLaw
part-law ratio part d m made fits below is =
    let well = part-made-well ratio part d m made fits below is in
    record {
      private = well.private;
      input_domain = well.like.input_domain;
      input_metric = well.like.input_metric;
      one_ratio = well.like.one_ratio;
      zero_loss = part-zero ratio part d m made is;
    }

-- a measurement with its law
abbrev pub PrivateMechanism : Type 0
PrivateMechanism = (m : Mechanism) × IsPrivate m

-- the measurements of so many parts, each with its law, and alike
pub record ArePartsOn (ratio : Fraction) (domain : Domain) (metric : Metric) (n : ℕ) (ms : List Mechanism) : Type 0 where
  pub parts : List PrivateMechanism
  pub same : map (λ (t : PrivateMechanism). t.0) parts ≡ ms
  pub many : length parts ≡ n
  pub alike : AreAlike ratio domain metric ms

parts-first : (ratio : Fraction) (d : Domain) (m : Metric) (n : ℕ) (first : Result Mechanism Refused)
    (rest : Result (List Mechanism) Refused) (ms : List Mechanism) → ((made : Mechanism) → first ≡ Ok made → IsPartOn ratio d m made) →
    ((others : List Mechanism) → rest ≡ Ok others → ArePartsOn ratio d m n others) →
    (first >>= (λ made. rest >>= (λ others. Ok (made ∷ others)))) ≡ Ok ms → ArePartsOn ratio d m (suc n) ms
parts-first ratio d m n (Ok made) (Ok others) ms one all is =
    let same : made ∷ others ≡ ms = cc in
    let well = one made refl in
    let left = all others refl in
    subst (ArePartsOn ratio d m (suc n)) same (record {
      parts = (made, well.private) ∷ left.parts;
      same = ap (λ (l : List Mechanism). made ∷ l) left.same;
      many = let count = left.many in omega (arith, count);
      alike = alike-cons ratio d m made others well.like left.alike;
    })
parts-first ratio d m n (Ok made) (Err refusal) ms one all is = absurd (cc)
parts-first ratio d m n (Err refusal) rest ms one all is = absurd (cc)

pub parts-made-well : (ratio : Fraction) (parts : List Part) (d : Domain) (m : Metric) (ms : List Mechanism) → Fits d →
    is_ratio ratio.p ratio.q ≡ true → parts_on ratio parts d m ≡ Ok ms → ArePartsOn ratio d m (length parts) ms
parts-made-well ratio [] d m ms fits below is =
    let same : [] ≡ ms = cc (parts-none ratio d m) in
    subst (ArePartsOn ratio d m 0) same (record { parts = []; same = refl; many = refl; alike = alike-nil ratio d m })
parts-made-well ratio (part ∷ parts) d m ms fits below is =
    parts-first ratio d m (length parts) (part_on ratio part d m) (parts_on ratio parts d m) ms
    (λ made. part-made-well ratio part d m made fits below) (λ others. parts-made-well ratio parts d m others fits below)
    (sym (parts-more ratio part parts d m) ∙ is)

joined-private : (ratio : Fraction) (d : Domain) (m : Metric) (n : ℕ) (ms : List Mechanism) → Fits d →
    IsBelowOne ratio.p ratio.q → 1 ≤ n → n ≤ 16 → ArePartsOn ratio d m n ms → IsPrivate (joined ratio d m ms)
joined-private ratio d m n ms fits below some few all =
    let mechanism : PrivateMechanism → Mechanism = λ t. t.0 in
    let many = all.many in
    let alike : AreAlike ratio d m (map mechanism all.parts) = subst (AreAlike ratio d m) (sym all.same) all.alike in
    let suits = made-suits mechanism (λ t. t.1) ratio d m all.parts (omega (arith, many)) alike in
    subst (λ (l : List Mechanism). IsPrivate (joined ratio d m l)) all.same
    (release_law mechanism (λ t. t.1) ratio d m all.parts fits suits below (omega (arith, many)) alike)

release-from : (ratio : Fraction) (d : Domain) (m : Metric) (r : Result (List Mechanism) Refused) (made : Mechanism) →
    ((ms : List Mechanism) → r ≡ Ok ms → IsPrivate (joined ratio d m ms) × (total_loss ms 0 ≡ Some 0)) →
    on_ok (joined ratio d m) r ≡ Ok made → IsPrivateOn ratio d m made
release-from ratio d m (Ok ms) made law is =
    let same : joined ratio d m ms ≡ made = cc in
    let told = law ms refl in
    subst (IsPrivateOn ratio d m) same (record {
      private = told.0;
      input_domain = refl;
      input_metric = refl;
      one_ratio = refl;
      zero_loss = told.1;
    })
release-from ratio d m (Err refusal) made law is = absurd (cc)

pub release-law : ReleaseLaw
release-law ratio parts d m made fits below some few is =
    release-from ratio d m (parts_on ratio parts d m) made
    (λ ms told. (
      joined-private ratio d m (length parts) ms fits (below-one ratio.p ratio.q below) some few
          (parts-made-well ratio parts d m ms fits below told),
      parts-zero ratio parts d m ms told,
    ))
    is
