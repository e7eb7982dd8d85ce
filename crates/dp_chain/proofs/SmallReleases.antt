-- A release that is made has one piece for each of its parts.
use Rattle.std.proofs.Common.{◌≡◌, ℕ, ℤ, suc, ◌≤◌, ◌^◌, Bool, true, false, cond, List, [], ◌∷◌, length, Option, Some, None, Ok, Err}
use Rattle.std.proofs.Common.{refl, sym, subst, ◌∙◌, arith}
use Rattle.std.specs.Prelude.{Result, IfOk, nat_le}
use Rattle.dp_count.specs.Results.{◌>>=◌, on_ok}
use Rattle.dp_num.specs.Limits.{Fraction}
use Rattle.dp_domain.specs.declared.domains.Domain.{Domain}
use Rattle.dp_domain.specs.declared.domains.Domain.TheVariants as domain
use Rattle.dp_domain.specs.declared.metrics.Metric.{Metric}
use Rattle.dp_domain.specs.declared.metrics.Metric.TheVariants as metrics
use Rattle.dp_law.specs.declared.refusals.Refused.{Refused}
use Rattle.dp_law.specs.declared.refusals.Refused.TheVariants as refused
use Rattle.dp_law.specs.Mapping.{Mapping}
use Rattle.dp_law.specs.Mechanism.{Mechanism}
use Rattle.dp_law.specs.Joining.{measured}
use Rattle.dp_chain.specs.Lines.{line_on}
use Rattle.dp_chain.specs.Releases.{part_on, parts_on, release_on, joined, all_pieces}
use Rattle.dp_chain.specs.Stages.{noise_on}
use Rattle.dp_chain.specs.declared.noise.Noise.{Noise}
use Rattle.dp_chain.specs.declared.noise.Noise.TheVariants as noise
use Rattle.dp_chain.specs.declared.noise.Part.{Part}
use Rattle.dp_chain.proofs.NoiseMaking.{geometric-made, response-made, choice-made}
use Rattle.dp_chain.proofs.ReleaseMaking.{noise_after, part-more, parts-more, parts-none, parts-zero}
use Rattle.dp_chain.proofs.ReleaseSteps.{pieces-cons, pieces-nil}

-- what is made gives one piece
abbrev pub HasOnePiece : Result Mechanism Refused → Type 0
HasOnePiece made = IfOk made (λ m. m.pieces ≡ 1)

noise-one : (ratio : Fraction) (n : Noise) (d : Domain) (m : Metric) → HasOnePiece (noise_on ratio n d m)
unfolding noise_on
noise-one ratio (noise.Geometric u lo hi) (domain.Int least most) metrics.Absolute =
    geometric-made HasOnePiece ratio u tt (domain.Int least most) lo hi (λ both made good. refl)
noise-one ratio (noise.Geometric u lo hi) (domain.Int least most) m = tt
noise-one ratio (noise.Geometric u lo hi) (domain.IntVec len least most) metrics.L1 =
    geometric-made HasOnePiece ratio u tt (domain.IntVec len least most) lo hi (λ both made good. refl)
noise-one ratio (noise.Geometric u lo hi) (domain.IntVec len least most) m = tt
noise-one ratio (noise.Geometric u lo hi) d m = tt
noise-one ratio (noise.Response u) (domain.Cat n) metrics.Discrete = response-made HasOnePiece ratio u tt n (λ both made good. refl)
noise-one ratio (noise.Response u) (domain.Cat n) m = tt
noise-one ratio (noise.Response u) d m = tt
noise-one ratio (noise.Choice u floor top) (domain.IntVec len least most) metrics.L1 =
    choice-made HasOnePiece ratio u tt len least most floor top (λ both made good. refl)
noise-one ratio (noise.Choice u floor top) (domain.IntVec len least most) m = tt
noise-one ratio (noise.Choice u floor top) d m = tt

-- a line before a noise changes nothing
measured-one : (line : Mapping) (r : Result Mechanism Refused) → HasOnePiece r → HasOnePiece (r >>= (λ last. Ok (measured line last)))
measured-one line (Ok last) one = one
measured-one line (Err refusal) one = tt

after-one : (ratio : Fraction) (n : Noise) (r : Result Mapping Refused) → HasOnePiece (noise_after ratio n r)
after-one ratio n (Ok line) =
    measured-one line (noise_on ratio n line.output_domain line.output_metric) (noise-one ratio n line.output_domain line.output_metric)
after-one ratio n (Err refusal) = tt

part-one : (ratio : Fraction) (part : Part) (d : Domain) (m : Metric) → HasOnePiece (part_on ratio part d m)
part-one ratio part d m = subst HasOnePiece (sym (part-more ratio part d m)) (after-one ratio part.noise (line_on part.stages d m))

-- as many pieces as parts
first-pieces : (n : ℕ) (first : Result Mechanism Refused) (rest : Result (List Mechanism) Refused) (ms : List Mechanism) →
    HasOnePiece first →
    ((others : List Mechanism) → rest ≡ Ok others → all_pieces others ≡ n) →
    (first >>= (λ made. rest >>= (λ others. Ok (made ∷ others)))) ≡ Ok ms → all_pieces ms ≡ suc n
first-pieces n (Ok made) (Ok others) ms one all is =
    let left = all others refl in
    let sum = pieces-cons made others in
    subst (λ (l : List Mechanism). all_pieces l ≡ suc n) (let same : made ∷ others ≡ ms = cc in same) (omega arith)
first-pieces n (Ok made) (Err refusal) ms one all is = absurd (cc)
first-pieces n (Err refusal) rest ms one all is = absurd (cc)

pub parts-pieces : (ratio : Fraction) (parts : List Part) (d : Domain) (m : Metric) (ms : List Mechanism) →
    parts_on ratio parts d m ≡ Ok ms → all_pieces ms ≡ length parts
parts-pieces ratio [] d m ms is =
    subst (λ (l : List Mechanism). all_pieces l ≡ 0) (let same : [] ≡ ms = cc (parts-none ratio d m) in same) pieces-nil
parts-pieces ratio (part ∷ parts) d m ms is =
    first-pieces (length parts) (part_on ratio part d m) (parts_on ratio parts d m) ms
    (part-one ratio part d m) (parts-pieces ratio parts d m)
    (sym (parts-more ratio part parts d m) ∙ is)

-- what holds of the parts joined holds of the release that is made
release-from : (P : Mechanism → Type 0) (ratio : Fraction) (d : Domain) (m : Metric) (r : Result (List Mechanism) Refused)
    (made : Mechanism) → ((ms : List Mechanism) → r ≡ Ok ms → P (joined ratio d m ms)) → on_ok (joined ratio d m) r ≡ Ok made → P made
release-from P ratio d m (Ok ms) made holds is = subst P (let same : joined ratio d m ms ≡ made = cc in same) (holds ms refl)
release-from P ratio d m (Err refusal) made holds is = absurd (cc)

-- a release that is made has as many pieces as parts, so at most as many
pub release-pieces : (ratio : Fraction) (parts : List Part) (d : Domain) (m : Metric) (made : Mechanism) →
    release_on ratio parts d m ≡ Ok made → made.pieces ≡ length parts
release-pieces ratio parts d m made is =
    release-from (λ r. r.pieces ≡ length parts) ratio d m (parts_on ratio parts d m) made (parts-pieces ratio parts d m) is

pub few-pieces : (ratio : Fraction) (parts : List Part) (d : Domain) (m : Metric) (made : Mechanism) →
    release_on ratio parts d m ≡ Ok made → made.pieces ≤ length parts
few-pieces ratio parts d m made is = let many = release-pieces ratio parts d m made is in omega arith

-- it loses nothing at the distance 0
pub release-zero : (ratio : Fraction) (parts : List Part) (d : Domain) (m : Metric) (made : Mechanism) →
    release_on ratio parts d m ≡ Ok made → made.privacy_map 0 ≡ Some 0
release-zero ratio parts d m made is =
    release-from (λ r. r.privacy_map 0 ≡ Some 0) ratio d m (parts_on ratio parts d m) made (parts-zero ratio parts d m) is
