-- What stages, lines, noises and releases are on a domain that fits: stable, or private.
use Rattle.std.specs.Prelude.{◌≡◌, ◌≤◌, true, List, length, Some, Ok}
use Rattle.dp_num.specs.Limits.{Fraction, is_ratio}
use Rattle.dp_domain.specs.declared.domains.Domain.{Domain}
use Rattle.dp_domain.specs.declared.metrics.Metric.{Metric}
use Rattle.dp_domain.specs.Domains.{Fits}
use Rattle.dp_law.specs.Mapping.{Mapping, IsStable}
use Rattle.dp_law.specs.Mechanism.{Mechanism, IsPrivate}
use Rattle.dp_chain.specs.declared.stage.Stage.{Stage}
use Rattle.dp_chain.specs.declared.noise.Noise.{Noise}
use Rattle.dp_chain.specs.declared.noise.Part.{Part}
use Rattle.dp_chain.specs.Stages.{stage_on, noise_on}
use Rattle.dp_chain.specs.Lines.{line_on}
use Rattle.dp_chain.specs.Releases.{part_on, release_on}

-- a stable transformation of that domain by that metric
pub record IsStableOn (domain : Domain) (metric : Metric) (m : Mapping) : Type 0 where
  pub stable : IsStable m
  pub input_domain : m.input_domain ≡ domain
  pub input_metric : m.input_metric ≡ metric

-- a private measurement of that domain by that metric, with that ratio, that loses nothing at the distance 0
pub record IsPrivateOn (ratio : Fraction) (domain : Domain) (metric : Metric) (m : Mechanism) : Type 0 where
  pub private : IsPrivate m
  pub input_domain : m.input_domain ≡ domain
  pub input_metric : m.input_metric ≡ metric
  pub one_ratio : m.ratio ≡ ratio
  pub zero_loss : m.privacy_map 0 ≡ Some 0

-- a stage that is made is stable
abbrev pub StageLaw : Type 0
StageLaw = (stage : Stage) (domain : Domain) (metric : Metric) (m : Mapping) → Fits domain
    → stage_on stage domain metric ≡ Ok m → IsStableOn domain metric m

-- a line of stages that is made is stable
abbrev pub LineLaw : Type 0
LineLaw = (stages : List Stage) (domain : Domain) (metric : Metric) (m : Mapping) → Fits domain
    → line_on stages domain metric ≡ Ok m → IsStableOn domain metric m

-- a noise that is made with a ratio below 1 is private
abbrev pub NoiseLaw : Type 0
NoiseLaw = (ratio : Fraction) (noise : Noise) (domain : Domain) (metric : Metric) (m : Mechanism) → Fits domain
    → is_ratio ratio.p ratio.q ≡ true → noise_on ratio noise domain metric ≡ Ok m → IsPrivateOn ratio domain metric m

-- a part that is made with a ratio below 1 is private
abbrev pub PartLaw : Type 0
PartLaw = (ratio : Fraction) (part : Part) (domain : Domain) (metric : Metric) (m : Mechanism) → Fits domain
    → is_ratio ratio.p ratio.q ≡ true → part_on ratio part domain metric ≡ Ok m → IsPrivateOn ratio domain metric m

-- a release of 1 to 16 parts that is made with a ratio below 1 is private
abbrev pub ReleaseLaw : Type 0
ReleaseLaw = (ratio : Fraction) (parts : List Part) (domain : Domain) (metric : Metric) (m : Mechanism)
    → Fits domain → is_ratio ratio.p ratio.q ≡ true → 1 ≤ length parts → length parts ≤ 16
    → release_on ratio parts domain metric ≡ Ok m → IsPrivateOn ratio domain metric m
