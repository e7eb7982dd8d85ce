-- Joined parts: two transformations one after the other, a transformation before a measurement, and two measurements on
-- one input.
use Rattle.std.specs.Prelude.{ℕ, ◌+◌, ◌++◌, length, take, drop, Option, Some, None, option_and_then}
use Rattle.dp_num.specs.Limits.{capped}
use Rattle.dp_law.specs.Mapping.{Mapping}
use Rattle.dp_law.specs.Mechanism.{Mechanism}

-- the first, and then the second on what the first gives
abbrev pub chained : Mapping → Mapping → Mapping
chained first second = record {
  input_domain = first.input_domain;
  input_metric = first.input_metric;
  output_domain = second.output_domain;
  output_metric = second.output_metric;
  function = λ v. second.function (first.function v);
  stability_map = λ d. option_and_then second.stability_map (first.stability_map d);
}

-- a transformation, and then a measurement of what it gives
abbrev pub measured : Mapping → Mechanism → Mechanism
measured first second = record {
  input_domain = first.input_domain;
  input_metric = first.input_metric;
  ratio = second.ratio;
  shape = second.shape;
  function = λ v draws. second.function (first.function v) draws;
  pieces = second.pieces;
  privacy_map = λ d. option_and_then second.privacy_map (first.stability_map d);
}

-- the sum of two losses, where both are numbers and it is at most 2 ^ 32
abbrev pub added : Option ℕ → Option ℕ → Option ℕ
added (Some j) (Some k) = capped (j + k)
added (Some j) None = None
added None k = None

-- shapes and answers one after the other, each answer on its own part of the draws, and the losses added
abbrev pub both : Mechanism → Mechanism → Mechanism
both one other = record {
  input_domain = one.input_domain;
  input_metric = one.input_metric;
  ratio = one.ratio;
  shape = one.shape ++ other.shape;
  function = λ v draws. one.function v (take (length one.shape) draws)
      ++ other.function v (drop (length one.shape) draws);
  pieces = one.pieces + other.pieces;
  privacy_map = λ d. added (one.privacy_map d) (other.privacy_map d);
}
