-- Randomised response on categories, with the two numbers of a ratio.
use Rattle.std.specs.Prelude.{ℕ, ◌+◌, ◌-◌, ◌*◌, ◌/◌, ◌^◌, min, List, [], ◌∷◌, Result, Ok, Err, if◌then◌else◌, nat_lt, nat_le}
use Rattle.dp_num.specs.Limits.{Fraction, capped, powers}
use Rattle.dp_domain.specs.declared.domains.Domain.{Domain}
use Rattle.dp_domain.specs.declared.domains.Domain.TheVariants as domain
use Rattle.dp_domain.specs.declared.metrics.Metric.{Metric}
use Rattle.dp_domain.specs.declared.metrics.Metric.TheVariants as metrics
use Rattle.dp_domain.specs.declared.values.Value.{Value}
use Rattle.dp_domain.specs.declared.values.Value.TheVariants as value
use Rattle.dp_law.specs.declared.pieces.Piece.{Piece}
use Rattle.dp_law.specs.declared.pieces.Piece.TheVariants as piece
use Rattle.dp_law.specs.declared.refusals.Refused.{Refused}
use Rattle.dp_law.specs.declared.refusals.Refused.TheVariants as refused
use Rattle.dp_law.specs.Making.{with_powers, is_discrete}
use Rattle.dp_law.specs.Mechanism.{Mechanism}

-- how many categories there are, and the two numbers of the ratio low / high of another reply to the true one
pub record ReplyNumbers : Type 0 where
  pub n : ℕ
  pub low : ℕ
  pub high : ℕ

-- the bound of the draw: high draws for the true value, and low for each other one
abbrev pub draw_bound : ReplyNumbers → ℕ
draw_bound c = c.high + (c.n - 1) * c.low

-- the category at a place of the categories without the true one
abbrev pub other_value : ℕ → ℕ → ℕ
other_value truth place = if nat_lt place truth then place else place + 1

-- the true value for a draw below high; after those, each low draws stand for the next of the other values
abbrev pub reply : ReplyNumbers → ℕ → ℕ → ℕ
reply c truth draw = if nat_lt draw c.high then truth else other_value truth ((draw - c.high) / c.low)

-- the reply to a draw list of the one bound
abbrev pub reply_to : ReplyNumbers → ℕ → List ℕ → ℕ
reply_to c truth [] = truth
reply_to c truth (draw ∷ draws) = reply c truth draw

-- the answer on a value
abbrev pub respond : ReplyNumbers → Value → List ℕ → List Piece
respond c (value.Cat truth) draws = piece.Cat (reply_to c truth draws) ∷ []
respond c _ draws = []

-- one draw, the reply as one piece, and u units of loss at any distance but 0
abbrev pub response : Fraction → ℕ → ReplyNumbers → Mechanism
response ratio u c = record {
  input_domain = domain.Cat c.n;
  input_metric = metrics.Discrete;
  ratio = ratio;
  shape = draw_bound c ∷ [];
  function = respond c;
  pieces = 1;
  privacy_map = λ d. capped (u * min d 1);
}

-- the bound of the draw is at most 2 ^ 62
abbrev pub response_if : Fraction → ℕ → ReplyNumbers → Result Mechanism Refused
response_if ratio u c = if nat_le (draw_bound c) (2 ^ 62) then Ok (response ratio u c) else Err refused.Bound

-- what randomised response is on a domain and a metric: low and high are p and q to the power u
abbrev pub response_from : Fraction → ℕ → Domain → Metric → Result Mechanism Refused
response_from ratio u (domain.Cat n) metric = if is_discrete metric
    then with_powers (powers ratio.p ratio.q u)
    (λ both. response_if ratio u (record { n = n; low = both.0; high = both.1 }))
    else Err refused.Metric
response_from ratio u _ metric = Err refused.Kind
