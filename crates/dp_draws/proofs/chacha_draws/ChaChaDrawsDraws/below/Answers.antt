use Rattle.std.proofs.Common.{arith}
use Rattle.dp_draws.proofs.Turns.{chacha_step-of, key-after, stream-after}
use Rattle.dp_draws.proofs.chacha_draws.ChaChaDrawsDraws.below.Goals as goal

pub invariant_of-self : goal.invariant_of-self
invariant_of-self c = record {
  whole_key = key-after _ _ _ _ c.first_taken.ensures c.args.self.now.whole_key;
  first_stream = stream-after _ _ _ _ c.first_taken.ensures c.args.self.now.first_stream;
  few = c.args.self.now.few;
}

pub returns-in-Some-clause-step : goal.returns-in-Some-clause-step
returns-in-Some-clause-step c =
    chacha_step-of c.args.self.now.rng c.first_taken.new.rng _ _ c.args.self.now.whole_key c.args.self.now.first_stream c.in-Some.ensures

pub invariant_of-self-2 : goal.invariant_of-self-2
invariant_of-self-2 c = record {
  whole_key = key-after _ _ _ _ c.first_taken.ensures c.args.self.now.whole_key;
  first_stream = stream-after _ _ _ _ c.first_taken.ensures c.args.self.now.first_stream;
  few = omega arith;
}

pub returns-clause-step : goal.returns-clause-step
returns-clause-step c =
    chacha_step-of c.args.self.now.rng c.first_taken.new.rng _ _ c.args.self.now.whole_key c.args.self.now.first_stream (c.in_default.ensures {u = tt})
