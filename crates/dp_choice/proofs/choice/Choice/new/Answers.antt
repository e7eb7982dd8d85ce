use Rattle.std.proofs.Common.{rules, w64, to_z, of_z}
use Rattle.dp_num.specs.Fractions.{fraction_of}
use Rattle.dp_choice.specs.Weights.{ChoiceNumbers}
use Rattle.dp_choice.proofs.Conditions.{is-choice, fits-words}
use Rattle.dp_choice.proofs.choice.Choice.new.Goals as goal

pub invariant_of-result : goal.invariant_of-result
invariant_of-result c =
    let r = c.args.ratio in
    let n : ChoiceNumbers = record {
      len = c.in-IntVec.len;
      least = c.in-IntVec.lo;
      most = c.in-IntVec.hi;
      floor = to_z w64 (of_z w64 c.args.floor);
      top = to_z w64 (of_z w64 c.args.top);
      low = c.in-Ok.low;
      high = c.in-Ok.high;
    } in
    let given = rw c.in-Some.is at c.in_ok-table.ensures n.least n.most in
    let facts = is-choice (fraction_of r) n r.below_one given.1 in
    record {
      input_fits = fits-words n.len n.least n.most (rw c.in-IntVec.is at c.requires);
      powers = c.in-Ok.ensures.facts;
      least = facts.0.least;
      ordered = facts.0.ordered;
      greatest = facts.0.greatest;
      narrow = facts.0.narrow;
      table_is = given.0;
      sum_fits = facts.1;
      room = facts.2;
    }

pub returns-in_default-2 : goal.returns-in_default-2
returns-in_default-2 c =
    let given = rw c.in_default-2.is at c.in_ok-table.ensures c.in-IntVec.lo c.in-IntVec.hi in
    search (rules, given)

pub returns : goal.returns
returns c =
    let given = rw c.in-Some.is at c.in_ok-table.ensures (to_z w64 (of_z w64 c.in-IntVec.lo)) (to_z w64 (of_z w64 c.in-IntVec.hi)) in
    search (rules, given.1)
