-- What is read of a made choice: the numbers that its weights have.
use Rattle.dp_choice.specs.Weights.{ChoiceNumbers}
use Rattle.dp_choice.specs.declared.choice.Choice.{Choice}

-- the numbers of a choice
abbrev pub numbers_of : Choice → ChoiceNumbers
numbers_of choice = record {
  len = choice.len;
  least = choice.lo;
  most = choice.hi;
  floor = choice.floor;
  top = choice.top;
  low = choice.low;
  high = choice.high;
}
