use Rattle.std.proofs.Common.{◌≡◌, ℕ, ◌+◌, ◌%◌, ◌∷◌, ◌++◌, arith, refl}
use Rattle.std.specs.Prelude.{codes}
use Rattle.dp_runner.specs.Stops.{refused_line}
use Rattle.dp_runner.proofs.stop.refused_line.Goals as goal

digit-line : (number digit : ℕ) → number % 10 ≡ digit → codes "dp: pipeline refused " ++ (48 + digit) ∷ codes "\n" ≡ refused_line number
digit-line number digit is = rw is refl

pub returns-in-1 : goal.returns-in-1
returns-in-1 c = digit-line c.args.number 1 c.in-1.is

pub returns-in-2 : goal.returns-in-2
returns-in-2 c = digit-line c.args.number 2 c.in-2.is

pub returns-in-3 : goal.returns-in-3
returns-in-3 c = digit-line c.args.number 3 c.in-3.is

pub returns-in-4 : goal.returns-in-4
returns-in-4 c = digit-line c.args.number 4 c.in-4.is

pub returns-in-5 : goal.returns-in-5
returns-in-5 c = digit-line c.args.number 5 c.in-5.is

pub returns-in-6 : goal.returns-in-6
returns-in-6 c = digit-line c.args.number 6 c.in-6.is

pub returns-in-7 : goal.returns-in-7
returns-in-7 c = digit-line c.args.number 7 c.in-7.is

pub returns-in-8 : goal.returns-in-8
returns-in-8 c = digit-line c.args.number 8 c.in-8.is

pub returns-in-9 : goal.returns-in-9
returns-in-9 c = digit-line c.args.number 9 c.in-9.is

pub returns-in_default : goal.returns-in_default
returns-in_default c = let h = c.in_default in digit-line c.args.number 0 (omega arith)
