use Rattle.std.proofs.Common.{◌≤◌, ◌-◌, ◌∙◌, ap, drop, length, arith}
use Rattle.dp_io.proofs.Ranges.{length-range, range-drop}
use Rattle.dp_io.proofs.read_buffer.ReadBuffer.drop_front.Goals as goal

pub returns : goal.returns
returns c =
    let held = length-range c.self.inside.bytes.items c.self.inside.start c.self.inside.end c.self.invariant.1 in
    let few : c.args.n ≤ c.self.inside.end - c.self.inside.start = omega (arith, held, ap length c.self.view_is) in
    range-drop _ _ _ _ few ∙ ap (drop c.args.n) c.self.view_is
