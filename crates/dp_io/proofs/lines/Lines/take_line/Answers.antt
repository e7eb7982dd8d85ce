use Rattle.std.proofs.Common.{◌≡◌, ◌≤◌, ◌∙◌, ap, rules, arith, length, refl}
use Rattle.dp_io.specs.Lines.{is_line_feed, LinesValue}
use Rattle.dp_io.proofs.FirstPlaces.{place-le}
use Rattle.dp_io.proofs.lines.Lines.take_line.Goals as goal

pub overflow_add-end : goal.overflow_add-end
overflow_add-end c =
    let ahead : c.drop_front.new.self ≡ c.args.self.now.read_ahead = c.drop_front.ensures ∙ ap (λ (lines : LinesValue). lines.read_ahead) c.self.view_is in
    let few : c.args.end ≤ 131072 =
    omega (arith, c.requires, place-le is_line_feed c.args.self.now.read_ahead, ap length ahead, c.len-ahead.ensures.count, c.len-ahead.ensures.within) in
    search (rules, few)

pub invariant_of-self : goal.invariant_of-self
invariant_of-self c =
    let ahead : c.drop_front.new.self ≡ c.args.self.now.read_ahead = c.drop_front.ensures ∙ ap (λ (lines : LinesValue). lines.read_ahead) c.self.view_is in (
      omega (arith, c.requires, place-le is_line_feed c.args.self.now.read_ahead, ap length ahead),
      omega (arith, c.len-ahead.ensures.count, c.min-self-inside.ensures),
      refl,
    )
