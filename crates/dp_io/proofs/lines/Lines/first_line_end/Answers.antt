use Rattle.std.proofs.Common.{◌≡◌, ◌≤◌, ◌+◌, ◌∙◌, ap, rules, arith, drop, length}
use Rattle.std.specs.List.{position_or_len}
use Rattle.std.proofs.lemmas.List.{length-drop}
use Rattle.dp_io.specs.Lines.{is_line_feed, LinesValue}
use Rattle.dp_io.proofs.FirstPlaces.{place-le, place-further, none-before}
use Rattle.dp_io.proofs.lines.Lines.first_line_end.Goals as goal

pub overflow_add-self : goal.overflow_add-self
overflow_add-self c =
    let ahead = drop c.self.inside.given_bytes c.self.inside.buffer in
    let whole : c.self.inside.searched + c.line_end-more.result ≡ position_or_len is_line_feed ahead =
    place-further _ _ _ _ _ _ c.as_slice.ensures.value c.self.invariant.1 c.self.invariant.2 c.line_end-more.ensures in
    let few : c.self.inside.searched + c.line_end-more.result ≤ 131072 =
    omega (arith, place-le is_line_feed ahead, length-drop c.self.inside.given_bytes c.self.inside.buffer, ap length c.as_slice.ensures.value, c.as_slice.ensures.within) in
    search (rules, few)

pub invariant_of-self : goal.invariant_of-self
invariant_of-self c =
    let ahead = drop c.self.inside.given_bytes c.self.inside.buffer in
    let whole : c.self.inside.searched + c.line_end-more.result ≡ position_or_len is_line_feed ahead =
    place-further _ _ _ _ _ _ c.as_slice.ensures.value c.self.invariant.1 c.self.invariant.2 c.line_end-more.ensures in (
      c.self.invariant.0,
      omega (arith, c.self.invariant.1, place-le is_line_feed ahead, length-drop c.self.inside.given_bytes c.self.inside.buffer),
      rw whole (none-before is_line_feed ahead),
    )

pub returns-clause-place : goal.returns-clause-place
returns-clause-place c =
    let whole = place-further is_line_feed _ _ _ _ _ c.as_slice.ensures.value c.self.invariant.1 c.self.invariant.2 c.line_end-more.ensures in
    whole ∙ ap (λ (lines : LinesValue). position_or_len is_line_feed lines.read_ahead) c.self.view_is
