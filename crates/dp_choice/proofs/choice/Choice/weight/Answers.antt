use Rattle.std.proofs.Common.{List, ℕ, length, ap, ◌∙◌, arith, w64}
use Rattle.std.proofs.lemmas.Int.{to_z-of_z}
use Rattle.std.specs.Prelude.{nat_abs, ◌-ℤ◌, slice_index}
use Rattle.dp_choice.specs.Weights.{weight, score, first_weight}
use Rattle.dp_choice.specs.Parts.{numbers_of}
use Rattle.dp_choice.proofs.Tables.{table-length, table-at}
use Rattle.dp_choice.proofs.choice.Choice.weight.Goals as goal

pub entry-requires : goal.entry-requires
entry-requires c =
    let s = c.args.self.now in
    let long = ap length (c.deref.ensures.value ∙ s.table_is) ∙ table-length first_weight s.low s.high (nat_abs (s.top -ℤ s.floor)) in
    omega (arith, long, c.score.ensures.few)

pub returns : goal.returns
returns c =
    let s = c.args.self.now in
    record {
      value = c.entry.ensures ∙ ap (λ (t : List ℕ). slice_index t c.score.result) (c.deref.ensures.value ∙ s.table_is)
          ∙ table-at first_weight s.low s.high (nat_abs (s.top -ℤ s.floor)) c.score.result c.score.ensures.few
          ∙ ap (weight first_weight s.low s.high) (c.score.ensures.value ∙ ap (score (numbers_of s)) (to_z-of_z w64 c.args.cell c.ranges.cell));
    }
