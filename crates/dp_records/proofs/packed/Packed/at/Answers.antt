use Rattle.std.proofs.Common.{◌≡◌, length, sym, ap, ◌∙◌, arith}
use Rattle.csv.proofs.RecordFacts.{cut-length}
use Rattle.dp_records.proofs.packed.Packed.at.Goals as goal

pub text_at-requires-clause-within : goal.text_at-requires-clause-within
text_at-requires-clause-within c =
    let size : length c.args.self.now ≡ length c.self.inside.ends.items =
    ap length (sym c.self.view_is) ∙ cut-length 0 c.self.inside.ends.items c.self.inside.bytes.items in
    rw c.as_slice.ensures.value (omega (arith, size, c.requires))
