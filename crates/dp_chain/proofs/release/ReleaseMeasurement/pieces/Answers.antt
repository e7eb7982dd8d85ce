use Rattle.std.proofs.Common.{List, map, ◌≤◌, ◌^◌, sym, subst}
use Rattle.dp_chain.specs.Releases.{all_pieces}
use Rattle.dp_chain.specs.contracts.release.ReleaseMeasurement.TheImpl.Laws.{law-law}
use Rattle.dp_chain.specs.PartMeanings.{MeasuredLine, part_mechanism}
use Rattle.dp_chain.proofs.release.ReleaseMeasurement.pieces.Goals as goal

pub all_pieces-requires : goal.all_pieces-requires
all_pieces-requires c =
    subst (λ (parts : List MeasuredLine). all_pieces (map part_mechanism parts) ≤ 2 ^ 31) (sym c.as_slice.ensures.value) (law-law c.args.self.now).few_pieces
