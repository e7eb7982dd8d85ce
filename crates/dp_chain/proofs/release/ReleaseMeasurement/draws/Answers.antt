use Rattle.std.proofs.Common.{List, map, length, ◌≤◌, ◌^◌, sym, subst}
use Rattle.dp_chain.specs.Releases.{joined_shape}
use Rattle.dp_chain.specs.contracts.release.ReleaseMeasurement.TheImpl.Laws.{law-law}
use Rattle.dp_chain.specs.PartMeanings.{MeasuredLine, part_mechanism}
use Rattle.dp_chain.proofs.release.ReleaseMeasurement.draws.Goals as goal

pub all_draws-requires : goal.all_draws-requires
all_draws-requires c =
    subst (λ (parts : List MeasuredLine). length (joined_shape (map part_mechanism parts)) ≤ 2 ^ 40) (sym c.as_slice.ensures.value) (law-law c.args.self.now).few_draws
