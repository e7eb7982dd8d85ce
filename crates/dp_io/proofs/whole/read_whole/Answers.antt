use Rattle.std.proofs.Common.{rules}
use Rattle.dp_io.specs.Shelf.{KeepsRest}
use Rattle.dp_io.proofs.Pieces.{KeepsRest-more}
use Rattle.dp_io.proofs.whole.read_whole.Goals as goal

pub returns-then-n-limit-clause-rest : goal.returns-then-n-limit-clause-rest
returns-then-n-limit-clause-rest g c = KeepsRest-more _ _ _ _ _ _ c.pieces.invariant.6 c.in_ok-n.ensures.takes

pub returns-in_err-extend_from_slice-clause-rest : goal.returns-in_err-extend_from_slice-clause-rest
returns-in_err-extend_from_slice-clause-rest g c =
    let kept : KeepsRest (g.S.Shelf.left c.args.shelf.now c.args.slot) (g.S.Shelf.left c.read.new.self c.args.slot) =
    KeepsRest-more _ _ _ _ _ _ c.pieces.invariant.6 c.in_ok-n.ensures.takes in
    search (rules, kept)
