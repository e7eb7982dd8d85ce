use Rattle.std.proofs.Common.{◌≡◌, ◌≤◌, ◌+◌, ◌*◌, ◌++◌, length, ap, ◌∙◌, refl, arith, add-one}
use Rattle.std.proofs.Math.Nat.{mul-le-mul}
use Rattle.dp_geometric.specs.OneCell.{width, cell_shape}
use Rattle.dp_geometric.specs.Geometric.{cells_shape}
use Rattle.dp_geometric.specs.Parts.{cell_of}
use Rattle.dp_geometric.specs.GeometricProof.{length-cell, length-cells, narrow-width}
use Rattle.dp_geometric.proofs.VectorSteps.{cells_shape-last}
use Rattle.dp_geometric.proofs.geometric.cells_shape.Goals as goal

pub loop-turn-init : goal.loop-turn-init
unfolding cells_shape
loop-turn-init c = c.new-shape.ensures

pub join-requires : goal.join-requires
join-requires c =
    let cell = cell_of c.args.cell.now in
    let n = c.loop-turn._turn in
    let narrow : width cell ≤ 65535 = narrow-width cell c.args.cell.now.ordered c.args.cell.now.narrow in
    let wide : 1 + width cell ≤ 65536 = omega arith in
    let turns : n ≤ 1024 = omega (arith, c.loop-turn-test.true, c.requires) in
    let most : n * (1 + width cell) ≤ 1024 * 65536 = mul-le-mul turns wide in
    let front : length c.loop-turn.shape ≡ n * (1 + width cell) = ap length c.loop-turn.invariant ∙ length-cells n cell in
    let back : length c.in_ok-one.one ≡ 1 + width cell = ap length c.in_ok-one.ensures ∙ length-cell cell in
    omega arith

pub loop-turn-preserved : goal.loop-turn-preserved
loop-turn-preserved c =
    let cell = cell_of c.args.cell.now in
    let n = c.loop-turn._turn in
    let joined = c.in_ok-join.ensures.ok in
    let same : c.loop-turn.shape ++ c.in_ok-one.one ≡ cells_shape n cell ++ cell_shape cell = rw (c.loop-turn.invariant, c.in_ok-one.ensures) refl in
    rw add-one (joined ∙ same ∙ cells_shape-last n cell)
