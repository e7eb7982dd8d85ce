use Rattle.std.proofs.Common.{◌≡◌, ℕ, suc, ◌+◌, ◌-◌, ◌<◌, ◌≤◌, arith, sym, ◌∙◌, List, Option, Some, slice_get, slice_index}
use Rattle.dp_num.specs.declared.trail.Link.{Link}
use Rattle.dp_tree.specs.declared.faults.FindFault.{FindFault}
use Rattle.dp_tree.specs.declared.faults.FindFault.TheVariants.{Frozen}
use Rattle.dp_tree.specs.Lists.{frozen_from}
use Rattle.dp_tree.proofs.Lists.{frozen-here, frozen-on, parent-inside}
use Rattle.dp_tree.proofs.walk.nearest_frozen.Goals as goal

left : (depth level : ℕ) → level < depth → depth - level ≡ suc (depth - (level + 1))
left depth level h = omega arith

ends : (names : List ℕ) (links : List Link) (i rest more at : ℕ) (link up : Link) (whole : Option FindFault) → rest ≡ suc more → slice_get links at ≡ Some link → slice_get links link.parent ≡ Some up → i < up.last → frozen_from names links i rest at ≡ whole → Some (Frozen (slice_index names link.parent) up.last) ≡ whole
ends names links i rest more at link up whole e h k later w = sym (frozen-here names links i rest more at link up e h k later) ∙ w

goes-on : (names : List ℕ) (links : List Link) (i rest more at : ℕ) (link up : Link) (whole : Option FindFault) → rest ≡ suc more → slice_get links at ≡ Some link → slice_get links link.parent ≡ Some up → up.last ≤ i → frozen_from names links i rest at ≡ whole → frozen_from names links i more link.parent ≡ whole
goes-on names links i rest more at link up whole e h k earlier w = sym (frozen-on names links i rest more at link up e h k earlier) ∙ w

pub returns-then-from-node-clause-told : goal.returns-then-from-node-clause-told
returns-then-from-node-clause-told g c =
    let at = c.loop-level in
    let later : c.args.node < c.at-link-in-loop-level.result.last = let t = c.if-from-node.true in let e = c.from.ensures in omega (arith, t, e) in
    ends c.args.numbers.now c.args.trail.now.links c.args.node (c.args.depth - at._level) (c.args.depth - (at._level + 1)) at.at at.link c.at-link-in-loop-level.result
    (frozen_from c.args.numbers.now c.args.trail.now.links c.args.node c.args.depth c.args.place)
    (left c.args.depth at._level c.loop-level-test.true) at.invariant.link c.at-link-in-loop-level.ensures.link later at.invariant.left

pub loop-level-preserved : goal.loop-level-preserved
loop-level-preserved g c =
    let at = c.loop-level in
    let earlier : c.at-link-in-loop-level.result.last ≤ c.args.node = let t = c.if-from-node.false in let e = c.from.ensures in omega (arith, t, e) in
    let inside = parent-inside c.args.trail.now.links at.at at.link c.requires.inside (let w = at.invariant.within in let m = c.requires.as_many in omega (arith, w, m)) at.invariant.link in
    let same = c.requires.as_many in
    let step = c.at-link-in-loop-level.ensures.one_step in
    let steps = at.invariant.steps in
    record {
      within = omega (arith, inside, same);
      link = c.at-link-in-loop-level.ensures.link;
      left = goes-on c.args.numbers.now c.args.trail.now.links c.args.node (c.args.depth - at._level) (c.args.depth - (at._level + 1)) at.at at.link c.at-link-in-loop-level.result
          (frozen_from c.args.numbers.now c.args.trail.now.links c.args.node c.args.depth c.args.place)
          (left c.args.depth at._level c.loop-level-test.true) at.invariant.link c.at-link-in-loop-level.ensures.link earlier at.invariant.left;
      steps = omega (arith, step, steps);
    }
