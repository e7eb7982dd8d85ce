-- The numbers of a pipeline at which the ratio is met with nothing to spare.
use Rattle.std.proofs.Common.{◌≡◌, ℕ, pos, List, [], ◌∷◌, Some, None, refl, arith}
use Rattle.dp_count.specs.DrawLists.{count, sum_below}
use Rattle.dp_count.specs.Ratios.{KeepsRatio}
use Rattle.dp_count.specs.Slots.{joined_shape, replies}
use Rattle.dp_num.specs.Limits.{powers}
use Rattle.dp_domain.specs.Distance.{diff, distinct}
use Rattle.dp_domain.specs.Users.{distance}
use Rattle.dp_chain.specs.Lines.{stages_on, line_value, line_map, end_domain, end_metric}
use Rattle.dp_chain.specs.Releases as releases
use Rattle.dp_chain.specs.Releases.{part_on, parts_on, joined_answer, all_pieces, total_loss}
use Rattle.dp_chain.specs.Stages.{stage_on, noise_on}
use Rattle.dp_geometric.specs.OneCell.{cell_out}
use Rattle.dp_pipeline.specs.declared.query.Query.TheVariants as query
use Rattle.dp_pipeline.specs.Queries.{query_of}
use Rattle.dp_session.specs.PrivacyEdges.{EdgeLaw, counting, counted, one_record, none_ways, one_ways, answered}
use Rattle.dp_session.specs.Runs.{query_slots, value_at, run_ways}
use Rattle.dp_session.specs.Verdicts.{ask_on, granted, units}

edge-units : (line : List ℕ) → query_of counting line ≡ Some (query.Ask 0 counted) → units counting (line ∷ []) ≡ 1
unfolding granted ask_on stages_on line_value line_map end_domain end_metric part_on parts_on releases.joined_shape joined_answer all_pieces total_loss stage_on noise_on powers
edge-units line h = rw h refl

edge-apart : distance None [] one_record ≡ 1
unfolding diff distinct
edge-apart = refl

edge-none : (line : List ℕ) → query_of counting line ≡ Some (query.Ask 0 counted)
    → none_ways line (answered (pos 0) ∷ []) ≡ 4
unfolding granted ask_on stages_on line_value line_map end_domain end_metric part_on parts_on releases.joined_shape joined_answer all_pieces total_loss stage_on noise_on powers run_ways query_slots value_at joined_shape replies count sum_below cell_out
edge-none line h = rw h refl

edge-one : (line : List ℕ) → query_of counting line ≡ Some (query.Ask 0 counted)
    → one_ways line (answered (pos 0) ∷ []) ≡ 2
unfolding granted ask_on stages_on line_value line_map end_domain end_metric part_on parts_on releases.joined_shape joined_answer all_pieces total_loss stage_on noise_on powers run_ways query_slots value_at joined_shape replies count sum_below cell_out
edge-one line h = rw h refl

edge-two : (line : List ℕ) → query_of counting line ≡ Some (query.Ask 0 counted)
    → none_ways line (answered (pos 0) ∷ answered (pos 0) ∷ []) ≡ 0
unfolding granted ask_on stages_on line_value line_map end_domain end_metric part_on parts_on releases.joined_shape joined_answer all_pieces total_loss stage_on noise_on powers run_ways query_slots value_at joined_shape replies count sum_below cell_out
edge-two line h = rw h refl

pub edge-law : EdgeLaw
edge-law line h =
    let none = edge-none line h in
    let one = edge-one line h in
    (edge-units line h, edge-apart, none, one, rw (none, one) refl, λ (keeps : KeepsRatio 1 2 0 (none_ways line (answered (pos 0) ∷ [])) (one_ways line (answered (pos 0) ∷ []))). omega (arith, none, one, keeps), edge-two line h)
