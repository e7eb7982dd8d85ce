-- Values, stability maps and refusals of small examples, computed.
use Rattle.std.proofs.Common.{◌≡◌, ◌*◌, ◌-◌, ◌^◌, false, pos, negsuc, [], ◌∷◌, Some, None, Err, refl}
use Rattle.std.specs.Int.{div_ceil}
use Rattle.dp_num.specs.Limits.{capped}
use Rattle.dp_domain.specs.declared.domains.Domain.TheVariants as domain
use Rattle.dp_domain.specs.declared.metrics.Metric.TheVariants as metrics
use Rattle.dp_domain.specs.Sums.{int_sum}
use Rattle.dp_law.specs.declared.refusals.Refused.TheVariants as refused
use Rattle.dp_aggregate.specs.Count.{count_from}
use Rattle.dp_domain.specs.Edges.{edges_at_most, is_rising}
use Rattle.dp_aggregate.specs.Histogram.{histogram, histogram_factor}
use Rattle.dp_aggregate.specs.Quantise.{quantised}
use Rattle.dp_aggregate.specs.Resize.{in_order, resized, resize_from}
use Rattle.dp_aggregate.specs.Sum.{sum_factor, sum_low}

cut : resized 2 (pos 0) (pos 9 ∷ pos 3 ∷ pos 7 ∷ []) ≡ pos 3 ∷ pos 7 ∷ []
unfolding resized in_order
cut = refl

filled_up : resized 5 (pos 0) (pos 9 ∷ pos 3 ∷ pos 7 ∷ []) ≡ pos 3 ∷ pos 7 ∷ pos 9 ∷ pos 0 ∷ pos 0 ∷ []
unfolding resized in_order
filled_up = refl

nothing_to_cut : resized 2 (negsuc 0) [] ≡ negsuc 0 ∷ negsuc 0 ∷ []
unfolding resized in_order
nothing_to_cut = refl

rounded_down : quantised 3 (negsuc 6) ≡ negsuc 2
rounded_down = refl

rounded_up : capped (div_ceil 4 3) ≡ Some 2
rounded_up = refl

no_edge_reached : edges_at_most (pos 2 ∷ pos 5 ∷ []) (pos 1) ≡ 0
no_edge_reached = refl

an_edge_reached_exactly : edges_at_most (pos 2 ∷ pos 5 ∷ []) (pos 2) ≡ 1
an_edge_reached_exactly = refl

all_edges_at_most : edges_at_most (pos 2 ∷ pos 5 ∷ []) (pos 5) ≡ 2
all_edges_at_most = refl

edges_that_stand_still : is_rising (pos 2 ∷ pos 2 ∷ []) ≡ false
edges_that_stand_still = refl

an_empty_category : histogram 3 (0 ∷ 2 ∷ 0 ∷ []) ≡ pos 2 ∷ pos 0 ∷ pos 1 ∷ []
unfolding histogram
an_empty_category = refl

a_changed_element_counts_twice : capped (histogram_factor (Some 4) * 2) ≡ Some 4
a_changed_element_counts_twice = refl

a_negative_sum : int_sum (pos 3 ∷ negsuc 6 ∷ []) ≡ negsuc 3
a_negative_sum = refl

by_the_greatest_absolute_bound : capped (2 * sum_factor (negsuc 4) (pos 10) None) ≡ Some 20
by_the_greatest_absolute_bound = refl

by_the_range : capped (1 * sum_factor (negsuc 4) (pos 10) (Some 4)) ≡ Some 15
by_the_range = refl

past_the_limit : capped (2 * sum_factor (negsuc (2 ^ 31 - 1)) (pos (2 ^ 31)) (Some 4)) ≡ None
past_the_limit = refl

no_less_than_zero : sum_low (pos 3) None ≡ pos 0
no_less_than_zero = refl

as_many_as_the_size : sum_low (negsuc 4) (Some 4) ≡ negsuc 19
as_many_as_the_size = refl

the_kind_first : resize_from 0 (pos 0) (domain.Int (pos 0) (pos 9)) metrics.L1 ≡ Err refused.Kind
the_kind_first = refl

then_the_metric : resize_from 0 (pos 0) (domain.Ints (pos 0) (pos 9) None) metrics.L1 ≡ Err refused.Metric
then_the_metric = refl

then_the_size : resize_from 0 (pos 0) (domain.Ints (pos 0) (pos 9) None) metrics.Symmetric ≡ Err refused.Bound
then_the_size = refl

a_list_with_a_size_is_not_counted : count_from (domain.Cats 3 (Some 4)) metrics.ChangeOne ≡ Err refused.Metric
a_list_with_a_size_is_not_counted = refl
