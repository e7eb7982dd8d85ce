use Rattle.std.proofs.Common.{◌≡◌, ap, ◌∙◌}
use Rattle.dp_domain.specs.declared.values.Value.TheVariants as value
use Rattle.dp_law.proofs.Landing.{lands_at}
use Rattle.dp_aggregate.specs.Histogram.{histogram, histogram_mapping, histogram_value}
use Rattle.dp_aggregate.specs.HistogramProof.{histogram_law}
use Rattle.dp_aggregate.proofs.histogram.HistogramTransformation.apply.Goals as goal

pub returns-clause-within : goal.returns-clause-within
returns-clause-within c =
    let t = c.args.self.now in
    let same : value.IntVec c.from_vec.result ≡ histogram_value t.n c.args.v.now = rw c.in-Cats.is (ap value.IntVec (c.from_vec.ensures ∙ c.in_ok-count_each.ensures ∙ ap (histogram t.n) c.as_slice.ensures)) in
    lands_at (histogram_mapping t.n t.size) (histogram_law t.n t.size t.input_fits) c.args.v.now (value.IntVec c.from_vec.result) same c.requires
