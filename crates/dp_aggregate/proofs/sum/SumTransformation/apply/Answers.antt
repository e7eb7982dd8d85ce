use Rattle.std.proofs.Common.{◌≡◌, ap, ◌∙◌, rules, w64}
use Rattle.std.proofs.lemmas.Int.{to_z-of_z}
use Rattle.std.specs.Int.RustNames.{FitsSigned}
use Rattle.dp_domain.specs.Sums.{int_sum}
use Rattle.dp_domain.specs.declared.values.Value.TheVariants as value
use Rattle.dp_law.proofs.Landing.{lands_at}
use Rattle.dp_aggregate.specs.Sum.{sum_mapping, sum_value}
use Rattle.dp_aggregate.specs.SumProof.{sum_law}
use Rattle.dp_aggregate.proofs.sum.SumTransformation.apply.Goals as goal

pub returns-clause-within : goal.returns-clause-within
returns-clause-within c =
    let t = c.args.self.now in
    let fits : FitsSigned w64 c.add_all.result = search rules in
    let same : value.Int c.add_all.result ≡ sum_value c.args.v.now = rw c.in-Ints.is (ap value.Int (c.add_all.ensures ∙ ap int_sum c.as_slice.ensures)) in
    simp to_z-of_z (lands_at (sum_mapping t.lo t.hi t.size) (sum_law t.lo t.hi t.size t.input_fits) c.args.v.now (value.Int c.add_all.result) same c.requires)
