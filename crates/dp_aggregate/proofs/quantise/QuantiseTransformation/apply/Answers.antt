use Rattle.std.proofs.Common.{◌≡◌, ap, rules, w64}
use Rattle.std.proofs.lemmas.Int.{to_z-of_z}
use Rattle.std.specs.Int.RustNames.{FitsSigned}
use Rattle.dp_domain.specs.declared.values.Value.TheVariants as value
use Rattle.dp_law.proofs.Landing.{lands_at}
use Rattle.dp_aggregate.specs.Quantise.{quantise_mapping, quantise_value}
use Rattle.dp_aggregate.specs.QuantiseProof.{quantise_law}
use Rattle.dp_aggregate.proofs.quantise.QuantiseTransformation.apply.Goals as goal

pub returns-clause-within : goal.returns-clause-within
returns-clause-within c =
    let t = c.args.self.now in
    let fits : FitsSigned w64 c.quantised.result = search rules in
    let same : value.Int c.quantised.result ≡ quantise_value t.step c.args.v.now = rw c.in-Int.is (ap value.Int c.quantised.ensures) in
    simp to_z-of_z (lands_at (quantise_mapping t.lo t.hi t.step) (quantise_law t.lo t.hi t.step t.input_fits t.step_fits) c.args.v.now (value.Int c.quantised.result) same c.requires)
