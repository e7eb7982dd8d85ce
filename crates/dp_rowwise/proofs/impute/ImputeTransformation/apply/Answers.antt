use Rattle.std.proofs.Common.{◌≡◌, map, ap, ◌∙◌}
use Rattle.std.specs.Prelude.{unwrap_or}
use Rattle.dp_domain.specs.declared.values.Value.TheVariants as value
use Rattle.dp_law.proofs.Landing.{lands_at}
use Rattle.dp_rowwise.specs.Impute.{impute_mapping, impute_value}
use Rattle.dp_rowwise.specs.ImputeProof.{impute_law}
use Rattle.dp_rowwise.proofs.impute.ImputeTransformation.apply.Goals as goal

pub returns-clause-within : goal.returns-clause-within
returns-clause-within c =
    let t = c.args.self.now in
    let same : value.Ints c.from_vec.result ≡ impute_value t.value c.args.v.now =
    rw c.in-OptInts.is (ap value.Ints (c.from_vec.ensures ∙ c.in_ok-imputed.ensures ∙ ap (map (λ x. unwrap_or x t.value)) c.as_slice.ensures)) in
    lands_at (impute_mapping t.value t.lo t.hi) (impute_law t.value t.lo t.hi t.fits t.between) c.args.v.now (value.Ints c.from_vec.result) same c.requires
