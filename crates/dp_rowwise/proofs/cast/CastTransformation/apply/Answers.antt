use Rattle.std.proofs.Common.{◌≡◌, map, ap, ◌∙◌}
use Rattle.dp_domain.specs.declared.values.Value.TheVariants as value
use Rattle.dp_law.proofs.Landing.{lands_at}
use Rattle.dp_rowwise.specs.Cast.{cast, cast_mapping, cast_value}
use Rattle.dp_rowwise.specs.CastProof.{cast_law}
use Rattle.dp_rowwise.proofs.cast.CastTransformation.apply.Goals as goal

pub returns-clause-within : goal.returns-clause-within
returns-clause-within c =
    let same : value.OptInts c.from_vec.result ≡ cast_value c.args.v.now =
    rw c.in-Texts.is (ap value.OptInts (c.from_vec.ensures ∙ c.in_ok-numbers.ensures ∙ ap (map cast) c.as_slice.ensures)) in
    lands_at cast_mapping cast_law c.args.v.now (value.OptInts c.from_vec.result) same c.requires
