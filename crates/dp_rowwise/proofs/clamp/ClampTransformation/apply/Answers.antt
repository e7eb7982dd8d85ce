use Rattle.std.proofs.Common.{◌≡◌, map, ap, ◌∙◌}
use Rattle.dp_domain.specs.declared.values.Value.TheVariants as value
use Rattle.dp_domain.specs.Ranges.{clamped}
use Rattle.dp_law.proofs.Landing.{lands_at}
use Rattle.dp_rowwise.specs.Clamp.{clamp_mapping, clamp_value}
use Rattle.dp_rowwise.specs.ClampProof.{clamp_law}
use Rattle.dp_rowwise.proofs.clamp.ClampTransformation.apply.Goals as goal

pub returns-clause-within : goal.returns-clause-within
returns-clause-within c =
    let t = c.args.self.now in
    let same : value.Ints c.from_vec.result ≡ clamp_value t.lo t.hi c.args.v.now = rw c.in-Ints.is (ap value.Ints (c.from_vec.ensures ∙ c.in_ok-clamp_all.ensures ∙ ap (map (clamped t.lo t.hi)) c.as_slice.ensures)) in
    lands_at (clamp_mapping t.lo t.hi t.from_lo t.from_hi t.size) (clamp_law t.lo t.hi t.from_lo t.from_hi t.size t.input_fits t.output_fits) c.args.v.now (value.Ints c.from_vec.result) same c.requires
