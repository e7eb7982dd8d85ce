use Rattle.std.proofs.Common.{◌≡◌, ap, ◌∙◌}
use Rattle.dp_domain.specs.declared.values.Value.TheVariants as value
use Rattle.dp_law.proofs.Landing.{lands_at}
use Rattle.dp_aggregate.specs.Resize.{resized, resize_mapping, resize_value}
use Rattle.dp_aggregate.specs.ResizeProof.{resize_law}
use Rattle.dp_aggregate.proofs.resize.ResizeTransformation.apply.Goals as goal

pub returns-clause-within : goal.returns-clause-within
returns-clause-within c =
    let t = c.args.self.now in
    let same : value.Ints c.from_vec.result ≡ resize_value t.size t.fill c.args.v.now = rw c.in-Ints.is (ap value.Ints (c.from_vec.ensures ∙ c.in_ok-least.ensures ∙ ap (resized t.size t.fill) c.as_slice.ensures)) in
    lands_at (resize_mapping t.lo t.hi t.size t.fill) (resize_law t.lo t.hi t.size t.fill t.input_fits t.size_fits) c.args.v.now (value.Ints c.from_vec.result) same c.requires
