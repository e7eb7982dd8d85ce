use Rattle.std.proofs.Common.{◌≡◌, ap, ◌∙◌}
use Rattle.std.specs.Prelude.{filter_map}
use Rattle.dp_domain.specs.declared.values.Value.TheVariants as value
use Rattle.dp_law.proofs.Landing.{lands_at}
use Rattle.dp_rowwise.specs.DropNone.{drop_none_mapping, drop_none_value}
use Rattle.dp_rowwise.specs.DropNoneProof.{drop_none_law}
use Rattle.dp_rowwise.proofs.drop_none.DropNoneTransformation.apply.Goals as goal

pub returns-clause-within : goal.returns-clause-within
returns-clause-within c =
    let t = c.args.self.now in
    let same : value.Ints c.from_vec.result ≡ drop_none_value c.args.v.now =
    rw c.in-OptInts.is (ap value.Ints (c.from_vec.ensures ∙ c.in_ok-present.ensures ∙ ap (filter_map (λ x. x)) c.as_slice.ensures)) in
    lands_at (drop_none_mapping t.lo t.hi) (drop_none_law t.lo t.hi t.fits) c.args.v.now (value.Ints c.from_vec.result) same c.requires
