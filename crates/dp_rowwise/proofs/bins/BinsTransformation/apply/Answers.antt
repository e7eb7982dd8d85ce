use Rattle.std.proofs.Common.{◌≡◌, ℤ, List, map, ap, ◌∙◌}
use Rattle.dp_domain.specs.declared.values.Value.TheVariants as value
use Rattle.dp_domain.specs.Edges.{edges_at_most}
use Rattle.dp_law.proofs.Landing.{lands_at}
use Rattle.dp_rowwise.specs.Bins.{bins_mapping, bins_value}
use Rattle.dp_rowwise.specs.BinsProof.{bins_law}
use Rattle.dp_rowwise.proofs.bins.BinsTransformation.apply.Goals as goal

pub returns-clause-within : goal.returns-clause-within
returns-clause-within c =
    let t = c.args.self.now in
    let binned = λ (edges xs : List ℤ). map (edges_at_most edges) xs in
    let same : value.Cats c.from_vec.result ≡ bins_value t.edges.items c.args.v.now =
    rw c.in-Ints.is (ap value.Cats (c.from_vec.ensures ∙ c.in_ok-bins.ensures ∙ ap (binned c.as_slice.result.now) c.as_slice-2.ensures ∙ ap (λ edges. binned edges c.in-Ints.numbers) c.as_slice.ensures.value)) in
    lands_at (bins_mapping t.edges.items t.lo t.hi t.size) (bins_law t.edges.items t.lo t.hi t.size t.input_fits t.output_fits) c.args.v.now (value.Cats c.from_vec.result) same c.requires
