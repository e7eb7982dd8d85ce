use Rattle.std.proofs.Common.{◌≡◌, map, ap, ◌∙◌}
use Rattle.dp_domain.specs.declared.values.Value.TheVariants as value
use Rattle.dp_law.proofs.Landing.{lands_at}
use Rattle.dp_rowwise.specs.Categories.{place_in, categories_mapping, categories_value}
use Rattle.dp_rowwise.specs.CategoriesProof.{categories_law}
use Rattle.dp_rowwise.proofs.categories.CategoriesTransformation.apply.Goals as goal

pub returns-clause-within : goal.returns-clause-within
returns-clause-within c =
    let t = c.args.self.now in
    let same : value.Cats c.from_vec.result ≡ categories_value t.table c.args.v.now =
    rw c.in-Texts.is (ap value.Cats (c.from_vec.ensures ∙ c.in_ok-numbers.ensures ∙ ap (map (place_in t.table)) c.as_slice.ensures)) in
    lands_at (categories_mapping t.table) (categories_law t.table t.fits) c.args.v.now (value.Cats c.from_vec.result) same c.requires
