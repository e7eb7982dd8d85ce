use Rattle.std.proofs.Common.{◌≡◌, List, ℕ, ap, ◌∙◌}
use Rattle.std.specs.Prelude.{filter}
use Rattle.dp_domain.specs.declared.values.Value.TheVariants as value
use Rattle.dp_domain.specs.Distance.{text_eq}
use Rattle.dp_law.proofs.Landing.{lands_at}
use Rattle.dp_domain.specs.Users.{cell}
use Rattle.dp_rowwise.specs.Filter.{filter_mapping, filter_value}
use Rattle.dp_rowwise.specs.FilterProof.{filter_law}
use Rattle.dp_rowwise.proofs.filter.FilterTransformation.apply.Goals as goal

pub returns-clause-within : goal.returns-clause-within
returns-clause-within c =
    let t = c.args.self.now in
    let chosen = λ (text : List ℕ) (rows : List (List (List ℕ))). filter (λ cells. text_eq (cell t.column cells) text) rows in
    let same : value.Rows c.from_vec.result ≡ filter_value t.column t.text.items c.args.v.now =
    rw c.in-Rows.is (ap value.Rows (c.from_vec.ensures ∙ c.in_ok-kept.ensures ∙ ap (chosen c.as_slice-2.result.now) c.as_slice.ensures ∙ ap (λ text. chosen text c.in-Rows.rows) c.as_slice-2.ensures.value)) in
    lands_at (filter_mapping t.column t.text.items t.columns t.metric) (filter_law t.column t.text.items t.columns t.metric t.fits) c.args.v.now (value.Rows c.from_vec.result) same c.requires
