use Rattle.std.proofs.Common.{◌≡◌, List, ℕ, ap, ◌∙◌}
use Rattle.dp_domain.specs.declared.values.Value.TheVariants as value
use Rattle.dp_law.proofs.Landing.{lands_at}
use Rattle.dp_rowwise.specs.Truncate.{truncated, truncate_mapping, truncate_value}
use Rattle.dp_rowwise.specs.TruncateProof.{truncate_law}
use Rattle.dp_rowwise.proofs.truncate.TruncateTransformation.apply.Goals as goal

pub returns-clause-within : goal.returns-clause-within
returns-clause-within c =
    let t = c.args.self.now in
    let same : value.Rows c.from_vec.result ≡ truncate_value t.column t.most c.args.v.now =
    rw c.in-Rows.is (ap value.Rows (c.from_vec.ensures ∙ c.in_ok-kept.ensures ∙ ap (λ (rows : List (List (List ℕ))). truncated t.column t.most rows) c.as_slice.ensures)) in
    lands_at (truncate_mapping t.column t.most t.columns) (truncate_law t.column t.most t.columns t.fits t.within) c.args.v.now (value.Rows c.from_vec.result) same c.requires
