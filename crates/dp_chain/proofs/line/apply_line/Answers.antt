use Rattle.std.proofs.Common.{◌≡◌, ◌-◌, ◌∙◌, map, take, drop, length, sym, subst}
use Rattle.std.proofs.lemmas.Result.{IfOk-weaker}
use Rattle.dp_domain.specs.declared.values.Value.{Value}
use Rattle.dp_chain.specs.Lines.{Runs, line_value}
use Rattle.dp_chain.specs.contracts.any_transformation.AnyTransformationTransformation.TheImpl.{mapping-value}
use Rattle.dp_chain.proofs.LineSteps.{first-runs, first-value, none-value}
use Rattle.dp_chain.proofs.line.apply_line.Goals as goal

pub apply-requires : goal.apply-requires
apply-requires c =
    (first-runs mapping-value.it c.args.stages.now c.first-item.result c.args.v.now c.in-len1-up.len_at_least c.first-item.is c.requires).0

pub apply_all-requires : goal.apply_all-requires
apply_all-requires c =
    let xs = c.args.stages.now in
    subst (λ (w : Value). Runs (map mapping-value.it (take (length xs - 1) (drop 1 xs))) w) (sym c.in_ok-apply-in-len1-up.ensures.value)
    (first-runs mapping-value.it xs c.first-item.result c.args.v.now c.in-len1-up.len_at_least c.first-item.is c.requires).1

pub returns-in-empty : goal.returns-in-empty
returns-in-empty c =
    IfOk-weaker c.copy.result (λ w. w ≡ c.args.v.now) (λ w. w ≡ line_value (map mapping-value.it c.args.stages.now) c.args.v.now)
    (λ w same. same ∙ none-value mapping-value.it c.args.stages.now c.args.v.now c.in-empty.len_below) c.copy.ensures

pub returns-in_ok-apply-in-len1-up : goal.returns-in_ok-apply-in-len1-up
returns-in_ok-apply-in-len1-up c =
    let xs = c.args.stages.now in
    IfOk-weaker c.apply_all.result (λ w. w ≡ line_value (map mapping-value.it (take (length xs - 1) (drop 1 xs))) c.in_ok-apply-in-len1-up.field-0)
    (λ w. w ≡ line_value (map mapping-value.it xs) c.args.v.now)
    (λ w same. same ∙ first-value mapping-value.it xs c.first-item.result c.args.v.now c.in_ok-apply-in-len1-up.field-0
    c.in-len1-up.len_at_least c.first-item.is c.in_ok-apply-in-len1-up.ensures.value) c.apply_all.ensures
