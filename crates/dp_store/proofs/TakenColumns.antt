-- Transformations of a line over a store's records take records of its columns.
use Rattle.std.proofs.Common.{ℕ, List, [], ◌∷◌, map, sym, subst}
use Rattle.std.proofs.lemmas.List.Elements.{All-cons, All-nil}
use Rattle.dp_domain.specs.declared.domains.Domain.{Domain}
use Rattle.dp_domain.specs.declared.metrics.Metric.{Metric}
use Rattle.dp_chain.specs.Lines.{AreJoined}
use Rattle.dp_chain.specs.declared.any_transformation.AnyTransformation.{AnyTransformation}
use Rattle.dp_chain.specs.declared.any_transformation.AnyTransformation.TheVariants as any
use Rattle.dp_chain.specs.contracts.any_transformation.AnyTransformationTransformation.TheImpl.{ghosts as stage_ghosts}
use Rattle.dp_store.specs.Taken.{IsOfColumns, TakesColumns, AllTakeColumns}

-- what takes records of so many cells gives such records, or none
gives-columns : (columns : ℕ) (t : AnyTransformation) → TakesColumns columns t → IsOfColumns columns (stage_ghosts.mapping t).output_domain
gives-columns columns (any.Filter t) h = h
gives-columns columns (any.Truncate t) h = h
gives-columns columns t h = tt

pub joined-columns : (columns : ℕ) (domain : Domain) (metric : Metric) (stages : List AnyTransformation) → IsOfColumns columns domain
    → AreJoined domain metric (map stage_ghosts.mapping stages) → AllTakeColumns columns stages
unfolding AreJoined
joined-columns columns domain metric [] h joined = All-nil (TakesColumns columns)
joined-columns columns domain metric (t ∷ ts) h joined =
    let m = stage_ghosts.mapping t in
    let here : TakesColumns columns t = subst (λ (d : Domain). IsOfColumns columns d) (sym joined.0) h in
    let there = joined-columns columns m.output_domain m.output_metric ts (gives-columns columns t here) joined.2 in
    All-cons (TakesColumns columns) t ts here there
