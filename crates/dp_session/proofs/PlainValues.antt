-- A line that takes no records gives none.
use Rattle.std.proofs.Common.{◌≡◌, Bool, true, false, List, [], ◌∷◌, map, refl, sym, ◌∙◌, ap, subst}
use Rattle.dp_domain.specs.declared.domains.Domain.{Domain}
use Rattle.dp_domain.specs.declared.domains.Domain.TheVariants as domain
use Rattle.dp_domain.specs.declared.metrics.Metric.{Metric}
use Rattle.dp_domain.specs.declared.values.Value.{Value}
use Rattle.dp_domain.specs.declared.values.Value.TheVariants as value
use Rattle.dp_domain.specs.Domains.{Has}
use Rattle.dp_chain.specs.declared.any_transformation.AnyTransformation.{AnyTransformation}
use Rattle.dp_chain.specs.declared.any_transformation.AnyTransformation.TheVariants as any
use Rattle.dp_chain.specs.declared.line.Line.{Line}
use Rattle.dp_chain.specs.contracts.any_transformation.AnyTransformationTransformation.TheImpl.{ghosts as stage_ghosts}
use Rattle.dp_chain.specs.contracts.line.LineTransformation.TheImpl.{ghosts as line_ghosts}
use Rattle.dp_chain.specs.contracts.line.LineTransformation.TheImpl.Laws.{law-law as line_law}
use Rattle.dp_chain.specs.Lines.{AreJoined, end_domain}
use Rattle.dp_store.specs.Held.{is_rows}

-- the domain is one of records
abbrev is_record_domain : Domain → Bool
is_record_domain (domain.Rows columns) = true
is_record_domain d = false

kind-is : (d : Domain) (v : Value) → Has d v → is_rows v ≡ is_record_domain d
kind-is (domain.Rows columns) (value.Rows rows) h = refl
kind-is domain.Texts (value.Texts xs) h = refl
kind-is (domain.OptInts lo hi) (value.OptInts xs) h = refl
kind-is (domain.Ints lo hi size) (value.Ints xs) h = refl
kind-is (domain.Cats n size) (value.Cats xs) h = refl
kind-is (domain.Int lo hi) (value.Int x) h = refl
kind-is (domain.Cat n) (value.Cat x) h = refl
kind-is (domain.IntVec len lo hi) (value.IntVec xs) h = refl
kind-is d v h = absurd h

gives-none : (t : AnyTransformation) → is_record_domain (stage_ghosts.mapping t).input_domain ≡ false → is_record_domain (stage_ghosts.mapping t).output_domain ≡ false
gives-none (any.Filter t) h = absurd cc
gives-none (any.Truncate t) h = absurd cc
gives-none t h = refl

ends-none : (d : Domain) (m : Metric) (stages : List AnyTransformation) → AreJoined d m (map stage_ghosts.mapping stages) → is_record_domain d ≡ false
    → is_record_domain (end_domain d (map stage_ghosts.mapping stages)) ≡ false
unfolding AreJoined end_domain
ends-none d m [] joined h = h
ends-none d m (t ∷ ts) joined h =
    let here : is_record_domain (stage_ghosts.mapping t).input_domain ≡ false = subst (λ (x : Domain). is_record_domain x ≡ false) (sym joined.0) h in
    ends-none (stage_ghosts.mapping t).output_domain (stage_ghosts.mapping t).output_metric ts joined.2 (gives-none t here)

pub plain-stays : (line : Line) (v w : Value) → is_rows v ≡ false → Has (line_ghosts.mapping line).input_domain v → w ≡ (line_ghosts.mapping line).function v → is_rows w ≡ false
plain-stays line v w plain has is =
    let none : is_record_domain line.domain ≡ false = sym (kind-is line.domain v has) ∙ plain in
    let lands : Has (line_ghosts.mapping line).output_domain ((line_ghosts.mapping line).function v) = (line_law line).lands v has in
    ap is_rows is ∙ kind-is (line_ghosts.mapping line).output_domain ((line_ghosts.mapping line).function v) lands ∙ ends-none line.domain line.metric line.stages.items line.joined none
