-- What is known of a pipeline that a text spells: its numbers are bounded, and the release of each plan has 1 to 16 parts.
use Rattle.std.proofs.Common.{◌≡◌, ℕ, ◌≤◌, ◌<◌, ◌^◌, Bool, true, false, cond, Option, Some, None, IfSome, Result, Ok, Err, List, [], ◌∷◌, length, ok_or, codes, bytes_eq, refl, sym, subst, ◌∙◌}
use Rattle.std.proofs.lemmas.List.Quantifiers.{position-Some}
use Rattle.std.specs.Prelude.{nat_le}
use Rattle.serde_json.specs.Data.{Data}
use Rattle.serde_json.specs.Find.{as_bool, as_number, as_u64}
use Rattle.dp_num.specs.Limits.{capped}
use Rattle.dp_law.proofs.Caps.{capped-le}
use Rattle.dp_budget.specs.declared.budget.Rule.{Rule}
use Rattle.dp_budget.specs.declared.budget.Rule.TheVariants as rule
use Rattle.dp_domain.specs.Distance.{text_eq}
use Rattle.dp_pipeline.specs.declared.content.Content.{Content}
use Rattle.dp_pipeline.specs.declared.plan.Plan.{Plan}
use Rattle.dp_pipeline.specs.Accepted.{accepted, is_in_range, plans_made, ratio_of, root_place, size_refused, text_refused, form_refused, range_refused, IsLimit, IsBounded, IsAccepted}
use Rattle.dp_pipeline.specs.Contents.{content_of, member_by, member_names, pair_of, plans_at, plans_in, user_at, siblings_at, has_only}
use Rattle.dp_pipeline.specs.Json.{json_of, array_of, object_of, list_of, count_of, text_of, member_at}
use Rattle.dp_pipeline.specs.RootForms.{rule_by, rule_of}
use Rattle.dp_pipeline.specs.StageForms.{spec_of, column_of, place_of, one, bare, after_word}
use Rattle.dp_pipeline.proofs.Spellings.{step, passed, mapped, AreFew, spec-few}

-- ---- numbers

count-le : (d : Data) (n : ℕ) → count_of d ≡ Some n → n ≤ 2 ^ 32
unfolding count_of
count-le d n h =
    let number = step (as_number d) _ n h in
    let whole = step (as_u64 number.0) capped n number.2 in
    capped-le whole.0 n whole.2

member-count : (name : List ℕ) (d : Data) (n : ℕ) → member_by count_of name d ≡ Some n → n ≤ 2 ^ 32
member-count name d n h = let there = step (member_at name d) count_of n h in count-le there.0 n there.2

-- ---- rules

compositor-limit : (args : List Data) (r : Rule) → one (list_of count_of) rule.Compositor args ≡ Some r → IsLimit r
compositor-limit [] r h = absurd cc
compositor-limit (x ∷ []) r h = let mids = mapped rule.Compositor (list_of count_of x) r h in rw (← mids.2) tt
compositor-limit (x ∷ y ∷ rest) r h = absurd cc

filter-limit : (args : List Data) (r : Rule) → one count_of rule.Filter args ≡ Some r → IsLimit r
filter-limit [] r h = absurd cc
filter-limit (x ∷ []) r h = let limit = mapped rule.Filter (count_of x) r h in rw (← limit.2) (count-le x limit.0 limit.1)
filter-limit (x ∷ y ∷ rest) r h = absurd cc

odometer-limit : (args : List Data) (r : Rule) → bare rule.Odometer args ≡ Some r → IsLimit r
odometer-limit [] r h = let same : rule.Odometer ≡ r = cc in rw (← same) tt
odometer-limit (x ∷ rest) r h = absurd cc

word-limit : (word : List ℕ) (args : List Data) (r : Rule) → rule_by word args ≡ Some r → IsLimit r
unfolding rule_by
word-limit word args r h = go (bytes_eq word (codes "compositor")) (bytes_eq word (codes "filter")) (bytes_eq word (codes "odometer")) h
  where
    go : (first second third : Bool) → cond first (one (list_of count_of) rule.Compositor args) (cond second (one count_of rule.Filter args) (cond third (bare rule.Odometer args) None)) ≡ Some r → IsLimit r
    go true second third e = compositor-limit args r e
    go false true third e = filter-limit args r e
    go false false true e = odometer-limit args r e
    go false false false e = absurd cc

after-limit : (items : List Data) (r : Rule) → after_word rule_by items ≡ Some r → IsLimit r
after-limit [] r h = absurd cc
after-limit (first ∷ args) r h = let word = step (text_of first) (λ word. rule_by word args) r h in word-limit word.0 args r word.2

rule-limit : (d : Data) (r : Rule) → rule_of d ≡ Some r → IsLimit r
unfolding rule_of
rule-limit d r h = let items = step (array_of d) (after_word rule_by) r h in after-limit items.0 r items.2

-- ---- columns

column-inside : (columns : List (List ℕ)) (d : Data) (k : ℕ) → column_of columns d ≡ Some k → k < length columns
unfolding column_of
column-inside columns d k h =
    let name = step (text_of d) (place_of columns) k h in
    (position-Some (text_eq name.0) columns k [] name.2).0

user-inside : (columns : List (List ℕ)) (o : Option Data) (user : Option ℕ) → user_at columns o ≡ Some user → IfSome user (λ column. column < length columns)
user-inside columns None user h = let same : ◌≡◌ {A = Option ℕ} None user = cc in subst (λ (o : Option ℕ). IfSome o (λ column. column < length columns)) same tt
user-inside columns (Some d) user h =
    let column = mapped (λ (k : ℕ). Some k) (column_of columns d) user h in rw (← column.2) (column-inside columns d column.0 column.1)

-- ---- plans

named-few : (columns : List (List ℕ)) (members : List (List ℕ × Data)) (plans : List Plan) → plans_in columns members ≡ Some plans → AreFew plans
unfolding plans_in
named-few columns [] plans h = let same : ◌≡◌ {A = List Plan} [] plans = cc in subst AreFew same tt
named-few columns (named ∷ rest) plans h =
    let spec = step (spec_of columns named.1) _ plans h in
    let others = step (plans_in columns rest) _ plans spec.2 in
    let same : ◌≡◌ {A = List Plan} (record { name = named.0; spec = spec.0 } ∷ others.0) plans = cc (others.2) in
    subst AreFew same (spec-few columns named.1 spec.0 spec.1, named-few columns rest others.0 others.1)

plans-few : (columns : List (List ℕ)) (o : Option Data) (plans : List Plan) → plans_at columns o ≡ Some plans → AreFew plans
plans-few columns None plans h = let same : ◌≡◌ {A = List Plan} [] plans = cc in subst AreFew same tt
plans-few columns (Some d) plans h =
    let members = step (object_of d) (plans_in columns) plans h in named-few columns members.0 plans members.2

-- ---- contents

-- what is known of a pipeline's content
pub record IsSpelled (content : Content) : Type 0 where
  pub bounded : IsBounded content
  pub few : AreFew content.plans

content-spelled : (d : Data) (content : Content) → content_of d ≡ Some content → IsSpelled content
unfolding content_of
content-spelled d content h =
    let version = step (member_by count_of (codes "version") d) _ content h in
    let columns = step (member_by (list_of text_of) (codes "columns") d) _ content version.2 in
    let header = step (member_by as_bool (codes "header") d) _ content columns.2 in
    let ratio = step (member_by pair_of (codes "ratio") d) _ content header.2 in
    let distance = step (member_by count_of (codes "distance") d) _ content ratio.2 in
    let root = step (member_by rule_of (codes "root") d) _ content distance.2 in
    let plans = step (plans_at columns.0 (member_at (codes "plans") d)) _ content root.2 in
    let user = step (user_at columns.0 (member_at (codes "user") d)) _ content plans.2 in
    let kept = step (siblings_at version.0 (member_at (codes "siblings") d)) _ content user.2 in
    let same = passed (has_only member_names d) _ content kept.2 in
    let there = step (member_at (codes "root") d) rule_of root.0 root.1 in
    subst IsSpelled same.1 (record {
      bounded = record {
        distance = member-count (codes "distance") d distance.0 distance.1;
        limit = rule-limit there.0 root.0 there.2;
        user = user-inside columns.0 (member_at (codes "user") d) user.0 user.1;
      };
      few = plans-few columns.0 (member_at (codes "plans") d) plans.0 plans.1;
    })

-- ---- texts

-- the next step of a result
abbrev and_then : {A B E : Type 0} → Result A E → (A → Result B E) → Result B E
and_then (Ok a) f = f a
and_then (Err e) f = Err e

pub after : {A B E : Type 0} (r : Result A E) (f : A → Result B E) (b : B) → and_then r f ≡ Ok b → (a : A) × (r ≡ Ok a) × (f a ≡ Ok b)
after (Ok a) f b h = (a, refl, h)
after (Err e) f b h = absurd cc

kept-where : {A E : Type 0} (test : Bool) (x y : A) (e : E) → cond test (Ok x) (Err e) ≡ Ok y → (test ≡ true) × (x ≡ y)
kept-where true x y e h = (refl, cc)
kept-where false x y e h = absurd cc

was-there : {A E : Type 0} (o : Option A) (e : E) (x : A) → ok_or o e ≡ Ok x → o ≡ Some x
was-there None e x h = absurd cc
was-there (Some y) e x h = cc

-- a text that is accepted
pub record IsTextOf (content : Content) : Type 0 where
  pub accepted : IsAccepted content (ratio_of content)
  pub few : AreFew content.plans

text-of : (spelled ranged content : Content) → is_in_range spelled ≡ true → IsSpelled spelled → spelled ≡ ranged → plans_made (ratio_of ranged) (root_place ranged) ranged.plans ≡ Ok tt → ◌≡◌ {A = Result Content ℕ} (Ok ranged) (Ok content) → IsTextOf content
text-of spelled ranged content in_range known kept made other =
    let same : ranged ≡ content = cc in
    subst IsTextOf (kept ∙ same) (record {
      accepted = record {
        in_range = in_range;
        bounded = known.bounded;
        made = subst (λ (c : Content). plans_made (ratio_of c) (root_place c) c.plans ≡ Ok tt) (sym kept) made;
        ratio_is = refl;
      };
      few = known.few;
    })

pub accepted-content : (bytes : List ℕ) (content : Content) → accepted bytes ≡ Ok content → IsTextOf content
unfolding accepted
accepted-content bytes content h =
    let text = after (cond (nat_le (length bytes) (2 ^ 20)) (Ok bytes) (Err size_refused)) _ content h in
    let d = after (ok_or (json_of text.0) text_refused) _ content text.2 in
    let spelled = after (ok_or (content_of d.0) form_refused) _ content d.2 in
    let ranged = after (cond (is_in_range spelled.0) (Ok spelled.0) (Err range_refused)) _ content spelled.2 in
    let made = after (plans_made (ratio_of ranged.0) (root_place ranged.0) ranged.0.plans) _ content ranged.2 in
    let in_range = kept-where (is_in_range spelled.0) spelled.0 ranged.0 range_refused ranged.1 in
    let known = content-spelled d.0 spelled.0 (was-there (content_of d.0) form_refused spelled.0 spelled.1) in
    text-of spelled.0 ranged.0 content in_range.0 known in_range.1 made.1 made.2
