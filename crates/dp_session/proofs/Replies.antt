-- The test of equality tells equal replies from different ones.
use Rattle.std.proofs.Common.{◌≡◌, ℕ, ◌&&◌, ap, refl}
use Rattle.std.specs.Prelude.{Decides, nat_eq}
use Rattle.std.proofs.lemmas.Bool.{and_parts}
use Rattle.dp_domain.proofs.Equality.{nat_eq-decides}
use Rattle.dp_law.proofs.Equality.{same_answer-decides}
use Rattle.dp_budget.specs.declared.over.Over.{Over}
use Rattle.dp_session.specs.declared.refusal.Refusal.{Refusal}
use Rattle.dp_session.specs.declared.refusal.Refusal.TheVariants as refusal
use Rattle.dp_session.specs.Runs.{Reply, Refused, Opened, Answered, same_refusal, same_reply}

-- two numbers that are the same as two others
pair : (a b c d : ℕ) → Decides (nat_eq a c && nat_eq b d) ((a ≡ c) × (b ≡ d))
pair a b c d =
    let one = nat_eq-decides a c in
    let other = nat_eq-decides b d in
    (λ h. let both = and_parts (nat_eq a c) (nat_eq b d) h in (one.0 both.0, other.0 both.1), λ (e : (a ≡ c) × (b ≡ d)). rw (one.1 e.0, other.1 e.1) refl)

over-is : (a b : Over) → a.cost ≡ b.cost → a.left ≡ b.left → a ≡ b
over-is a b c l = whole a.cost b.cost a.left b.left c l
  where
    whole : (c d l m : ℕ) → c ≡ d → l ≡ m
        → ◌≡◌ {A = Over} (record { cost = c; left = l }) (record { cost = d; left = m })
    whole c d l m p q = cc

pub same_refusal-decides : (x y : Refusal) → Decides (same_refusal x y) (x ≡ y)
same_refusal-decides refusal.Malformed refusal.Malformed = (λ h. refl, λ h. refl)
same_refusal-decides refusal.NoNode refusal.NoNode = (λ h. refl, λ h. refl)
same_refusal-decides (refusal.Frozen a b) (refusal.Frozen c d) =
    let told = pair a b c d in (λ h. let e = told.0 h in let f = e.0 in let g = e.1 in cc, λ (e : refusal.Frozen a b ≡ refusal.Frozen c d). told.1 (cc, cc))
same_refusal-decides (refusal.Construction a) (refusal.Construction b) =
    let told = nat_eq-decides a b in (λ h. ap refusal.Construction (told.0 h), λ (e : refusal.Construction a ≡ refusal.Construction b). told.1 (cc))
same_refusal-decides refusal.Depth refusal.Depth = (λ h. refl, λ h. refl)
same_refusal-decides (refusal.ChildDistance a) (refusal.ChildDistance b) =
    let told = nat_eq-decides a b in (λ h. ap refusal.ChildDistance (told.0 h), λ (e : refusal.ChildDistance a ≡ refusal.ChildDistance b). told.1 (cc))
same_refusal-decides (refusal.Budget a) (refusal.Budget b) =
    let told = pair a.cost a.left b.cost b.left in
    (λ h. let e = told.0 h in ap refusal.Budget (over-is a b e.0 e.1), λ (e : refusal.Budget a ≡ refusal.Budget b). let same : a ≡ b = cc in told.1 (ap (λ (o : Over). o.cost) same, ap (λ (o : Over). o.left) same))
same_refusal-decides x y = (λ h. absurd (cc), λ h. absurd (cc))

pub same_reply-decides : (x y : Reply) → Decides (same_reply x y) (x ≡ y)
same_reply-decides (Refused a) (Refused b) =
    let told = same_refusal-decides a b in (λ h. ap Refused (told.0 h), λ (e : Refused a ≡ Refused b). told.1 (cc))
same_reply-decides Opened Opened = (λ h. refl, λ h. refl)
same_reply-decides (Answered a) (Answered b) =
    let told = same_answer-decides a b in (λ h. ap Answered (told.0 h), λ (e : Answered a ≡ Answered b). told.1 (cc))
same_reply-decides x y = (λ h. absurd (cc), λ h. absurd (cc))
