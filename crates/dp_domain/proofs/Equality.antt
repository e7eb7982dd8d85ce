-- Each test of equality tells equal elements from different ones.
use Rattle.std.proofs.Common.{◌≡◌, ℕ, ℤ, Bool, List, Option, Some, None, refl, ap}
use Rattle.std.specs.Prelude.{Decides, nat_eq}
use Rattle.std.specs.Ordering.{int_eq}
use Rattle.std.specs.Option.{option_eq}
use Rattle.std.specs.Cmp.Lexicographic.{pointwise_decides}
use Rattle.std.proofs.lemmas.Bool.Decides.{Decides-eqb, Decides-int_eq}
use Rattle.dp_domain.specs.Distance.{text_eq, record_eq, opt_int_eq}

pub nat_eq-decides : (x y : ℕ) → Decides (nat_eq x y) (x ≡ y)
nat_eq-decides = Decides-eqb

pub int_eq-decides : (x y : ℤ) → Decides (int_eq x y) (x ≡ y)
int_eq-decides = Decides-int_eq

pub text_eq-decides : (x y : List ℕ) → Decides (text_eq x y) (x ≡ y)
text_eq-decides = pointwise_decides nat_eq-decides

pub record_eq-decides : (x y : List (List ℕ)) → Decides (record_eq x y) (x ≡ y)
record_eq-decides = pointwise_decides text_eq-decides

some-is : {T : Type 0} → T → Option T → T
some-is d None = d
some-is d (Some x) = x

pub option_eq-decides : {T : Type 0} {same : T → T → Bool} → ((x y : T) → Decides (same x y) (x ≡ y)) → (x y : Option T) → Decides (option_eq same x y) (x ≡ y)
unfolding some-is
option_eq-decides told None None = (λ _. refl, λ _. refl)
option_eq-decides told None (Some y) = (λ h. absurd cc, λ h. absurd cc)
option_eq-decides told (Some x) None = (λ h. absurd cc, λ h. absurd cc)
option_eq-decides told (Some x) (Some y) = (λ h. ap Some ((told x y).0 h), λ h. (told x y).1 (ap (some-is x) h))

pub opt_int_eq-decides : (x y : Option ℤ) → Decides (opt_int_eq x y) (x ≡ y)
opt_int_eq-decides = option_eq-decides int_eq-decides
