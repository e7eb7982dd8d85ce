-- What an image's total is, by its two slots.
use Rattle.std.proofs.Common.{◌≡◌, inl, inr, ℕ, ◌<◌, ◌≤◌, ◌^◌, ◌==◌, ◌&&◌, Bool, true, false, List, length, refl, sym, ◌∙◌, ap, max, Option, Some, None, nat_lt, nat_le, cond, arith}
use Rattle.std.proofs.lemmas.Bool.Decides.{nat_tests}
use Rattle.std.proofs.lemmas.Bool.{cases_Bool}
use Rattle.dp_num.specs.declared.ratio.Ratio.{Ratio}
use Rattle.dp_ledger.specs.declared.image.Entry.{Entry}
use Rattle.dp_ledger.specs.declared.slot.Slot.{Slot}
use Rattle.dp_ledger.specs.declared.slot.Slot.TheVariants.{First, Second}
use Rattle.dp_ledger.specs.Image.{entry_at, other, is_of, is_open, counted, greatest, current_of, ledger_total, current_slot}

-- a total that is not above t, where there is one
abbrev pub AtMost : ℕ → Option ℕ → Type 0
AtMost t None = Unit {0}
AtMost t (Some u) = u ≤ t

pub at_most_of : (o : Option ℕ) (s t : ℕ) → o ≡ Some s → s ≤ t → AtMost t o
at_most_of None s t is le = tt
at_most_of (Some u) s t is le =
    let same : u ≡ s = cc in
    omega arith

pub counted_small : (e : Entry) → AtMost (2 ^ 32) (counted e)
unfolding counted
counted_small e = small (is_open e) (nat_le e.total (2 ^ 32)) e.total (λ h. grind (arith, nat_tests))
  where
    small : (a b : Bool) (t : ℕ) → (b ≡ true → t ≤ 2 ^ 32) → AtMost (2 ^ 32) (cond (a && b) (Some t) None)
    small true true t h = h refl
    small true false t h = tt
    small false b t h = tt

-- what counts is by the gate's being open, and the total
pub counted_same : (e f : Entry) → is_open e ≡ is_open f → e.total ≡ f.total → counted e ≡ counted f
unfolding counted
counted_same e f gates totals = λ i. cond (gates i && nat_le (totals i) (2 ^ 32)) (Some (totals i)) None

-- what counts has an open gate
pub counts_open : (e : Entry) (t : ℕ) → counted e ≡ Some t → is_open e ≡ true
unfolding counted
counts_open e t counts = elim (cases_Bool (is_open e)) [
  | inl was_open ↦ was_open
  | inr was_shut ↦ let wrong : None ≡ Some t = sym (ap (λ (b : Bool). cond (b && nat_le e.total (2 ^ 32)) (Some e.total) None) was_shut) ∙ counts in absurd (cc)
]

-- a closed slot does not count
pub shut_none : (e : Entry) → is_open e ≡ false → counted e ≡ None
unfolding counted
shut_none e shut = ap (λ (b : Bool). cond (b && nat_le e.total (2 ^ 32)) (Some e.total) None) shut

-- an open one with a small total does
pub open_counts : (e : Entry) → is_open e ≡ true → e.total ≤ 2 ^ 32 → counted e ≡ Some e.total
unfolding counted
open_counts e is small =
    let fits : nat_le e.total (2 ^ 32) ≡ true = grind (arith, nat_tests) in
    λ i. cond (is i && fits i) (Some e.total) None

greatest_of : (a b : Option ℕ) (t : ℕ) → a ≡ Some t → AtMost t b → greatest a b ≡ Some t
greatest_of None b t is le = cc
greatest_of (Some a) None t is le = is
greatest_of (Some a) (Some b) t is le =
    let same : a ≡ t = cc in
    let m : max a b ≡ t = omega arith in
    ap Some m

greatest_of_right : (a b : Option ℕ) (t : ℕ) → b ≡ Some t → AtMost t a → greatest a b ≡ Some t
greatest_of_right None b t is le = is
greatest_of_right (Some a) None t is le = cc
greatest_of_right (Some a) (Some b) t is le =
    let same : b ≡ t = cc in
    let m : max a b ≡ t = omega arith in
    ap Some m

-- an image of which one slot counts with t, and the other with no more
pub total_is : (ratio : Ratio) (slot : Slot) (content : List ℕ) (t : ℕ) → is_of ratio content ≡ true → counted (entry_at slot content) ≡ Some t → AtMost t (counted (entry_at (other slot) content)) → ledger_total ratio content ≡ Some t
unfolding ledger_total
total_is ratio First content t of counts le = (λ i. cond (of i) (greatest (counted (entry_at First content)) (counted (entry_at Second content))) None) ∙ greatest_of _ _ t counts le
total_is ratio Second content t of counts le = (λ i. cond (of i) (greatest (counted (entry_at First content)) (counted (entry_at Second content))) None) ∙ greatest_of_right _ _ t counts le

-- of two slots that count the current one is that with the greater total
current_first : (a b : Option ℕ) (t : ℕ) → a ≡ Some t → AtMost t b → current_of a b ≡ First
current_first None b t is le = cc
current_first (Some a) None t is le = refl
current_first (Some a) (Some b) t is le =
    let same : a ≡ t = cc in
    let not : nat_lt a b ≡ false = grind (arith, nat_tests) in
    ap (λ (c : Bool). cond c Second First) not

current_second : (a b : Option ℕ) (s t : ℕ) → b ≡ Some t → a ≡ Some s → s < t → current_of a b ≡ Second
current_second None b s t is was lt = cc
current_second (Some a) None s t is was lt = cc
current_second (Some a) (Some b) s t is was lt =
    let same : b ≡ t = cc in
    let first : a ≡ s = cc in
    let less : nat_lt a b ≡ true = grind (arith, nat_tests) in
    ap (λ (c : Bool). cond c Second First) less

pub current_is : (slot : Slot) (content : List ℕ) (s t : ℕ) → counted (entry_at slot content) ≡ Some t → counted (entry_at (other slot) content) ≡ Some s → s < t → current_slot content ≡ slot
unfolding current_slot
current_is First content s t counts less lt = current_first _ _ t counts (at_most_of _ s t less (omega arith))
current_is Second content s t counts less lt = current_second _ _ s t counts less lt

-- what a ledger's total says of both slots
pub record Parts (ratio : Ratio) (slot : Slot) (content : List ℕ) (t : ℕ) : Type 0 where
  pub of_ratio : is_of ratio content ≡ true
  pub counts : counted (entry_at slot content) ≡ Some t
  pub no_more : AtMost t (counted (entry_at (other slot) content))

-- which of two slots is current, by their totals
PartsOf : Slot → Option ℕ → Option ℕ → ℕ → Type 0
PartsOf First a b t = (a ≡ Some t) × AtMost t b
PartsOf Second a b t = (b ≡ Some t) × AtMost t a

parts_of : (a b : Option ℕ) (slot : Slot) (t : ℕ) → greatest a b ≡ Some t → current_of a b ≡ slot → PartsOf slot a b t
unfolding PartsOf
parts_of None None slot t is current = absurd (cc)
parts_of None (Some b) First t is current = absurd (cc)
parts_of None (Some b) Second t is current = (is, tt)
parts_of (Some a) None First t is current = (is, tt)
parts_of (Some a) None Second t is current = absurd (cc)
parts_of (Some a) (Some b) First t is current =
    let m : max a b ≡ t = cc in
    elim (cases_Bool (nat_lt a b)) [
      | inl less ↦ let wrong : Second ≡ First = sym (ap (λ (c : Bool). cond c Second First) less) ∙ current in absurd (cc)
      | inr not ↦ let le : b ≤ a = grind (arith, nat_tests) in let same : a ≡ t = omega arith in (ap Some same, omega arith)
    ]
parts_of (Some a) (Some b) Second t is current =
    let m : max a b ≡ t = cc in
    elim (cases_Bool (nat_lt a b)) [
      | inl less ↦ let lt : a < b = grind (arith, nat_tests) in let same : b ≡ t = omega arith in (ap Some same, omega arith)
      | inr not ↦ let wrong : First ≡ Second = sym (ap (λ (c : Bool). cond c Second First) not) ∙ current in absurd (cc)
    ]

of_true : (b : Bool) (o : Option ℕ) (t : ℕ) → cond b o None ≡ Some t → (b ≡ true) × (o ≡ Some t)
of_true true o t is = (refl, is)
of_true false o t is = absurd (cc)

pub parts : (ratio : Ratio) (slot : Slot) (content : List ℕ) (t : ℕ) → ledger_total ratio content ≡ Some t → current_slot content ≡ slot → Parts ratio slot content t
unfolding ledger_total current_slot PartsOf
parts ratio First content t total current =
    let whole = of_true (is_of ratio content) _ t total in
    let slots = parts_of _ _ First t whole.1 current in
    record { of_ratio = whole.0; counts = slots.0; no_more = slots.1 }
parts ratio Second content t total current =
    let whole = of_true (is_of ratio content) _ t total in
    let slots = parts_of _ _ Second t whole.1 current in
    record { of_ratio = whole.0; counts = slots.0; no_more = slots.1 }

-- an image has 26 bytes
first_true : (a b c : Bool) → (a && b && c) ≡ true → a ≡ true
first_true true b c is = refl
first_true false b c is = absurd (cc)

pub size_of : (ratio : Ratio) (content : List ℕ) → is_of ratio content ≡ true → length content ≡ 26
unfolding is_of
size_of ratio content is =
    let first = first_true (length content == 26) _ _ is in
    grind (arith, nat_tests)

-- a ledger's total is small
pub total_small : (ratio : Ratio) (content : List ℕ) (t : ℕ) → ledger_total ratio content ≡ Some t → t ≤ 2 ^ 32
total_small ratio content t total =
    let p = parts ratio (current_slot content) content t total refl in
    small _ p.counts (counted_small (entry_at (current_slot content) content))
  where
    small : (o : Option ℕ) → o ≡ Some t → AtMost (2 ^ 32) o → t ≤ 2 ^ 32
    small None is le = absurd (cc)
    small (Some u) is le =
        let same : u ≡ t = cc in
        omega arith
