-- How a step of a charge leads from one rest of the disk to the next.
use Rattle.std.proofs.Common.{◌≡◌, ℕ, false, List, refl, sym, ◌∙◌, subst, Option, Some, None, IsSome, option_map, Result, Ok, Err, OnOk, is_err}
use Rattle.std.specs.Option.{ForSome}
use Rattle.dp_ledger.specs.Disk.{put_at, Torn, Only, LeavesTorn, LeavesOnly}
use Rattle.dp_ledger.specs.Ledger.{Rests}
use Rattle.dp_ledger.specs.Steps.{Passes}
use Rattle.dp_ledger.proofs.Moments.{started, joined, weaker}

pub map_some : {A B : Type 0} (f : A → B) (o : Option A) (y : B) → option_map f o ≡ Some y → (x : A) × (o ≡ Some x) × (f x ≡ y)
map_some f None y is = absurd (cc)
map_some f (Some x) y is = (x, refl, cc)

pub some_of : {A : Type 0} (o : Option A) → IsSome o → (x : A) × (o ≡ Some x)
some_of None is = absurd (cc)
some_of (Some x) is = (x, refl)

module _ {D : Type 0} (reads : D → Option (List ℕ)) (may_leave : D → List ℕ → Type 0) (moment : D → ℕ) (left_since : D → ℕ → List ℕ → Type 0) where
  -- a write that is on the disk
  pub step_rests : (old new : D) (P Q : List ℕ → Type 0) (at : ℕ) (bytes : List ℕ) → Rests reads may_leave old P
      → reads new ≡ option_map (put_at at bytes) (reads old) → ForSome (reads new) (λ now. Only now (may_leave new))
      → ((was : List ℕ) → P was → Q (put_at at bytes was)) → Rests reads may_leave new Q
  step_rests old new P Q at bytes rests written alone leads now told =
      let was = map_some (put_at at bytes) (reads old) now (sym written ∙ told) in
      (subst Q was.2 (leads was.0 (rests was.0 was.1).0), alone now told)

  -- and a crash on the way
  pub step_passes : (old new : D) (P R : List ℕ → Type 0) (at n : ℕ) → Rests reads may_leave old P
      → LeavesOnly moment left_since old new (LeavesTorn (may_leave old) at n) → (IsSome (reads old) → IsSome (reads new))
      → ((was now : List ℕ) → P was → Torn at n was now → R now) → Passes reads moment left_since old new R
  step_passes old new P R at n rests run telling leads = record {
    telling = telling;
    any_moment = λ tells.
        let was = some_of (reads old) tells in
        let is = rests was.0 was.1 in
        weaker moment left_since old new (LeavesTorn (may_leave old) at n) R
        (λ c left. leads was.0 c is.0 (subst (λ (d : List ℕ). Torn at n d c) (is.1 left.0 left.1) left.2)) run;
  }

  -- no call
  pub still_passes : (old : D) (P R : List ℕ → Type 0) → Rests reads may_leave old P
      → ((c : List ℕ) → left_since old (moment old) c → may_leave old c) → ((was : List ℕ) → P was → R was)
      → Passes reads moment left_since old old R
  still_passes old P R rests only_now leads = record {
    telling = λ tells. tells;
    any_moment = λ tells.
        let was = some_of (reads old) tells in
        let is = rests was.0 was.1 in
        started moment left_since old R (λ c left. subst R (sym (is.1 c (only_now c left))) (leads was.0 is.0));
  }

  pub then_passes : (old mid new : D) (R : List ℕ → Type 0) → Passes reads moment left_since old mid R
      → Passes reads moment left_since mid new R → Passes reads moment left_since old new R
  then_passes old mid new R first second = record {
    telling = λ tells. second.telling (first.telling tells);
    any_moment = λ tells. joined moment left_since old mid new R (first.any_moment tells) (second.any_moment (first.telling tells));
  }

  pub weaker_passes : (old new : D) (P R : List ℕ → Type 0) → ((c : List ℕ) → P c → R c)
      → Passes reads moment left_since old new P → Passes reads moment left_since old new R
  weaker_passes old new P R less run = record { telling = run.telling; any_moment = λ tells. weaker moment left_since old new P R less (run.any_moment tells) }

-- two facts of a success give a third
pub both_ok : {T E : Type 0} {A B C : Type 0} (r : Result T E) → OnOk r A → OnOk r B → (A → B → C) → OnOk r C
both_ok (Ok x) a b f = f a b
both_ok (Err e) a b f = tt

pub at_not_err : {T E : Type 0} {A : Type 0} (r : Result T E) → is_err r ≡ false → OnOk r A → A
at_not_err (Ok x) not a = a
at_not_err (Err e) not a = absurd (cc)
