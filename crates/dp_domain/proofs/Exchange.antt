-- The exchange law: putting one element into a list, at any place, replaces at most one of its first n elements.
use Rattle.std.proofs.Common.{◌≡◌, ℕ, suc, ◌+◌, ◌-◌, ◌≤◌, ◌<◌, Bool, List, [], ◌∷◌, ◌++◌, length, take, get_or, inl, inr, sym, ◌∙◌, ap, arith}
use Rattle.std.specs.Prelude.{Decides}
use Rattle.std.proofs.Math.Seq.{take-suc, take-append-add}
use Rattle.std.proofs.lemmas.Bool.{cases_lt}
use Rattle.std.proofs.lemmas.List.{take-append-le}
use Rattle.std.proofs.lemmas.List.Sorted.{IsPermutation-refl}
use Rattle.dp_domain.specs.Distance.{diff}
use Rattle.dp_domain.proofs.Occurrences.{occurrences-cons, occurrences-append}
use Rattle.dp_domain.proofs.Distance.{diff-le-parts, diff-order}

module _ {E : Type 0} (same : E → E → Bool) (told : (x y : E) → Decides (same x y) (x ≡ y)) where
  one-replaced : (before middle : List E) (gone put : E) → diff same (before ++ (middle ++ gone ∷ [])) (before ++ put ∷ middle) ≤ 2
  one-replaced before middle gone put =
      diff-le-parts same told (before ++ (middle ++ gone ∷ [])) (before ++ put ∷ middle) (before ++ middle) (gone ∷ []) (put ∷ [])
      (λ e.
      let a = occurrences-append same before (middle ++ gone ∷ []) e in
      let b = occurrences-append same middle (gone ∷ []) e in
      let c = occurrences-append same before middle e in
      omega arith)
      (λ e.
      let a = occurrences-append same before (put ∷ middle) e in
      let b = occurrences-cons same put middle e in
      let c = occurrences-append same before middle e in
      let d = occurrences-cons same put [] e in
      omega arith)

  exchange-after : (before after : List E) (put : E) (k n : ℕ) → n ≡ length before + suc k → k < length after → diff same (take n (before ++ after)) (take n (before ++ put ∷ after)) ≤ 2
  exchange-after before after put k n e h =
      let last = get_or after k put in
      let left : take n (before ++ after) ≡ before ++ (take k after ++ last ∷ []) = ap (λ (m : ℕ). take m (before ++ after)) e ∙ take-append-add before after (suc k) ∙ ap (λ (l : List E). before ++ l) (take-suc after k put h) in
      let right : take n (before ++ put ∷ after) ≡ before ++ put ∷ take k after = ap (λ (m : ℕ). take m (before ++ put ∷ after)) e ∙ take-append-add before (put ∷ after) (suc k) in
      rw (left, right) (one-replaced before (take k after) last put)

  -- order plays no part
  pub exchange : (n : ℕ) (before after : List E) (put : E) → n ≤ length before + length after → diff same (take n (before ++ after)) (take n (before ++ put ∷ after)) ≤ 2
  exchange n before after put h = elim (cases_lt (length before) n) [
    | inl past ↦ exchange-after before after put (n - suc (length before)) n (omega arith) (omega arith)
    | inr within ↦
        let equal : take n (before ++ after) ≡ take n (before ++ put ∷ after) = take-append-le n before after within ∙ sym (take-append-le n before (put ∷ after) within) in
        let none = diff-order same told (take n (before ++ after)) (take n (before ++ after)) (IsPermutation-refl (take n (before ++ after))) in
        rw (← equal) (omega arith)
  ]
