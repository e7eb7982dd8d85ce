-- What a torn write and a whole one leave of a content's bytes.
use Rattle.std.proofs.Common.{◌≡◌, ℕ, ◌+◌, ◌-◌, ◌<◌, ◌≤◌, min, List, length, get_or, take, drop, sym, ◌∙◌, ap, subst, arith}
use Rattle.std.proofs.lemmas.List.{take-take, drop-take, drop-drop, get_or-take, get_or-drop}
use Rattle.dp_ledger.specs.Disk.{Torn}

-- a range inside the content: the bytes outside of it stay
module _ (at n : ℕ) (was now : List ℕ) (inside : at + n ≤ length was) (torn : Torn at n was now) where
  pub same_length : length now ≡ length was
  same_length = omega (arith, torn.no_shorter, torn.no_longer)

  front : take at now ≡ take at was
  front =
      let e : min at (length was) ≡ at = omega arith in
      subst (λ (k : ℕ). take k now ≡ take k was) e torn.before

  pub below : (f m : ℕ) → f + m ≤ at → take m (drop f now) ≡ take m (drop f was)
  below f m le =
      sym (drop-take f m now)
      ∙ ap (λ (l : List ℕ). drop f l) (sym (take-take (f + m) at now le) ∙ ap (λ (l : List ℕ). take (f + m) l) front ∙ take-take (f + m) at was le)
      ∙ drop-take f m was

  pub above : (f : ℕ) → at + n ≤ f → drop f now ≡ drop f was
  above f le =
      let e : at + n + (f - (at + n)) ≡ f = omega arith in
      subst (λ (k : ℕ). drop k now ≡ drop k was) e
      (sym (drop-drop (f - (at + n)) (at + n) now) ∙ ap (λ (l : List ℕ). drop (f - (at + n)) l) torn.after ∙ drop-drop (f - (at + n)) (at + n) was)

  pub byte_below : (i : ℕ) → i < at → get_or now i 0 ≡ get_or was i 0
  byte_below i lt = sym (get_or-take at now i 0 lt) ∙ ap (λ (l : List ℕ). get_or l i 0) front ∙ get_or-take at was i 0 lt

  pub byte_above : (i : ℕ) → at + n ≤ i → get_or now i 0 ≡ get_or was i 0
  byte_above i le =
      let e : at + n + (i - (at + n)) ≡ i = omega arith in
      subst (λ (k : ℕ). get_or now k 0 ≡ get_or was k 0) e
      (sym (get_or-drop (at + n) now (i - (at + n)) 0) ∙ ap (λ (l : List ℕ). get_or l (i - (at + n)) 0) torn.after ∙ get_or-drop (at + n) was (i - (at + n)) 0)
