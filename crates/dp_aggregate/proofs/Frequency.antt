-- How often categories stand in the part of a list that was read.
use Rattle.std.proofs.Common.{◌≡◌, ℕ, ◌+◌, ◌≤◌, ◌<◌, ℤ, pos, List, length, get_or, set, take, inl, inr, sym, ◌∙◌, ap, arith, length-take}
use Rattle.std.specs.Prelude.{nat_eq}
use Rattle.std.proofs.lemmas.Bool.{cases_Bool}
use Rattle.std.proofs.lemmas.Bool.Decides.{Decides-eqb}
use Rattle.std.proofs.lemmas.Grind.{get_or-set_at}
use Rattle.std.proofs.lemmas.List.{get_or-set_other}
use Rattle.std.proofs.lemmas.List.Sums.{count_by-le-length, count_by_more_yes, count_by_more_no}
use Rattle.dp_domain.specs.Distance.{occurrences}

-- a category stands in the part that was read no more often than the list is long
pub occurrences-few : (xs : List ℕ) (i k : ℕ) → occurrences nat_eq (take i xs) k ≤ length xs
occurrences-few xs i k = omega (arith, count_by-le-length (nat_eq k) (take i xs), length-take i xs)

-- reading one category more adds one to its cell and to no other
pub count-more : (cells : List ℤ) (xs : List ℕ) (i n : ℕ) (v : ℤ) → i < length xs → length cells ≡ n → get_or xs i 0 < n →
    ((k : ℕ) → k < n → get_or cells k (pos 0) ≡ pos (occurrences nat_eq (take i xs) k)) → v ≡ pos (occurrences nat_eq (take i xs) (get_or xs i 0) + 1) →
    (k : ℕ) → k < n → get_or (set cells (get_or xs i 0) v) k (pos 0) ≡ pos (occurrences nat_eq (take (i + 1) xs) k)
count-more cells xs i n v h long below counted e k l =
    let x = get_or xs i 0 in
    elim (cases_Bool (nat_eq k x)) [
      | inl t ↦
          let same : k ≡ x = (Decides-eqb k x).0 t in
          let cell = get_or-set_at cells x k v (pos 0) same (omega arith) in
          let more = count_by_more_yes (nat_eq k) xs i 0 h t in
          cell ∙ e ∙ ap (λ (c : ℕ). pos (occurrences nat_eq (take i xs) c + 1)) (sym same) ∙ ap pos (sym more)
      | inr f ↦
          let other : k ≡ x → ⊥ = λ same. let t = (Decides-eqb k x).1 same in absurd cc in
          let cell = get_or-set_other cells x k v (pos 0) other in
          let more = count_by_more_no (nat_eq k) xs i 0 h f in
          cell ∙ counted k l ∙ ap pos (sym more)
    ]
