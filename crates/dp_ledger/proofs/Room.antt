-- Bytes that are written over a content that was filled up with zeros are put there.
use Rattle.std.proofs.Common.{◌≡◌, inl, inr, ℕ, ◌+◌, ◌-◌, ◌≤◌, max, List, ◌++◌, length, take, drop, replicate, sym, ◌∙◌, ap, subst, arith, length-append}
use Rattle.std.proofs.lemmas.Bool.{cases_lt}
use Rattle.std.proofs.lemmas.List.{append-nil, length-replicate, take_all, drop_all, take-append-le, take-replicate}
use Rattle.std.proofs.Math.Seq.{take-append-add}
use Rattle.dp_ledger.specs.Disk.{put_at}

-- the front of a list that is filled up, where it ends in what was there, and behind it
front_inside : (was : List ℕ) (at k : ℕ) → at ≤ length was → take at (was ++ replicate k 0) ≡ take at was ++ replicate (at - length was) 0
front_inside was at k inside =
    let none : at - length was ≡ 0 = omega arith in
    take-append-le at was (replicate k 0) inside ∙ sym (append-nil (take at was)) ∙ ap (λ (n : ℕ). take at was ++ replicate n 0) (sym none)

front_past : (was : List ℕ) (n k : ℕ) → n ≤ k → take (length was + n) (was ++ replicate k 0) ≡ take (length was + n) was ++ replicate n 0
front_past was n k le =
    take-append-add was (replicate k 0) n
    ∙ ap (λ (l : List ℕ). was ++ l) (take-replicate n k 0 le)
    ∙ ap (λ (l : List ℕ). l ++ replicate n 0) (sym (take_all (length was + n) was (omega arith)))

front : (was : List ℕ) (at k : ℕ) → at - length was ≤ k → take at (was ++ replicate k 0) ≡ take at was ++ replicate (at - length was) 0
front was at k le = elim (cases_lt (length was) at) [
  | inl past ↦
      let sum : length was + (at - length was) ≡ at = omega arith in
      subst (λ (m : ℕ). take m (was ++ replicate k 0) ≡ take m was ++ replicate (at - length was) 0) sum (front_past was (at - length was) k le)
  | inr inside ↦ front_inside was at k inside
]

back : (was : List ℕ) (m k : ℕ) → k ≤ m - length was → drop m (was ++ replicate k 0) ≡ drop m was
back was m k le = elim (cases_lt (length was) m) [
  | inr inside ↦
      let none : k ≡ 0 = omega arith in
      ap (λ (n : ℕ). drop m (was ++ replicate n 0)) none ∙ ap (λ (l : List ℕ). drop m l) (append-nil was)
  | inl past ↦
      drop_all m (was ++ replicate k 0) (omega (arith, length-append was (replicate k 0), length-replicate {A = ℕ} k 0))
      ∙ sym (drop_all m was (omega arith))
]

pub put_in_room : (at : ℕ) (bytes was : List ℕ) (filled : List ℕ) → filled ≡ take (max (length was) (at + length bytes)) was ++ replicate (max (length was) (at + length bytes) - length was) 0 → take at filled ++ bytes ++ drop (at + length bytes) filled ≡ put_at at bytes was
unfolding put_at
put_in_room at bytes was filled is =
    let k = max (length was) (at + length bytes) - length was in
    let s : filled ≡ was ++ replicate k 0 = is ∙ ap (λ (l : List ℕ). l ++ replicate k 0) (take_all _ was (omega arith)) in
    (λ i. take at (s i) ++ bytes ++ drop (at + length bytes) (s i))
    ∙ (λ i. front was at k (omega arith) i ++ bytes ++ back was (at + length bytes) k (omega arith) i)
