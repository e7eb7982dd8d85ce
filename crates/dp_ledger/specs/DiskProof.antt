-- Proofs on bytes that are put at a place.
use Rattle.std.proofs.Common.{◌≡◌, ℕ, ◌+◌, ◌-◌, min, max, List, [], ◌∷◌, ◌++◌, length, get_or, take, drop, replicate, refl, sym, ◌∙◌, ap, arith, append_assoc, length-append, length-take, length-drop}
use Rattle.std.proofs.lemmas.List.{length-replicate, take_at, drop_at, take_min, get_or_at}
use Rattle.dp_ledger.specs.Disk.{put_at, Torn}

-- nothing is torn
pub whole : (at n : ℕ) (was : List ℕ) → Torn at n was was
whole at n was = record { before = refl; after = refl; no_shorter = omega arith; no_longer = omega arith }

-- bytes that are put at a place
module _ (at : ℕ) (bytes was : List ℕ) where
  head : List ℕ
  head = take at was ++ replicate (at - length was) 0

  rest : List ℕ
  rest = drop (at + length bytes) was

  length-head : length head ≡ at
  unfolding head
  length-head =
      let gap = length-replicate {A = ℕ} (at - length was) 0 in
      let sum = length-append (take at was) (replicate (at - length was) 0) in
      omega (arith, sum, length-take at was, gap)

  split : put_at at bytes was ≡ head ++ (bytes ++ rest)
  unfolding put_at head rest
  split = append_assoc (take at was ++ replicate (at - length was) 0) bytes (drop (at + length bytes) was)

  split_after : put_at at bytes was ≡ (head ++ bytes) ++ rest
  unfolding put_at head rest
  split_after = refl

  split_front : put_at at bytes was ≡ take at was ++ (replicate (at - length was) 0 ++ (bytes ++ rest))
  unfolding head
  split_front = split ∙ append_assoc (take at was) (replicate (at - length was) 0) (bytes ++ rest)

  pub length-put_at : length (put_at at bytes was) ≡ max (length was) (at + length bytes)
  unfolding rest
  length-put_at =
      let all = length-append (head ++ bytes) rest in
      let start = length-append head bytes in
      omega (arith, ap length split_after, all, start, length-head, length-drop (at + length bytes) was)

  -- they are one way in which that range may be torn
  pub put_torn : Torn at (length bytes) was (put_at at bytes was)
  unfolding rest
  put_torn = record {
    before =
        ap (λ (l : List ℕ). take (min at (length was)) l) split_front
        ∙ take_at (take at was) _ (min at (length was)) (length-take at was)
        ∙ sym (take_min at was);
    after =
        ap (λ (l : List ℕ). drop (at + length bytes) l) split_after
        ∙ drop_at (head ++ bytes) rest (at + length bytes) (omega (arith, length-append head bytes, length-head));
    no_shorter = omega (arith, length-put_at);
    no_longer = omega (arith, length-put_at);
  }

  pub put_bytes : take (length bytes) (drop at (put_at at bytes was)) ≡ bytes
  put_bytes =
      ap (λ (l : List ℕ). take (length bytes) (drop at l)) split
      ∙ ap (λ (l : List ℕ). take (length bytes) l) (drop_at head (bytes ++ rest) at length-head)
      ∙ take_at bytes rest (length bytes) refl

pub put_byte : (at byte : ℕ) (was : List ℕ) → get_or (put_at at (byte ∷ []) was) at 0 ≡ byte
put_byte at byte was =
    ap (λ (l : List ℕ). get_or l at 0) (split at (byte ∷ []) was)
    ∙ get_or_at (head at (byte ∷ []) was) byte (rest at (byte ∷ []) was) 0 at (length-head at (byte ∷ []) was)
