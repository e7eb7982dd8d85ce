-- The bounds of runs.
use Rattle.std.proofs.Common.{◌≡◌, ℕ, zero, suc, ◌+◌, ◌-◌, ◌≤◌, ◌<◌, List, [], ◌∷◌, ◌++◌, length, replicate, drop, get_or, slice_get, Some, refl, sym, arith, append_assoc, append-nil, length-append, add-one}
use Rattle.std.proofs.lemmas.List.{length-replicate, drop_all}
use Rattle.std.proofs.lemmas.List.Elements.{All-append, All-replicate}
use Rattle.std.proofs.Math.Seq.{drop-cons}
use Rattle.dp_count.specs.declared.shape.Run.{Run}
use Rattle.dp_count.specs.Bounds.{bounds, AreRuns, most_draws}

pub bounds-append : (xs ys : List Run) → bounds (xs ++ ys) ≡ bounds xs ++ bounds ys
unfolding bounds
bounds-append [] ys = refl
bounds-append (x ∷ xs) ys = rw (bounds-append xs ys) (sym (append_assoc (replicate x.times x.bound) (bounds xs) (bounds ys)))

pub AreRuns-none : AreRuns [] 0
unfolding bounds
AreRuns-none = record { counted = refl; few = omega arith; positive = All-replicate (λ b. 1 ≤ b) 0 1 (omega arith) }

pub bounds-one : (run : Run) → bounds (run ∷ []) ≡ replicate run.times run.bound
unfolding bounds
bounds-one run = append-nil (replicate run.times run.bound)

pub AreRuns-one : (run : Run) → 1 ≤ run.bound → run.times ≤ most_draws → AreRuns (run ∷ []) run.times
AreRuns-one run h k = record {
  counted = rw (bounds-one run, length-replicate run.times run.bound) refl;
  few = k;
  positive = rw (bounds-one run) (All-replicate (λ b. 1 ≤ b) run.times run.bound h);
}

pub AreRuns-append : (xs ys : List Run) (n m : ℕ) → AreRuns xs n → AreRuns ys m → length (bounds xs) + length (bounds ys) ≤ most_draws → AreRuns (xs ++ ys) (n + m)
AreRuns-append xs ys n m a b h = record {
  counted = rw (bounds-append xs ys, length-append (bounds xs) (bounds ys)) (omega (arith, a.counted, b.counted));
  few = omega (arith, a.counted, b.counted);
  positive = rw (bounds-append xs ys) (All-append (λ b. 1 ≤ b) (bounds xs) (bounds ys) a.positive b.positive);
}

slice_get-replicate : (n k x : ℕ) (ys : List ℕ) → k < n → slice_get (replicate n x ++ ys) k ≡ Some x
slice_get-replicate zero k x ys h = absurd (omega arith)
slice_get-replicate (suc n) zero x ys h = refl
slice_get-replicate (suc n) (suc k) x ys h = slice_get-replicate n k x ys (omega arith)

slice_get-past : (n k x : ℕ) (ys : List ℕ) → n ≤ k → slice_get (replicate n x ++ ys) k ≡ slice_get ys (k - n)
slice_get-past zero k x ys h = let e : k - zero ≡ k = omega arith in rw e refl
slice_get-past (suc n) zero x ys h = absurd (omega arith)
slice_get-past (suc n) (suc k) x ys h = let e : suc k - suc n ≡ k - n = omega arith in rw e (slice_get-past n k x ys (omega arith))

bounds-drop : (runs : List Run) (i : ℕ) (d : Run) → i < length runs →
    bounds (drop i runs) ≡ replicate (get_or runs i d).times (get_or runs i d).bound ++ bounds (drop (i + 1) runs)
unfolding bounds
bounds-drop runs i d h = rw (add-one, drop-cons runs i d h) refl

-- the bound is in this run
pub bounds-here : (runs : List Run) (i left : ℕ) (d : Run) → i < length runs → left < (get_or runs i d).times →
    slice_get (bounds (drop i runs)) left ≡ Some (get_or runs i d).bound
bounds-here runs i left d h k = rw (bounds-drop runs i d h) (slice_get-replicate _ left _ (bounds (drop (i + 1) runs)) k)

-- the bound is past this run
pub bounds-past : (runs : List Run) (i left : ℕ) (d : Run) → i < length runs → (get_or runs i d).times ≤ left →
    slice_get (bounds (drop i runs)) left ≡ slice_get (bounds (drop (i + 1) runs)) (left - (get_or runs i d).times)
bounds-past runs i left d h k = rw (bounds-drop runs i d h) (slice_get-past _ left _ (bounds (drop (i + 1) runs)) k)

pub bounds-past_length : (runs : List Run) (i left : ℕ) (d : Run) → i < length runs → (get_or runs i d).times ≤ left →
    left < length (bounds (drop i runs)) → left - (get_or runs i d).times < length (bounds (drop (i + 1) runs))
bounds-past_length runs i left d h k l =
    let run = get_or runs i d in
    let m = rw (bounds-drop runs i d h, length-append (replicate run.times run.bound) (bounds (drop (i + 1) runs)), length-replicate run.times run.bound) at l in
    omega arith

-- no run is left
pub bounds-end : (runs : List Run) (i left : ℕ) → length runs ≤ i → left < length (bounds (drop i runs)) → ⊥
unfolding bounds
bounds-end runs i left h k = let l = rw (drop_all i runs h) at k in omega arith
