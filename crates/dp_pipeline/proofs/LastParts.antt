-- A list before its last item.
use Rattle.std.proofs.Common.{◌≡◌, ◌<◌, ◌≤◌, ◌-◌, ℕ, zero, suc, List, [], ◌∷◌, length, take, map, get_or, Some, None, option_map, refl, sym, ap, arith}
use Rattle.serde_json.specs.Data.{Data}
use Rattle.dp_pipeline.specs.Json.{all_of}
use Rattle.dp_pipeline.specs.StageForms.{last_apart, made_part, part_in, stage_of, noise_of}

-- the items but the last, and the last
last-apart : {A B : Type 0} (f : A → B) (xs : List A) (k : ℕ) (last : A) → length xs ≡ suc k → last ≡ get_or xs k last
    → last_apart (map f xs) ≡ Some (map f (take k xs), f last)
unfolding last_apart
last-apart f [] k last n is = absurd (omega arith)
last-apart f (x ∷ []) zero last n is = ap (λ y. Some ([], f y)) (sym is)
last-apart f (x ∷ []) (suc k) last n is = absurd (omega arith)
last-apart f (x ∷ y ∷ ys) zero last n is = absurd (omega arith)
last-apart f (x ∷ y ∷ ys) (suc k) last n is = ap (option_map (λ parted. (f x ∷ parted.0, parted.1))) (last-apart f (y ∷ ys) k last (omega arith) is)

-- no item, so no part
pub part-none : {A : Type 0} (f : A → Data) (columns : List (List ℕ)) (xs : List A) → length xs < 1 → None ≡ part_in columns (map f xs)
unfolding part_in last_apart
part-none f columns [] none = refl
part-none f columns (x ∷ xs) none = absurd (omega arith)

-- a part of the items but the last, and the last
pub part-some : {A : Type 0} (f : A → Data) (columns : List (List ℕ)) (xs : List A) (last : A) → 1 ≤ length xs → last ≡ get_or xs (length xs - 1) last
    → part_in columns (map f xs) ≡ made_part (all_of (stage_of columns) (map f (take (length xs - 1) xs))) (noise_of (f last))
unfolding part_in
part-some f columns xs last some is = rw (last-apart f xs (length xs - 1) last (omega arith) is)
