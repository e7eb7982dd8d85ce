-- Two private measurements on one input, with one ratio, are private as one.
use Rattle.std.proofs.Common.{◌≡◌, ℕ, ◌+◌, ◌*◌, ◌^◌, ◌≤◌, Bool, ◌&&◌, List, [], ◌∷◌, ◌++◌, length, take, drop, Option, Some, None, refl, sym, ◌∙◌, ap, subst, length-append}
use Rattle.std.specs.Cmp.Lexicographic.{pointwise}
use Rattle.std.proofs.Math.Bool.{and_assoc}
use Rattle.std.proofs.lemmas.List.Elements.{All-append}
use Rattle.dp_count.specs.Ratios.{KeepsRatio}
use Rattle.dp_count.proofs.Counting.{count-append}
use Rattle.dp_count.proofs.DrawLists.{take-draws, drop-draws, IsDrawList-take, IsDrawList-drop}
use Rattle.dp_count.proofs.Ratios.{ratio-both}
use Rattle.dp_domain.specs.declared.values.Value.{Value}
use Rattle.dp_domain.specs.Domains.{Has}
use Rattle.dp_num.specs.Limits.{Fraction}
use Rattle.dp_domain.specs.Metrics.{Within}
use Rattle.dp_law.specs.declared.pieces.Piece.{Piece}
use Rattle.dp_law.specs.AnswerEquality.{piece_eq, same_answer}
use Rattle.dp_law.specs.Mechanism.{Mechanism, IsPrivate, IsBound, ways}
use Rattle.dp_law.specs.Joining.{added, both}
use Rattle.dp_law.proofs.Caps.{capped-same, capped-le}

-- an answer in two parts is the same as another where the parts are
pointwise-parts : {E : Type 0} (same : E → E → Bool) (xs ys zs : List E) → pointwise same (xs ++ ys) zs ≡ (pointwise same xs (take (length xs) zs) && pointwise same ys (drop (length xs) zs))
pointwise-parts same [] ys zs = refl
pointwise-parts same (x ∷ xs) ys [] = refl
pointwise-parts same (x ∷ xs) ys (z ∷ zs) = ap (λ b. same x z && b) (pointwise-parts same xs ys zs) ∙ sym (and_assoc (same x z) _ _)

-- the two parts of an answer are cut at the pieces of the first measurement
ways-both : (one other : Mechanism) → IsPrivate one → (v : Value) (answer : List Piece) → Has one.input_domain v →
    ways (both one other) v answer ≡ ways one v (take one.pieces answer) * ways other v (drop one.pieces answer)
unfolding ways
ways-both one other law v answer has =
    count-append one.shape other.shape _ (λ d. same_answer (one.function v d) (take one.pieces answer)) (λ e. same_answer (other.function v e) (drop one.pieces answer))
    (λ d e f g. rw (take-draws one.shape d e f, drop-draws one.shape d e f, pointwise-parts piece_eq (one.function v d) (other.function v e) answer, law.whole v d has f) refl)

-- the sum of two losses comes from two losses
added-parts : (j k : Option ℕ) (sum : ℕ) → added j k ≡ Some sum → (x y : ℕ) × (j ≡ Some x) × (k ≡ Some y) × (x + y ≡ sum)
added-parts (Some x) (Some y) sum h = (x, y, refl, refl, capped-same (x + y) sum h)
added-parts (Some x) None sum h = absurd (cc)
added-parts None k sum h = absurd (cc)

pub added-le : (j k : Option ℕ) (sum : ℕ) → added j k ≡ Some sum → sum ≤ 2 ^ 32
added-le (Some x) (Some y) sum h = capped-le (x + y) sum h
added-le (Some x) None sum h = absurd (cc)
added-le None k sum h = absurd (cc)

-- each part keeps the ratio at its own loss
both-private : (one other : Mechanism) → IsPrivate one → IsPrivate other → one.input_domain ≡ other.input_domain → one.input_metric ≡ other.input_metric → one.ratio ≡ other.ratio →
    (d sum : ℕ) (v w : Value) (answer : List Piece) → added (one.privacy_map d) (other.privacy_map d) ≡ Some sum → Has one.input_domain v → Has one.input_domain w → Within one.input_metric d v w →
    KeepsRatio one.ratio.p one.ratio.q sum (ways (both one other) v answer) (ways (both one other) w answer)
both-private one other first second domains metrics ratios d sum v w answer map_is has_v has_w near =
    let parts = added-parts (one.privacy_map d) (other.privacy_map d) sum map_is in
    let front = first.private d parts.0 v w (take one.pieces answer) parts.2 has_v has_w near in
    let back = second.private d parts.1 v w (drop one.pieces answer) parts.3 (subst (λ x. Has x v) domains has_v) (subst (λ x. Has x w) domains has_w) (subst (λ x. Within x d v w) metrics near) in
    let back_at = subst (λ (r : Fraction). KeepsRatio r.p r.q parts.1 (ways other v (drop one.pieces answer)) (ways other w (drop one.pieces answer))) (sym ratios) back in
    rw (ways-both one other first v answer has_v, ways-both one other first w answer has_w, ← parts.4)
    (ratio-both one.ratio.p one.ratio.q parts.0 parts.1 _ _ _ _ front back_at)

-- the law of two measurements as one
pub both_law : (one other : Mechanism) → IsPrivate one → IsPrivate other → one.input_domain ≡ other.input_domain → one.input_metric ≡ other.input_metric → one.ratio ≡ other.ratio →
    length one.shape + length other.shape ≤ 2 ^ 40 → one.pieces + other.pieces ≤ 2 ^ 31 → IsPrivate (both one other)
both_law one other first second domains metrics ratios draws pieces = record {
  input_fits = first.input_fits;
  input_suits = first.input_suits;
  below_one = first.below_one;
  few_draws = rw (length-append one.shape other.shape) draws;
  bounds = All-append IsBound one.shape other.shape first.bounds second.bounds;
  few_pieces = pieces;
  whole = λ v d has f. rw (length-append (one.function v (take (length one.shape) d)) (other.function v (drop (length one.shape) d)), first.whole v (take (length one.shape) d) has (IsDrawList-take one.shape other.shape d f), second.whole v (drop (length one.shape) d) (subst (λ x. Has x v) domains has) (IsDrawList-drop one.shape other.shape d f)) refl;
  limited = λ d k map_is. added-le (one.privacy_map d) (other.privacy_map d) k map_is;
  private = both-private one other first second domains metrics ratios;
}
