-- The answer from a value and its noise, in words of 64 bits.
use Rattle.std.proofs.Common.{arith, ◌≡◌, ℤ, pos, neg_ℤ, ◌+ℤ◌, ◌≤ℤ◌, ◌^◌, w64, to_z, of_z, ap, ◌∙◌}
use Rattle.std.proofs.lemmas.Int.{ints, to_z-of_z}
use mir.Val.{SFits}
use Rattle.dp_domain.specs.Ranges.{clamped}

fits : (z : ℤ) → neg_ℤ (pos (2 ^ 62)) ≤ℤ z → z ≤ℤ pos (2 ^ 62) → SFits w64 z
fits z least greatest = omega (arith, ints)

pub settled : (lo hi v noise near out : ℤ) → neg_ℤ (pos (2 ^ 61)) ≤ℤ lo → hi ≤ℤ pos (2 ^ 61) → SFits w64 v → neg_ℤ (pos 65536) ≤ℤ noise → noise ≤ℤ pos 65536 →
    lo ≤ℤ near → near ≤ℤ hi → lo ≤ℤ out → out ≤ℤ hi → near ≡ clamped lo hi (to_z w64 (of_z w64 v)) → out ≡ clamped lo hi (to_z w64 (of_z w64 (to_z w64 (of_z w64 near) +ℤ to_z w64 (of_z w64 noise)))) →
    to_z w64 (of_z w64 out) ≡ clamped lo hi (clamped lo hi v +ℤ noise)
settled lo hi v noise near out h0 h1 fv n0 n1 a0 a1 b0 b1 e1 e2 =
    let fnear = fits near (omega (arith, ints)) (omega (arith, ints)) in
    let fnoise = fits noise (omega (arith, ints)) (omega (arith, ints)) in
    let fsum = fits (near +ℤ noise) (omega (arith, ints)) (omega (arith, ints)) in
    let fout = fits out (omega (arith, ints)) (omega (arith, ints)) in
    to_z-of_z w64 out fout ∙ e2
    ∙ ap (λ a. clamped lo hi (to_z w64 (of_z w64 (a +ℤ to_z w64 (of_z w64 noise))))) (to_z-of_z w64 near fnear)
    ∙ ap (λ b. clamped lo hi (to_z w64 (of_z w64 (near +ℤ b)))) (to_z-of_z w64 noise fnoise)
    ∙ ap (λ s. clamped lo hi s) (to_z-of_z w64 (near +ℤ noise) fsum)
    ∙ ap (λ n. clamped lo hi (n +ℤ noise)) (e1 ∙ ap (λ z. clamped lo hi z) (to_z-of_z w64 v fv))

-- the same, of an answer that the settling gave
pub answered : (lo hi v near_noise noise out : ℤ) → SFits w64 v → SFits w64 near_noise → SFits w64 out → near_noise ≡ noise → out ≡ clamped lo hi (clamped lo hi (to_z w64 (of_z w64 v)) +ℤ to_z w64 (of_z w64 near_noise)) →
    to_z w64 (of_z w64 out) ≡ clamped lo hi (clamped lo hi v +ℤ noise)
answered lo hi v near_noise noise out fv fnoise fout e given =
    to_z-of_z w64 out fout ∙ given
    ∙ ap (λ z. clamped lo hi (clamped lo hi z +ℤ to_z w64 (of_z w64 near_noise))) (to_z-of_z w64 v fv)
    ∙ ap (λ n. clamped lo hi (clamped lo hi v +ℤ n)) (to_z-of_z w64 near_noise fnoise ∙ e)
