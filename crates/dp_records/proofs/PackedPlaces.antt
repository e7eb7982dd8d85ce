-- Texts one after another in one buffer of bytes.
use Rattle.std.proofs.Common.{◌≡◌, ℕ, ◌+◌, ◌-◌, ◌<◌, ◌≤◌, List, [], ◌∷◌, ◌++◌, take, drop, get_or, length, refl, sym, arith}
use Rattle.std.proofs.lemmas.List.{drop_at, length-append}
use Rattle.csv.specs.Records.{cut_from, last_end, prev, Rising}
use Rattle.dp_records.specs.PackedTexts.{IsPacked}
use Rattle.csv.proofs.RecordFacts.{rising-more, rising-end, last-append, cut-more, cut-end, field-cut, field-get}

-- the text at a place is the bytes between its start and its end
pub text-is : (ends bytes : List ℕ) (k : ℕ) → k < length ends
    → take (get_or ends k 0 - prev 0 ends k) (drop (prev 0 ends k) bytes) ≡ get_or (cut_from 0 ends bytes) k []
text-is ends bytes k lt = sym (field-get (cut_from 0 ends bytes) k _ (field-cut 0 ends bytes k lt))

pub packed-none : IsPacked [] []
unfolding Rising last_end
packed-none = record { rising = omega arith; last = refl }

pub cut-none : cut_from 0 [] [] ≡ []
unfolding cut_from
cut-none = refl

-- a text more
pub packed-more : (ends bytes text : List ℕ) (end : ℕ) → IsPacked ends bytes → end ≡ length bytes + length text
    → IsPacked (ends ++ end ∷ []) (bytes ++ text)
packed-more ends bytes text end h e =
    let size : end ≡ length (bytes ++ text) = omega (arith, length-append bytes text) in
    let low : length bytes ≤ length (bytes ++ text) = omega (arith, length-append bytes text) in
    let wider = rising-more 0 ends (length bytes) (length (bytes ++ text)) h.rising low in
    rw size record { rising = rising-end 0 ends (length (bytes ++ text)) wider; last = last-append 0 ends (length (bytes ++ text)) }

pub cut-push : (ends bytes text : List ℕ) (end : ℕ) → IsPacked ends bytes → end ≡ length bytes + length text
    → cut_from 0 (ends ++ end ∷ []) (bytes ++ text) ≡ cut_from 0 ends bytes ++ text ∷ []
cut-push ends bytes text end h e =
    let size : end ≡ length (bytes ++ text) = omega (arith, length-append bytes text) in
    let low : length bytes ≤ length (bytes ++ text) = omega (arith, length-append bytes text) in
    let wider = rising-more 0 ends (length bytes) (length (bytes ++ text)) h.rising low in
    rw (size, cut-end 0 ends (bytes ++ text) wider, cut-more 0 ends bytes text h.rising, h.last, drop_at bytes text (length bytes) refl) refl
