-- Bytes that are whole lines.
use Rattle.std.proofs.Common.{◌≡◌, ◌∙◌, ℕ, true, List, [], ◌∷◌, ◌++◌, refl, sym, ap, append_assoc}
use Rattle.std.specs.List.{concat}
use Rattle.std.proofs.lemmas.List.{append-nil}
use Rattle.std.proofs.lemmas.List.Folds.{concat-append}
use Rattle.dp_runner.specs.WrittenLines.{are_lines}

-- a line after any bytes
pub lines-after : (front : List ℕ) (byte : ℕ) (rest : List ℕ) → are_lines (byte ∷ rest) ≡ true
    → are_lines (front ++ byte ∷ rest) ≡ true
lines-after [] byte rest h = h
lines-after (first ∷ []) byte rest h = h
lines-after (first ∷ next ∷ front) byte rest h = lines-after (next ∷ front) byte rest h

-- lines after lines
pub lines-append : (front rest : List ℕ) → are_lines front ≡ true → are_lines rest ≡ true
    → are_lines (front ++ rest) ≡ true
lines-append front [] before h = ap are_lines (append-nil front) ∙ before
lines-append front (byte ∷ rest) before h = lines-after front byte rest h

-- bytes that end with a line feed
abbrev pub IsEnded : List ℕ → Type 0
IsEnded bytes = (front : List ℕ) × (bytes ≡ front ++ 10 ∷ [])

pub ended-more : (front bytes : List ℕ) → IsEnded bytes → IsEnded (front ++ bytes)
ended-more front bytes h = (front ++ h.0, ap (λ b. front ++ b) h.1 ∙ sym (append_assoc front h.0 (10 ∷ [])))

pub ended-lines : (bytes : List ℕ) → IsEnded bytes → are_lines bytes ≡ true
ended-lines bytes h = ap are_lines h.1 ∙ lines-after h.0 10 [] refl

-- a line after any lines
pub last-line : (lines : List (List ℕ)) (byte : ℕ) (rest : List ℕ) → are_lines (byte ∷ rest) ≡ true
    → are_lines (concat (lines ++ (byte ∷ rest) ∷ [])) ≡ true
last-line lines byte rest h =
    ap are_lines (concat-append lines ((byte ∷ rest) ∷ [])
    ∙ ap (λ line. concat lines ++ line) (append-nil (byte ∷ rest)))
    ∙ lines-after (concat lines) byte rest h
