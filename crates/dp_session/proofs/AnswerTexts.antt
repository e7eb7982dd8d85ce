-- The text of an answer is that of its first part, and then what stands behind it.
use Rattle.std.proofs.Common.{◌≡◌, ◌≢◌, ◌≤◌, ℕ, ℤ, List, [], ◌∷◌, ◌++◌, map, drop, length, codes, Some, refl, sym, ◌∙◌, ap, arith}
use Rattle.std.specs.Prelude.{slice_get}
use Rattle.std.specs.Fmt as fmt
use Rattle.std.specs.List.{join_with_byte}
use Rattle.std.proofs.lemmas.List.{append-nil, drop_all}
use Rattle.dp_law.specs.declared.pieces.Piece.{Piece}
use Rattle.dp_session.specs.AnswerText.{piece_text, numbers_text, pieces_text, answer_text}

-- each text behind a byte
abbrev pub behind : ℕ → List (List ℕ) → List ℕ
behind c [] = []
behind c (x ∷ xs) = (c ∷ x) ++ behind c xs

join-behind : (c : ℕ) (x : List ℕ) (xs : List (List ℕ)) → join_with_byte c (x ∷ xs) ≡ x ++ behind c xs
join-behind c x [] = sym (append-nil x)
join-behind c x (y ∷ ys) = ap (λ (l : List ℕ). x ++ (c ∷ l)) (join-behind c y ys)

-- numbers, each behind a comma
unfoldable pub numbers_behind : List ℤ → List ℕ
numbers_behind [] = []
numbers_behind (n ∷ ns) = (44 ∷ fmt.signed_decimal n) ++ numbers_behind ns

-- pieces, each behind a semicolon
unfoldable pub pieces_behind : List Piece → List ℕ
pieces_behind [] = []
pieces_behind (p ∷ ps) = (59 ∷ piece_text p) ++ pieces_behind ps

numbers-are : (ns : List ℤ) → behind 44 (map fmt.signed_decimal ns) ≡ numbers_behind ns
unfolding numbers_behind
numbers-are [] = refl
numbers-are (n ∷ ns) = ap (λ (l : List ℕ). (44 ∷ fmt.signed_decimal n) ++ l) (numbers-are ns)

pieces-are : (ps : List Piece) → behind 59 (map piece_text ps) ≡ pieces_behind ps
unfolding pieces_behind
pieces-are [] = refl
pieces-are (p ∷ ps) = ap (λ (l : List ℕ). (59 ∷ piece_text p) ++ l) (pieces-are ps)

pub numbers-first : (n : ℤ) (ns : List ℤ) → numbers_text (n ∷ ns) ≡ fmt.signed_decimal n ++ numbers_behind ns
numbers-first n ns = join-behind 44 (fmt.signed_decimal n) (map fmt.signed_decimal ns) ∙ ap (λ (l : List ℕ). fmt.signed_decimal n ++ l) (numbers-are ns)

pub pieces-first : (p : Piece) (ps : List Piece) → pieces_text (p ∷ ps) ≡ piece_text p ++ pieces_behind ps
pieces-first p ps = join-behind 59 (piece_text p) (map piece_text ps) ∙ ap (λ (l : List ℕ). piece_text p ++ l) (pieces-are ps)

-- a text that is written to its end
numbers-end : (text all : List ℕ) (rest : List ℤ) (k : ℕ) → length rest ≤ k → all ≡ text ++ numbers_behind (drop k rest) → text ≡ all
unfolding numbers_behind
numbers-end text all rest k past e =
    let none : drop k rest ≡ [] = drop_all k rest past in
    sym (e ∙ ap (λ (l : List ℤ). text ++ numbers_behind l) none ∙ append-nil text)

pub numbers-done : (cells rest : List ℤ) (first : ℤ) (initial text : List ℕ) (k : ℕ) → cells ≡ first ∷ rest → initial ≡ fmt.signed_decimal first → length rest ≤ k
    → initial ++ numbers_behind rest ≡ text ++ numbers_behind (drop k rest) → text ≡ numbers_text cells
numbers-done cells rest first initial text k is begins past e =
    rw is (numbers-end text (initial ++ numbers_behind rest) rest k past e ∙ ap (λ (l : List ℕ). l ++ numbers_behind rest) begins ∙ sym (numbers-first first rest))

pieces-end : (text all : List ℕ) (rest : List Piece) (k : ℕ) → length rest ≤ k → all ≡ text ++ pieces_behind (drop k rest) → text ≡ all
unfolding pieces_behind
pieces-end text all rest k past e =
    let none : drop k rest ≡ [] = drop_all k rest past in
    sym (e ∙ ap (λ (l : List Piece). text ++ pieces_behind l) none ∙ append-nil text)

pub pieces-done : (pieces rest : List Piece) (first : Piece) (initial text : List ℕ) (k : ℕ) → pieces ≡ first ∷ rest → initial ≡ piece_text first → length rest ≤ k
    → initial ++ pieces_behind rest ≡ text ++ pieces_behind (drop k rest) → text ≡ pieces_text pieces
pieces-done pieces rest first initial text k is begins past e =
    rw is (pieces-end text (initial ++ pieces_behind rest) rest k past e ∙ ap (λ (l : List ℕ). l ++ pieces_behind rest) begins ∙ sym (pieces-first first rest))

-- an answer that is not one piece
pub several : (pieces : List Piece) → length pieces ≢ 1 → answer_text pieces ≡ codes "(" ++ (pieces_text pieces ++ codes ")")
several [] h = refl
several (one ∷ []) h = absurd (h refl)
several (one ∷ two ∷ rest) h = refl

-- an answer of one piece
pub single : (pieces : List Piece) (one : Piece) → length pieces ≡ 1 → slice_get pieces 0 ≡ Some one → answer_text pieces ≡ piece_text one
single [] one h e = absurd cc
single (first ∷ []) one h e = let same : first ≡ one = cc in ap piece_text same
single (first ∷ second ∷ rest) one h e = absurd (omega arith)
