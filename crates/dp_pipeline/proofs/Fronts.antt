-- A sink that gained a front of the lines so far has gained a front of all of them.
use Rattle.std.proofs.Common.{◌≡◌, ◌∙◌, ◌<◌, ℕ, zero, suc, ◌+◌, List, [], ◌∷◌, ◌++◌, length, take, drop, get_or, Option, Some, None, Result, Ok, Err, OnErr, refl, sym, ap, arith, append_assoc}
use Rattle.std.proofs.lemmas.List.{append-nil}
use Rattle.std.specs.List.{concat}
use Rattle.dp_io.specs.Sink.{appended, AddsFront}

pub appended-twice : (held : Option (List ℕ)) (one two : List ℕ) → appended (appended held one) two ≡ appended held (one ++ two)
appended-twice None one two = refl
appended-twice (Some bytes) one two = ap Some (append_assoc bytes one two)

-- what was written, then a front of the next line
pub front-more : (start now new : Option (List ℕ)) (done line rest whole : List ℕ) → whole ≡ done ++ (line ++ rest) → now ≡ appended start done
    → AddsFront now new line → AddsFront start new whole
front-more start now new done line rest whole split held front = record {
  front = done ++ front.front;
  rest = front.rest ++ rest;
  split = split ∙ ap (λ l. done ++ (l ++ rest)) front.split ∙ ap (λ l. done ++ l) (append_assoc front.front front.rest rest) ∙ sym (append_assoc done front.front (front.rest ++ rest));
  gained = front.gained ∙ ap (λ h. appended h front.front) held ∙ appended-twice start done front.front;
}

-- the lines before one, the line, and those after it
pub concat-at : (lines : List (List ℕ)) (i : ℕ) (line : List ℕ) → i < length lines → line ≡ get_or lines i line
    → concat lines ≡ concat (take i lines) ++ (line ++ concat (drop (suc i) lines))
concat-at [] i line h is = absurd (omega arith)
concat-at (first ∷ rest) zero line h is = ap (λ l. l ++ concat rest) (sym is)
concat-at (first ∷ rest) (suc i) line h is =
    ap (λ l. first ++ l) (concat-at rest i line (omega arith) is) ∙ sym (append_assoc first (concat (take i rest)) (line ++ concat (drop (suc i) rest)))

-- one line more
pub concat-more : (lines : List (List ℕ)) (i : ℕ) (line : List ℕ) → i < length lines → line ≡ get_or lines i line
    → concat (take (suc i) lines) ≡ concat (take i lines) ++ line
concat-more [] i line h is = absurd (omega arith)
concat-more (first ∷ rest) zero line h is = append-nil first ∙ sym is
concat-more (first ∷ rest) (suc i) line h is =
    ap (λ l. first ++ l) (concat-more rest i line (omega arith) is) ∙ sym (append_assoc first (concat (take i rest)) line)

pub on-err : {A E : Type 0} (result : Result A E) (P : Type 0) → P → OnErr result P
on-err (Ok x) P holds = tt
on-err (Err e) P holds = holds

-- the next line was written
pub lines-more : (start now new : Option (List ℕ)) (lines all : List (List ℕ)) (i : ℕ) (line piece : List ℕ) → lines ≡ all → i < length lines
    → line ≡ get_or lines i line → piece ≡ line → now ≡ appended start (concat (take i all)) → new ≡ appended now piece
    → new ≡ appended start (concat (take (i + 1) all))
lines-more start now new lines all i line piece same within is whole held written =
    let next : i + 1 ≡ suc i = omega arith in
    let more = concat-more lines i line within is in
    written ∙ ap (λ h. appended h piece) held ∙ appended-twice start (concat (take i all)) piece
    ∙ ap (λ bytes. appended start bytes) (ap (λ p. concat (take i all) ++ p) whole ∙ ap (λ ls. concat (take i ls) ++ line) (sym same) ∙ sym more
    ∙ ap (λ n. concat (take n lines)) (sym next) ∙ ap (λ ls. concat (take (i + 1) ls)) same)

-- a front of the next line was written
pub lines-front : (start now new : Option (List ℕ)) (lines all : List (List ℕ)) (i : ℕ) (line piece : List ℕ) → lines ≡ all → i < length lines
    → line ≡ get_or lines i line → piece ≡ line → now ≡ appended start (concat (take i all)) → AddsFront now new piece
    → AddsFront start new (concat all)
lines-front start now new lines all i line piece same within is whole held front =
    front-more start now new (concat (take i all)) piece (concat (drop (suc i) all)) (concat all)
    (ap concat (sym same) ∙ concat-at lines i line within is ∙ ap (λ ls. concat (take i ls) ++ (line ++ concat (drop (suc i) ls))) same
    ∙ ap (λ p. concat (take i all) ++ (p ++ concat (drop (suc i) all))) (sym whole)) held front
