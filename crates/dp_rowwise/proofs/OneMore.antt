-- One element more stands at the end of the group of its text, and changes no other group.
use Rattle.std.proofs.Common.{◌≡◌, ℕ, suc, ◌+◌, ◌<◌, true, false, List, [], ◌∷◌, ◌++◌, map, length, take, get_or, replicate}
use Rattle.std.proofs.Common.{refl, sym, ◌∙◌, ap, subst, arith, inl, inr}
use Rattle.std.specs.Prelude.{not}
use Rattle.std.specs.List.{All, list_any}
use Rattle.std.proofs.lemmas.Bool.{cases_Bool, not-true, and_parts, or_parts}
use Rattle.std.proofs.lemmas.List.{append-nil}
use Rattle.std.proofs.lemmas.List.Elements.{filter-append, All-map}
use Rattle.std.proofs.lemmas.List.Sums.{length-filter, count_by-le-length}
use Rattle.dp_domain.specs.Distance.{text_eq}
use Rattle.dp_domain.specs.Users.{group}
use Rattle.dp_domain.proofs.Equality.{text_eq-decides}
use Rattle.dp_rowwise.specs.Categories.{place_in, are_different}
use Rattle.dp_rowwise.specs.OneMore.{with_one_more}

-- before the first element each group is empty
pub groups-none : {X Y : Type 0} (texts : List X)
    → replicate {A = List Y} (length texts) [] ≡ map (λ text. []) texts
groups-none [] = refl
groups-none {X} {Y} (text ∷ texts) = ap (λ (rest : List (List Y)). [] ∷ rest) (groups-none texts)

module _ {E : Type 0} (key : E → List ℕ) where
  -- the group of a text
  abbrev part : List E → List ℕ → List E
  part xs text = group text_eq key text xs

  -- the groups of the texts, after one more element
  abbrev parts_with : List E → E → List (List ℕ) → List (List E)
  parts_with xs x texts = map (part (xs ++ x ∷ [])) texts

  part-same : (xs : List E) (x : E) (text : List ℕ) → text_eq (key x) text ≡ false
      → part (xs ++ x ∷ []) text ≡ part xs text
  part-same xs x text apart =
      filter-append (λ y. text_eq (key y) text) xs (x ∷ []) ∙ rw apart (append-nil (part xs text))

  part-more : (xs : List E) (x : E) (text : List ℕ) → text_eq (key x) text ≡ true
      → part (xs ++ x ∷ []) text ≡ part xs text ++ x ∷ []
  part-more xs x text same = filter-append (λ y. text_eq (key y) text) xs (x ∷ []) ∙ rw same refl

  parts-same : (xs : List E) (x : E) (texts : List (List ℕ)) → list_any (text_eq (key x)) texts ≡ false
      → map (part xs) texts ≡ parts_with xs x texts
  parts-same xs x [] h = refl
  parts-same xs x (text ∷ texts) h =
      let none = or_parts (text_eq (key x) text) (list_any (text_eq (key x)) texts) h in
      rw (part-same xs x text none.0, parts-same xs x texts none.1) refl

  grown-first : (xs : List E) (x : E) (text : List ℕ) (texts : List (List ℕ))
      → not (list_any (text_eq text) texts) ≡ true → text_eq (key x) text ≡ true
      → (part xs text ++ x ∷ []) ∷ map (part xs) texts ≡ parts_with xs x (text ∷ texts)
  grown-first xs x text texts none same =
      let is : text ≡ key x = sym ((text_eq-decides (key x) text).0 same) in
      let others : list_any (text_eq (key x)) texts ≡ false =
      subst (λ (t : List ℕ). list_any (text_eq t) texts ≡ false) is
      (not-true (list_any (text_eq text) texts) none) in
      rw (part-more xs x text same, parts-same xs x texts others) refl

  grown-rest : (xs : List E) (x : E) (text : List ℕ) (texts : List (List ℕ)) (place next : ℕ) → next ≡ suc place
      → text_eq (key x) text ≡ false → with_one_more place x (map (part xs) texts) ≡ parts_with xs x texts
      → with_one_more next x (map (part xs) (text ∷ texts)) ≡ parts_with xs x (text ∷ texts)
  grown-rest xs x text texts place next is apart ih =
      let whole = map (part xs) (text ∷ texts) in
      subst (λ (k : ℕ). with_one_more k x whole ≡ parts_with xs x (text ∷ texts)) (sym is)
      (ap (λ (rest : List (List E)). part xs text ∷ rest) ih
      ∙ ap (λ (front : List E). front ∷ parts_with xs x texts) (sym (part-same xs x text apart)))

  grown : (xs : List E) (x : E) (texts : List (List ℕ)) → are_different texts ≡ true
      → with_one_more (place_in texts (key x)) x (map (part xs) texts) ≡ parts_with xs x texts
  unfolding are_different
  grown xs x [] h = refl
  grown xs x (text ∷ texts) h =
      let halves = and_parts (not (list_any (text_eq text) texts)) (are_different texts) h in
      let place = place_in texts (key x) in
      elim (cases_Bool (text_eq (key x) text)) [
        | inl same ↦ rw same (grown-first xs x text texts halves.0 same)
        | inr apart ↦
            let rest = grown xs x texts halves.1 in
            rw apart (grown-rest xs x text texts place (1 + place) (omega arith) apart rest)
      ]

  -- no group is longer than the list
  pub parts-short : (xs : List E) (texts : List (List ℕ)) (most : ℕ) → length xs < most
      → All (λ l. length l < most) (map (part xs) texts)
  parts-short xs texts most h =
      All-map (λ l. length l < most) (part xs) texts (λ k d below.
      let p = λ (x : E). text_eq (key x) (get_or texts k d) in
      omega (arith, length-filter p xs, count_by-le-length p xs))

  -- the next element of a list is put into the group of its text
  pub grew : (rows : List E) (i : ℕ) (x : E) (texts : List (List ℕ)) (groups now : List (List E)) (place : ℕ)
      → are_different texts ≡ true → take (i + 1) rows ≡ take i rows ++ x ∷ [] → place ≡ place_in texts (key x)
      → groups ≡ map (part (take i rows)) texts → now ≡ with_one_more place x groups
      → now ≡ map (part (take (i + 1) rows)) texts
  grew rows i x texts groups now place different more at so_far put =
      put ∙ ap (λ (k : ℕ). with_one_more k x groups) at
      ∙ ap (λ (gs : List (List E)). with_one_more (place_in texts (key x)) x gs) so_far
      ∙ grown (take i rows) x texts different
      ∙ ap (λ (xs : List E). map (part xs) texts) (sym more)
