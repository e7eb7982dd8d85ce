-- The table of the texts of groups has these texts, in their order.
use Rattle.std.proofs.Common.{◌≡◌, ℕ, zero, suc, ◌+◌, ◌<◌, Bool, true, false, ◌||◌, List, [], ◌∷◌, length, get_or, Ok, Err, None, refl, sym, ◌∙◌, ap, subst, arith}
use Rattle.std.specs.Prelude.{Result, not}
use Rattle.std.specs.List.{list_any}
use Rattle.std.proofs.lemmas.Bool.{not-true, or_parts}
use Rattle.std.proofs.lemmas.List.{ext_get_or}
use Rattle.std.proofs.lemmas.List.Sums.{passes_at_first}
use Rattle.dp_domain.specs.Distance.{text_eq}
use Rattle.dp_domain.specs.declared.domains.Domain.TheVariants as domain
use Rattle.dp_domain.specs.declared.values.Value.TheVariants as value
use Rattle.dp_domain.proofs.Equality.{text_eq-decides}
use Rattle.dp_domain.proofs.Occurrences.{same-symmetric}
use Rattle.dp_law.specs.Mapping.{Mapping}
use Rattle.dp_law.specs.Making.{tested, MakesOr}
use Rattle.dp_law.specs.declared.refusals.MakeFault.{MakeFault}
use Rattle.dp_law.specs.declared.refusals.MakeFault.TheVariants as fault
use Rattle.dp_rowwise.specs.Categories.{place_in, are_different, categories_mapping}
use Rattle.dp_domain.specs.Domains.{few_and_one}
use Rattle.dp_group.specs.Grouped.{are_group_texts}
use Rattle.dp_group.specs.GroupedProof.{both-true}

none-at : (p : List ℕ → Bool) (texts : List (List ℕ)) (i : ℕ) (d : List ℕ) → list_any p texts ≡ false
    → i < length texts → p (get_or texts i d) ≡ false
none-at p [] i d h below = absurd (omega arith)
none-at p (text ∷ texts) zero d h below = (or_parts (p text) (list_any p texts) h).0
none-at p (text ∷ texts) (suc i) d h below = none-at p texts i d (or_parts (p text) (list_any p texts) h).1 (omega arith)

-- each of different texts stands at its own place
different-place : (texts : List (List ℕ)) (i : ℕ) (d : List ℕ) → are_different texts ≡ true → i < length texts
    → place_in texts (get_or texts i d) ≡ i
unfolding are_different
different-place [] i d h below = absurd (omega arith)
different-place (text ∷ texts) zero d h below = rw ((text_eq-decides text text).1 refl) refl
different-place (text ∷ texts) (suc i) d h below =
    let parts = both-true (not (list_any (text_eq text) texts)) (are_different texts) h in
    let ih = different-place texts i d parts.1 (omega arith) in
    let apart : text_eq (get_or texts i d) text ≡ false =
    same-symmetric text_eq text_eq-decides (get_or texts i d) text
    ∙ none-at (text_eq text) texts i d (not-true (list_any (text_eq text) texts) parts.0) (omega arith) in
    rw apart (omega arith)

-- categories of different texts tell the texts
same-texts : (xs ys : List (List ℕ)) → are_different xs ≡ true → categories_mapping xs ≡ categories_mapping ys
    → xs ≡ ys
same-texts xs ys different same =
    let domains : domain.Cats (length xs + 1) None ≡ domain.Cats (length ys + 1) None =
    ap (λ (m : Mapping). m.output_domain) same in
    let lengths : length xs + 1 ≡ length ys + 1 = cc in
    let places : (text : List ℕ) → place_in xs text ≡ place_in ys text =
    λ text.
    let at : value.Cats (place_in xs text ∷ []) ≡ value.Cats (place_in ys text ∷ []) =
    ap (λ (m : Mapping). m.function (value.Texts (text ∷ []))) same in
    cc in
    ext_get_or [] xs ys (omega arith) (λ i below.
    let text = get_or xs i [] in
    let place : place_in ys text ≡ i = sym (places text) ∙ different-place xs i [] different below in
    let there = passes_at_first (text_eq text) ys [] (omega arith) in
    let passes : text_eq text (get_or ys i []) ≡ true =
    subst (λ (k : ℕ). text_eq text (get_or ys k []) ≡ true) place there in
    (text_eq-decides text (get_or ys i [])).0 passes)

-- a constructor of categories is one of tables of the texts of groups
pub table-made : {T : Type 0} (mapping : T → Mapping) (texts_in : T → List (List ℕ))
    → ((t : T) → mapping t ≡ categories_mapping (texts_in t)) → (texts : List (List ℕ)) (good : Bool)
    → are_group_texts texts ≡ good → (result : Result T MakeFault) → MakesOr mapping result (tested true good (categories_mapping texts))
    → MakesOr texts_in result (tested true good texts)
table-made mapping texts_in told texts true good (Ok t) h =
    let parts = both-true (few_and_one (length texts)) (are_different texts) good in
    let same : categories_mapping texts ≡ mapping t = cc in
    ap Ok (same-texts texts (texts_in t) parts.1 (same ∙ told t))
table-made mapping texts_in told texts true good (Err fault.Kind) h = absurd cc
table-made mapping texts_in told texts true good (Err fault.Metric) h = absurd cc
table-made mapping texts_in told texts true good (Err fault.Bound) h = absurd cc
table-made mapping texts_in told texts true good (Err fault.NoMemory) h = tt
table-made mapping texts_in told texts false good (Ok t) h = absurd cc
table-made mapping texts_in told texts false good (Err fault.Kind) h = absurd cc
table-made mapping texts_in told texts false good (Err fault.Metric) h = absurd cc
table-made mapping texts_in told texts false good (Err fault.Bound) h = refl
table-made mapping texts_in told texts false good (Err fault.NoMemory) h = tt
