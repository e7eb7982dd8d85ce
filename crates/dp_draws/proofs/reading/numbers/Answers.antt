use Rattle.std.proofs.Common.{rules, tests, ◌≡◌, ◌<◌, ◌+◌, ℕ, List, [], ◌∷◌, ◌++◌, length, get_or, drop, Some, None, refl, sym, ap, ◌∙◌, arith, nat_lt, append_assoc}
use Rattle.std.proofs.lemmas.Iterator.Splits.{YieldsList-from_slice_split}
use Rattle.std.proofs.lemmas.Iterator.Consumers.{YieldsList-from_filter, YieldsList-at, YieldsList-turn, YieldsList-end}
use Rattle.std.proofs.lemmas.List.{at_drop_more, at_drop_all, length_push, append-nil}
use Rattle.dp_count.specs.Digits.{short_decimal}
use Rattle.dp_draws.specs.Numbers.{is_blank, tokens, number_first, leading_numbers}
use Rattle.dp_draws.proofs.reading.numbers.Goals as goal

leading_numbers-drop : (ts : List (List ℕ)) (k : ℕ) (token : List ℕ) → (k < length ts) × (token ≡ get_or ts k token) → leading_numbers (drop k ts) ≡ number_first (short_decimal 19 token) (leading_numbers (drop (k + 1) ts))
unfolding leading_numbers
leading_numbers-drop ts k token h = at_drop_more leading_numbers ts k token h.0 ∙ ap (λ t. number_first (short_decimal 19 t) (leading_numbers (drop (k + 1) ts))) (sym h.1)

stops : (ts : List (List ℕ)) (k : ℕ) (token numbers all : List ℕ) → (k < length ts) × (token ≡ get_or ts k token) → None ≡ short_decimal 19 token → numbers ++ leading_numbers (drop k ts) ≡ all → numbers ≡ all
stops ts k token numbers all h none kept =
    let left = leading_numbers-drop ts k token h in
    let over = ap (λ o. number_first o (leading_numbers (drop (k + 1) ts))) (sym none) in
    sym (append-nil numbers) ∙ ap (λ more. numbers ++ more) (sym over) ∙ ap (λ more. numbers ++ more) (sym left) ∙ kept

goes : (ts : List (List ℕ)) (k : ℕ) (token : List ℕ) (number : ℕ) (numbers all : List ℕ) → (k < length ts) × (token ≡ get_or ts k token) → Some number ≡ short_decimal 19 token → numbers ++ leading_numbers (drop k ts) ≡ all → (numbers ++ number ∷ []) ++ leading_numbers (drop (k + 1) ts) ≡ all
goes ts k token number numbers all h some kept =
    let left = leading_numbers-drop ts k token h in
    let over = ap (λ o. number_first o (leading_numbers (drop (k + 1) ts))) (sym some) in
    append_assoc numbers (number ∷ []) (leading_numbers (drop (k + 1) ts)) ∙ ap (λ more. numbers ++ more) (sym over) ∙ ap (λ more. numbers ++ more) (sym left) ∙ kept

ends : (ts : List (List ℕ)) (k : ℕ) (numbers all : List ℕ) → k ≡ length ts → numbers ++ leading_numbers (drop k ts) ≡ all → numbers ≡ all
unfolding leading_numbers
ends ts k numbers all h kept =
    let none : leading_numbers (drop k ts) ≡ [] = at_drop_all leading_numbers ts k (omega arith) ∙ refl in
    sym (append-nil numbers) ∙ ap (λ more. numbers ++ more) (sym none) ∙ kept

pub returns-in_default : goal.returns-in_default
returns-in_default c =
    let turn = YieldsList-turn (YieldsList-at c.into_iter-token-iterator.ensures.into_iter_gives (YieldsList-from_filter _ (λ token. nat_lt 0 (length token)) (YieldsList-at c.filter-tokens.ensures.source (YieldsList-from_slice_split _ is_blank c.args.bytes.now c.split.ensures.rest c.split.ensures.done c.split.ensures.closure (λ x b q k. search (rules, tests)))) c.filter-tokens.ensures.closure (λ x b q k. search (rules, tests)))) c.loop-token.yielded _ c.loop-token.yielded_by _ _ c.in-Some.token c.in-Some.is c.next.ensures.steps in
    stops (tokens c.args.bytes.now) (length c.loop-token.yielded) c.in-Some.token.now _ _ turn (sym c.in_default.is ∙ c.short_decimal.ensures.number) c.loop-token.invariant

pub loop-token-preserved : goal.loop-token-preserved
loop-token-preserved c =
    let turn = YieldsList-turn (YieldsList-at c.into_iter-token-iterator.ensures.into_iter_gives (YieldsList-from_filter _ (λ token. nat_lt 0 (length token)) (YieldsList-at c.filter-tokens.ensures.source (YieldsList-from_slice_split _ is_blank c.args.bytes.now c.split.ensures.rest c.split.ensures.done c.split.ensures.closure (λ x b q k. search (rules, tests)))) c.filter-tokens.ensures.closure (λ x b q k. search (rules, tests)))) c.loop-token.yielded _ c.loop-token.yielded_by _ _ c.in-Some.token c.in-Some.is c.next.ensures.steps in
    rw (c.in_ok-push.ensures.items, length_push c.loop-token.yielded c.in-Some.token) (goes (tokens c.args.bytes.now) (length c.loop-token.yielded) c.in-Some.token.now c.in-Some-short_decimal.number _ _ turn (sym c.in-Some-short_decimal.is ∙ c.short_decimal.ensures.number) c.loop-token.invariant)

pub returns : goal.returns
returns c =
    let over = YieldsList-end (YieldsList-at c.into_iter-token-iterator.ensures.into_iter_gives (YieldsList-from_filter _ (λ token. nat_lt 0 (length token)) (YieldsList-at c.filter-tokens.ensures.source (YieldsList-from_slice_split _ is_blank c.args.bytes.now c.split.ensures.rest c.split.ensures.done c.split.ensures.closure (λ x b q k. search (rules, tests)))) c.filter-tokens.ensures.closure (λ x b q k. search (rules, tests)))) c.loop-token.yielded _ c.loop-token.yielded_by _ _ c.in-None.is c.next.ensures.steps in
    ends (tokens c.args.bytes.now) (length c.loop-token.yielded) _ _ over.1 c.loop-token.invariant
