-- A tree's lists after an open.
use Rattle.std.proofs.Common.{◌≡◌, ◌≢◌, ℕ, ◌+◌, ◌-◌, ◌≤◌, ◌<◌, ◌^◌, Bool, true, false, cond, Option, Some, None, ◌⊎◌, inl, inr, List, [], ◌∷◌, ◌++◌, length, slice_get, slice_index, slice_set, refl, sym, ◌∙◌, ap, subst, arith, eqb, ltb, min, rules}
use Rattle.std.specs.Option.{option_map}
use Rattle.std.proofs.lemmas.Bool.Decides.{nat_tests, eqb_tells}
use Rattle.std.proofs.lemmas.Option.{slice_get_within}
use Rattle.std.proofs.lemmas.List.{length-append, length-set, map-append}
use Rattle.dp_num.specs.declared.trail.Link.{Link}
use Rattle.dp_num.specs.Trail.{TrailValue, with_last, with_link, pushed}
use Rattle.dp_num.specs.Reserved.{ReservedValue}
use Rattle.dp_domain.specs.Domains.{Fits}
use Rattle.dp_domain.specs.declared.domains.Domain.{Domain}
use Rattle.dp_domain.specs.declared.metrics.Metric.{Metric}
use Rattle.dp_budget.specs.Rules.{fresh, BudgetValue}
use Rattle.dp_budget.specs.declared.budget.Rule.{Rule}
use Rattle.dp_budget.specs.declared.over.Over.{Over}
use Rattle.dp_tree.specs.declared.states.NodeState.{NodeState}
use Rattle.dp_tree.specs.declared.faults.SeatFault.TheVariants as seats
use Rattle.dp_tree.specs.History.{total, given}
use Rattle.dp_tree.specs.Table.{Row, TreeValue, numbers, place_of, row_of, depth_of_row, over_in, seat_fault_in, charged_rows, new_row, opened, IsNext}
use Rattle.dp_tree.specs.Lists.{IsTree, HoldTree, rows_from, row_from, link_parents, depths, live_child, charged_state}
use Rattle.dp_tree.proofs.Rows.{place-at, place-le, place-past, place-append, slice_index-map, eqb-other, row_append, number_append_left, number_append_last}
use Rattle.dp_tree.proofs.Kept.{hold-links, hold-states, Keeps}
use Rattle.dp_tree.proofs.Changes.{At, map-set-same, set-get, rows-at, rows-pushed, names-below, lasts-below, limits-set, tree-same}

-- the place is within a list with one item more: before the last, or the last
split : (k n : ℕ) → k < n + 1 → (k < n) ⊎ (k ≡ n)
split k n h = search rules

-- numbers, parents and depths of a tree with one node more
tree-pushed : (names parents levels : List ℕ) (q k : ℕ) → IsTree names parents levels → ((j : ℕ) → j < length names → slice_index names j < q) → k < length names → slice_index levels k < 16 → IsTree (names ++ q ∷ []) (parents ++ k ∷ []) (levels ++ (slice_index levels k + 1) ∷ [])
tree-pushed names parents levels q k t below inside low = record {
  as_many_parents = omega (arith, many, many-parents, t.as_many_parents);
  as_many_levels = omega (arith, many, many-levels, t.as_many_levels);
  rising = λ i j l m. elim (split j (length names) (omega (arith, m, many))) [
    | inl h ↦
        let a = number_append_left names (q ∷ []) i (omega (arith, l, h)) in
        let b = number_append_left names (q ∷ []) j h in
        let less = t.rising i j l h in
        omega (arith, a, b, less)
    | inr h ↦
        let a = number_append_left names (q ∷ []) i (omega (arith, l, h)) in
        let b : slice_index (names ++ q ∷ []) j ≡ q = ap (slice_index (names ++ q ∷ [])) h ∙ number_append_last names q in
        let less = below i (omega (arith, l, h)) in
        omega (arith, a, b, less)
  ];
  some = omega (arith, many);
  first = number_append_left names (q ∷ []) 0 t.some ∙ t.first;
  root_parent = number_append_left parents (k ∷ []) 0 (omega (arith, t.as_many_parents, t.some)) ∙ t.root_parent;
  root_level = number_append_left levels ((slice_index levels k + 1) ∷ []) 0 (omega (arith, t.as_many_levels, t.some)) ∙ t.root_level;
  before = λ j l m. elim (split j (length names) (omega (arith, m, many))) [
    | inl h ↦
        let a = number_append_left parents (k ∷ []) j (omega (arith, h, t.as_many_parents)) in
        let less = t.before j l h in
        omega (arith, a, less)
    | inr h ↦
        let a = last-parent j h in
        omega (arith, a, h, inside)
  ];
  deeper = λ j l m. elim (split j (length names) (omega (arith, m, many))) [
    | inl h ↦
        let a = number_append_left levels ((slice_index levels k + 1) ∷ []) j (omega (arith, h, t.as_many_levels)) in
        let p = number_append_left parents (k ∷ []) j (omega (arith, h, t.as_many_parents)) in
        let less = t.before j l h in
        let up = number_append_left levels ((slice_index levels k + 1) ∷ []) (slice_index parents j) (omega (arith, less, h, t.as_many_levels)) in
        let same = ap (slice_index (levels ++ (slice_index levels k + 1) ∷ [])) p in
        let step = t.deeper j l h in
        omega (arith, a, up, same, step)
    | inr h ↦
        let a = last-level j h in
        let p = last-parent j h in
        let up = number_append_left levels ((slice_index levels k + 1) ∷ []) k (omega (arith, inside, t.as_many_levels)) in
        let same = ap (slice_index (levels ++ (slice_index levels k + 1) ∷ [])) p in
        omega (arith, a, up, same)
  ];
  shallow = λ j m. elim (split j (length names) (omega (arith, m, many))) [
    | inl h ↦
        let a = number_append_left levels ((slice_index levels k + 1) ∷ []) j (omega (arith, h, t.as_many_levels)) in
        let less = t.shallow j h in
        omega (arith, a, less)
    | inr h ↦ let a = last-level j h in omega (arith, a, low)
  ];
}
  where
    many : length (names ++ q ∷ []) ≡ length names + 1
    many = length-append names (q ∷ [])

    many-parents : length (parents ++ k ∷ []) ≡ length parents + 1
    many-parents = length-append parents (k ∷ [])

    many-levels : length (levels ++ (slice_index levels k + 1) ∷ []) ≡ length levels + 1
    many-levels = length-append levels ((slice_index levels k + 1) ∷ [])

    last-parent : (j : ℕ) → j ≡ length names → slice_index (parents ++ k ∷ []) j ≡ k
    last-parent j h = ap (slice_index (parents ++ k ∷ [])) (h ∙ sym t.as_many_parents) ∙ number_append_last parents k

    last-level : (j : ℕ) → j ≡ length names → slice_index (levels ++ (slice_index levels k + 1) ∷ []) j ≡ slice_index levels k + 1
    last-level j h = ap (slice_index (levels ++ (slice_index levels k + 1) ∷ [])) (h ∙ sym t.as_many_levels) ∙ number_append_last levels (slice_index levels k + 1)

-- live children, as choices of a place
live-there : (names : List ℕ) (last : ℕ) → last ≢ 0 → place_of names last < length names → live_child names last ≡ Some (place_of names last)
live-there names last h l =
    let test : ltb (place_of names last) (length names) ≡ true = grind (arith, nat_tests) in
    rw (eqb-other last 0 h, test) refl

live-nowhere : (names : List ℕ) (last : ℕ) → place_of names last ≡ length names → live_child names last ≡ None
live-nowhere names last h = go (eqb last 0)
  where
    go : (test : Bool) → cond {A = Option ℕ} test None (cond {A = Option ℕ} (ltb (place_of names last) (length names)) (Some (place_of names last)) None) ≡ None
    go true = refl
    go false = let past : ltb (place_of names last) (length names) ≡ false = grind (arith, nat_tests, h) in rw past refl

-- a number that was there, or is nowhere, is so in a list with a greater number more
live-more : (names : List ℕ) (q last : ℕ) → last < q → live_child (names ++ q ∷ []) last ≡ live_child names last
live-more names q last less = elim (eqb_tells last 0) [
  | inl none ↦ rw none.0 refl
  | inr more ↦ elim (sides (place_of names last) (length names) (place-le names last)) [
    | inl there ↦
        let same = place-append names (q ∷ []) last there in
        let many = length-append names (q ∷ []) in
        live-there (names ++ q ∷ []) last more.1 (omega (arith, same, many, there)) ∙ ap Some same ∙ sym (live-there names last more.1 there)
    | inr nowhere ↦ live-nowhere (names ++ q ∷ []) last (gone nowhere) ∙ sym (live-nowhere names last nowhere)
  ]
]
  where
    sides : (a b : ℕ) → a ≤ b → (a < b) ⊎ (a ≡ b)
    sides a b h = search rules

    gone : place_of names last ≡ length names → place_of (names ++ q ∷ []) last ≡ length (names ++ q ∷ [])
    gone h = place-past names q last h (λ e. omega (arith, e, less))

-- the live child that was opened last
live-opened : (names : List ℕ) (q : ℕ) → ((j : ℕ) → j < length names → slice_index names j < q) → 0 < q → live_child (names ++ q ∷ []) q ≡ Some (length names)
live-opened names q below more =
    let many = length-append names (q ∷ []) in
    let at : place_of (names ++ q ∷ []) q ≡ length names
    = place-at (names ++ q ∷ []) (length names) q (omega (arith, many)) (number_append_last names q)
    (λ j l same. let a = number_append_left names (q ∷ []) j l in let less = below j l in omega (arith, a, same, less)) in
    live-there (names ++ q ∷ []) q (λ e. omega (arith, e, more)) (omega (arith, at, many)) ∙ ap Some at

-- the lists of a tree after an open at a place
hold-opened : (names : List ℕ) (links : List Link) (states : List NodeState) (k q cost : ℕ) (link : Link) (state new : NodeState) → HoldTree names links states → slice_get links k ≡ Some link → slice_get states k ≡ Some state → ((j : ℕ) → j < length names → slice_index names j < q) → ((j : ℕ) (l : Link) → slice_get links j ≡ Some l → l.last < q) → state.depth < 16 → new.depth ≡ state.depth + 1 → Fits new.domain × (new.distance ≤ 2 ^ 32) → HoldTree (names ++ q ∷ []) (slice_set links k (with_last link q (Some (length names))) ++ (record { parent = k; last = 0; live = None }) ∷ []) (slice_set states k (charged_state cost state) ++ new ∷ [])
hold-opened names links states k q cost link state new h e s below lasts low deep limits = record {
  shape =
      let inside = slice_get_within links k link e in
      let many = hold-links names links states h in
      let here : slice_index (depths states) k ≡ state.depth = slice_index-map (λ (x : NodeState). x.depth) states k state s in
      let more = tree-pushed names (link_parents links) (depths states) q k h.shape below (omega (arith, inside, many)) (omega (arith, here, low)) in
      let parents-are : link_parents (slice_set links k (with_last link q (Some (length names))) ++ (record { parent = k; last = 0; live = None }) ∷ []) ≡ link_parents links ++ k ∷ []
      = map-append (λ (l : Link). l.parent) (slice_set links k (with_last link q (Some (length names)))) ((record { parent = k; last = 0; live = None }) ∷ [])
      ∙ ap (λ ps. ps ++ k ∷ []) (map-set-same (λ (l : Link). l.parent) links k link (with_last link q (Some (length names))) e refl) in
      let levels-are : depths (slice_set states k (charged_state cost state) ++ new ∷ []) ≡ depths states ++ (slice_index (depths states) k + 1) ∷ []
      = map-append (λ (x : NodeState). x.depth) (slice_set states k (charged_state cost state)) (new ∷ [])
      ∙ ap (λ ds. ds ++ new.depth ∷ []) (map-set-same (λ (x : NodeState). x.depth) states k state (charged_state cost state) s refl)
      ∙ ap (λ d. depths states ++ d ∷ []) (deep ∙ ap (λ n. n + 1) (sym here)) in
      subst (λ ps. IsTree (names ++ q ∷ []) ps (depths (slice_set states k (charged_state cost state) ++ new ∷ []))) (sym parents-are)
      (subst (IsTree (names ++ q ∷ []) (link_parents links ++ k ∷ [])) (sym levels-are) more);
  live = λ j found at. elim (row_append (slice_set links k (with_last link q (Some (length names)))) (record { parent = k; last = 0; live = None }) j found at) [
    | inl old ↦ elim (set-get links k j found (with_last link q (Some (length names))) old) [
      | inl here ↦
          let first = below 0 h.shape.some in
          subst (λ (x : Link). x.live ≡ live_child (names ++ q ∷ []) x.last) (sym here.1) (sym (live-opened names q below (omega (arith, first))))
      | inr there ↦ h.live j found there ∙ sym (live-more names q found.last (lasts j found there))
    ]
    | inr last ↦ subst (λ (x : Link). x.live ≡ live_child (names ++ q ∷ []) x.last) (sym last.1) refl
  ];
  limits = λ j found at. elim (row_append (slice_set states k (charged_state cost state)) new j found at) [
    | inl old ↦ limits-set states k cost state s h.limits j found old
    | inr last ↦ subst (λ (x : NodeState). Fits x.domain × (x.distance ≤ 2 ^ 32)) (sym last.1) limits
  ];
}

-- what an open takes of the caller's things
pub record Opens (t : TreeValue) (names : List ℕ) (links : List Link) (states : List NodeState) (i place q : ℕ) (at : At t names links states i place) (new : NodeState) : Type 0 where
  pub next : IsNext t q
  pub low : at.state.depth ≢ 16
  pub deep : new.depth ≡ at.state.depth + 1
  pub fits : Fits new.domain
  pub near : new.distance ≤ 2 ^ 32
  pub budget : new.budget ≡ fresh new.budget.rule

-- two rows with equal parts
row-same : (number p r d e : ℕ) (domain : Domain) (metric : Metric) (distance : ℕ) (b c : BudgetValue) → p ≡ r → d ≡ e → b ≡ c → ◌≡◌ {A = Row} (record { number = number; parent = p; depth = d; domain = domain; metric = metric; distance = distance; budget = b; last = 0 }) (record { number = number; parent = r; depth = e; domain = domain; metric = metric; distance = distance; budget = c; last = 0 })
row-same number p r d e domain metric distance b c x y z = rw (x, y, z) refl

-- the lists after an open
pub record Opened (t : TreeValue) (names new-names : ReservedValue ℕ) (trail new-trail : TrailValue) (states new-states : ReservedValue NodeState) (i place q : ℕ) (at : At t names.items trail.links states.items i place) (new : NodeState) : Type 0 where
  pub is_numbers : new-names ≡ record { items = names.items ++ q ∷ []; spare = names.spare - 1 }
  pub is_trail : new-trail ≡ pushed (with_link trail place (with_last at.link q (Some (length names.items)))) (record { parent = place; last = 0; live = None })
  pub is_states : new-states ≡ record { items = slice_set states.items place (charged_state (total new.budget.rule) at.state) ++ new ∷ []; spare = states.spare - 1 }

pub opened-holds : (t : TreeValue) (names new-names : ReservedValue ℕ) (trail new-trail : TrailValue) (states new-states : ReservedValue NodeState) (i place q : ℕ) (new : NodeState) → Keeps t names.items trail.links states.items → (at : At t names.items trail.links states.items i place) → Opens t names.items trail.links states.items i place q at new → Opened t names new-names trail new-trail states new-states i place q at new → HoldTree new-names.items new-trail.links new-states.items
opened-holds t names new-names trail new-trail states new-states i place q new k at o is =
    let shallow = k.hold.shape.shallow place at.within in
    let here : slice_index (depths states.items) place ≡ at.state.depth = slice_index-map (λ (x : NodeState). x.depth) states.items place at.state at.at_state in
    let low : at.state.depth < 16 = under at.state.depth (omega (arith, shallow, here)) o.low in
    let all = hold-opened names.items trail.links states.items place q (total new.budget.rule) at.link at.state new k.hold at.at_link at.at_state (names-below t names.items trail.links states.items q k o.next) (lasts-below t names.items trail.links states.items q k o.next) low o.deep (o.fits, o.near) in
    rw (is.is_numbers, is.is_trail, is.is_states) all
  where
    under : (d : ℕ) → d ≤ 16 → d ≢ 16 → d < 16
    under d h e = search rules

pub opened-is : (t : TreeValue) (names new-names : ReservedValue ℕ) (trail new-trail : TrailValue) (states new-states : ReservedValue NodeState) (b : Bool) (i place q : ℕ) (new : NodeState) → Keeps t names.items trail.links states.items → (at : At t names.items trail.links states.items i place) → Opens t names.items trail.links states.items i place q at new → Opened t names new-names trail new-trail states new-states i place q at new → t.spare ≡ min names.spare (min trail.spare states.spare) → t.siblings_open ≡ b → ◌≡◌ {A = TreeValue} (record { rows = rows_from new-names.items new-trail.links new-states.items; spare = min new-names.spare (min new-trail.spare new-states.spare); siblings_open = b }) (opened t i q (given new.domain new.metric new.distance new.budget))
opened-is t names new-names trail new-trail states new-states b i place q new k at o is spare is_open =
    let many-links = hold-links names.items trail.links states.items k.hold in
    let many-states = hold-states names.items trail.links states.items k.hold in
    let set-links = length-set trail.links place (with_last at.link q (Some (length names.items))) in
    let set-states = length-set states.items place (charged_state (total new.budget.rule) at.state) in
    let new-link : Link = record { parent = place; last = 0; live = None } in
    let front = rows-at t names.items trail.links states.items i place q (total new.budget.rule) (Some (length names.items)) k at in
    let row-is : row_from q new-link new ≡ new_row q (place_of (numbers t.rows) i) (depth_of_row (row_of t i) + 1) (given new.domain new.metric new.distance new.budget)
    = the-row t i place q new at.row at.here at.found (o.deep ∙ ap (λ d. d + 1) (sym at.depth)) o.budget in
    let rows : rows_from new-names.items new-trail.links new-states.items ≡ charged_rows i q (total new.budget.rule) t.rows ++ new_row q (place_of (numbers t.rows) i) (depth_of_row (row_of t i) + 1) (given new.domain new.metric new.distance new.budget) ∷ []
    = rw (is.is_numbers, is.is_trail, is.is_states)
    (rows-pushed names.items (slice_set trail.links place (with_last at.link q (Some (length names.items)))) (slice_set states.items place (charged_state (total new.budget.rule) at.state)) q new-link new (set-links ∙ many-links) (set-states ∙ many-states)
    ∙ ap (λ rs. rs ++ row_from q new-link new ∷ []) (sym front)
    ∙ ap (λ r. charged_rows i q (total new.budget.rule) t.rows ++ r ∷ []) row-is) in
    let room : min new-names.spare (min new-trail.spare new-states.spare) ≡ t.spare - 1
    = rw (is.is_numbers, is.is_trail, is.is_states) (less names.spare trail.spare states.spare ∙ ap (λ n. n - 1) (sym spare)) in
    tree-same (rows_from new-names.items new-trail.links new-states.items) (charged_rows i q (total new.budget.rule) t.rows ++ new_row q (place_of (numbers t.rows) i) (depth_of_row (row_of t i) + 1) (given new.domain new.metric new.distance new.budget) ∷ []) (min new-names.spare (min new-trail.spare new-states.spare)) (t.spare - 1) b t.siblings_open rows room (sym is_open)
  where
    less : (a b c : ℕ) → min (a - 1) (min (b - 1) (c - 1)) ≡ min a (min b c) - 1
    less a b c = omega arith

    the-row : (t : TreeValue) (i place q : ℕ) (new : NodeState) (row : Row) → place_of (numbers t.rows) i ≡ place → row_of t i ≡ Some row → new.depth ≡ row.depth + 1 → new.budget ≡ fresh new.budget.rule → row_from q (record { parent = place; last = 0; live = None }) new ≡ new_row q (place_of (numbers t.rows) i) (depth_of_row (row_of t i) + 1) (given new.domain new.metric new.distance new.budget)
    the-row t i place q new row here found deep fresh-budget =
        row-same q place (place_of (numbers t.rows) i) new.depth (depth_of_row (row_of t i) + 1) new.domain new.metric new.distance new.budget (fresh new.budget.rule)
        (sym here) (deep ∙ ap (λ o. depth_of_row o + 1) (sym found)) fresh-budget

-- why no child may be opened, by the table
pub seat-depth : (t : TreeValue) (i distance mapped : ℕ) (rule : Rule) (row : Row) → row_of t i ≡ Some row → row.depth ≡ 16 → Some seats.Depth ≡ seat_fault_in t i distance mapped rule
seat-depth t i distance mapped rule row found deep = rw (found, deep) refl

pub seat-distance : (t : TreeValue) (i distance mapped : ℕ) (rule : Rule) (row : Row) → row_of t i ≡ Some row → row.depth ≢ 16 → distance < mapped → Some (seats.ChildDistance mapped) ≡ seat_fault_in t i distance mapped rule
seat-distance t i distance mapped rule row found low near =
    let test : ltb distance mapped ≡ true = grind (arith, nat_tests) in
    rw (found, eqb-other row.depth 16 low, test) refl

pub seat-budget : (t : TreeValue) (i distance mapped : ℕ) (rule : Rule) (row : Row) (over : Option Over) → row_of t i ≡ Some row → row.depth ≢ 16 → mapped ≤ distance → over ≡ over_in t i (total rule) → option_map seats.Over over ≡ seat_fault_in t i distance mapped rule
seat-budget t i distance mapped rule row over found low far told =
    let test : ltb distance mapped ≡ false = grind (arith, nat_tests) in
    ap (option_map seats.Over) told ∙ rw (found, eqb-other row.depth 16 low, test) refl

-- and where none is told, no cost is over
pub over-none : (t : TreeValue) (i cost : ℕ) (over : Option Over) → over ≡ over_in t i cost → over ≡ None → over_in t i cost ≡ None
over-none t i cost over told none = sym told ∙ none
