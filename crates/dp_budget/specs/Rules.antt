-- What a budget allows, what is left of it, and when a cost is over it.
use Rattle.std.specs.Prelude.{ℕ, ◌+◌, ◌≤◌, ◌&&◌, ◌||◌, Bool, false, List, length, take, ◌-◌, Option, Some, None, if◌then◌else◌, nat_lt, nat_le, slice_index}
use Rattle.std.specs.List.{sum}
use Rattle.dp_num.specs.Limits.{most_units}
use Rattle.dp_budget.specs.declared.budget.Rule.{Rule}
use Rattle.dp_budget.specs.declared.budget.Rule.TheVariants as rule
use Rattle.dp_budget.specs.declared.over.Over.{Over}

-- a budget's rule, the sum of the admitted costs, and how many mids are used
pub record BudgetValue : Type 0 where
  pub rule : Rule
  pub spent : ℕ
  pub place : ℕ

-- a budget of which nothing is spent, at its first mid
abbrev pub fresh : Rule → BudgetValue
fresh r = record { rule = r; spent = 0; place = 0 }

-- from 1 to 1,024 mids with a sum of at most 2 ^ 32
abbrev pub are_mids : List ℕ → Bool
are_mids mids = nat_le 1 (length mids) && nat_le (length mids) 1024 && nat_le (sum mids) most_units

-- the most that can be admitted in all: the sum of the mids, or the limit
abbrev pub declared : Rule → Option ℕ
declared (rule.Compositor mids) = Some (sum mids)
declared (rule.Filter limit) = Some limit
declared rule.Odometer = None

-- what is left to the next query: the next mid, or 0 where all are used; the limit less what is spent
abbrev pub left_of : Rule → ℕ → ℕ → ℕ
left_of (rule.Compositor mids) _ place = slice_index mids place
left_of (rule.Filter limit) spent _ = limit - spent
left_of rule.Odometer spent _ = most_units - spent

-- all mids are used
abbrev pub is_used_up : Rule → ℕ → Bool
is_used_up (rule.Compositor mids) place = nat_le (length mids) place
is_used_up (rule.Filter _) _ = false
is_used_up rule.Odometer _ = false

-- no mid is left for the cost, or it is greater than what is left
abbrev pub is_over : BudgetValue → ℕ → Bool
is_over a cost = is_used_up a.rule a.place || nat_lt (left_of a.rule a.spent a.place) cost

-- the refusal of a cost, with what is left
abbrev pub refusal : BudgetValue → ℕ → Option Over
refusal a cost = if is_over a cost then Some (record { cost = cost; left = left_of a.rule a.spent a.place }) else None

-- how many mids an admitted cost uses
abbrev pub turn : Rule → ℕ
turn (rule.Compositor _) = 1
turn (rule.Filter _) = 0
turn rule.Odometer = 0

-- the budget after an admitted cost
abbrev pub charged : BudgetValue → ℕ → BudgetValue
charged a cost = record { rule = a.rule; spent = a.spent + cost; place = a.place + turn a.rule }

-- what is spent is within the rule: within the used mids, or within the limit
abbrev pub WithinRule : Rule → ℕ → ℕ → Type 0
WithinRule (rule.Compositor mids) spent place =
    (place ≤ length mids) × (length mids ≤ 1024) × (spent ≤ sum (take place mids)) × (sum mids ≤ most_units)
WithinRule (rule.Filter limit) spent _ = (spent ≤ limit) × (limit ≤ most_units)
WithinRule rule.Odometer spent _ = spent ≤ most_units
