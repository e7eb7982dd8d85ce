-- Making a part: what the table of its parameters gives, and a constructor that answers by it.
use Rattle.std.specs.Prelude.{◌≡◌, ℕ, Bool, true, false, Option, Some, None, Result, Ok, Err}
use Rattle.dp_domain.specs.declared.metrics.Metric.{Metric}
use Rattle.dp_domain.specs.declared.metrics.Metric.TheVariants as metrics
use Rattle.dp_law.specs.declared.refusals.Refused.{Refused}
use Rattle.dp_law.specs.declared.refusals.Refused.TheVariants as refused
use Rattle.dp_law.specs.declared.refusals.MakeFault.{MakeFault}
use Rattle.dp_law.specs.declared.refusals.MakeFault.TheVariants as fault

-- the kind of the domain fits: first the metric is tested, and then the parameters
abbrev pub tested : {M : Type 0} → Bool → Bool → M → Result M Refused
tested true true meaning = Ok meaning
tested true false meaning = Err refused.Bound
tested false good meaning = Err refused.Metric

-- what is made with the two powers of a ratio, if they are there
abbrev pub with_powers : {M : Type 0} → Option (ℕ × ℕ) → (ℕ × ℕ → Result M Refused) → Result M Refused
with_powers None made = Err refused.Bound
with_powers (Some both) made = made both

-- the metric is Symmetric
abbrev pub is_symmetric : Metric → Bool
is_symmetric metrics.Symmetric = true
is_symmetric _ = false

-- the metric is ChangeOne
abbrev pub is_change_one : Metric → Bool
is_change_one metrics.ChangeOne = true
is_change_one _ = false

-- the metric is Absolute
abbrev pub is_absolute : Metric → Bool
is_absolute metrics.Absolute = true
is_absolute _ = false

-- the metric is Discrete
abbrev pub is_discrete : Metric → Bool
is_discrete metrics.Discrete = true
is_discrete _ = false

-- the metric is L1
abbrev pub is_l1 : Metric → Bool
is_l1 metrics.L1 = true
is_l1 _ = false

-- a list without a size is compared by Symmetric, one with a size by ChangeOne
abbrev pub list_metric : Option ℕ → Metric
list_metric None = metrics.Symmetric
list_metric (Some size) = metrics.ChangeOne

-- the metric is that of a list of the size
abbrev pub is_list_metric : Option ℕ → Metric → Bool
is_list_metric None metric = is_symmetric metric
is_list_metric (Some size) metric = is_change_one metric

-- there is no size
abbrev pub is_unsized : Option ℕ → Bool
is_unsized None = true
is_unsized (Some size) = false

-- a constructor answers as the table does: a part of that meaning, or that refusal
abbrev pub Makes : {T M : Type 0} → (T → M) → Result T Refused → Result M Refused → Type 0
Makes meaning (Ok part) wanted = wanted ≡ Ok (meaning part)
Makes meaning (Err refusal) wanted = wanted ≡ Err refusal

-- the same for a constructor that may be without memory
abbrev pub MakesOr : {T M : Type 0} → (T → M) → Result T MakeFault → Result M Refused → Type 0
MakesOr meaning (Ok part) wanted = wanted ≡ Ok (meaning part)
MakesOr meaning (Err fault.Kind) wanted = wanted ≡ Err refused.Kind
MakesOr meaning (Err fault.Metric) wanted = wanted ≡ Err refused.Metric
MakesOr meaning (Err fault.Bound) wanted = wanted ≡ Err refused.Bound
MakesOr meaning (Err fault.NoMemory) wanted = Unit {0}

-- a refusal as the fault of a constructor that may be without memory
abbrev pub make_fault : Refused → MakeFault
make_fault refused.Kind = fault.Kind
make_fault refused.Metric = fault.Metric
make_fault refused.Bound = fault.Bound
