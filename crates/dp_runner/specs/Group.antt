-- The command `group P DATA PLAN COLUMN TEXT..`: one release on the records of each text in a column.
use Rattle.std.specs.Prelude.{ℕ, List, ◌∷◌, length, Option, Some, None, if◌then◌else◌, option_map}
use Rattle.dp_count.specs.Slots.{Slot}
use Rattle.dp_domain.specs.Domains.{few_and_one}
use Rattle.dp_domain.specs.declared.values.Value.TheVariants as value
use Rattle.dp_session.specs.Singles.{group_verdict, single_slot}
use Rattle.dp_runner.specs.OneRelease.{PlanForm, plan_form_of, release_command}
use Rattle.dp_runner.specs.Outcome.{Command}
use Rattle.dp_runner.specs.Sessions.{Opened}

-- what the words after `group` say
pub record GroupForm : Type 0 where
  pub names : PlanForm
  pub column : List ℕ
  pub texts : List (List ℕ)

-- 1 to 1,023 texts; any words may be a column's and the texts
abbrev pub group_form_of : List ℕ → List ℕ → List ℕ → List ℕ → List (List ℕ) → Option GroupForm
group_form_of pipeline_name data_name plan column texts =
    if few_and_one (length texts)
    then option_map (λ names. record { names = names; column = column; texts = texts })
    (plan_form_of pipeline_name data_name plan)
    else None

unfoldable pub group_form : List (List ℕ) → Option GroupForm
group_form (pipeline_name ∷ data_name ∷ plan ∷ column ∷ texts) =
    group_form_of pipeline_name data_name plan column texts
group_form _ = None

-- by a pipeline and records, the bounds of its draws and its lines
abbrev pub group_slot : GroupForm → Opened → Slot (List ℕ)
group_slot form found =
    single_slot (group_verdict found.pipeline form.names.plan form.column form.texts) (value.Rows found.rows)

abbrev pub group_command : GroupForm → Command
group_command form = release_command form.names (group_slot form)
