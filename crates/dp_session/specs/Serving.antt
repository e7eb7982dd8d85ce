-- What an accepted query asks of the value of its node.
use Rattle.std.specs.Prelude.{◌≡◌, ℕ, ◌==◌, Bool, List, Option, Some, if◌then◌else◌}
use Rattle.dp_count.specs.Slots.{Slot}
use Rattle.dp_domain.specs.declared.domains.Domain.{Domain}
use Rattle.dp_domain.specs.declared.values.Value.{Value}
use Rattle.dp_domain.specs.Domains.{Has}
use Rattle.dp_law.specs.Mechanism.{Mechanism}
use Rattle.dp_store.specs.declared.held.Held.{Held}
use Rattle.dp_store.specs.Held.{held_value, IsHeld}
use Rattle.dp_store.specs.Stores.{StoreValue}
use Rattle.dp_store.specs.Taken.{IsOfColumns}
use Rattle.dp_session.specs.QueryLines.{task_text}
use Rattle.dp_session.specs.Runs.{task_shape}
use Rattle.dp_session.specs.SessionLines.{answered_text}
use Rattle.dp_session.specs.Values.{ValuesValue, held_of, staying}
use Rattle.dp_session.specs.Verdicts.{Task, Release, Child}

-- the domain of the values that it takes
abbrev pub task_input : Task → Domain
task_input (Release release) = release.input_domain
task_input (Child line) = line.input_domain

-- what is held is a value of a domain over the records of a store
pub record Suits (store : StoreValue) (held : Held) (domain : Domain) : Type 0 where
  pub is_held : IsHeld store.records held
  pub has : Has domain (held_value store.records held)
  pub of_columns : IsOfColumns store.columns domain

-- what is held of a node is a value that a task takes
pub record Serves (store : StoreValue) (values : ValuesValue) (node : ℕ) (task : Task) : Type 0 where
  pub held : Held
  pub there : held_of values node ≡ Some held
  pub suits : Suits store held (task_input task)

-- what is written of a task, by the value of its node and the draws
abbrev pub done_text : Value → Task → List ℕ → List ℕ
done_text v task draws = task_text (λ node release. answered_text (release.function v draws)) 0 task

-- the bounds of its draws, and that text
abbrev pub task_slot : Value → Task → Slot (List ℕ)
task_slot v task = record { shape = task_shape task; out = done_text v task }

-- of a release
abbrev pub release_slot : Value → Mechanism → Slot (List ℕ)
release_slot v release = record { shape = release.shape; out = λ draws. answered_text (release.function v draws) }

-- a node's value after an accepted query of that number, addressed to `most` whose value is v: a child's is what its
-- line gives of v, and others stay or are let go
abbrev pub value_then : Bool → ℕ → ℕ → Value → Task → ℕ → Option Value → Option Value
value_then all_stay number most v (Release release) node value = staying all_stay most node value
value_then all_stay number most v (Child line) node value =
    if number == node then Some (line.function v) else staying all_stay most node value
