-- The commands that make one release of a plan: `post P DATA PLAN POST..` and `group P DATA PLAN COLUMN TEXT..`.
use Rattle.std.specs.Prelude.{ℕ, ◌&&◌, true, false, List, [], Option, Some, None, Result, Ok, Err, if◌then◌else◌}
use Rattle.dp_count.specs.Slots.{Slot}
use Rattle.dp_draws.specs.Taking.{Taken, take_draws}
use Rattle.dp_io.specs.Shelf.{Files}
use Rattle.dp_runner.specs.declared.stop.Stop.{Stop}
use Rattle.dp_runner.specs.declared.stop.Stop.TheVariants as stop
use Rattle.dp_runner.specs.Outcome.{Source, Outcome, Command, once_read}
use Rattle.dp_runner.specs.Sessions.{Opened, opened_at}
use Rattle.dp_runner.specs.Words.{is_file_name}

-- what the words P DATA PLAN say
pub record PlanForm : Type 0 where
  pub pipeline_name : List ℕ
  pub data_name : List ℕ
  pub plan : List ℕ

-- two files and a plan, if two words name files; any word may be a plan's
abbrev pub plan_form_of : List ℕ → List ℕ → List ℕ → Option PlanForm
plan_form_of pipeline_name data_name plan =
    if is_file_name pipeline_name && is_file_name data_name
    then Some (record { pipeline_name = pipeline_name; data_name = data_name; plan = plan })
    else None

-- what is written where the source gave the draws; else the run ends, and nothing is
abbrev pub where_given : Option (List ℕ) → List ℕ → (List ℕ → List ℕ) → Outcome
where_given None last out = record { bytes = []; stop = Some stop.DrawFault; last = last }
where_given (Some draws) last out = record { bytes = out draws; stop = None; last = last }

abbrev pub by_taken : Taken → (List ℕ → List ℕ) → Outcome
by_taken taken out = where_given taken.draws taken.last out

-- one slot on a source of draws
abbrev pub slot_outcome : Source → Slot (List ℕ) → Outcome
slot_outcome source slot = by_taken (take_draws source.step source.state slot.shape) slot.out

-- the bounds of its draws: none where the run ends before
abbrev pub slot_shape : (Opened → Slot (List ℕ)) → Result Opened Stop → List ℕ
slot_shape slot (Ok found) = (slot found).shape
slot_shape slot (Err reason) = []

-- one release by the source that is handed in, of which the slot tells the draws and the lines
unfoldable pub release_outcome : PlanForm → (Opened → Slot (List ℕ)) → Files → Source → Outcome
release_outcome names slot files source =
    once_read source (λ found. slot_outcome source (slot found)) (opened_at names.pipeline_name names.data_name files)

unfoldable pub release_shape : PlanForm → (Opened → Slot (List ℕ)) → Files → List ℕ
release_shape names slot files = slot_shape slot (opened_at names.pipeline_name names.data_name files)

-- what is said of both commands
abbrev pub release_command : PlanForm → (Opened → Slot (List ℕ)) → Command
release_command names slot = record {
  outcome = release_outcome names slot;
  files = 2;
  writes_last = true;
  keeps_source = false;
  shape = release_shape names slot;
  queries = None;
}
