-- What accepted queries mean.
use Rattle.dp_chain.specs.contracts.line.LineTransformation.TheImpl.{ghosts as line_ghosts}
use Rattle.dp_chain.specs.contracts.release.ReleaseMeasurement.TheImpl.{ghosts as release_ghosts}
use Rattle.dp_session.specs.declared.task.Task as made_task
use Rattle.dp_session.specs.declared.task.Task.TheVariants as task
use Rattle.dp_session.specs.declared.work.Work as made_work
use Rattle.dp_session.specs.Verdicts.{Task, Release, Child}
use Rattle.dp_session.specs.QueryLines.{Work}

-- what a task means
abbrev pub task_of : made_task.Task → Task
task_of (task.Release release) = Release (release_ghosts.mechanism release)
task_of (task.Child line) = Child (line_ghosts.mapping line)

-- what an accepted query means
abbrev pub meaning_of : made_work.Work → Work
meaning_of work = record { node = work.node; cost = work.cost; task = task_of work.task }
