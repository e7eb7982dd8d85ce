-- The forms of words that a run takes, and what a run of any words does: a row a command.
use Rattle.std.specs.Prelude.{ℕ, true, List, [], ◌∷◌, Option, Some, None, if◌then◌else◌, option_map, codes}
use Rattle.std.specs.Str.{bytes_eq}
use Rattle.dp_io.specs.Shelf.{Files}
use Rattle.dp_runner.specs.declared.form.Form.{Form}
use Rattle.dp_runner.specs.declared.form.Form.TheVariants as form
use Rattle.dp_runner.specs.declared.stop.Stop.TheVariants as stop
use Rattle.dp_runner.specs.Outcome.{Source, Outcome, Command, no_draws}
use Rattle.dp_runner.specs.Account.{account_form, account_command}
use Rattle.dp_runner.specs.Check.{check_form, check_command}
use Rattle.dp_runner.specs.Count.{count_form, count_command}
use Rattle.dp_runner.specs.Group.{group_form, group_command}
use Rattle.dp_runner.specs.Post.{post_form, post_command}
use Rattle.dp_runner.specs.Sessions.{run_form, run_command, replay_form, replay_command, rehearse_form, rehearse_command}
use Rattle.dp_runner.specs.Sample.{sample_form, sample_command}

-- what a command's word and the words after it say
abbrev pub form_after : List ℕ → List (List ℕ) → Option Form
form_after command words =
    if bytes_eq command (codes "count") then option_map form.Count (count_form words)
    else if bytes_eq command (codes "check") then option_map form.Check (check_form words)
    else if bytes_eq command (codes "account") then option_map form.Account (account_form words)
    else if bytes_eq command (codes "run") then option_map form.Run (run_form words)
    else if bytes_eq command (codes "replay") then option_map form.Replay (replay_form words)
    else if bytes_eq command (codes "rehearse") then option_map form.Rehearse (rehearse_form words)
    else if bytes_eq command (codes "sample") then option_map form.Sample (sample_form words)
    else if bytes_eq command (codes "post") then option_map form.Post (post_form words)
    else if bytes_eq command (codes "group") then option_map form.Group (group_form words)
    else None

-- what is said of each form
abbrev pub command_of : Form → Command
command_of (form.Count words) = count_command words
command_of (form.Check words) = check_command words
command_of (form.Account words) = account_command words
command_of (form.Run words) = run_command words
command_of (form.Replay words) = replay_command words
command_of (form.Rehearse words) = rehearse_command words
command_of (form.Sample records) = sample_command records
command_of (form.Post words) = post_command words
command_of (form.Group words) = group_command words

-- the form of all words
unfoldable pub form_of : List (List ℕ) → Option Form
form_of [] = None
form_of (command ∷ words) = form_after command words

-- what is said of words of no form: they end the run
abbrev pub no_command : Command
no_command = record {
  outcome = λ files source. record { bytes = []; stop = Some stop.Usage; last = source.state };
  files = 0;
  writes_last = true;
  keeps_source = true;
  shape = no_draws;
  queries = None;
}

-- what is said of words of that form, if they are of one
abbrev pub command_if : Option Form → Command
command_if None = no_command
command_if (Some form) = command_of form

-- what is said of all words
abbrev pub command : List (List ℕ) → Command
command words = command_if (form_of words)

-- what a run does
abbrev pub outcome : List (List ℕ) → Files → Source → Outcome
outcome words files source = (command words).outcome files source
