-- An account's text of queries, as any other's that takes no draws.
use Rattle.std.proofs.Common.{◌≡◌, ◌∙◌, ◌^◌, ℕ, Bool, true, false, List, [], ◌∷◌, ◌++◌, length, Option, Some, None, refl, ap}
use Rattle.std.specs.Prelude.{reverse, if◌then◌else◌}
use Rattle.std.proofs.lemmas.List.{length-reverse}
use Rattle.dp_draws.specs.Taking.{Turn, take_draws}
use Rattle.dp_draws.specs.Sources.{no_step}
use Rattle.dp_io.specs.Lines.{lines_within, has_line_over, ended_lines}
use Rattle.dp_pipeline.specs.declared.content.Content.{Content}
use Rattle.dp_session.specs.QueryLines.{account_line, account_lines, end_line}
use Rattle.dp_session.specs.SessionLines.{preceded, account_slot, line_slots, run_slots}
use Rattle.dp_session.specs.Verdicts.{root_spent}
use Rattle.dp_runner.specs.declared.stop.Stop.TheVariants as stop
use Rattle.dp_runner.specs.Account.{accounted}
use Rattle.dp_runner.specs.Answering.{ends, answered, interrupted, account_answering}
use Rattle.dp_runner.specs.Outcome.{Source, source_at, or_stop, once_read, by_own_draws}

-- the source of an account, from which no draw is taken
abbrev pub no_source : Source
no_source = source_at no_step []

-- its lines take no draws
ran-account : (step : List ℕ → ℕ → Turn) (pipeline : Content) (past lines : List (List ℕ)) (state : List ℕ)
    → run_slots step (line_slots (account_slot pipeline) past lines) state
    ≡ record { bytes = account_lines pipeline past lines; enough = true; last = state }
unfolding run_slots line_slots account_lines take_draws
ran-account step pipeline past [] state = refl
ran-account step pipeline past (line ∷ lines) state =
    ap (preceded (account_line pipeline past line)) (ran-account step pipeline (line ∷ past) lines state)

-- the lines of which this much was given
pub account-cut : (source : Source) (pipeline : Content) (given : List ℕ)
    → by_own_draws source (interrupted no_source (account_answering pipeline) given)
    ≡ record { bytes = account_lines pipeline [] (ended_lines given); stop = Some stop.ReadFault; last = source.state }
unfolding interrupted
account-cut source pipeline given = rw (ran-account no_step pipeline [] (ended_lines given) []) refl

own-ends : (source : Source) (over : Bool) (lines end last : List ℕ)
    → by_own_draws source (ends (record { bytes = lines; enough = true; last = last }) over end)
    ≡ (if over then record { bytes = lines; stop = Some stop.QueryLimit; last = source.state }
    else record { bytes = lines ++ end; stop = None; last = source.state })
own-ends source true lines end last = refl
own-ends source false lines end last = refl

pub accounted-is : (source : Source) (pipeline : Content) (text : List ℕ)
    → by_own_draws source (answered no_source (account_answering pipeline) text) ≡ accounted source pipeline text
unfolding accounted answered
accounted-is source pipeline text =
    let lines : List (List ℕ) = lines_within (2 ^ 20) text in
    let over : Bool = has_line_over (2 ^ 20) text in
    ap (λ ran. by_own_draws source (ends ran over (end_line (length (reverse lines)) (root_spent pipeline (reverse lines)))))
    (ran-account no_step pipeline [] lines [])
    ∙ ap (λ n. by_own_draws source (ends (record { bytes = account_lines pipeline [] lines; enough = true; last = [] }) over
    (end_line n (root_spent pipeline (reverse lines))))) (length-reverse lines)
    ∙ own-ends source over (account_lines pipeline [] lines) (end_line (length lines) (root_spent pipeline (reverse lines))) []

pub file-accounted : (source : Source) (pipeline : Content) (found : Option (List ℕ))
    → by_own_draws source (once_read no_source (answered no_source (account_answering pipeline)) (or_stop stop.ReadFault found))
    ≡ once_read source (accounted source pipeline) (or_stop stop.ReadFault found)
file-accounted source pipeline None = refl
file-accounted source pipeline (Some text) = accounted-is source pipeline text
