use Rattle.std.proofs.Common.{◌∙◌, refl, sym, ap, map, Some}
use Rattle.std.specs.Prelude.{string_bytes}
use Rattle.dp_runner.specs.declared.form.Form.TheVariants as form
use Rattle.dp_runner.specs.Forms.{command}
use Rattle.dp_runner.specs.Outcome.{Source}
use Rattle.dp_runner.proofs.FileRuns.{none-taken}
use Rattle.dp_runner.proofs.FormRuns.{of-form, account-early, form-taken, form-interrupts, none-interrupts}
use Rattle.dp_runner.proofs.SampleRuns.{few-records, kept-alone}
use Rattle.dp_runner.proofs.SessionRuns.{never-falls}
use Rattle.dp_runner.proofs.run.run.Goals as goal

pub returns-in-Some-Count-clause-runs : goal.returns-in-Some-Count-clause-runs
returns-in-Some-Count-clause-runs g c =
    let source : Source = record { step = g.D.Draws.step; state = g.D.Draws.state c.args.draws.now } in
    of-form (map string_bytes c.args.words.now) (form.Count c.in-Some-Count.form) source c.run_count.result _ _ _ _ _ _
    (sym c.form_of.ensures ∙ c.in-Some-Count.is ∙ ap Some c.in-Some-Count.field-0-is) (c.run_count.ensures.runs source)

pub returns-in-Some-Check-clause-runs : goal.returns-in-Some-Check-clause-runs
returns-in-Some-Check-clause-runs g c =
    let source : Source = record { step = g.D.Draws.step; state = g.D.Draws.state c.args.draws.now } in
    of-form (map string_bytes c.args.words.now) (form.Check c.in-Some-Check.form) source c.run_check.result _ _ _ _ _ _
    (sym c.form_of.ensures ∙ c.in-Some-Check.is ∙ ap Some c.in-Some-Check.field-0-is) (c.run_check.ensures.runs source)

pub returns-in-Some-Account-clause-runs : goal.returns-in-Some-Account-clause-runs
returns-in-Some-Account-clause-runs g c =
    let source : Source = record { step = g.D.Draws.step; state = g.D.Draws.state c.args.draws.now } in
    of-form (map string_bytes c.args.words.now) (form.Account c.in-Some-Account.form) source c.run_account.result _ _ _ _ _ _
    (sym c.form_of.ensures ∙ c.in-Some-Account.is ∙ ap Some c.in-Some-Account.field-0-is) (c.run_account.ensures.runs source)

pub returns-in-Some-Account-clause-nothing : goal.returns-in-Some-Account-clause-nothing
returns-in-Some-Account-clause-nothing g c = λ last.
    absurd (account-early (map string_bytes c.args.words.now) c.in-Some-Account.form
    (sym c.form_of.ensures ∙ c.in-Some-Account.is ∙ ap Some c.in-Some-Account.field-0-is) last)

pub returns-in-Some-Run-clause-runs : goal.returns-in-Some-Run-clause-runs
returns-in-Some-Run-clause-runs g c =
    let source : Source = record { step = g.D.Draws.step; state = g.D.Draws.state c.args.draws.now } in
    of-form (map string_bytes c.args.words.now) (form.Run c.in-Some-Run.form) source c.run_session.result _ _ _ _ _ _
    (sym c.form_of.ensures ∙ c.in-Some-Run.is ∙ ap Some c.in-Some-Run.field-0-is) c.run_session.ensures.runs

pub returns-in-Some-Replay-clause-runs : goal.returns-in-Some-Replay-clause-runs
returns-in-Some-Replay-clause-runs g c =
    let source : Source = record { step = g.D.Draws.step; state = g.D.Draws.state c.args.draws.now } in
    of-form (map string_bytes c.args.words.now) (form.Replay c.in-Some-Replay.form) source c.run_replay.result _ _ _ _ _ _
    (sym c.form_of.ensures ∙ c.in-Some-Replay.is ∙ ap Some c.in-Some-Replay.field-0-is) (c.run_replay.ensures.runs source)

pub returns-in-Some-Rehearse-clause-runs : goal.returns-in-Some-Rehearse-clause-runs
returns-in-Some-Rehearse-clause-runs g c =
    let source : Source = record { step = g.D.Draws.step; state = g.D.Draws.state c.args.draws.now } in
    of-form (map string_bytes c.args.words.now) (form.Rehearse c.in-Some-Rehearse.form) source c.run_rehearse.result _ _ _ _ _ _
    (sym c.form_of.ensures ∙ c.in-Some-Rehearse.is ∙ ap Some c.in-Some-Rehearse.field-0-is) (c.run_rehearse.ensures.runs source)

pub run_sample-requires : goal.run_sample-requires
run_sample-requires g c =
    few-records (map string_bytes c.args.words.now) c.in-Some-Sample.records
    (sym c.form_of.ensures ∙ c.in-Some-Sample.is ∙ ap Some c.in-Some-Sample.field-0-is)

pub returns-in-Some-Sample-clause-runs : goal.returns-in-Some-Sample-clause-runs
returns-in-Some-Sample-clause-runs g c =
    let source : Source = record { step = g.D.Draws.step; state = g.D.Draws.state c.args.draws.now } in
    of-form (map string_bytes c.args.words.now) (form.Sample c.in-Some-Sample.records) source c.run_sample.result _ _ _ _ _ _
    (sym c.form_of.ensures ∙ c.in-Some-Sample.is ∙ ap Some c.in-Some-Sample.field-0-is)
    (c.run_sample.ensures.runs source _ (g.S.Shelf.faults c.args.shelf.now))

pub returns-in-Some-Sample-clause-kept : goal.returns-in-Some-Sample-clause-kept
returns-in-Some-Sample-clause-kept g c = kept-alone c.run_sample.result (g.S.Shelf.faults c.args.shelf.now)

pub returns-in-Some-Sample-clause-taken : goal.returns-in-Some-Sample-clause-taken
returns-in-Some-Sample-clause-taken g c = λ other files is.
    none-taken g.D.Draws.step ((command (map string_bytes c.args.words.now)).shape files) (g.D.Draws.state c.args.draws.now)

pub returns-in-None-clause-taken : goal.returns-in-None-clause-taken
returns-in-None-clause-taken g c = λ other files is.
    none-taken g.D.Draws.step ((command (map string_bytes c.args.words.now)).shape files) (g.D.Draws.state c.args.draws.now)

pub returns-in-Some-Count-clause-taken : goal.returns-in-Some-Count-clause-taken
returns-in-Some-Count-clause-taken g c = λ other files is.
    none-taken g.D.Draws.step ((command (map string_bytes c.args.words.now)).shape files) (g.D.Draws.state c.args.draws.now)

pub returns-in-Some-Check-clause-taken : goal.returns-in-Some-Check-clause-taken
returns-in-Some-Check-clause-taken g c = λ other files is.
    none-taken g.D.Draws.step ((command (map string_bytes c.args.words.now)).shape files) (g.D.Draws.state c.args.draws.now)

pub returns-in-Some-Account-clause-taken : goal.returns-in-Some-Account-clause-taken
returns-in-Some-Account-clause-taken g c = λ other files is.
    none-taken g.D.Draws.step ((command (map string_bytes c.args.words.now)).shape files) (g.D.Draws.state c.args.draws.now)

pub returns-in-Some-Replay-clause-taken : goal.returns-in-Some-Replay-clause-taken
returns-in-Some-Replay-clause-taken g c = λ other files is.
    none-taken g.D.Draws.step ((command (map string_bytes c.args.words.now)).shape files) (g.D.Draws.state c.args.draws.now)

pub returns-in-Some-Rehearse-clause-taken : goal.returns-in-Some-Rehearse-clause-taken
returns-in-Some-Rehearse-clause-taken g c = λ other files is.
    none-taken g.D.Draws.step ((command (map string_bytes c.args.words.now)).shape files) (g.D.Draws.state c.args.draws.now)

pub returns-in-Some-Run-clause-taken : goal.returns-in-Some-Run-clause-taken
returns-in-Some-Run-clause-taken g c = λ other.
    form-taken (map string_bytes c.args.words.now) (form.Run c.in-Some-Run.form) g.D.Draws.step (g.D.Draws.state c.args.draws.now) _
    (g.S.Shelf.files c.args.shelf.now) (sym c.form_of.ensures ∙ c.in-Some-Run.is ∙ ap Some c.in-Some-Run.field-0-is)
    (c.run_session.ensures.taken other)

pub returns-in-Some-Run-clause-source_later : goal.returns-in-Some-Run-clause-source_later
returns-in-Some-Run-clause-source_later g c =
    never-falls c.run_session.result _ _ c.run_session.ensures.draw_fault c.run_session.ensures.draws_kept
    (g.met.D.Draws.few_faults c.args.draws.now)

pub returns-in-Some-Post-clause-runs : goal.returns-in-Some-Post-clause-runs
returns-in-Some-Post-clause-runs g c =
    let source : Source = record { step = g.D.Draws.step; state = g.D.Draws.state c.args.draws.now } in
    of-form (map string_bytes c.args.words.now) (form.Post c.in-Some-Post.form) source c.run_release.result _ _ _ _ _ _
    (sym c.form_of.ensures ∙ c.in-Some-Post.is ∙ ap Some c.in-Some-Post.field-0-is) c.run_release.ensures.runs

pub returns-in-Some-Post-clause-taken : goal.returns-in-Some-Post-clause-taken
returns-in-Some-Post-clause-taken g c = λ other.
    form-taken (map string_bytes c.args.words.now) (form.Post c.in-Some-Post.form) g.D.Draws.step (g.D.Draws.state c.args.draws.now) _
    (g.S.Shelf.files c.args.shelf.now) (sym c.form_of.ensures ∙ c.in-Some-Post.is ∙ ap Some c.in-Some-Post.field-0-is)
    (c.run_release.ensures.taken other)

pub returns-in-Some-Post-clause-source_later : goal.returns-in-Some-Post-clause-source_later
returns-in-Some-Post-clause-source_later g c =
    never-falls c.run_release.result _ _ c.run_release.ensures.draw_fault c.run_release.ensures.draws_kept
    (g.met.D.Draws.few_faults c.args.draws.now)

pub returns-in-Some-Group-clause-runs : goal.returns-in-Some-Group-clause-runs
returns-in-Some-Group-clause-runs g c =
    let source : Source = record { step = g.D.Draws.step; state = g.D.Draws.state c.args.draws.now } in
    of-form (map string_bytes c.args.words.now) (form.Group c.in-Some-Group.form) source c.run_release-in-Some-Group.result _ _ _ _ _ _
    (sym c.form_of.ensures ∙ c.in-Some-Group.is ∙ ap Some c.in-Some-Group.field-0-is) c.run_release-in-Some-Group.ensures.runs

pub returns-in-Some-Group-clause-taken : goal.returns-in-Some-Group-clause-taken
returns-in-Some-Group-clause-taken g c = λ other.
    form-taken (map string_bytes c.args.words.now) (form.Group c.in-Some-Group.form) g.D.Draws.step (g.D.Draws.state c.args.draws.now) _
    (g.S.Shelf.files c.args.shelf.now) (sym c.form_of.ensures ∙ c.in-Some-Group.is ∙ ap Some c.in-Some-Group.field-0-is)
    (c.run_release-in-Some-Group.ensures.taken other)

pub returns-in-Some-Group-clause-source_later : goal.returns-in-Some-Group-clause-source_later
returns-in-Some-Group-clause-source_later g c =
    never-falls c.run_release-in-Some-Group.result _ _ c.run_release-in-Some-Group.ensures.draw_fault c.run_release-in-Some-Group.ensures.draws_kept
    (g.met.D.Draws.few_faults c.args.draws.now)

pub returns-in-Some-Run-clause-interrupted : goal.returns-in-Some-Run-clause-interrupted
returns-in-Some-Run-clause-interrupted g c = λ failed.
    let source : Source = record { step = g.D.Draws.step; state = g.D.Draws.state c.args.draws.now } in
    form-interrupts (map string_bytes c.args.words.now) (form.Run c.in-Some-Run.form) (g.S.Shelf.files c.args.shelf.now) source _ _ _ _
    (g.S.Shelf.slots c.args.shelf.now) _
    (sym c.form_of.ensures ∙ c.in-Some-Run.is ∙ ap Some c.in-Some-Run.field-0-is)
    (c.run_session.ensures.interrupted failed)

pub returns-in-Some-Replay-clause-interrupted : goal.returns-in-Some-Replay-clause-interrupted
returns-in-Some-Replay-clause-interrupted g c = λ failed.
    let source : Source = record { step = g.D.Draws.step; state = g.D.Draws.state c.args.draws.now } in
    form-interrupts (map string_bytes c.args.words.now) (form.Replay c.in-Some-Replay.form) (g.S.Shelf.files c.args.shelf.now) source _ _ _ _
    (g.S.Shelf.slots c.args.shelf.now) _
    (sym c.form_of.ensures ∙ c.in-Some-Replay.is ∙ ap Some c.in-Some-Replay.field-0-is)
    (c.run_replay.ensures.interrupted source failed)

pub returns-in-Some-Rehearse-clause-interrupted : goal.returns-in-Some-Rehearse-clause-interrupted
returns-in-Some-Rehearse-clause-interrupted g c = λ failed.
    let source : Source = record { step = g.D.Draws.step; state = g.D.Draws.state c.args.draws.now } in
    form-interrupts (map string_bytes c.args.words.now) (form.Rehearse c.in-Some-Rehearse.form) (g.S.Shelf.files c.args.shelf.now) source _ _ _ _
    (g.S.Shelf.slots c.args.shelf.now) _
    (sym c.form_of.ensures ∙ c.in-Some-Rehearse.is ∙ ap Some c.in-Some-Rehearse.field-0-is)
    (c.run_rehearse.ensures.interrupted source failed)

pub returns-in-Some-Account-clause-interrupted : goal.returns-in-Some-Account-clause-interrupted
returns-in-Some-Account-clause-interrupted g c = λ failed.
    let source : Source = record { step = g.D.Draws.step; state = g.D.Draws.state c.args.draws.now } in
    form-interrupts (map string_bytes c.args.words.now) (form.Account c.in-Some-Account.form) (g.S.Shelf.files c.args.shelf.now) source _ _ _ _
    (g.S.Shelf.slots c.args.shelf.now) _
    (sym c.form_of.ensures ∙ c.in-Some-Account.is ∙ ap Some c.in-Some-Account.field-0-is)
    (c.run_account.ensures.interrupted source failed)

pub returns-in-Some-Count-clause-interrupted : goal.returns-in-Some-Count-clause-interrupted
returns-in-Some-Count-clause-interrupted g c = λ failed opened.
    none-interrupts (map string_bytes c.args.words.now) (form.Count c.in-Some-Count.form) _ _ _ _ _ _
    (sym c.form_of.ensures ∙ c.in-Some-Count.is ∙ ap Some c.in-Some-Count.field-0-is) refl

pub returns-in-Some-Check-clause-interrupted : goal.returns-in-Some-Check-clause-interrupted
returns-in-Some-Check-clause-interrupted g c = λ failed opened.
    none-interrupts (map string_bytes c.args.words.now) (form.Check c.in-Some-Check.form) _ _ _ _ _ _
    (sym c.form_of.ensures ∙ c.in-Some-Check.is ∙ ap Some c.in-Some-Check.field-0-is) refl

pub returns-in-Some-Sample-clause-interrupted : goal.returns-in-Some-Sample-clause-interrupted
returns-in-Some-Sample-clause-interrupted g c = λ failed opened.
    none-interrupts (map string_bytes c.args.words.now) (form.Sample c.in-Some-Sample.records) _ _ _ _ _ _
    (sym c.form_of.ensures ∙ c.in-Some-Sample.is ∙ ap Some c.in-Some-Sample.field-0-is) refl

pub returns-in-Some-Post-clause-interrupted : goal.returns-in-Some-Post-clause-interrupted
returns-in-Some-Post-clause-interrupted g c = λ failed opened.
    none-interrupts (map string_bytes c.args.words.now) (form.Post c.in-Some-Post.form) _ _ _ _ _ _
    (sym c.form_of.ensures ∙ c.in-Some-Post.is ∙ ap Some c.in-Some-Post.field-0-is) refl

pub returns-in-Some-Group-clause-interrupted : goal.returns-in-Some-Group-clause-interrupted
returns-in-Some-Group-clause-interrupted g c = λ failed opened.
    none-interrupts (map string_bytes c.args.words.now) (form.Group c.in-Some-Group.form) _ _ _ _ _ _
    (sym c.form_of.ensures ∙ c.in-Some-Group.is ∙ ap Some c.in-Some-Group.field-0-is) refl
