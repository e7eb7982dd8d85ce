-- A run of words of a form is a run of that form's command.
use Rattle.std.proofs.Common.{◌≡◌, ◌+◌, ℕ, true, false, IsTrue, List, Option, Some, None, Result, sym, subst}
use Rattle.std.specs.Option.{ForSome}
use Rattle.dp_draws.specs.Taking.{Turn}
use Rattle.dp_io.specs.Shelf.{Files}
use Rattle.dp_law.specs.Releasing.{TakesFront}
use Rattle.dp_runner.specs.declared.form.Form.{Form}
use Rattle.dp_runner.specs.declared.form.Form.TheVariants as form
use Rattle.dp_runner.specs.declared.stop.Stop.{Stop}
use Rattle.dp_runner.specs.Account.{AccountForm}
use Rattle.dp_runner.specs.Outcome.{Source}
use Rattle.dp_runner.specs.Forms.{form_of, command_of, command_if, outcome}
use Rattle.dp_runner.specs.Causes.{Interrupts, Runs}
use Rattle.dp_runner.specs.Laws.{IsDone}

pub of-form : (words : List (List ℕ)) (f : Form) (source : Source) (result : Result (Unit {0}) Stop) (told : Option Files)
    → (before now : ℕ) (old new : Option (List ℕ)) (last : List ℕ)
    → form_of words ≡ Some f → Runs result told (λ files. (command_of f).outcome files source) before now old new last
    → Runs result told (λ files. outcome words files source) before now old new last
of-form words f source result told before now old new last is h =
    subst (λ (o : Option Form). Runs result told (λ files. (command_if o).outcome files source) before now old new last)
    (sym is) h

-- what is said of a form's queries is said of the run's
pub form-interrupts : (words : List (List ℕ)) (f : Form) (told : Option Files) (source : Source) (left old new : Option (List ℕ))
    (last : List ℕ) (before now : ℕ)
    → form_of words ≡ Some f
    → (now ≡ before + (command_of f).files → Interrupts (command_of f).queries told source left old new last)
    → now ≡ before + (command_if (form_of words)).files
    → Interrupts (command_if (form_of words)).queries told source left old new last
form-interrupts words f told source left old new last before now is h =
    subst (λ (o : Option Form). now ≡ before + (command_if o).files → Interrupts (command_if o).queries told source left old new last)
    (sym is) h

-- a form without queries
pub none-interrupts : (words : List (List ℕ)) (f : Form) (told : Option Files) (source : Source) (left old new : Option (List ℕ))
    (last : List ℕ)
    → form_of words ≡ Some f → (command_of f).queries ≡ None
    → Interrupts (command_if (form_of words)).queries told source left old new last
none-interrupts words f told source left old new last is none =
    subst (λ (o : Option Form). Interrupts (command_if o).queries told source left old new last) (sym is)
    (λ asked some. absurd (cc))

-- `account` writes before its end
pub account-early : (words : List (List ℕ)) (account : AccountForm) → form_of words ≡ Some (form.Account account)
    → IsTrue (command_if (form_of words)).writes_last → ⊥
account-early words account is last =
    let writes_last : Option Form → Type 0 = λ o. IsTrue (command_if o).writes_last in
    let false_is : false ≡ true = subst writes_last is last in
    cc

-- what nothing stops in the command, nothing stops in the run
pub form-done : (words : List (List ℕ)) (f : Form) (files : Files) (source : Source) (bytes last : List ℕ)
    → form_of words ≡ Some f → IsDone ((command_of f).outcome files source) bytes last
    → IsDone (outcome words files source) bytes last
form-done words f files source bytes last is h =
    subst (λ (o : Option Form). IsDone ((command_if o).outcome files source) bytes last) (sym is) h

-- what is taken for a form's command is taken for the run
pub form-taken : (words : List (List ℕ)) (f : Form) (step : List ℕ → ℕ → Turn) (before after : List ℕ) (told : Option Files)
    → form_of words ≡ Some f → ForSome told (λ files. TakesFront step ((command_of f).shape files) before after)
    → ForSome told (λ files. TakesFront step ((command_if (form_of words)).shape files) before after)
form-taken words f step before after told is h =
    subst (λ (o : Option Form). ForSome told (λ files. TakesFront step ((command_if o).shape files) before after)) (sym is) h
