-- One step of a run after another.
use Rattle.std.proofs.Common.{◌≡◌, ◌≤◌, ℕ, Option, Some, Result, Ok, Err, ap, arith, inl, inr, ⊎_elim}
use Rattle.dp_count.specs.Faults.{Rose}
use Rattle.dp_io.specs.Shelf.{Files}
use Rattle.dp_runner.specs.declared.stop.Stop.{Stop}
use Rattle.dp_runner.specs.declared.stop.Stop.TheVariants as stop
use Rattle.dp_runner.specs.Causes.{HasReason}
use Rattle.dp_count.specs.Results.{◌>>=◌}

pub bind-ok : {A B : Type 0} (r : Result A Stop) (next : A → Result B Stop) (x : A) → r ≡ Ok x → (r >>= next) ≡ next x
bind-ok r next x e = ap (λ w. w >>= next) e

pub bind-err : {A B : Type 0} (r : Result A Stop) (next : A → Result B Stop) (reason : Stop) → r ≡ Err reason → (r >>= next) ≡ Err reason
bind-err r next reason e = ap (λ w. w >>= next) e

-- a fault that rose early in a run rose in it
pub rose-early : (before mid now : ℕ) → Rose before mid → mid ≤ now → Rose before now
rose-early before mid now rose later = omega arith

-- a fault that rose late in a run rose in it
pub rose-late : (before mid now : ℕ) → before ≤ mid → Rose mid now → Rose before now
rose-late before mid now later rose = omega arith

-- a reason of a part of a run is a reason of the run, where the run's definition ends as the part's does
pub reason-carries : {A B : Type 0} (reason : Stop) (told : Option Files) (part : Files → Result A Stop) (whole : Files → Result B Stop) (before mid mid2 now : ℕ)
    → ((files : Files) → told ≡ Some files → part files ≡ Err reason → whole files ≡ Err reason)
    → before ≤ mid → mid2 ≤ now → HasReason reason told part mid mid2 → HasReason reason told whole before now
reason-carries stop.Usage told part whole before mid mid2 now carry early late h = h
reason-carries stop.ReadFault told part whole before mid mid2 now carry early late h =
    ⊎_elim (λ rose. inl (rose-early before mid2 now (rose-late before mid mid2 early rose) late)) (λ w. inr (w.0, w.1, carry w.0 w.1 w.2)) h
reason-carries stop.WriteFault told part whole before mid mid2 now carry early late h = h
reason-carries stop.NoMemory told part whole before mid mid2 now carry early late h = tt
reason-carries _ told part whole before mid mid2 now carry early late h = λ files e. carry files e (h files e)
