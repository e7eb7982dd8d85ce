-- Steps that may be refused, one after the other.
use Rattle.std.specs.Prelude.{Result, Ok, Err}

-- the next step, where there was no refusal
infixl 10 ◌>>=◌
abbrev pub ◌>>=◌ : {A B E : Type 0} → Result A E → (A → Result B E) → Result B E
Ok x >>= next = next x
Err refusal >>= next = Err refusal

-- the value as another, where there was no refusal
abbrev pub on_ok : {A B E : Type 0} → (A → B) → Result A E → Result B E
on_ok f (Ok x) = Ok (f x)
on_ok f (Err refusal) = Err refusal
