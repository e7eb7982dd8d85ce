-- Pieces that are read from a slot or appended to a sink, one after another.
use Rattle.std.proofs.Common.{◌≡◌, ℕ, ◌+◌, ◌-◌, List, ◌++◌, length, take, drop, Option, Some, None, refl, sym, ap, ◌∙◌, append_assoc}
use Rattle.std.proofs.Math.Seq.{take-add}
use Rattle.std.proofs.lemmas.List.{take-append-drop, take_rest}
use Rattle.dp_io.specs.Sink.{appended, AddsFront}
use Rattle.dp_io.specs.Shelf.{preceded, TakesNext, KeepsRest}

pub appended-append : (held : Option (List ℕ)) (a b : List ℕ) → appended (appended held a) b ≡ appended held (a ++ b)
appended-append None a b = refl
appended-append (Some h) a b = ap Some (append_assoc h a b)

-- the next m bytes after the first n
pub appended-next : (held : Option (List ℕ)) (n m : ℕ) (bytes : List ℕ) → appended (appended held (take n bytes)) (take m (take (length bytes - n) (drop n bytes))) ≡ appended held (take (n + m) bytes)
appended-next held n m bytes =
    rw (take_rest bytes n) (appended-append held (take n bytes) (take m (drop n bytes)) ∙ ap (appended held) (sym (take-add n m bytes)))

-- a sink that gained the first n bytes gained a front of them
pub AddsFront-taken : (old new : Option (List ℕ)) (n : ℕ) (bytes : List ℕ) → new ≡ appended old (take n bytes) → AddsFront old new bytes
AddsFront-taken old new n bytes h = record { front = take n bytes; rest = drop n bytes; split = sym (take-append-drop n bytes); gained = h }

pub preceded-append : (a b : List ℕ) (left : Option (List ℕ)) → preceded a (preceded b left) ≡ preceded (a ++ b) left
preceded-append a b None = refl
preceded-append a b (Some l) = ap Some (sym (append_assoc a b l))

-- what a read took stood before what it left
pub preceded-taken : (old new : Option (List ℕ)) (n : ℕ) (buffer : List ℕ) → TakesNext old new n buffer → old ≡ preceded (take n buffer) new
preceded-taken None new n buffer h = rw h refl
preceded-taken (Some left) new n buffer h = rw (h.0, h.1) (ap Some (sym (take-append-drop n left)))

-- after bytes were read from what was left, a read takes the next of it
pub preceded-more : (old now new : Option (List ℕ)) (bytes : List ℕ) (n : ℕ) (buffer : List ℕ) → old ≡ preceded bytes now → TakesNext now new n buffer → old ≡ preceded (bytes ++ take n buffer) new
preceded-more old now new bytes n buffer h t =
    h ∙ ap (preceded bytes) (preceded-taken now new n buffer t) ∙ preceded-append bytes (take n buffer) new

-- after a further read the slot holds a rest of what was left
pub KeepsRest-more : (old now new : Option (List ℕ)) (bytes : List ℕ) (n : ℕ) (buffer : List ℕ) → old ≡ preceded bytes now → TakesNext now new n buffer → KeepsRest old new
KeepsRest-more old now new bytes n buffer h t = record { front = bytes ++ take n buffer; split = preceded-more old now new bytes n buffer h t }
