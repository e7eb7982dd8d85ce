-- The leading run, counted draw by draw while all draws are taken.
use Rattle.std.proofs.Common.{◌≡◌, ℕ, ◌+◌, ◌-◌, ◌<◌, ◌≤◌, suc, Bool, true, false, ◌&&◌, ltb, List, [], ◌∷◌, replicate, Option, Some, None, refl, sym, ap, ◌∙◌, arith}
use Rattle.std.specs.Prelude.{if◌then◌else◌}
use Rattle.std.specs.Option.{option_map}
use mir.Val.{bool_byte}
use Rattle.dp_draws.specs.Taking.{Turn, put_first, take_draws}
use Rattle.dp_draws.proofs.Taking.{take_draws-none, take_draws-some, take_draws-fails}
use Rattle.dp_geometric.specs.OneCell.{leading_run}

-- the leading run of which `run` draws were seen, and none that ended it while `still` is true
abbrev pub counted : Bool → ℕ → ℕ → List ℕ → ℕ
counted still run low draws = if still then run + leading_run low draws else run

-- what is still to be taken gives what the whole gives
pub record Forward (step : List ℕ → ℕ → Turn) (start state : List ℕ) (before now turns turn low high run : ℕ) (still : Bool) : Type 0 where
  pub runs : option_map (counted still run low) (take_draws step state (replicate (turns - turn) high)).draws ≡ option_map (leading_run low) (take_draws step start (replicate turns high)).draws
  pub last : (take_draws step state (replicate (turns - turn) high)).last ≡ (take_draws step start (replicate turns high)).last
  pub kept : now ≡ before
  pub few : run ≤ turn

counted-hit : (test : Bool) (run low : ℕ) (draws : List ℕ) → run + (if test then 1 + leading_run low draws else 0) ≡ counted test (run + bool_byte test) low draws
counted-hit true run low draws = omega arith
counted-hit false run low draws = refl

counted-more : (still : Bool) (run low draw : ℕ) (draws : List ℕ) → counted still run low (draw ∷ draws) ≡ counted (still && ltb draw low) (run + bool_byte (still && ltb draw low)) low draws
counted-more true run low draw draws = counted-hit (ltb draw low) run low draws
counted-more false run low draw draws = omega arith

counted-none : (still : Bool) (run low : ℕ) → counted still run low [] ≡ run
counted-none true run low = omega arith
counted-none false run low = refl

byte-few : (test : Bool) → bool_byte test ≤ 1
byte-few true = omega arith
byte-few false = omega arith

runs-more : (still : Bool) (run low draw : ℕ) (rest : Option (List ℕ)) → option_map (counted still run low) (option_map (λ draws. draw ∷ draws) rest) ≡ option_map (counted (still && ltb draw low) (run + bool_byte (still && ltb draw low)) low) rest
runs-more still run low draw None = refl
runs-more still run low draw (Some draws) = ap Some (counted-more still run low draw draws)

-- one more draw
taken-more : (step : List ℕ → ℕ → Turn) (state next : List ℕ) (turns turn high draw : ℕ) → turn < turns → step state high ≡ record { draw = Some draw; next = next } → take_draws step state (replicate (turns - turn) high) ≡ put_first draw (take_draws step next (replicate (turns - (turn + 1)) high))
taken-more step state next turns turn high draw left turned =
    let e : turns - turn ≡ suc (turns - (turn + 1)) = omega arith in
    ap (λ n. take_draws step state (replicate n high)) e ∙ take_draws-some step state high (replicate (turns - (turn + 1)) high) draw next turned

pub forward-more : (step : List ℕ → ℕ → Turn) (start state next : List ℕ) (before now after turns turn low high run draw : ℕ) (still : Bool) → Forward step start state before now turns turn low high run still → turn < turns → step state high ≡ record { draw = Some draw; next = next } → after ≡ now →
    Forward step start next before after turns (turn + 1) low high (run + bool_byte (still && ltb draw low)) (still && ltb draw low)
forward-more step start state next before now after turns turn low high run draw still f left turned kept =
    let e = taken-more step state next turns turn high draw left turned in
    let b = byte-few (still && ltb draw low) in
    let given_kept = f.kept in
    let given_few = f.few in
    record {
      runs = sym (runs-more still run low draw (take_draws step next (replicate (turns - (turn + 1)) high)).draws) ∙ sym (ap (λ t. option_map (counted still run low) t.draws) e) ∙ f.runs;
      last = sym (ap (λ t. t.last) e) ∙ f.last;
      kept = omega arith;
      few = omega arith;
    }

-- a draw that fails
pub forward-fails : (step : List ℕ → ℕ → Turn) (start state next : List ℕ) (before now turns turn low high run : ℕ) (still : Bool) → Forward step start state before now turns turn low high run still → turn < turns → step state high ≡ record { draw = None; next = next } →
    (None ≡ option_map (leading_run low) (take_draws step start (replicate turns high)).draws) × (next ≡ (take_draws step start (replicate turns high)).last)
forward-fails step start state next before now turns turn low high run still f left turned =
    let n : turns - turn ≡ suc (turns - (turn + 1)) = omega arith in
    let e = ap (λ m. take_draws step state (replicate m high)) n ∙ take_draws-fails step state high (replicate (turns - (turn + 1)) high) next turned in
    (sym (ap (λ t. option_map (counted still run low) t.draws) e) ∙ f.runs, sym (ap (λ t. t.last) e) ∙ f.last)

-- all draws taken
pub forward-ends : (step : List ℕ → ℕ → Turn) (start state : List ℕ) (before now turns turn low high run : ℕ) (still : Bool) → Forward step start state before now turns turn low high run still → turns ≤ turn →
    (Some run ≡ option_map (leading_run low) (take_draws step start (replicate turns high)).draws) × (state ≡ (take_draws step start (replicate turns high)).last)
forward-ends step start state before now turns turn low high run still f over =
    let n : turns - turn ≡ 0 = omega arith in
    let e = ap (λ m. take_draws step state (replicate m high)) n ∙ take_draws-none step state in
    (ap Some (sym (counted-none still run low)) ∙ sym (ap (λ t. option_map (counted still run low) t.draws) e) ∙ f.runs, sym (ap (λ t. t.last) e) ∙ f.last)
