-- Two releases one after the other as one release of the joined shape.
use Rattle.std.proofs.Common.{◌≡◌, ℕ, List, [], ◌++◌, length, take, drop, Option, Some, None, Ok, Err, refl, sym, ◌∙◌, ap, append_assoc}
use Rattle.std.specs.Option.{option_map}
use Rattle.std.proofs.Math.Seq.{take-append_seam, drop-append_seam}
use Rattle.std.proofs.lemmas.List.{append-nil}
use Rattle.dp_draws.specs.Taking.{Turn, Taken, take_draws}
use Rattle.dp_draws.proofs.Taking.{take_draws-append-fails, take_draws-append-some, take_draws-length}
use Rattle.dp_law.specs.declared.pieces.Piece.{Piece}
use Rattle.dp_law.specs.declared.faults.ReleaseFault.{ReleaseFault}
use Rattle.dp_law.specs.declared.faults.ReleaseFault.TheVariants as fault
use Rattle.dp_law.specs.Releasing.{TakesFront, Released}

drawn-by : (function : List ℕ → List Piece) (answer : List Piece) (taken : Option (List ℕ)) → Some answer ≡ option_map function taken → (draws : List ℕ) × (taken ≡ Some draws) × (answer ≡ function draws)
drawn-by function answer None h = absurd (cc)
drawn-by function answer (Some draws) h = (draws, refl, cc)

-- the draws that a released answer was made from
pub released-draws : (step : List ℕ → ℕ → Turn) (shape : List ℕ) (function : List ℕ → List Piece) (before after : List ℕ) (answer : List Piece) → Released step shape function before (Ok answer) after →
    (draws : List ℕ) × (take_draws step before shape ≡ record { draws = Some draws; last = after }) × (answer ≡ function draws)
released-draws step shape function before after answer h =
    let drawn = drawn-by function answer (take_draws step before shape).draws h.0 in
    (drawn.0, (let taken : Option (List ℕ) = (take_draws step before shape).draws in ap (λ (d : Option (List ℕ)). record { draws = d; last = (take_draws step before shape).last }) drawn.1 ∙ ap (λ (s : List ℕ). record { draws = Some drawn.0; last = s }) (sym h.1)), drawn.2)

-- after the first part's draws the second part's are taken
taken-both : (step : List ℕ → ℕ → Turn) (front back before mid draws : List ℕ) → take_draws step before front ≡ record { draws = Some draws; last = mid } →
    take_draws step before (front ++ back) ≡ record { draws = option_map (λ more. draws ++ more) (take_draws step mid back).draws; last = (take_draws step mid back).last }
taken-both step front back before mid draws h =
    take_draws-append-some step before front back draws (ap (λ (t : Taken). t.draws) h)
    ∙ ap (λ (s : List ℕ). record { draws = option_map (λ more. draws ++ more) (take_draws step s back).draws; last = (take_draws step s back).last }) (ap (λ (t : Taken). t.last) h)

taken-more : (step : List ℕ → ℕ → Turn) (front back before mid after draws more : List ℕ) → take_draws step before front ≡ record { draws = Some draws; last = mid } → take_draws step mid back ≡ record { draws = Some more; last = after } →
    take_draws step before (front ++ back) ≡ record { draws = Some (draws ++ more); last = after }
taken-more step front back before mid after draws more h k =
    taken-both step front back before mid draws h ∙ ap (λ (t : Taken). record { draws = option_map (λ m. draws ++ m) t.draws; last = t.last }) k

-- the first part has no memory
front-memory : (step : List ℕ → ℕ → Turn) (front back before after : List ℕ) → TakesFront step front before after → TakesFront step (front ++ back) before after
front-memory step front back before after h = (h.0, h.1 ++ back, h.2, ap (λ (s : List ℕ). s ++ back) h.3 ∙ append_assoc h.0 h.1 back, h.4)

-- the first part's draws fail
front-fails : (step : List ℕ → ℕ → Turn) (front back : List ℕ) (one joined : List ℕ → List Piece) (before after : List ℕ) → Released step front one before (Err fault.DrawFault) after → Released step (front ++ back) joined before (Err fault.DrawFault) after
front-fails step front back one joined before after h =
    let e = take_draws-append-fails step before front back h.0 in
    (ap (λ (t : Taken). t.draws) e, h.1 ∙ sym (ap (λ (t : Taken). t.last) e))

-- the second part has no memory, or there is none for the joined answer
back-memory : (step : List ℕ → ℕ → Turn) (front back : List ℕ) (one : List ℕ → List Piece) (before mid after : List ℕ) (answer : List Piece) → Released step front one before (Ok answer) mid → TakesFront step back mid after → TakesFront step (front ++ back) before after
back-memory step front back one before mid after answer h k =
    let drawn = released-draws step front one before mid answer h in
    (front ++ k.0, k.1, drawn.0 ++ k.2, ap (λ (s : List ℕ). front ++ s) k.3 ∙ sym (append_assoc front k.0 k.1), taken-more step front k.0 before mid after drawn.0 k.2 drawn.1 k.4)

-- the second part's draws fail
back-fails : (step : List ℕ → ℕ → Turn) (front back : List ℕ) (one other joined : List ℕ → List Piece) (before mid after : List ℕ) (answer : List Piece) → Released step front one before (Ok answer) mid → Released step back other mid (Err fault.DrawFault) after → Released step (front ++ back) joined before (Err fault.DrawFault) after
back-fails step front back one other joined before mid after answer h k =
    let drawn = released-draws step front one before mid answer h in
    let e = taken-both step front back before mid drawn.0 drawn.1 in
    (ap (λ (t : Taken). t.draws) e ∙ ap (λ (d : Option (List ℕ)). option_map (λ more. drawn.0 ++ more) d) k.0, k.1 ∙ sym (ap (λ (t : Taken). t.last) e))

-- the first part releases nothing
pub front-stops : (step : List ℕ → ℕ → Turn) (front back : List ℕ) (one joined : List ℕ → List Piece) (before after : List ℕ) (why : ReleaseFault) → Released step front one before (Err why) after → Released step (front ++ back) joined before (Err why) after
front-stops step front back one joined before after fault.DrawFault h = front-fails step front back one joined before after h
front-stops step front back one joined before after fault.NoMemory h = front-memory step front back before after h

-- the second part releases nothing
pub back-stops : (step : List ℕ → ℕ → Turn) (front back : List ℕ) (one other joined : List ℕ → List Piece) (before mid after : List ℕ) (answer : List Piece) (why : ReleaseFault) → Released step front one before (Ok answer) mid → Released step back other mid (Err why) after → Released step (front ++ back) joined before (Err why) after
back-stops step front back one other joined before mid after answer fault.DrawFault h k = back-fails step front back one other joined before mid after answer h k
back-stops step front back one other joined before mid after answer fault.NoMemory h k = back-memory step front back one before mid after answer h k

answered : (one other : List ℕ → List Piece) (n : ℕ) (d e : List ℕ) (a b : List Piece) (taken : Option (List ℕ)) → taken ≡ Some (d ++ e) → take n (d ++ e) ≡ d → drop n (d ++ e) ≡ e → a ≡ one d → b ≡ other e →
    Some (a ++ b) ≡ option_map (λ draws. one (take n draws) ++ other (drop n draws)) taken
answered one other n d e a b taken h cut rest f g = rw (h, cut, rest, f, g) refl

-- both parts' answers, one after the other
pub both-answers : (step : List ℕ → ℕ → Turn) (front back : List ℕ) (one other : List ℕ → List Piece) (before mid after : List ℕ) (a b : List Piece) → Released step front one before (Ok a) mid → Released step back other mid (Ok b) after →
    Released step (front ++ back) (λ draws. one (take (length front) draws) ++ other (drop (length front) draws)) before (Ok (a ++ b)) after
both-answers step front back one other before mid after a b h k =
    let first = released-draws step front one before mid a h in
    let second = released-draws step back other mid after b k in
    let e = taken-more step front back before mid after first.0 second.0 first.1 second.1 in
    let long : length first.0 ≡ length front = take_draws-length step before front first.0 (ap (λ (t : Taken). t.draws) first.1) in
    let cut : take (length front) (first.0 ++ second.0) ≡ first.0 = rw (← long) (take-append_seam first.0 second.0) in
    let rest : drop (length front) (first.0 ++ second.0) ≡ second.0 = rw (← long) (drop-append_seam first.0 second.0) in
    (answered one other (length front) first.0 second.0 a b _ (ap (λ (t : Taken). t.draws) e) cut rest first.2 second.2, sym (ap (λ (t : Taken). t.last) e))

-- both answers are there, and no memory to join them
pub join-memory : (step : List ℕ → ℕ → Turn) (front back : List ℕ) (one other : List ℕ → List Piece) (before mid after : List ℕ) (a b : List Piece) → Released step front one before (Ok a) mid → Released step back other mid (Ok b) after → TakesFront step (front ++ back) before after
join-memory step front back one other before mid after a b h k =
    let second = released-draws step back other mid after b k in
    back-memory step front back one before mid after a h (back, [], second.0, sym (append-nil back), second.1)
