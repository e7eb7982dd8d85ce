use Rattle.std.proofs.Common.{◌≡◌, ◌+◌, ◌<◌, ◌^◌, ℕ, List, length, sym, ◌∙◌, ap, subst, arith}
use Rattle.dp_ledger.specs.Disk.{put_at, Torn}
use Rattle.dp_ledger.specs.Image.{place_of, other}
use Rattle.dp_ledger.specs.Ledger.{HasTotal}
use Rattle.dp_ledger.specs.Steps.{IsShut, IsFilled}
use Rattle.dp_ledger.proofs.Rows.{total_torn, total_filled}
use Rattle.dp_ledger.proofs.StepLaws.{step_rests, step_passes, both_ok}
use Rattle.dp_ledger.proofs.ledger.Ledger.fill.Goals as goal

pub returns-clause-filled : goal.returns-clause-filled
returns-clause-filled g c =
    let d = g.B.Disk in
    let ledger = c.args.self.now in
    let place : c.place.result ≡ place_of (other ledger.current) = c.place.ensures ∙ ap place_of c.other.ensures in
    let total = ledger.total + c.args.by in
    let small : total < 2 ^ 64 = omega arith in
    both_ok c.settle.result c.settle.ensures.reads c.settle.ensures.alone (λ written alone.
    step_rests d.reads d.may_leave d.moment d.left_since c.args.disk.now c.settle.new.disk (IsShut ledger) (IsFilled ledger total) c.place.result c.to_le_bytes-bytes.result c.requires.rests written alone
    (λ was shut. subst (λ (p : ℕ). IsFilled ledger total (put_at p c.to_le_bytes-bytes.result was)) (sym place)
    (subst (λ (bytes : List ℕ). IsFilled ledger total (put_at (place_of (other ledger.current)) bytes was)) (sym c.to_le_bytes-bytes.ensures) (total_filled ledger total was small shut))))

pub returns-clause-passes : goal.returns-clause-passes
returns-clause-passes g c =
    let d = g.B.Disk in
    let ledger = c.args.self.now in
    let place : c.place.result ≡ place_of (other ledger.current) = c.place.ensures ∙ ap place_of c.other.ensures in
    let n = length c.to_le_bytes-bytes.result in
    let eight : n ≡ 8 = ap length c.to_le_bytes-bytes.ensures in
    step_passes d.reads d.may_leave d.moment d.left_since c.args.disk.now c.settle.new.disk (IsShut ledger) (HasTotal ledger.ratio ledger.total) c.place.result n c.requires.rests c.settle.ensures.any_moment c.settle.ensures.telling
    (λ was now shut torn. total_torn ledger was now shut (subst (λ (k : ℕ). Torn (place_of (other ledger.current)) k was now) eight (subst (λ (p : ℕ). Torn p n was now) place torn)))
