use Rattle.std.proofs.Common.{length}
use Rattle.dp_ledger.specs.Disk.{LeavesTorn}
use Rattle.dp_ledger.specs.DiskProof.{whole}
use Rattle.dp_ledger.proofs.Moments.{started, goes_on}
use Rattle.dp_ledger.proofs.settle.settle.Goals as goal

-- a crash in the write leaves what was there, or that with the range torn
pub returns-in_err-write_at-clause-any_moment : goal.returns-in_err-write_at-clause-any_moment
returns-in_err-write_at-clause-any_moment g c =
    let d = g.B.Disk in
    let old = c.args.disk.now in
    let n = length c.args.bytes.now in
    let P = LeavesTorn (d.may_leave old) c.args.at n in
    let at_start = started d.moment d.left_since old P (λ f left. (f, g.met.B.Disk.only_now old f left, whole c.args.at n f)) in
    goes_on d.moment d.left_since old old c.write_at.new.self P _ at_start c.write_at.ensures.time c.write_at.ensures.crash

-- the sync adds nothing
pub returns-clause-any_moment : goal.returns-clause-any_moment
returns-clause-any_moment g c =
    let d = g.B.Disk in
    let old = c.args.disk.now in
    let n = length c.args.bytes.now in
    let P = LeavesTorn (d.may_leave old) c.args.at n in
    let at_start = started d.moment d.left_since old P (λ f left. (f, g.met.B.Disk.only_now old f left, whole c.args.at n f)) in
    let written = goes_on d.moment d.left_since old old c.write_at.new.self P _ at_start c.write_at.ensures.time c.write_at.ensures.crash in
    goes_on d.moment d.left_since old c.write_at.new.self c.sync.new.self P _ written c.sync.ensures.time (λ f now. c.write_at.ensures.crash f (c.sync.ensures.crash f now))
