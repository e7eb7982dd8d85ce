use Rattle.dp_ledger.specs.MemDisk.{nothing}
use Rattle.dp_ledger.proofs.MemLaws.{elapses_pushed, elapses_fault, pushed_state, fault_nothing, same_outcomes, same_content}
use Rattle.dp_ledger.proofs.mem_disk.MemDiskDisk.read_at.Goals as goal

pub returns-then-fails_next-clause-same : goal.returns-then-fails_next-clause-same
returns-then-fails_next-clause-same c = same_content _ _ (fault_nothing c.args.self.now c.fail_other.new.self c.fail_other.ensures)

pub returns-then-fails_next-clause-still : goal.returns-then-fails_next-clause-still
returns-then-fails_next-clause-still c = same_outcomes _ _ (fault_nothing c.args.self.now c.fail_other.new.self c.fail_other.ensures)

pub returns-clause-same : goal.returns-clause-same
returns-clause-same c = same_content _ _ (pushed_state c.args.self.now c.read_bytes.new.self nothing c.read_bytes.ensures.noted)

pub returns-clause-still : goal.returns-clause-still
returns-clause-still c = same_outcomes _ _ (pushed_state c.args.self.now c.read_bytes.new.self nothing c.read_bytes.ensures.noted)

pub returns-then-fails_next-clause-time : goal.returns-then-fails_next-clause-time
returns-then-fails_next-clause-time c = elapses_fault c.args.self.now c.fail_other.new.self nothing c.fail_other.ensures

pub returns-clause-time : goal.returns-clause-time
returns-clause-time c = elapses_pushed c.args.self.now c.read_bytes.new.self nothing c.read_bytes.ensures.noted
