use Rattle.dp_ledger.specs.MemDisk.{nothing, synced, state_of}
use Rattle.dp_ledger.proofs.MemLaws.{elapses_pushed, elapses_fault, pushed_state, fault_nothing, same_outcomes, same_content, synced_only, synced_follows}
use Rattle.dp_ledger.proofs.mem_disk.MemDiskDisk.sync.Goals as goal

pub returns-then-fails_next-clause-same : goal.returns-then-fails_next-clause-same
returns-then-fails_next-clause-same c = same_content _ _ (fault_nothing c.args.self.now c.fail_other.new.self c.fail_other.ensures)

pub returns-then-fails_next-clause-still : goal.returns-then-fails_next-clause-still
returns-then-fails_next-clause-still c = same_outcomes _ _ (fault_nothing c.args.self.now c.fail_other.new.self c.fail_other.ensures)

pub returns-then-fails_next-clause-crash : goal.returns-then-fails_next-clause-crash
returns-then-fails_next-clause-crash c = (same_outcomes (state_of c.args.self.now) (state_of c.fail_other.new.self) (fault_nothing c.args.self.now c.fail_other.new.self c.fail_other.ensures)).no_more

pub returns-clause-same : goal.returns-clause-same
returns-clause-same c = same_content _ _ (pushed_state c.args.self.now c.keep.new.self synced c.keep.ensures)

pub returns-clause-durable : goal.returns-clause-durable
returns-clause-durable c = synced_only (state_of c.args.self.now) (state_of c.keep.new.self) (pushed_state c.args.self.now c.keep.new.self synced c.keep.ensures)

pub returns-clause-crash : goal.returns-clause-crash
returns-clause-crash c = synced_follows c.args.self.now c.keep.new.self c.keep.ensures

pub returns-then-fails_next-clause-time : goal.returns-then-fails_next-clause-time
returns-then-fails_next-clause-time c = elapses_fault c.args.self.now c.fail_other.new.self nothing c.fail_other.ensures

pub returns-clause-time : goal.returns-clause-time
returns-clause-time c = elapses_pushed c.args.self.now c.keep.new.self synced c.keep.ensures
