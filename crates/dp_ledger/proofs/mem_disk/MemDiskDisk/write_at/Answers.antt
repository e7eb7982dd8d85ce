use Rattle.std.proofs.Common.{length}
use Rattle.dp_ledger.specs.MemDisk.{torn, written, state_of}
use Rattle.dp_ledger.proofs.MemLaws.{elapses_pushed, elapses_fault, pushed_state, fault_cases, torn_content, torn_follows, written_content, written_follows}
use Rattle.dp_ledger.proofs.mem_disk.MemDiskDisk.write_at.Goals as goal

pub returns-then-write_fails-clause-torn : goal.returns-then-write_fails-clause-torn
returns-then-write_fails-clause-torn c =
    let n = length c.args.bytes.now in
    torn_content (state_of c.args.self.now) (state_of c.fail_write.new.self) c.args.at n (fault_cases c.args.self.now c.fail_write.new.self (torn c.args.at n) c.fail_write.ensures)

pub returns-then-write_fails-clause-crash : goal.returns-then-write_fails-clause-crash
returns-then-write_fails-clause-crash c =
    let n = length c.args.bytes.now in
    torn_follows (state_of c.args.self.now) (state_of c.fail_write.new.self) c.args.at n (fault_cases c.args.self.now c.fail_write.new.self (torn c.args.at n) c.fail_write.ensures)

pub returns-clause-written : goal.returns-clause-written
returns-clause-written c = written_content _ _ c.args.at c.args.bytes.now (pushed_state c.args.self.now c.put_bytes.new.self (written c.args.at c.args.bytes.now) c.put_bytes.ensures)

pub returns-clause-crash : goal.returns-clause-crash
returns-clause-crash c = written_follows _ _ c.args.at c.args.bytes.now (pushed_state c.args.self.now c.put_bytes.new.self (written c.args.at c.args.bytes.now) c.put_bytes.ensures)

pub returns-then-write_fails-clause-time : goal.returns-then-write_fails-clause-time
returns-then-write_fails-clause-time c = elapses_fault c.args.self.now c.fail_write.new.self (torn c.args.at (length c.args.bytes.now)) c.fail_write.ensures

pub returns-clause-time : goal.returns-clause-time
returns-clause-time c = elapses_pushed c.args.self.now c.put_bytes.new.self (written c.args.at c.args.bytes.now) c.put_bytes.ensures
