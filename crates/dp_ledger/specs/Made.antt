-- The record of a call of a disk in memory.
use Rattle.dp_ledger.specs.MemDisk.{Change, written, torn, synced, nothing}
use Rattle.dp_ledger.specs.declared.calls.Made.{Made}
use Rattle.dp_ledger.specs.declared.calls.Made.TheVariants as made

-- the change that it tells of
abbrev pub change_of : Made → Change
change_of (made.Written at bytes) = written at bytes.items
change_of (made.Torn at size) = torn at size
change_of made.Synced = synced
change_of made.Nothing = nothing
