use Rattle.std.proofs.Common.{◌≡◌, drop}
use Rattle.dp_io.specs.MemShelf.{bytes_of}
use Rattle.dp_io.proofs.mem_shelf.find_bytes.Given as goal

abbrev pub invariant-loop-file : goal.invariant-loop-file
invariant-loop-file l = bytes_of (drop l.file-index l.stored) l.name ≡ bytes_of l.stored l.name
