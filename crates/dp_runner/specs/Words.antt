-- The words that several commands share.
use Rattle.std.specs.Prelude.{ℕ, Bool, List, length, nat_lt}

-- a file name has at least one byte
abbrev pub is_file_name : List ℕ → Bool
is_file_name name = nat_lt 0 (length name)
