-- A disk in memory: its calls, what they make of its content, and what a crash may leave after any of them.
use Rattle.std.specs.Prelude.{◌≡◌, ℕ, ◌+◌, ◌-◌, ◌^◌, ◌≤◌, ◌==◌, ◌||◌, min, Bool, List, [], ◌∷◌, ◌++◌, length, take, if◌then◌else◌, nat_lt, nat_le, Vec, vec_capacity, vec_len}
use Rattle.std.specs.List.{All, fold, list_any}
use Rattle.std.specs.declared.alloc.Global.{Global}
use Rattle.dp_ledger.specs.Disk.{put_at, LeavesTorn}

-- what a call made of the disk: bytes that were put at a place, as many bytes of which none is known, all bytes kept
-- by a sync, or nothing
pub data Change : Type 0 where
  written : (at : ℕ) (bytes : List ℕ) → Change
  torn : (at n : ℕ) → Change
  synced : Change
  nothing : Change

-- as many bytes from a place on
pub record Span : Type 0 where
  pub at : ℕ
  pub size : ℕ

-- what the disk reads as, what the last sync that succeeded kept, and the ranges written since, the newest first
pub record DiskState : Type 0 where
  pub content : List ℕ
  pub kept : List ℕ
  pub spans : List Span

abbrev pub after_change : DiskState → Change → DiskState
after_change state (written at bytes) = record {
  content = put_at at bytes state.content;
  kept = state.kept;
  spans = record { at = at; size = length bytes } ∷ state.spans;
}
after_change state (torn at n) = record {
  content = state.content;
  kept = state.kept;
  spans = record { at = at; size = n } ∷ state.spans;
}
after_change state synced = record { content = state.content; kept = state.content; spans = [] }
after_change state nothing = state

-- the disk after these changes of a content that is kept
unfoldable pub replayed : List ℕ → List Change → DiskState
replayed first changes = fold after_change (record { content = first; kept = first; spans = [] }) changes

-- a crash leaves what was kept, with any bytes in each range written since
abbrev pub LeavesSpans : List ℕ → List Span → List ℕ → Type 0
LeavesSpans kept [] c = c ≡ kept
LeavesSpans kept (span ∷ spans) c = LeavesTorn (LeavesSpans kept spans) span.at span.size c

abbrev pub Leaves : DiskState → List ℕ → Type 0
Leaves state c = LeavesSpans state.kept state.spans c

-- a disk in memory: its content at the start, the change of each call, the numbers of the calls that are to fail, the
-- most bytes it has, the number of its last call that may succeed, and how many calls failed
pub record MemValue : Type 0 where
  pub first : List ℕ
  pub changes : List Change
  pub fails : List ℕ
  pub cap : ℕ
  pub calls : ℕ
  pub failed : ℕ

abbrev pub state_of : MemValue → DiskState
state_of disk = replayed disk.first disk.changes

-- what it reads as
abbrev pub content_of : MemValue → List ℕ
content_of disk = (state_of disk).content

-- what the last sync that succeeded kept
abbrev pub kept_of : MemValue → List ℕ
kept_of disk = (state_of disk).kept

-- what a crash now may leave
abbrev pub MayLeave : MemValue → List ℕ → Type 0
MayLeave disk c = Leaves (state_of disk) c

-- how many calls it has a record of
abbrev pub moment_of : MemValue → ℕ
moment_of disk = length disk.changes

-- what a crash after the t-th call or a later one may have left
abbrev pub LeftSince : MemValue → ℕ → List ℕ → Type 0
LeftSince disk t c =
    (k : ℕ) × (t ≤ k) × (k ≤ length disk.changes) × Leaves (replayed disk.first (take k disk.changes)) c

-- a count, which stands still at 2 ^ 64 - 1
abbrev pub counted : ℕ → ℕ
counted n = min n (2 ^ 64 - 1)

-- whether the next call is past the last that may succeed, or is one that is to fail
abbrev pub fails_next : MemValue → Bool
fails_next disk =
    nat_le disk.calls (length disk.changes)
    || list_any (λ number. number == length disk.changes + 1) disk.fails

-- whether a write of n bytes at a place fails
abbrev pub write_fails : MemValue → ℕ → ℕ → Bool
write_fails disk at n = nat_lt disk.cap (at + n) || fails_next disk

-- the disk after a call that succeeded
abbrev pub with_change : MemValue → Change → MemValue
with_change disk change = record disk { changes = disk.changes ++ change ∷ [] }

-- the changes with one more, where there is room for its record
abbrev pub noted : ℕ → List Change → Change → List Change
noted calls changes change =
    if nat_lt (length changes) calls then changes ++ change ∷ [] else changes

-- the disk after a call that failed
abbrev pub with_fault : MemValue → Change → MemValue
with_fault disk change = record disk {
  changes = noted disk.calls disk.changes change;
  failed = min (disk.failed + 1) (2 ^ 64 - 1);
}

-- an empty list of bytes with room for as many
pub record IsBlank (cap : ℕ) (bytes : Vec ℕ Global) : Type 0 where
  pub empty : bytes.items ≡ []
  pub room : cap ≤ vec_capacity bytes

-- the two lists of bytes are the state's content and what it kept, and have room for as many bytes
pub record HoldsState (state : DiskState) (cap : ℕ) (content kept : Vec ℕ Global) : Type 0 where
  pub content_is : content.items ≡ state.content
  pub kept_is : kept.items ≡ state.kept
  pub small : length content.items ≤ cap
  pub room : cap ≤ vec_capacity content
  pub kept_room : cap ≤ vec_capacity kept

-- there is room for the records of as many calls
pub record HasRoom (calls cap : ℕ) (made : Vec Change Global)
    (blanks : Vec (Vec ℕ Global) Global) : Type 0 where
  pub records : calls ≤ vec_capacity made
  pub enough : calls ≤ vec_len blanks + length made.items
  pub blank : All (IsBlank cap) blanks.items
