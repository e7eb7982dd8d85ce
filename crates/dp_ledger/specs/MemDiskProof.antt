-- Proofs of the laws of a disk in memory, at every value of it.
use Rattle.std.specs.Prelude.{◌≡◌, ℕ, ◌≤◌, List, [], ◌∷◌, ◌++◌, refl, Some}
use Rattle.std.proofs.Common.{sym, subst, arith}
use Rattle.std.proofs.lemmas.List.{take_all}
use Rattle.std.proofs.lemmas.List.Sums.{fold-append}
use Rattle.std.specs.List.{fold}
use Rattle.dp_ledger.specs.MemDisk.{Change, written, torn, synced, nothing, DiskState, after_change, replayed, Leaves, MemValue, content_of, MayLeave, LeftSince, moment_of}
use Rattle.dp_ledger.specs.DiskProof.{put_torn, whole}

-- one change more
pub replayed_push : (first : List ℕ) (changes : List Change) (change : Change)
    → replayed first (changes ++ change ∷ []) ≡ after_change (replayed first changes) change
unfolding replayed
replayed_push first changes change =
    fold-append after_change (record { content = first; kept = first; spans = [] }) changes (change ∷ [])

-- the content is one of those that a crash may leave, after each change
step_left : (state : DiskState) (change : Change) → Leaves state state.content
    → Leaves (after_change state change) (after_change state change).content
step_left state (written at bytes) left = (state.content, left, put_torn at bytes state.content)
step_left state (torn at n) left = (state.content, left, whole at n state.content)
step_left state synced left = refl
step_left state nothing left = left

fold_left : (state : DiskState) (changes : List Change) → Leaves state state.content
    → Leaves (fold after_change state changes) (fold after_change state changes).content
fold_left state [] left = left
fold_left state (change ∷ changes) left = fold_left (after_change state change) changes (step_left state change left)

pub content_left : (disk : MemValue) → MayLeave disk (content_of disk)
unfolding replayed
content_left disk = fold_left _ disk.changes refl

pub told_left : (disk : MemValue) (c : List ℕ) → Some (content_of disk) ≡ Some c → MayLeave disk c
told_left disk c told =
    let same : content_of disk ≡ c = cc in
    subst (MayLeave disk) same (content_left disk)

-- the whole record is one of the moments since an earlier one, and the only one since itself
pub now_left : (disk : MemValue) (t : ℕ) (c : List ℕ) → t ≤ moment_of disk → MayLeave disk c → LeftSince disk t c
now_left disk t c le left =
    let all = take_all (moment_of disk) disk.changes (omega arith) in (
      moment_of disk,
      le,
      omega arith,
      subst (λ (l : List Change). Leaves (replayed disk.first l) c) (sym all) left,
    )

pub only_left : (disk : MemValue) (c : List ℕ) → LeftSince disk (moment_of disk) c → MayLeave disk c
only_left disk c left =
    let all = take_all left.0 disk.changes (omega (arith, left.1)) in
    subst (λ (l : List Change). Leaves (replayed disk.first l) c) all left.3
