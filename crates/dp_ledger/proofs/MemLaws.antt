-- What a call of a disk in memory makes of its state, and of what a crash may leave.
use Rattle.std.proofs.Common.{◌≡◌, ◌⊎◌, inl, inr, ⊎_elim, ℕ, ◌+◌, ◌≤◌, List, [], ◌∷◌, ◌++◌, length, take, sym, ◌∙◌, ap, subst, Some, arith, length-append}
use Rattle.std.proofs.lemmas.List.{take-append-le, take_all}
use Rattle.std.proofs.lemmas.Bool.{cases_lt}
use Rattle.dp_ledger.specs.Disk.{put_at, Torn, BecomesTorn, Only, Follows, SameOutcomes, Elapses}
use Rattle.dp_ledger.specs.DiskProof.{whole}
use Rattle.dp_ledger.specs.MemDisk.{Change, written, torn, synced, nothing, DiskState, after_change, replayed, Leaves, MemValue, state_of, content_of, MayLeave, LeftSince, moment_of, with_change, with_fault}
use Rattle.dp_ledger.specs.MemDiskProof.{replayed_push, content_left}
use Rattle.dp_ledger.proofs.Records.{noted_cases}

pub pushed_state : (old new : MemValue) (change : Change) → new ≡ with_change old change → state_of new ≡ after_change (state_of old) change
pushed_state old new change is = ap state_of is ∙ replayed_push old.first old.changes change

pub fault_cases : (old new : MemValue) (change : Change) → new ≡ with_fault old change → (state_of new ≡ after_change (state_of old) change) ⊎ (state_of new ≡ state_of old)
fault_cases old new change is = elim (noted_cases old.calls old.changes change) [
  | inl pushed ↦ inl (ap state_of is ∙ ap (replayed old.first) pushed ∙ replayed_push old.first old.changes change)
  | inr full ↦ inr (ap state_of is ∙ ap (replayed old.first) full)
]

pub fault_nothing : (old new : MemValue) → new ≡ with_fault old nothing → state_of new ≡ state_of old
fault_nothing old new is = ⊎_elim (λ same. same) (λ same. same) (fault_cases old new nothing is)

pub same_outcomes : (s t : DiskState) → t ≡ s → SameOutcomes (Leaves s) (Leaves t)
same_outcomes s t is = record { no_more = λ c left. subst (λ (u : DiskState). Leaves u c) is left; no_fewer = λ c left. subst (λ (u : DiskState). Leaves u c) (sym is) left }

pub same_content : (s t : DiskState) → t ≡ s → Some t.content ≡ Some s.content
same_content s t is = ap (λ (u : DiskState). Some u.content) is

-- a write that was done
pub written_content : (s t : DiskState) (at : ℕ) (bytes : List ℕ) → t ≡ after_change s (written at bytes) → Some t.content ≡ Some (put_at at bytes s.content)
written_content s t at bytes is = ap (λ (u : DiskState). Some u.content) is

pub written_follows : (s t : DiskState) (at : ℕ) (bytes : List ℕ) → t ≡ after_change s (written at bytes) → Follows (Torn at (length bytes)) (Leaves s) (Leaves t)
written_follows s t at bytes is = λ c left. subst (λ (u : DiskState). Leaves u c) is left

-- one that failed
pub torn_follows : (s t : DiskState) (at n : ℕ) → (t ≡ after_change s (torn at n)) ⊎ (t ≡ s) → Follows (Torn at n) (Leaves s) (Leaves t)
torn_follows s t at n (inl is) = λ c left. subst (λ (u : DiskState). Leaves u c) is left
torn_follows s t at n (inr is) = λ c left. (c, subst (λ (u : DiskState). Leaves u c) is left, whole at n c)

pub torn_content : (s t : DiskState) (at n : ℕ) → (t ≡ after_change s (torn at n)) ⊎ (t ≡ s) → (was : List ℕ) → Some s.content ≡ Some was → BecomesTorn at n was (Some t.content)
torn_content s t at n (inl is) was told = (was, ap (λ (u : DiskState). Some u.content) is ∙ told, whole at n was)
torn_content s t at n (inr is) was told = (was, ap (λ (u : DiskState). Some u.content) is ∙ told, whole at n was)

-- a sync that was done
pub synced_only : (s t : DiskState) → t ≡ after_change s synced → (was : List ℕ) → Some s.content ≡ Some was → Only was (Leaves t)
synced_only s t is was told = λ c left.
    let same : s.content ≡ was = cc in
    let now : c ≡ s.content = subst (λ (u : DiskState). Leaves u c) is left in
    now ∙ same

pub synced_follows : (old new : MemValue) → new ≡ with_change old synced → (c : List ℕ) → MayLeave new c → MayLeave old c
synced_follows old new is c left =
    let now : c ≡ content_of old = subst (λ (u : DiskState). Leaves u c) (pushed_state old new synced is) left in
    subst (MayLeave old) (sym now) (content_left old)

-- the clock goes on with the records
module _ (old new : MemValue) (same_first : new.first ≡ old.first) where
  pub elapses_same : new.changes ≡ old.changes → Elapses (moment_of old) (moment_of new) (LeftSince old) (LeftSince new) (MayLeave new)
  elapses_same same = record {
    later = omega (arith, ap length same);
    nothing_else = λ t c le left. inl (left.0, left.1, omega (arith, left.2, ap length same), subst (λ (s : DiskState). Leaves s c) (λ i. replayed (same_first i) (take left.0 (same i))) left.3);
    keeps = λ t c le left. (left.0, left.1, omega (arith, left.2, ap length same), subst (λ (s : DiskState). Leaves s c) (λ i. replayed (sym same_first i) (take left.0 (sym same i))) left.3);
  }

  elapses_more : (change : Change) → new.changes ≡ old.changes ++ change ∷ [] → Elapses (moment_of old) (moment_of new) (LeftSince old) (LeftSince new) (MayLeave new)
  elapses_more change more =
      let longer : length new.changes ≡ length old.changes + 1 = ap length more ∙ length-append old.changes (change ∷ []) in
      let early : (k : ℕ) → k ≤ length old.changes → take k new.changes ≡ take k old.changes = λ k le. ap (λ (l : List Change). take k l) more ∙ take-append-le k old.changes (change ∷ []) le in
      record {
        later = omega (arith, longer);
        nothing_else = λ t c le left. ⊎_elim
            (λ lt. inl (left.0, left.1, omega (arith, lt), subst (λ (s : DiskState). Leaves s c) (λ i. replayed (same_first i) (early left.0 (omega (arith, lt)) i)) left.3))
            (λ past. inr (subst (λ (l : List Change). Leaves (replayed new.first l) c) (take_all left.0 new.changes (omega (arith, past, longer))) left.3))
            (cases_lt left.0 (length new.changes));
        keeps = λ t c le left. (left.0, left.1, omega (arith, left.2, longer), subst (λ (s : DiskState). Leaves s c) (λ i. replayed (sym same_first i) (sym (early left.0 left.2) i)) left.3);
      }

pub elapses_pushed : (old new : MemValue) (change : Change) → new ≡ with_change old change → Elapses (moment_of old) (moment_of new) (LeftSince old) (LeftSince new) (MayLeave new)
elapses_pushed old new change is = elapses_more old new (ap (λ (m : MemValue). m.first) is) change (ap (λ (m : MemValue). m.changes) is)

pub elapses_fault : (old new : MemValue) (change : Change) → new ≡ with_fault old change → Elapses (moment_of old) (moment_of new) (LeftSince old) (LeftSince new) (MayLeave new)
elapses_fault old new change is = elim (noted_cases old.calls old.changes change) [
  | inl pushed ↦ elapses_more old new (ap (λ (m : MemValue). m.first) is) change (ap (λ (m : MemValue). m.changes) is ∙ pushed)
  | inr full ↦ elapses_same old new (ap (λ (m : MemValue). m.first) is) (ap (λ (m : MemValue). m.changes) is ∙ full)
]
