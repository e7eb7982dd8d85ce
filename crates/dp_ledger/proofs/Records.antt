-- What one more record makes of a disk in memory.
use Rattle.std.proofs.Common.{◌≡◌, ◌⊎◌, inl, inr, ℕ, ◌+◌, ◌<◌, ◌≤◌, ◌||◌, Bool, true, false, List, [], ◌∷◌, ◌++◌, length, refl, sym, ◌∙◌, ap, cond, nat_lt, nat_le, arith, length-append, Vec, vec_capacity}
use Rattle.std.proofs.lemmas.Bool.{cases_Bool}
use Rattle.std.proofs.lemmas.Bool.Decides.{nat_tests}
use Rattle.std.specs.declared.alloc.Global.{Global}
use Rattle.dp_ledger.specs.MemDisk.{Change, DiskState, after_change, replayed, noted, MemValue, fails_next, write_fails, HoldsState}
use Rattle.dp_ledger.specs.MemDiskProof.{replayed_push}

pub noted_push : (calls : ℕ) (changes : List Change) (change : Change) → length changes < calls → noted calls changes change ≡ changes ++ change ∷ []
noted_push calls changes change lt =
    let fits : nat_lt (length changes) calls ≡ true = grind (arith, nat_tests) in
    ap (λ (b : Bool). cond b (changes ++ change ∷ []) changes) fits

pub noted_full : (calls : ℕ) (changes : List Change) (change : Change) → calls ≤ length changes → noted calls changes change ≡ changes
noted_full calls changes change le =
    let full : nat_lt (length changes) calls ≡ false = grind (arith, nat_tests) in
    ap (λ (b : Bool). cond b (changes ++ change ∷ []) changes) full

-- the record of a call is there, or it is past the last call
pub noted_cases : (calls : ℕ) (changes : List Change) (change : Change) → (noted calls changes change ≡ changes ++ change ∷ []) ⊎ (noted calls changes change ≡ changes)
noted_cases calls changes change = elim (cases_Bool (nat_lt (length changes) calls)) [
  | inl fits ↦ inl (ap (λ (b : Bool). cond b (changes ++ change ∷ []) changes) fits)
  | inr full ↦ inr (ap (λ (b : Bool). cond b (changes ++ change ∷ []) changes) full)
]

pub noted_longer : (calls : ℕ) (changes : List Change) (change : Change) → length changes ≤ length (noted calls changes change)
noted_longer calls changes change = elim (noted_cases calls changes change) [
  | inl pushed ↦ omega (arith, ap length pushed, length-append changes (change ∷ []))
  | inr same ↦ omega (arith, ap length same)
]

-- the lists of bytes are those of a state with the same content that keeps the same
pub holds_same : (old new : DiskState) (cap : ℕ) (content kept : Vec ℕ Global) → new.content ≡ old.content → new.kept ≡ old.kept → HoldsState old cap content kept → HoldsState new cap content kept
holds_same old new cap content kept same same_kept holds = record {
  content_is = holds.content_is ∙ sym same;
  kept_is = holds.kept_is ∙ sym same_kept;
  small = holds.small;
  room = holds.room;
  kept_room = holds.kept_room;
}

-- a change that changes neither
pub state_noted : (first : List ℕ) (calls : ℕ) (changes : List Change) (change : Change)
    → ((s : DiskState) → ((after_change s change).content ≡ s.content) × ((after_change s change).kept ≡ s.kept))
    → ((replayed first (noted calls changes change)).content ≡ (replayed first changes).content) × ((replayed first (noted calls changes change)).kept ≡ (replayed first changes).kept)
state_noted first calls changes change stays = elim (noted_cases calls changes change) [
  | inl pushed ↦
      let is = ap (replayed first) pushed ∙ replayed_push first changes change in
      let same = stays (replayed first changes) in
      (ap (λ (s : DiskState). s.content) is ∙ same.0, ap (λ (s : DiskState). s.kept) is ∙ same.1)
  | inr full ↦ (ap (λ (l : List Change). (replayed first l).content) full, ap (λ (l : List Change). (replayed first l).kept) full)
]

neither : (a b : Bool) → (a || b) ≡ false → (a ≡ false) × (b ≡ false)
neither true b is = absurd (cc)
neither false b is = (refl, is)

pub room_left : (disk : MemValue) → fails_next disk ≡ false → length disk.changes < disk.calls
room_left disk goes =
    let not = (neither (nat_le disk.calls (length disk.changes)) _ goes).0 in
    grind (arith, nat_tests)

pub write_room : (disk : MemValue) (at n : ℕ) → write_fails disk at n ≡ false → (at + n ≤ disk.cap) × (fails_next disk ≡ false)
write_room disk at n goes =
    let not = neither (nat_lt disk.cap (at + n)) (fails_next disk) goes in
    let first = not.0 in
    (grind (arith, nat_tests), not.1)

-- nothing was called
pub holds_new : (first : List ℕ) (changes : List Change) (cap : ℕ) (content kept : Vec ℕ Global) → changes ≡ [] → content.items ≡ first → kept.items ≡ first → length first ≤ cap → cap ≤ vec_capacity content → cap ≤ vec_capacity kept → HoldsState (replayed first changes) cap content kept
unfolding replayed
holds_new first changes cap content kept none same same_kept small room kept_room =
    let is : replayed first changes ≡ record { content = first; kept = first; spans = [] } = ap (replayed first) none in
    record {
      content_is = same ∙ ap (λ (s : DiskState). s.content) (sym is);
      kept_is = same_kept ∙ ap (λ (s : DiskState). s.kept) (sym is);
      small = omega (arith, ap length same, small);
      room = room;
      kept_room = kept_room;
    }

-- the state after a call whose record is there
pub state_pushed : (first : List ℕ) (calls : ℕ) (changes : List Change) (change : Change) → length changes < calls → replayed first (noted calls changes change) ≡ after_change (replayed first changes) change
state_pushed first calls changes change lt = ap (replayed first) (noted_push calls changes change lt) ∙ replayed_push first changes change

pub length_pushed : (calls : ℕ) (changes : List Change) (change : Change) → length changes < calls → length (noted calls changes change) ≡ length changes + 1
length_pushed calls changes change lt = ap length (noted_push calls changes change lt) ∙ length-append changes (change ∷ [])
