-- What a change of answers does to a measurement, and what running sums are place by place.
use Rattle.std.specs.Prelude.{◌≡◌, ◌≢◌, ◌↔◌, ℕ, ◌+◌, ◌<◌, ℤ, ◌+ℤ◌, List, map, length, slice_index_or}
use Rattle.std.specs.List.{Contains, AllPairs, filter, sum_by}
use Rattle.dp_count.specs.DrawLists.{IsDrawList}
use Rattle.dp_count.specs.AllDrawLists.{draw_lists}
use Rattle.dp_domain.specs.declared.values.Value.{Value}
use Rattle.dp_domain.specs.Distance.{distinct}
use Rattle.dp_law.specs.declared.pieces.Piece.{Piece}
use Rattle.dp_law.specs.AnswerEquality.{same_answer}
use Rattle.dp_law.specs.Mechanism.{Mechanism, IsPrivate, ways}
use Rattle.dp_post.specs.Posts.{clipped, running_sums}
use Rattle.dp_post.specs.Posted.{changed_by}

-- the answers that some draw list gives on the value, each once
unfoldable pub given_answers : Mechanism → Value → List (List Piece)
given_answers m v = distinct same_answer (map (m.function v) (draw_lists m.shape))

-- the list has the answers that some draw list gives and nothing else
abbrev pub GivenLaw : Type 0
GivenLaw = (m : Mechanism) (v : Value) (answer : List Piece)
    → Contains (given_answers m v) answer
    ↔ ((draws : List ℕ) × IsDrawList m.shape draws × (m.function v draws ≡ answer))

-- .. none of them twice
abbrev pub GivenOnceLaw : Type 0
GivenOnceLaw = (m : Mechanism) (v : Value) → AllPairs (λ answer later. answer ≢ later) (given_answers m v)

-- the draw lists that give an answer after the change: the sum, over the answers that some draw list gives and that the
-- change takes to it, of the draw lists that give each of them
abbrev pub ChangedWaysLaw : Type 0
ChangedWaysLaw = (change : List Piece → List Piece) (m : Mechanism) (v : Value) (answer : List Piece)
    → ways (changed_by change m) v answer
    ≡ sum_by (ways m v) (filter (λ before. same_answer (change before) answer) (given_answers m v))

-- a change that keeps the number of pieces leaves a private measurement private, at the same loss
abbrev pub ChangedPrivateLaw : Type 0
ChangedPrivateLaw = (change : List Piece → List Piece) (m : Mechanism)
    → ((answer : List Piece) → length (change answer) ≡ length answer)
    → IsPrivate m → IsPrivate (changed_by change m)

-- there are as many sums as cells; the first is the first cell, clipped, and each further one the sum of the one before
-- and its cell, clipped
pub record AreRunningSums (cells sums : List ℤ) : Type 0 where
  pub as_many : length sums ≡ length cells
  pub first : (d : ℤ) → 0 < length cells → slice_index_or sums 0 d ≡ clipped (slice_index_or cells 0 d)
  pub next : (k : ℕ) (d : ℤ) → k + 1 < length cells
      → slice_index_or sums (k + 1) d ≡ clipped (slice_index_or sums k d +ℤ slice_index_or cells (k + 1) d)

-- the definition of running sums says so
abbrev pub RunningSumsLaw : Type 0
RunningSumsLaw = (cells : List ℤ) → AreRunningSums cells (running_sums cells)
