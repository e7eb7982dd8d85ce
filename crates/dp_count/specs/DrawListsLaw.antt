-- What the list of all draw lists has, and how the numbers of sets of replies follow from those of single replies.
use Rattle.std.specs.Prelude.{◌≡◌, ◌≢◌, ◌↔◌, ℕ, Bool, List, length, Decides}
use Rattle.std.specs.List.{Contains, AllPairs, filter, list_any, sum_by}
use Rattle.dp_count.specs.DrawLists.{count, IsDrawList}
use Rattle.dp_count.specs.AllDrawLists.{draw_lists}
use Rattle.dp_count.specs.CountingLaws.{AreApart}
use Rattle.dp_count.specs.Ratios.{KeepsRatio}

-- the list has the draw lists of the shape and nothing else
abbrev pub MembersLaw : Type 0
MembersLaw = (shape draws : List ℕ) → Contains (draw_lists shape) draws ↔ IsDrawList shape draws

-- .. none of them twice
abbrev pub OnceLaw : Type 0
OnceLaw = (shape : List ℕ) → AllPairs (λ draws later. draws ≢ later) (draw_lists shape)

-- how many draw lists meet a test is how many stand in the list and meet it
abbrev pub ListLaw : Type 0
ListLaw = (shape : List ℕ) (test : List ℕ → Bool) → count shape test ≡ length (filter test (draw_lists shape))

-- replies that are apart, and are those that are wanted: the numbers of the single replies add
abbrev pub SetLaw : Type 0 → Type 0
SetLaw R =
    (same : R → R → Bool) (shape : List ℕ) (out : List ℕ → R) (wanted : R → Bool) (given : List R)
    → AreApart same given
    → ((draws : List ℕ) → IsDrawList shape draws → wanted (out draws) ≡ list_any (same (out draws)) given)
    → count shape (λ draws. wanted (out draws)) ≡ sum_by (λ reply. count shape (λ draws. same (out draws) reply)) given

-- a ratio that is kept at every reply is kept at every set of replies
abbrev pub SetRatioLaw : Type 0 → Type 0
SetRatioLaw R = (same : R → R → Bool) → ((x y : R) → Decides (same x y) (x ≡ y))
    → (p q k : ℕ) (front back : List ℕ) (one other : List ℕ → R)
    → ((reply : R)
    → KeepsRatio p q k (count front (λ draws. same (one draws) reply)) (count back (λ draws. same (other draws) reply)))
    → (wanted : R → Bool)
    → KeepsRatio p q k (count front (λ draws. wanted (one draws))) (count back (λ draws. wanted (other draws)))
