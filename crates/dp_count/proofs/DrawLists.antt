-- Draw lists of joined shapes.
use Rattle.std.proofs.Common.{◌≡◌, ℕ, suc, List, [], ◌∷◌, ◌++◌, length, take, drop, refl, ap}
use Rattle.std.proofs.Math.Seq.{take-append_seam, drop-append_seam}
use Rattle.dp_count.specs.DrawLists.{IsDrawList}

pub length-draws : (shape d : List ℕ) → IsDrawList shape d → length d ≡ length shape
unfolding IsDrawList
length-draws [] [] h = refl
length-draws [] (x ∷ d) h = absurd h
length-draws (bound ∷ shape) [] h = absurd h
length-draws (bound ∷ shape) (x ∷ d) h = ap suc (length-draws shape d h.1)

-- draws of joined shapes, cut where the first shape ends
pub take-draws : (shape d e : List ℕ) → IsDrawList shape d → take (length shape) (d ++ e) ≡ d
take-draws shape d e h = rw (← length-draws shape d h) (take-append_seam d e)

pub drop-draws : (shape d e : List ℕ) → IsDrawList shape d → drop (length shape) (d ++ e) ≡ e
drop-draws shape d e h = rw (← length-draws shape d h) (drop-append_seam d e)

pub IsDrawList-append : (front back d e : List ℕ) → IsDrawList front d → IsDrawList back e → IsDrawList (front ++ back) (d ++ e)
unfolding IsDrawList
IsDrawList-append [] back [] e h k = k
IsDrawList-append [] back (x ∷ d) e h k = absurd h
IsDrawList-append (bound ∷ front) back [] e h k = absurd h
IsDrawList-append (bound ∷ front) back (x ∷ d) e h k = (h.0, IsDrawList-append front back d e h.1 k)

pub IsDrawList-take : (front back d : List ℕ) → IsDrawList (front ++ back) d → IsDrawList front (take (length front) d)
unfolding IsDrawList
IsDrawList-take [] back d h = tt
IsDrawList-take (bound ∷ front) back [] h = absurd h
IsDrawList-take (bound ∷ front) back (x ∷ d) h = (h.0, IsDrawList-take front back d h.1)

pub IsDrawList-drop : (front back d : List ℕ) → IsDrawList (front ++ back) d → IsDrawList back (drop (length front) d)
unfolding IsDrawList
IsDrawList-drop [] back d h = h
IsDrawList-drop (bound ∷ front) back [] h = absurd h
IsDrawList-drop (bound ∷ front) back (x ∷ d) h = IsDrawList-drop front back d h.1
