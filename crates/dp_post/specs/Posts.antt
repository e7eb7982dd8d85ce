-- Changes of an answer after its release: what one makes of a piece, and several of a whole answer.
use Rattle.std.specs.Prelude.{ℕ, ◌-◌, ◌^◌, ℤ, pos, neg_ℤ, ◌+ℤ◌, int_le, Bool, List, map, min}
use Rattle.std.specs.Int.{int_max}
use Rattle.std.specs.List.{scan, fold, list_all, position_or_len}
use Rattle.dp_domain.specs.Ranges.{clamped}
use Rattle.dp_law.specs.declared.pieces.Piece.{Piece}
use Rattle.dp_law.specs.declared.pieces.Piece.TheVariants as piece
use Rattle.dp_post.specs.declared.post.Post.{Post}
use Rattle.dp_post.specs.declared.post.Post.TheVariants as post

-- running sums are from -sum_limit to sum_limit
abbrev pub sum_limit : ℕ
sum_limit = 2 ^ 62

-- the number, or the limit that it is past
abbrev pub clipped : ℤ → ℤ
clipped number = clamped (neg_ℤ (pos sum_limit)) (pos sum_limit) number

-- the sum of two numbers, clipped
abbrev pub clipped_sum : ℤ → ℤ → ℤ
clipped_sum sum cell = clipped (sum +ℤ cell)

-- at each place the clipped sum of what stands at the place before, at first of 0, and the cell
abbrev pub running_sums : List ℤ → List ℤ
running_sums cells = scan clipped_sum clipped_sum (pos 0) cells

-- the number, or 0 in place of a negative one
abbrev pub floored : ℤ → ℤ
floored number = int_max number (pos 0)

-- the cell is at least as great as each of the cells
abbrev pub is_greatest : List ℤ → ℤ → Bool
is_greatest cells cell = list_all (λ other. int_le other cell) cells

-- the first place of a greatest cell, from 0, and 0 where there is no cell
abbrev pub first_greatest : List ℤ → ℕ
first_greatest cells = position_or_len (is_greatest cells) cells

-- what one change makes of one piece; any other piece stays as it is
abbrev pub changed_piece : Post → Piece → Piece
changed_piece post.Cumulate (piece.IntVec cells) = piece.IntVec (running_sums cells)
changed_piece post.Floor (piece.Int number) = piece.Int (floored number)
changed_piece post.Floor (piece.IntVec cells) = piece.IntVec (map floored cells)
changed_piece post.Largest (piece.IntVec cells) = piece.Cat (min (first_greatest cells) (2 ^ 32 - 1))
changed_piece _ other = other

-- what several changes, from first to last, make of one piece
abbrev pub posted_piece : List Post → Piece → Piece
posted_piece posts part = fold (λ so_far one. changed_piece one so_far) part posts

-- .. and of an answer: each piece by itself
abbrev pub posted : List Post → List Piece → List Piece
posted posts answer = map (posted_piece posts) answer
