-- What resizing gives, said without a sort: the least numbers of a list in rising order, then fill up to the size.
use Rattle.std.specs.Prelude.{◌≡◌, ℕ, ◌-◌, ℤ, ◌≤ℤ◌, List, [], ◌∷◌, ◌++◌, All, length, min, replicate}
use Rattle.std.specs.List.Sorted.{IsPermutation}
use Rattle.dp_aggregate.specs.Resize.{in_order, resized}

-- each number is at most every later one
abbrev pub Rises : List ℤ → Type 0
Rises [] = Unit {0}
Rises (x ∷ xs) = All (λ y. x ≤ℤ y) xs × Rises xs

-- the rising order has the numbers of the list, each as often as the list has it
abbrev pub OrderLaw : Type 0
OrderLaw = (xs : List ℤ) → Rises (in_order xs) × IsPermutation xs (in_order xs)

-- the list is parted into its least numbers, as many as fit, and the rest, which are no less; what comes out is the
-- least numbers in rising order and then fill, and has exactly the size
pub record IsResized (size : ℕ) (fill : ℤ) (xs out : List ℤ) : Type 0 where
  pub least : List ℤ
  pub rest : List ℤ
  pub parted : IsPermutation xs (least ++ rest)
  pub as_many : length least ≡ min size (length xs)
  pub lowest : All (λ x. All (λ y. x ≤ℤ y) rest) least
  pub rises : Rises least
  pub filled : out ≡ least ++ replicate (size - length xs) fill
  pub sized : length out ≡ size

-- every list at every size
abbrev pub ResizeLaw : Type 0
ResizeLaw = (size : ℕ) (fill : ℤ) (xs : List ℤ) → IsResized size fill xs (resized size fill xs)
