-- A list of links with room for more, as contracts see it.
use Rattle.std.specs.Prelude.{ℕ, List, ◌++◌, ◌∷◌, [], ◌-◌, ◌≡◌, Option, Some, slice_get, slice_set}
use Rattle.dp_num.specs.declared.trail.Link.{Link}

-- the links, and for how many more there is room
pub record TrailValue : Type 0 where
  pub links : List Link
  pub spare : ℕ

-- the trail with one link more
abbrev pub pushed : TrailValue → Link → TrailValue
pushed trail link = record { links = trail.links ++ link ∷ []; spare = trail.spare - 1 }

-- the link with another last query and another live child, of the same parent
abbrev pub with_last : Link → ℕ → Option ℕ → Link
with_last link last live = record { parent = link.parent; last = last; live = live }

-- the trail with another link at a place
abbrev pub with_link : TrailValue → ℕ → Link → TrailValue
with_link trail place link = record { links = slice_set trail.links place link; spare = trail.spare }

-- the trail with the last query and the live child of the link at a place, of which the parent stays
abbrev pub PutsLast : TrailValue → ℕ → ℕ → Option ℕ → TrailValue → Type 0
PutsLast old place last live new =
    (link : Link)
    → slice_get old.links place ≡ Some link
    → new ≡ with_link old place (with_last link last live)
