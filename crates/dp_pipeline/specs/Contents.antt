-- What a pipeline's text says, if it is of the form.
use Rattle.std.specs.Prelude.{ℕ, ◌==◌, Bool, List, [], ◌∷◌, Option, Some, None, if◌then◌else◌, option_map, codes, unwrap_or}
use Rattle.std.specs.List.{list_all, list_any}
use Rattle.std.specs.Str.{bytes_eq}
use Rattle.serde_json.specs.Data.{Data}
use Rattle.serde_json.specs.Find.{as_bool}
use Rattle.dp_pipeline.specs.declared.content.Content.{Content}
use Rattle.dp_pipeline.specs.declared.content.Siblings.{Siblings}
use Rattle.dp_pipeline.specs.declared.content.Siblings.TheVariants as siblings
use Rattle.dp_pipeline.specs.declared.plan.Plan.{Plan}
use Rattle.dp_pipeline.specs.Json.{◌>>=◌, object_of, member_at, list_of, count_of, text_of}
use Rattle.dp_pipeline.specs.RootForms.{rule_of}
use Rattle.dp_pipeline.specs.StageForms.{column_of, spec_of}

-- the member of that name, which has to be there, by its form
abbrev pub member_by : {A : Type 0} → (Data → Option A) → List ℕ → Data → Option A
member_by form name d = member_at name d >>= form

-- two counts
abbrev pub two_of : {A : Type 0} → List A → Option (A × A)
two_of (x ∷ y ∷ []) = Some (x, y)
two_of _ = None

unfoldable pub pair_of : Data → Option (ℕ × ℕ)
pair_of d = list_of count_of d >>= two_of

-- plans by their names, in the order of the names' bytes
unfoldable pub plans_in : List (List ℕ) → List (List ℕ × Data) → Option (List Plan)
plans_in columns [] = Some []
plans_in columns (named ∷ rest) = do
  spec ← spec_of columns named.1
  others ← plans_in columns rest
  Some (record { name = named.0; spec = spec } ∷ others)

abbrev pub plans_at : List (List ℕ) → Option Data → Option (List Plan)
plans_at columns None = Some []
plans_at columns (Some d) = object_of d >>= plans_in columns

-- a column of persons, where one is named
abbrev pub user_at : List (List ℕ) → Option Data → Option (Option ℕ)
user_at columns None = Some None
user_at columns (Some d) = option_map Some (column_of columns d)

-- whether siblings stay open
abbrev pub siblings_by : List ℕ → Option Siblings
siblings_by word =
    if bytes_eq word (codes "open") then Some siblings.Open
    else if bytes_eq word (codes "frozen") then Some siblings.Frozen
    else None

unfoldable pub siblings_of : Data → Option Siblings
siblings_of d = text_of d >>= siblings_by

-- version 2 has to say it, and no other version may
abbrev pub siblings_at : ℕ → Option Data → Option (Option Siblings)
siblings_at version None = if version == 2 then None else Some None
siblings_at version (Some d) = if version == 2 then option_map Some (siblings_of d) else None

-- the names that members may have
abbrev pub member_names : List (List ℕ)
member_names =
    codes "version" ∷ codes "columns" ∷ codes "header" ∷ codes "ratio" ∷ codes "distance" ∷ codes "root"
    ∷ codes "plans" ∷ codes "user" ∷ codes "siblings" ∷ []

-- an object has members of these names alone
unfoldable pub has_only : List (List ℕ) → Data → Bool
has_only names d = list_all (λ named. list_any (bytes_eq named.0) names) (unwrap_or (object_of d) [])

-- the numbers and the root of a pipeline
unfoldable pub content_of : Data → Option Content
content_of d = do
  version ← member_by count_of (codes "version") d
  columns ← member_by (list_of text_of) (codes "columns") d
  header ← member_by as_bool (codes "header") d
  ratio ← member_by pair_of (codes "ratio") d
  distance ← member_by count_of (codes "distance") d
  root ← member_by rule_of (codes "root") d
  plans ← plans_at columns (member_at (codes "plans") d)
  user ← user_at columns (member_at (codes "user") d)
  kept ← siblings_at version (member_at (codes "siblings") d)
  if has_only member_names d then Some (record {
    version = version;
    columns = columns;
    header = header;
    p = ratio.0;
    q = ratio.1;
    distance = distance;
    root = root;
    plans = plans;
    user = user;
    siblings = kept;
  }) else None
