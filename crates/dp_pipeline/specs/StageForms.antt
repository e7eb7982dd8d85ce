-- The JSON forms of stages, noises, parts and releases. A form reads the arguments after a word.
use Rattle.std.specs.Prelude.{ℕ, ◌&&◌, Bool, true, false, List, [], ◌∷◌, Option, Some, None, if◌then◌else◌, option_map, codes, length, nat_le}
use Rattle.std.specs.List.{position}
use Rattle.std.specs.Str.{bytes_eq}
use Rattle.serde_json.specs.Data.{Data}
use Rattle.dp_domain.specs.Distance.{text_eq}
use Rattle.dp_chain.specs.declared.stage.Stage.{Stage}
use Rattle.dp_chain.specs.declared.stage.Stage.TheVariants as stage
use Rattle.dp_chain.specs.declared.noise.Noise.{Noise}
use Rattle.dp_chain.specs.declared.noise.Noise.TheVariants as noise
use Rattle.dp_chain.specs.declared.noise.Part.{Part}
use Rattle.dp_pipeline.specs.Json.{◌>>=◌, array_of, list_of, all_of, count_of, signed_of, text_of}

-- what stands after a word: nothing, or one, two or three values, each of its form
abbrev pub bare : {R : Type 0} → R → List Data → Option R
bare made [] = Some made
bare made _ = None

abbrev pub one : {A R : Type 0} → (Data → Option A) → (A → R) → List Data → Option R
one a make (x ∷ []) = option_map make (a x)
one a make _ = None

abbrev pub two : {A B R : Type 0} → (Data → Option A) → (Data → Option B) → (A → B → R) → List Data → Option R
two a b make (x ∷ y ∷ []) = do
  first ← a x
  second ← b y
  Some (make first second)
two a b make _ = None

abbrev pub three : {A B C R : Type 0} → (Data → Option A) → (Data → Option B) → (Data → Option C)
    → (A → B → C → R) → List Data → Option R
three a b c make (x ∷ y ∷ z ∷ []) = do
  first ← a x
  second ← b y
  third ← c z
  Some (make first second third)
three a b c make _ = None

-- the number of the first column of that name
abbrev pub place_of : List (List ℕ) → List ℕ → Option ℕ
place_of columns name = position (text_eq name) columns

unfoldable pub column_of : List (List ℕ) → Data → Option ℕ
column_of columns d = text_of d >>= place_of columns

-- the stages: a line a word
unfoldable pub stage_by : List (List ℕ) → List ℕ → List Data → Option Stage
stage_by columns word args =
    if bytes_eq word (codes "filter") then two (column_of columns) text_of stage.Filter args
    else if bytes_eq word (codes "select") then one (column_of columns) stage.Select args
    else if bytes_eq word (codes "cast") then bare stage.Cast args
    else if bytes_eq word (codes "categories") then one (list_of text_of) stage.Categories args
    else if bytes_eq word (codes "impute") then one signed_of stage.Impute args
    else if bytes_eq word (codes "dropnone") then bare stage.DropNone args
    else if bytes_eq word (codes "clamp") then two signed_of signed_of stage.Clamp args
    else if bytes_eq word (codes "bins") then one (list_of signed_of) stage.Bins args
    else if bytes_eq word (codes "resize") then two count_of signed_of stage.Resize args
    else if bytes_eq word (codes "count") then bare stage.Count args
    else if bytes_eq word (codes "sum") then bare stage.Sum args
    else if bytes_eq word (codes "histogram") then bare stage.Histogram args
    else if bytes_eq word (codes "quantise") then one count_of stage.Quantise args
    else if bytes_eq word (codes "atleast") then one (list_of signed_of) stage.AtLeast args
    else if bytes_eq word (codes "truncate") then one count_of stage.Truncate args
    else None

-- the word of each stage
unfoldable pub stage_word : Stage → List ℕ
stage_word (stage.Filter column text) = codes "filter"
stage_word (stage.Select column) = codes "select"
stage_word stage.Cast = codes "cast"
stage_word (stage.Categories texts) = codes "categories"
stage_word (stage.Impute number) = codes "impute"
stage_word stage.DropNone = codes "dropnone"
stage_word (stage.Clamp lo hi) = codes "clamp"
stage_word (stage.Bins edges) = codes "bins"
stage_word (stage.Resize size fill) = codes "resize"
stage_word stage.Count = codes "count"
stage_word stage.Sum = codes "sum"
stage_word stage.Histogram = codes "histogram"
stage_word (stage.Quantise step) = codes "quantise"
stage_word (stage.AtLeast edges) = codes "atleast"
stage_word (stage.Truncate most) = codes "truncate"

-- the noises: a line a word
unfoldable pub noise_by : List ℕ → List Data → Option Noise
noise_by word args =
    if bytes_eq word (codes "geometric") then three count_of signed_of signed_of noise.Geometric args
    else if bytes_eq word (codes "response") then one count_of noise.Response args
    else if bytes_eq word (codes "choice") then three count_of signed_of signed_of noise.Choice args
    else None

-- the word of each noise
unfoldable pub noise_word : Noise → List ℕ
noise_word (noise.Geometric u lo hi) = codes "geometric"
noise_word (noise.Response u) = codes "response"
noise_word (noise.Choice u floor top) = codes "choice"

-- an array that begins with a word
abbrev pub after_word : {A : Type 0} → (List ℕ → List Data → Option A) → List Data → Option A
after_word by [] = None
after_word by (first ∷ args) = text_of first >>= (λ word. by word args)

-- a stage and a noise, each an array of its word and its arguments
unfoldable pub stage_of : List (List ℕ) → Data → Option Stage
stage_of columns d = array_of d >>= after_word (stage_by columns)

unfoldable pub noise_of : Data → Option Noise
noise_of d = array_of d >>= after_word noise_by

-- a list before its last item, and that item
unfoldable pub last_apart : {A : Type 0} → List A → Option (List A × A)
last_apart [] = None
last_apart (last ∷ []) = Some ([], last)
last_apart (first ∷ next ∷ rest) = option_map (λ parted. (first ∷ parted.0, parted.1)) (last_apart (next ∷ rest))

-- a part of stages and a noise
abbrev pub made_part : Option (List Stage) → Option Noise → Option Part
made_part stages noise = do
  all ← stages
  last ← noise
  Some (record { stages = all; noise = last })

-- a part: any number of stages, and then one noise
unfoldable pub part_in : List (List ℕ) → List Data → Option Part
part_in columns items = do
  parted ← last_apart items
  made_part (all_of (stage_of columns) parted.0) (noise_of parted.1)

unfoldable pub part_of : List (List ℕ) → Data → Option Part
part_of columns d = array_of d >>= part_in columns

-- the parts of a release, and whether they were written as an `all`
pub record SpecValue : Type 0 where
  pub parts : List Part
  pub is_all : Bool

-- from 1 to 16 parts
abbrev pub few_parts : ℕ → Bool
few_parts n = nat_le 1 n && nat_le n 16

-- the items after the text `all`, where an array begins with it
abbrev pub after_all : List Data → Option (List Data)
after_all [] = None
after_all (first ∷ rest) = text_of first >>= (λ word. if bytes_eq word (codes "all") then Some rest else None)

-- an `all` of 1 to 16 parts
unfoldable pub all_in : List (List ℕ) → List Data → Option SpecValue
all_in columns items = do
  parts ← all_of (part_of columns) items
  if few_parts (length parts) then Some (record { parts = parts; is_all = true }) else None

-- one part by itself
unfoldable pub one_in : List (List ℕ) → List Data → Option SpecValue
one_in columns items = option_map (λ part. record { parts = part ∷ []; is_all = false }) (part_in columns items)

-- a release: an `all`, or one part
abbrev pub spec_after : List (List ℕ) → List Data → Option (List Data) → Option SpecValue
spec_after columns items None = one_in columns items
spec_after columns items (Some rest) = all_in columns rest

unfoldable pub spec_of : List (List ℕ) → Data → Option SpecValue
spec_of columns d = array_of d >>= (λ items. spec_after columns items (after_all items))
