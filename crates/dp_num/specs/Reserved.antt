-- A list with room for more items, as contracts see it.
use Rattle.std.specs.Prelude.{ℕ, List, slice_set, refl}
use Rattle.std.specs.Coded.{Coded, coded×, coded_list, coded_ℕ, code_by}

-- the items, and for how many more there is room
pub record ReservedValue (T : Type 0) : Type 0 where
  pub items : List T
  pub spare : ℕ

-- a value is told from another by its two parts
abbrev pub reserved_code : {T : Type 0} → Coded T → Coded (ReservedValue T)
reserved_code {T} code =
    code_by (List T × ℕ) (coded× (coded_list code) coded_ℕ)
    (λ v. (v.items, v.spare)) (λ p. record { items = p.0; spare = p.1 }) (λ _. refl)

-- the list with another item at place k
abbrev pub with_item : {T : Type 0} → ReservedValue T → ℕ → T → ReservedValue T
with_item list k item = record { items = slice_set list.items k item; spare = list.spare }
