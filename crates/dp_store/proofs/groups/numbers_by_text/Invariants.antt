use Rattle.std.proofs.Common.{◌≡◌, map, take}
use Rattle.std.specs.Prelude.{filter}
use Rattle.dp_rowwise.specs.Parts.{category_texts}
use Rattle.dp_store.specs.Selections.{has_text}
use Rattle.dp_store.proofs.groups.numbers_by_text.Given as goal

abbrev pub invariant-loop-k : goal.invariant-loop-k
invariant-loop-k l =
    l.lists.items
    ≡ map (λ text. filter (has_text l.store.records l.column text) (take l.k l.base)) (category_texts l.texts)
