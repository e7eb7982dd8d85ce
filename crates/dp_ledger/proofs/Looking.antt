-- What a buffer of one byte more than an image tells of a content.
use Rattle.std.proofs.Common.{◌≡◌, ℕ, List, length, take, refl, sym, ◌∙◌, ap, Option, Some, None, arith, length-take, subst}
use Rattle.std.proofs.lemmas.List.{take_all}
use Rattle.dp_num.specs.declared.ratio.Ratio.{Ratio}
use Rattle.dp_ledger.specs.Disk.{Fills}
use Rattle.dp_ledger.specs.Image.{ledger_total, current_slot}
use Rattle.dp_ledger.proofs.Totals.{parts, size_of}

size : (ratio : Ratio) (bytes : List ℕ) (t : ℕ) → ledger_total ratio bytes ≡ Some t → length bytes ≡ 26
size ratio bytes t total = size_of ratio bytes (parts ratio (current_slot bytes) bytes t total refl).of_ratio

module _ (ratio : Ratio) (content buffer : List ℕ) (n : ℕ) (room : length buffer ≡ 27) (fills : Fills content 0 n buffer) where
  whole : length content ≡ 26 → take n buffer ≡ content
  whole is = fills.bytes ∙ take_all n content (omega (arith, fills.count))

  -- what stands in it as a ledger is the content
  pub seen_is : (t : ℕ) → ledger_total ratio (take n buffer) ≡ Some t → take n buffer ≡ content
  seen_is t total =
      let is = size ratio (take n buffer) t total in
      whole (omega (arith, is, length-take n buffer, fills.count))

  pub seen_total : (t : ℕ) → ledger_total ratio (take n buffer) ≡ Some t → ledger_total ratio content ≡ Some t
  seen_total t total = subst (λ (l : List ℕ). ledger_total ratio l ≡ Some t) (seen_is t total) total

  -- and where none stands in it, the content is none
  pub seen_none : ledger_total ratio (take n buffer) ≡ None → ledger_total ratio content ≡ None
  seen_none none = go (ledger_total ratio content) refl
    where
      go : (o : Option ℕ) → ledger_total ratio content ≡ o → ledger_total ratio content ≡ None
      go None is = is
      go (Some t) is =
          let same = whole (size ratio content t is) in
          let wrong : None ≡ Some t = sym none ∙ ap (ledger_total ratio) same ∙ is in
          absurd (cc)
