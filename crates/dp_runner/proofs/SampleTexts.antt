-- The data text of `sample`, record by record.
use Rattle.std.proofs.Common.{◌≡◌, ◌∙◌, ◌+◌, ◌*◌, ◌%◌, ◌≤◌, ◌==◌, ℕ, zero, suc, Bool, true, false, [], ◌∷◌, ◌++◌, length, map, refl, sym, ap, arith, if◌then◌else◌, length-append, add-one}
use Rattle.std.specs.Prelude.{codes}
use Rattle.std.specs.Fmt as fmt
use Rattle.std.specs.List.{concat, range_with_len}
use Rattle.std.proofs.lemmas.Fmt.{length-decimal-le}
use Rattle.std.proofs.lemmas.List.{append-nil}
use Rattle.std.proofs.lemmas.List.FromFn.{map-range_with_len_more}
use Rattle.std.proofs.lemmas.List.Folds.{concat-append}
use Rattle.dp_runner.specs.Sample.{sample_sex, sample_line, sample_text}

pub text-none : sample_text 0 ≡ []
unfolding sample_text
text-none = refl

-- one record more
pub text-more : (records : ℕ) → sample_text (records + 1) ≡ sample_text records ++ sample_line records
unfolding sample_text
text-more records =
    ap concat (map-range_with_len_more sample_line 0 records records (omega arith))
    ∙ concat-append (map sample_line (range_with_len 0 records)) (sample_line records ∷ [])
    ∙ ap (λ line. concat (map sample_line (range_with_len 0 records)) ++ line) (append-nil (sample_line records))

sex-length : (even : Bool) → length (if even then codes "F" else codes "M") ≡ 1
sex-length true = refl
sex-length false = refl

-- a line has at most eight bytes
line-length : (i : ℕ) → length (sample_line i) ≤ 8
unfolding sample_line
line-length i =
    let age : length (fmt.decimal ((37 * i + 11) % 100)) ≤ 2 = length-decimal-le 2 ((37 * i + 11) % 100) (omega arith) (omega arith) (omega arith) in
    let district : length (fmt.decimal (7 * i % 5)) ≤ 1 = length-decimal-le 1 (7 * i % 5) (omega arith) (omega arith) (omega arith) in
    let sex : length (sample_sex i) ≡ 1 = sex-length (i % 2 == 0) in
    simp length-append (omega arith)

pub text-length : (records : ℕ) → length (sample_text records) ≤ 8 * records
text-length zero =
    let none : length (sample_text 0) ≡ 0 = ap length text-none in
    omega arith
text-length (suc records) =
    let line = line-length records in
    let before = text-length records in
    let more : length (sample_text (suc records)) ≡ length (sample_text records) + length (sample_line records) =
    ap (λ n. length (sample_text n)) (sym (add-one records)) ∙ ap length (text-more records)
    ∙ length-append (sample_text records) (sample_line records) in
    omega arith
