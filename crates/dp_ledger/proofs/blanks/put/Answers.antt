use Rattle.std.proofs.Common.{◌≡◌, ◌+◌, ◌-◌, ◌++◌, ℕ, List, true, length, take, drop, max, replicate, is_ok, sym, ◌∙◌, ap, arith, rules}
use Rattle.std.proofs.lemmas.List.{append-nil, take_all, drop_all}
use Rattle.dp_ledger.proofs.Room.{put_in_room}
use Rattle.dp_ledger.proofs.blanks.put.Goals as goal

pub returns-clause-put : goal.returns-clause-put
returns-clause-put c =
    let at = c.args.at in
    let bytes = c.args.bytes.now in
    let was = c.args.content.now.items in
    let written = c.write_over.new.content in
    let filled = c.resize.new.self.items in
    let good : is_ok c.resize.result ≡ true = search rules in
    let same : length written ≡ length filled = c.write_over.auto.content ∙ ap length c.deref_mut.ensures.value in
    let lens : c.resize.new.self.len ≡ length filled = sym c.deref_mut.ensures.len ∙ ap length c.deref_mut.ensures.value in
    let whole : take c.resize.new.self.len (written ++ drop (length written) filled) ≡ written =
    ap (λ (l : List ℕ). take c.resize.new.self.len (written ++ l)) (drop_all (length written) filled (omega (arith, same)))
    ∙ ap (λ (l : List ℕ). take c.resize.new.self.len l) (append-nil written)
    ∙ take_all c.resize.new.self.len written (omega (arith, same, lens)) in
    let has : c.args.content.now.len ≡ length was = search rules in
    let most : c.max-len.result ≡ max (length was) (at + length bytes) = omega (arith, has, c.max-len.ensures, c.len.ensures) in
    let items : filled ≡ take (max (length was) (at + length bytes)) was ++ replicate (max (length was) (at + length bytes) - length was) 0 =
    rw good at c.resize.ensures.items ∙ (λ i. take (most i) was ++ replicate (most i - has i) 0) in
    whole ∙ c.write_over.ensures ∙ put_in_room at bytes was c.deref_mut.result.now (c.deref_mut.ensures.value ∙ items)
