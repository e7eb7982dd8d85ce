use Rattle.std.proofs.Common.{◌≡◌, ◌∙◌, length, refl, sym, ap, subst, is_some, IsSome, arith}
use Rattle.std.proofs.lemmas.List.{nil_from_length}
use Rattle.dp_ledger.specs.Disk.{put_at}
use Rattle.dp_ledger.specs.Image.{new_image, ledger_total}
use Rattle.dp_ledger.specs.Ledger.{Shows}
use Rattle.dp_ledger.proofs.NewImage.{put_on_empty, new_total, new_current, new_other}
use Rattle.dp_ledger.proofs.StepLaws.{map_some, some_of}
use Rattle.dp_ledger.proofs.ledger.Ledger.create.Goals as goal

pub returns-then-branch-gt0-clause-there : goal.returns-then-branch-gt0-clause-there
returns-then-branch-gt0-clause-there g c = λ _ content told empty.
    let fills = c.in_ok-look.ensures.fills content told in
    omega (arith, fills.count, ap length empty, c.if-branch-gt0.true)

pub returns-clause-empty : goal.returns-clause-empty
returns-clause-empty g c = λ content told.
    let fills = c.in_ok-look.ensures.fills content told in
    nil_from_length content (omega (arith, fills.count, c.if-branch-gt0.false, c.look.auto.buf))

-- what is read is the bytes that were written
pub returns-clause-image : goal.returns-clause-image
returns-clause-image g c = λ now told.
    let was = map_some (put_at 0 c.new_image.result) (g.B.Disk.reads c.look.new.disk) now (sym c.in_ok-settle.ensures.reads ∙ told) in
    let fills = c.in_ok-look.ensures.fills was.0 (sym c.look.ensures.same ∙ was.1) in
    let empty = nil_from_length was.0 (omega (arith, fills.count, c.if-branch-gt0.false, c.look.auto.buf)) in
    sym was.2 ∙ ap (put_at 0 c.new_image.result) empty ∙ put_on_empty c.new_image.result ∙ c.new_image.ensures

pub returns-clause-stands : goal.returns-clause-stands
returns-clause-stands g c = record {
  not_closed = refl;
  rests = λ now told.
      let was = map_some (put_at 0 c.new_image.result) (g.B.Disk.reads c.look.new.disk) now (sym c.in_ok-settle.ensures.reads ∙ told) in
      let fills = c.in_ok-look.ensures.fills was.0 (sym c.look.ensures.same ∙ was.1) in
      let empty = nil_from_length was.0 (omega (arith, fills.count, c.if-branch-gt0.false, c.look.auto.buf)) in
      let image : now ≡ new_image c.args.ratio = sym was.2 ∙ ap (put_at 0 c.new_image.result) empty ∙ put_on_empty c.new_image.result ∙ c.new_image.ensures in (
        subst (Shows _) (sym image) (record { total = new_total c.args.ratio; current = new_current c.args.ratio; other_gate = new_other c.args.ratio }),
        c.in_ok-settle.ensures.alone now told,
      );
}

pub returns-clause-acknowledged : goal.returns-clause-acknowledged
returns-clause-acknowledged g c = λ tells left_content left.
    let d = g.B.Disk in
    let looked : IsSome (d.reads c.look.new.disk) = ap is_some c.look.ensures.same ∙ tells in
    let read = some_of (d.reads c.settle.new.disk) (c.settle.ensures.telling looked) in
    let was = map_some (put_at 0 c.new_image.result) (d.reads c.look.new.disk) read.0 (sym c.in_ok-settle.ensures.reads ∙ read.1) in
    let fills = c.in_ok-look.ensures.fills was.0 (sym c.look.ensures.same ∙ was.1) in
    let empty = nil_from_length was.0 (omega (arith, fills.count, c.if-branch-gt0.false, c.look.auto.buf)) in
    let image : read.0 ≡ new_image c.args.ratio = sym was.2 ∙ ap (put_at 0 c.new_image.result) empty ∙ put_on_empty c.new_image.result ∙ c.new_image.ensures in
    ap (ledger_total c.args.ratio) (c.in_ok-settle.ensures.alone read.0 read.1 left_content left ∙ image) ∙ new_total c.args.ratio
