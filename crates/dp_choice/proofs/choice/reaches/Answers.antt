use Rattle.std.proofs.Common.{refl}
use Rattle.dp_choice.proofs.Tables.{share-test}
use Rattle.dp_choice.proofs.choice.reaches.Goals as goal

pub returns : goal.returns
returns c = rw (c.from.ensures, c.from-2.ensures, c.from-3.ensures, c.from-4.ensures) (share-test _ _ _ _ _ c.requires.positive refl refl)
