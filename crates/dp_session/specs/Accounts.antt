-- An account: the verdicts of queries, without data.
use Rattle.std.specs.Prelude.{◌≡◌, ℕ, Bool, false, List, Option, Result, Ok, Err}
use Rattle.dp_io.specs.Sink.{appended, AddsFront}
use Rattle.dp_pipeline.specs.declared.content.Content.{Content}
use Rattle.dp_session.specs.declared.faults.AccountFault.{AccountFault}
use Rattle.dp_session.specs.declared.faults.AccountFault.TheVariants as fault
use Rattle.dp_session.specs.declared.faults.EndFault.{EndFault}
use Rattle.dp_session.specs.declared.faults.EndFault.TheVariants as end_fault
use Rattle.dp_session.specs.Settling.{QueriesValue, StandAt}

-- its queries, and whether a fault or its last line ended it
pub record AccountValue : Type 0 where
  pub queries : QueriesValue
  pub ended : Bool

-- the account of a pipeline stands at some lines, newest first: it has not ended, and its queries stand there
pub record IsAccountAt (account : AccountValue) (pipeline : Content) (past : List (List ℕ)) : Type 0 where
  pub live : account.ended ≡ false
  pub pipeline_is : account.queries.pipeline ≡ pipeline
  pub queries : StandAt account.queries past

-- what a call that answers a line of a standing account leaves: after Ok the output gained the line; after a write
-- fault a front of it; after want of memory nothing. It does not answer that the account has ended
abbrev pub WritesLine : Result (Unit {0}) AccountFault → List ℕ → Option (List ℕ) → Option (List ℕ) → Type 0
WritesLine (Ok done) line old new = new ≡ appended old line
WritesLine (Err fault.Ended) line old new = ⊥
WritesLine (Err fault.WriteFault) line old new = AddsFront old new line
WritesLine (Err fault.NoMemory) line old new = new ≡ old

-- the same of the last line, which takes no memory
abbrev pub WritesEnd : Result (Unit {0}) EndFault → List ℕ → Option (List ℕ) → Option (List ℕ) → Type 0
WritesEnd (Ok done) line old new = new ≡ appended old line
WritesEnd (Err end_fault.Ended) line old new = ⊥
WritesEnd (Err end_fault.WriteFault) line old new = AddsFront old new line
