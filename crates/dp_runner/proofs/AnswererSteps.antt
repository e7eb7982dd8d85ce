-- An account and a session stand at their own pipeline and records.
use Rattle.std.proofs.Common.{ℕ, List, refl}
use Rattle.dp_pipeline.specs.declared.content.Content.{Content}
use Rattle.dp_session.specs.Accounts.{AccountValue, IsAccountAt}
use Rattle.dp_session.specs.Sessions.{SessionValue, IsSessionAt}

pub account-own : (account : AccountValue) (pipeline : Content) (past : List (List ℕ))
    → IsAccountAt account pipeline past → IsAccountAt account account.queries.pipeline past
account-own account pipeline past h = record { live = h.live; pipeline_is = refl; queries = h.queries }

pub session-own : (session : SessionValue) (pipeline : Content) (rows : List (List (List ℕ))) (past : List (List ℕ))
    → IsSessionAt session pipeline rows past
    → IsSessionAt session session.queries.pipeline session.store.records past
session-own session pipeline rows past h =
    record { live = h.live; pipeline_is = refl; records_are = refl; at = h.at }
