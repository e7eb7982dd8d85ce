-- An accepted query is an ask or an open.
use Rattle.std.proofs.Common.{◌≡◌, ℕ, ◌+◌, Option, Some, None, ◌⊎◌, inl, inr, Ok, List, length, refl}
use Rattle.dp_budget.specs.Rules.{BudgetValue}
use Rattle.dp_chain.specs.declared.stage.Stage.{Stage}
use Rattle.dp_pipeline.specs.declared.content.Content.{Content}
use Rattle.dp_pipeline.specs.declared.query.Query.{Query}
use Rattle.dp_pipeline.specs.declared.query.Query.TheVariants as query
use Rattle.dp_pipeline.specs.StageForms.{SpecValue}
use Rattle.dp_pipeline.specs.Accepted.{ratio_of, siblings_open}
use Rattle.dp_pipeline.specs.Queries.{query_of}
use Rattle.dp_session.specs.Verdicts.{Grant, Nodes, judge, by_history, root_seat, past_events, verdict}
use Rattle.dp_session.proofs.Grants.{Asked, Opened, asked, opened}

-- what the accepted queries so far tell of the nodes
abbrev pub past_nodes : Content → List (List ℕ) → Nodes
past_nodes pipeline past = by_history (siblings_open pipeline) (root_seat pipeline) (past_events pipeline past)

-- the line spells an ask, which is accepted
pub record IsAsk (pipeline : Content) (past : List (List ℕ)) (line : List ℕ) (grant : Grant) : Type 0 where
  pub node : ℕ
  pub spec : SpecValue
  pub spells : query_of pipeline line ≡ Some (query.Ask node spec)
  pub asked : Asked (ratio_of pipeline) (past_nodes pipeline past) (length past + 1) node spec.parts grant

-- the line spells an open, which is accepted
pub record IsOpen (pipeline : Content) (past : List (List ℕ)) (line : List ℕ) (grant : Grant) : Type 0 where
  pub node : ℕ
  pub stages : List Stage
  pub distance : ℕ
  pub budget : BudgetValue
  pub spells : query_of pipeline line ≡ Some (query.Open node stages distance budget)
  pub opened : Opened (past_nodes pipeline past) (length past + 1) node stages distance budget grant

pub ask-or-open : (pipeline : Content) (past : List (List ℕ)) (line : List ℕ) (grant : Grant)
    → verdict pipeline past line ≡ Ok grant → IsAsk pipeline past line grant ⊎ IsOpen pipeline past line grant
ask-or-open pipeline past line grant h = go (query_of pipeline line) refl h
  where
    go : (q : Option Query) → query_of pipeline line ≡ q
        → judge (ratio_of pipeline) (past_nodes pipeline past) (length past + 1) q ≡ Ok grant
        → IsAsk pipeline past line grant ⊎ IsOpen pipeline past line grant
    go None e h = absurd cc
    go (Some (query.Ask node spec)) e h = inl (record {
      node = node;
      spec = spec;
      spells = e;
      asked = asked (ratio_of pipeline) (past_nodes pipeline past) (length past + 1) node spec.parts grant h;
    })
    go (Some (query.Open node stages distance budget)) e h = inr (record {
      node = node;
      stages = stages;
      distance = distance;
      budget = budget;
      spells = e;
      opened = opened (past_nodes pipeline past) (length past + 1) node stages distance budget grant h;
    })
