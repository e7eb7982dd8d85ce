-- What is known of an accepted query.
use Rattle.std.proofs.Common.{◌≡◌, ℕ, Option, Some, None, Result, Ok, Err, List, refl}
use Rattle.std.specs.Bool.{⊤}
use Rattle.dp_count.specs.Results.{◌>>=◌}
use Rattle.dp_num.specs.Limits.{Fraction}
use Rattle.dp_budget.specs.Rules.{BudgetValue}
use Rattle.dp_law.specs.Mapping.{Mapping}
use Rattle.dp_law.specs.Mechanism.{Mechanism}
use Rattle.dp_chain.specs.declared.noise.Part.{Part}
use Rattle.dp_chain.specs.declared.stage.Stage.{Stage}
use Rattle.dp_chain.specs.Lines.{line_on}
use Rattle.dp_chain.specs.Releases.{release_on, cost_of}
use Rattle.dp_tree.specs.declared.faults.FindFault.{FindFault}
use Rattle.dp_tree.specs.History.{Ask, Open, given}
use Rattle.dp_pipeline.specs.Accepted.{part_refused, cost_refused}
use Rattle.dp_pipeline.specs.Places.{PlaceValue}
use Rattle.dp_session.specs.declared.refusal.Refusal.{Refusal}
use Rattle.dp_session.specs.declared.refusal.Refusal.TheVariants as refusal
use Rattle.dp_session.specs.Verdicts.{Grant, Release, Child, Nodes, unless, made_or, distance_or, place_unless, found, seat_refusal, ask_on, open_on}

-- an accepted ask
pub record Asked (ratio : Fraction) (nodes : Nodes) (number node : ℕ) (parts : List Part) (grant : Grant) : Type 0 where
  pub at : PlaceValue
  pub release : Mechanism
  pub cost : ℕ
  pub free : nodes.fault node ≡ None
  pub place : nodes.place node ≡ Some at
  pub made : release_on ratio parts at.domain at.metric ≡ Ok release
  pub costs : cost_of release at.distance ≡ Ok cost
  pub within : nodes.over node cost ≡ None
  pub grant_is : grant ≡ record { event = Ask number node cost; task = Release release }

-- an accepted open
pub record Opened (nodes : Nodes) (number node : ℕ) (stages : List Stage) (distance : ℕ) (budget : BudgetValue) (grant : Grant) : Type 0 where
  pub at : PlaceValue
  pub line : Mapping
  pub mapped : ℕ
  pub free : nodes.fault node ≡ None
  pub place : nodes.place node ≡ Some at
  pub made : line_on stages at.domain at.metric ≡ Ok line
  pub maps : line.stability_map at.distance ≡ Some mapped
  pub seated : nodes.unseated node distance mapped budget.rule ≡ None
  pub grant_is : grant ≡ record { event = Open number node (given line.output_domain line.output_metric distance budget) mapped; task = Child line }

no-fault : {F : Type 0} (name : F → Refusal) (o : Option F) (done : ⊤) → unless name o ≡ Ok done → o ≡ None
no-fault name None done h = refl
no-fault name (Some fault) done h = absurd cc

was-made : {A E : Type 0} (number : E → ℕ) (r : Result A E) (x : A) → made_or number r ≡ Ok x → r ≡ Ok x
was-made number (Ok y) x h = cc
was-made number (Err e) x h = absurd cc

a-distance : (o : Option ℕ) (d : ℕ) → distance_or o ≡ Ok d → o ≡ Some d
a-distance None d h = absurd cc
a-distance (Some e) d h = cc

the-place : (f : Option FindFault) (p : Option PlaceValue) (at : PlaceValue) → place_unless f p ≡ Ok at → (f ≡ None) × (p ≡ Some at)
the-place (Some fault) p at h = absurd cc
the-place None None at h = absurd cc
the-place None (Some there) at h = (refl, cc)

pub asked : (ratio : Fraction) (nodes : Nodes) (number node : ℕ) (parts : List Part) (grant : Grant) → ask_on ratio nodes number node parts ≡ Ok grant → Asked ratio nodes number node parts grant
unfolding ask_on
asked ratio nodes number node parts grant h = placed (found nodes node) refl h
  where
    done : PlaceValue → Mechanism → ℕ → Result ⊤ Refusal → Result Grant Refusal
    done at release cost admitted = admitted >>= (λ _. Ok (record { event = Ask number node cost; task = Release release }))

    admits : (at : PlaceValue) (release : Mechanism) (cost : ℕ) → found nodes node ≡ Ok at → release_on ratio parts at.domain at.metric ≡ Ok release → cost_of release at.distance ≡ Ok cost → (r : Result ⊤ Refusal) → unless refusal.Budget (nodes.over node cost) ≡ r → done at release cost r ≡ Ok grant → Asked ratio nodes number node parts grant
    admits at release cost f m k (Err e) is h = absurd cc
    admits at release cost f m k (Ok ok) is h =
        let p = the-place (nodes.fault node) (nodes.place node) at f in
        record {
          at = at;
          release = release;
          cost = cost;
          free = p.0;
          place = p.1;
          made = m;
          costs = k;
          within = no-fault refusal.Budget (nodes.over node cost) ok is;
          grant_is = cc;
        }

    costed : (at : PlaceValue) (release : Mechanism) → found nodes node ≡ Ok at → release_on ratio parts at.domain at.metric ≡ Ok release → (r : Result ℕ Refusal) → made_or cost_refused (cost_of release at.distance) ≡ r → (r >>= (λ cost. done at release cost (unless refusal.Budget (nodes.over node cost)))) ≡ Ok grant → Asked ratio nodes number node parts grant
    costed at release f m (Err e) is h = absurd cc
    costed at release f m (Ok cost) is h = admits at release cost f m (was-made cost_refused (cost_of release at.distance) cost is) (unless refusal.Budget (nodes.over node cost)) refl h

    released : (at : PlaceValue) → found nodes node ≡ Ok at → (r : Result Mechanism Refusal) → made_or part_refused (release_on ratio parts at.domain at.metric) ≡ r → (r >>= (λ release. made_or cost_refused (cost_of release at.distance) >>= (λ cost. done at release cost (unless refusal.Budget (nodes.over node cost))))) ≡ Ok grant → Asked ratio nodes number node parts grant
    released at f (Err e) is h = absurd cc
    released at f (Ok release) is h = costed at release f (was-made part_refused (release_on ratio parts at.domain at.metric) release is) (made_or cost_refused (cost_of release at.distance)) refl h

    placed : (r : Result PlaceValue Refusal) → found nodes node ≡ r → (r >>= (λ at. made_or part_refused (release_on ratio parts at.domain at.metric) >>= (λ release. made_or cost_refused (cost_of release at.distance) >>= (λ cost. done at release cost (unless refusal.Budget (nodes.over node cost)))))) ≡ Ok grant → Asked ratio nodes number node parts grant
    placed (Err e) is h = absurd cc
    placed (Ok at) is h = released at is (made_or part_refused (release_on ratio parts at.domain at.metric)) refl h

pub opened : (nodes : Nodes) (number node : ℕ) (stages : List Stage) (distance : ℕ) (budget : BudgetValue) (grant : Grant) → open_on nodes number node stages distance budget ≡ Ok grant → Opened nodes number node stages distance budget grant
unfolding open_on
opened nodes number node stages distance budget grant h = placed (found nodes node) refl h
  where
    done : Mapping → ℕ → Result ⊤ Refusal → Result Grant Refusal
    done line mapped seated = seated >>= (λ _. Ok (record {
      event = Open number node (given line.output_domain line.output_metric distance budget) mapped;
      task = Child line;
    }))

    seats : (at : PlaceValue) (line : Mapping) (mapped : ℕ) → found nodes node ≡ Ok at → line_on stages at.domain at.metric ≡ Ok line → line.stability_map at.distance ≡ Some mapped → (r : Result ⊤ Refusal) → unless seat_refusal (nodes.unseated node distance mapped budget.rule) ≡ r → done line mapped r ≡ Ok grant → Opened nodes number node stages distance budget grant
    seats at line mapped f m k (Err e) is h = absurd cc
    seats at line mapped f m k (Ok ok) is h =
        let p = the-place (nodes.fault node) (nodes.place node) at f in
        record {
          at = at;
          line = line;
          mapped = mapped;
          free = p.0;
          place = p.1;
          made = m;
          maps = k;
          seated = no-fault seat_refusal (nodes.unseated node distance mapped budget.rule) ok is;
          grant_is = cc;
        }

    mapping : (at : PlaceValue) (line : Mapping) → found nodes node ≡ Ok at → line_on stages at.domain at.metric ≡ Ok line → (r : Result ℕ Refusal) → distance_or (line.stability_map at.distance) ≡ r → (r >>= (λ mapped. done line mapped (unless seat_refusal (nodes.unseated node distance mapped budget.rule)))) ≡ Ok grant → Opened nodes number node stages distance budget grant
    mapping at line f m (Err e) is h = absurd cc
    mapping at line f m (Ok mapped) is h = seats at line mapped f m (a-distance (line.stability_map at.distance) mapped is) (unless seat_refusal (nodes.unseated node distance mapped budget.rule)) refl h

    lined : (at : PlaceValue) → found nodes node ≡ Ok at → (r : Result Mapping Refusal) → made_or part_refused (line_on stages at.domain at.metric) ≡ r → (r >>= (λ line. distance_or (line.stability_map at.distance) >>= (λ mapped. done line mapped (unless seat_refusal (nodes.unseated node distance mapped budget.rule))))) ≡ Ok grant → Opened nodes number node stages distance budget grant
    lined at f (Err e) is h = absurd cc
    lined at f (Ok line) is h = mapping at line f (was-made part_refused (line_on stages at.domain at.metric) line is) (distance_or (line.stability_map at.distance)) refl h

    placed : (r : Result PlaceValue Refusal) → found nodes node ≡ r → (r >>= (λ at. made_or part_refused (line_on stages at.domain at.metric) >>= (λ line. distance_or (line.stability_map at.distance) >>= (λ mapped. done line mapped (unless seat_refusal (nodes.unseated node distance mapped budget.rule)))))) ≡ Ok grant → Opened nodes number node stages distance budget grant
    placed (Err e) is h = absurd cc
    placed (Ok at) is h = lined at is (made_or part_refused (line_on stages at.domain at.metric)) refl h
