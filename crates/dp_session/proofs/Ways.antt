-- How many draw lists of a run give a list of replies.
use Rattle.std.proofs.Common.{◌≡◌, ℕ, ◌*◌, false, Result, Ok, Err, List, [], ◌∷◌, refl, ◌∙◌, ap₂}
use Rattle.dp_count.specs.DrawLists.{count}
use Rattle.dp_count.specs.Slots.{product_of_ways}
use Rattle.dp_count.proofs.Counting.{count-never}
use Rattle.dp_count.proofs.Slots.{count-replies}
use Rattle.dp_domain.specs.declared.values.Value.{Value}
use Rattle.dp_law.specs.Mechanism.{ways}
use Rattle.dp_pipeline.specs.declared.content.Content.{Content}
use Rattle.dp_session.specs.declared.refusal.Refusal.{Refusal}
use Rattle.dp_session.specs.RunWays.{RunWaysLaw, task_ways, query_ways, ways_product}
use Rattle.dp_session.specs.Runs.{Reply, Refused, Opened, Answered, same_reply, value_at, task_shape, task_reply, query_shape, query_reply, query_slots, run_ways}
use Rattle.dp_session.specs.Verdicts.{Grant, Task, Release, Child, granted, verdict}

task-count : (task : Task) (value : Value) (reply : Reply)
    → count (task_shape task) (λ draws. same_reply (task_reply task value draws) reply) ≡ task_ways task value reply
unfolding count ways
task-count (Release release) value (Answered answer) = refl
task-count (Release release) value (Refused refused) = count-never release.shape (λ draws. false) (λ d is. refl)
task-count (Release release) value Opened = count-never release.shape (λ draws. false) (λ d is. refl)
task-count (Child line) value reply = refl

query-count : (r : Result Grant Refusal) (values : ℕ → Value) (reply : Reply)
    → count (query_shape r) (λ draws. same_reply (query_reply r values draws) reply) ≡ query_ways r values reply
unfolding count
query-count (Ok grant) values reply = task-count grant.task (values _) reply
query-count (Err refused) values reply = refl

slots-product : (pipeline : Content) (root : Value) (past lines : List (List ℕ)) (wanted : List Reply)
    → product_of_ways same_reply (query_slots pipeline root past lines) wanted ≡ ways_product pipeline root past lines wanted
unfolding product_of_ways query_slots ways_product
slots-product pipeline root past [] [] = refl
slots-product pipeline root past [] (reply ∷ wanted) = refl
slots-product pipeline root past (line ∷ lines) [] = refl
slots-product pipeline root past (line ∷ lines) (reply ∷ wanted) =
    ap₂ (λ a b. a * b) (query-count (verdict pipeline past line) (value_at root (granted pipeline past)) reply) (slots-product pipeline root (line ∷ past) lines wanted)

-- the product of the numbers of each query
pub run-ways : RunWaysLaw
unfolding run_ways
run-ways pipeline root lines wanted = count-replies same_reply (query_slots pipeline root [] lines) wanted ∙ slots-product pipeline root [] lines wanted
