-- The command `post P DATA PLAN POST..`: one release, whose answer is changed before it is written.
use Rattle.std.specs.Prelude.{ℕ, ◌&&◌, List, [], ◌∷◌, length, Option, Some, None, if◌then◌else◌, nat_le, option_map, option_and_then, codes}
use Rattle.std.specs.Str.{bytes_eq}
use Rattle.dp_count.specs.Slots.{Slot}
use Rattle.dp_domain.specs.declared.values.Value.TheVariants as value
use Rattle.dp_post.specs.declared.post.Post.{Post}
use Rattle.dp_post.specs.declared.post.Post.TheVariants as post
use Rattle.dp_session.specs.Singles.{post_verdict, single_slot}
use Rattle.dp_runner.specs.OneRelease.{PlanForm, plan_form_of, release_command}
use Rattle.dp_runner.specs.Outcome.{Command}
use Rattle.dp_runner.specs.Sessions.{Opened}

-- what the words after `post` say
pub record PostForm : Type 0 where
  pub names : PlanForm
  pub posts : List Post

-- the change that a word names
abbrev pub post_of : List ℕ → Option Post
post_of word =
    if bytes_eq word (codes "cumulate") then Some post.Cumulate
    else if bytes_eq word (codes "floor") then Some post.Floor
    else if bytes_eq word (codes "largest") then Some post.Largest
    else None

-- those of several words, if each names one
unfoldable pub posts_named : List (List ℕ) → Option (List Post)
posts_named [] = Some []
posts_named (word ∷ words) =
    option_and_then (λ post. option_map (λ posts. post ∷ posts) (posts_named words)) (post_of word)

-- 1 to 16 changes
abbrev pub posts_of : List (List ℕ) → Option (List Post)
posts_of words = if nat_le 1 (length words) && nat_le (length words) 16 then posts_named words else None

abbrev pub post_form_of : List ℕ → List ℕ → List ℕ → List (List ℕ) → Option PostForm
post_form_of pipeline_name data_name plan words =
    option_and_then (λ names. option_map (λ posts. record { names = names; posts = posts }) (posts_of words))
    (plan_form_of pipeline_name data_name plan)

unfoldable pub post_form : List (List ℕ) → Option PostForm
post_form (pipeline_name ∷ data_name ∷ plan ∷ words) = post_form_of pipeline_name data_name plan words
post_form _ = None

-- by a pipeline and records, the bounds of its draws and its lines
abbrev pub post_slot : PostForm → Opened → Slot (List ℕ)
post_slot form found =
    single_slot (post_verdict found.pipeline form.names.plan form.posts) (value.Rows found.rows)

abbrev pub post_command : PostForm → Command
post_command form = release_command form.names (post_slot form)
