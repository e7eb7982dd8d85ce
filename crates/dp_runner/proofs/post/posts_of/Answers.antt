use Rattle.std.proofs.Common.{◌≡◌, ◌∙◌, ◌+◌, ◌∷◌, ◌++◌, ◌<◌, ◌≤◌, [], List, None, Some, map, take, length, sym, ap, subst, arith, slice_set}
use Rattle.std.specs.Prelude.{string_bytes}
use Rattle.std.proofs.lemmas.Bool.Decides.{nat_tests}
use Rattle.std.proofs.lemmas.List.{take_more_set, length-set}
use Rattle.dp_post.specs.declared.post.Post.{Post}
use Rattle.dp_runner.specs.Post.{post_of, posts_named}
use Rattle.dp_runner.proofs.PostWords.{behind, named_from, posts-next, posts-none, posts-last, posts-within}
use Rattle.dp_runner.proofs.post.posts_of.Goals as goal

pub returns-in_err-posts-clause-posts : goal.returns-in_err-posts-clause-posts
returns-in_err-posts-clause-posts c =
    let words = c.args.words.now in
    let none : None ≡ post_of (string_bytes c.word-item.result) =
    sym c.in_err-posts.was ∙ c.post_of.ensures ∙ ap post_of c.as_str.ensures.value in
    rw c.from_residual.ensures (sym (posts-within string_bytes words (omega arith) (omega arith)
    ∙ posts-none string_bytes words c.loop-word.word-index c.word-item.result (take c.loop-word.count c.loop-word.posts)
    c.loop-word-test.true c.word-item.is none c.loop-word.invariant.named))

pub loop-word-preserved : goal.loop-word-preserved
loop-word-preserved c =
    let words = c.args.words.now in
    let i = c.loop-word.word-index in
    let post = c.in_ok-posts.field-0 in
    let front = take c.loop-word.count c.loop-word.posts in
    let named : Some post ≡ post_of (string_bytes c.word-item.result) =
    sym c.in_ok-posts.was ∙ c.post_of.ensures ∙ ap post_of c.as_str.ensures.value in
    let more : take (c.loop-word.count + 1) (slice_set c.loop-word.posts c.loop-word.count post) ≡ front ++ post ∷ [] =
    take_more_set c.loop-word.posts c.loop-word.count post
    (omega (arith, c.loop-word.invariant.all, c.loop-word.invariant.room)) in
    record {
      named = subst (λ (posts : List Post). posts_named (map string_bytes words) ≡ behind posts (named_from string_bytes words (i + 1)))
          (sym more)
          (posts-next string_bytes words i c.word-item.result front post c.loop-word-test.true c.word-item.is named
          c.loop-word.invariant.named);
      all = ap (λ k. k + 1) c.loop-word.invariant.all;
      room = length-set c.loop-word.posts c.loop-word.count post ∙ c.loop-word.invariant.room;
    }

pub returns-clause-posts : goal.returns-clause-posts
returns-clause-posts c =
    let words = c.args.words.now in
    let some : 1 ≤ length words = grind (arith, nat_tests) in
    let end : c.loop-word.word-index ≡ length words = omega arith in
    sym (posts-within string_bytes words some (omega arith)
    ∙ posts-last string_bytes words (take c.loop-word.count c.loop-word.posts) (rw end at c.loop-word.invariant.named))
