use Rattle.std.proofs.Common.{◌≡◌, ◌++◌, take, drop, map}
use Rattle.dp_post.specs.Posts.{posted_piece}
use Rattle.dp_post.proofs.post.changed_answer.Given as goal

abbrev pub invariant-loop-part : goal.invariant-loop-part
invariant-loop-part l =
    take l.part-index l.part-items ++ map (posted_piece l.posts) (drop l.part-index l.part-items)
    ≡ map (posted_piece l.posts) l.initial.part-items
