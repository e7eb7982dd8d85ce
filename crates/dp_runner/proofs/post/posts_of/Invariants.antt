use Rattle.std.proofs.Common.{◌≡◌, map, take, length}
use Rattle.std.specs.Prelude.{string_bytes}
use Rattle.dp_runner.specs.Post.{posts_named}
use Rattle.dp_runner.proofs.PostWords.{behind, named_from}
use Rattle.dp_runner.proofs.post.posts_of.Given as goal

abbrev pub invariant-loop-word : goal.invariant-loop-word
invariant-loop-word l = record {
  named : posts_named (map string_bytes l.words) ≡ behind (take l.count l.posts) (named_from string_bytes l.words l.word-index);
  all : l.count ≡ l.word-index;
  room : length l.posts ≡ 16;
}
