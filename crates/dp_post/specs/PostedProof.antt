-- A measurement whose answers are changed is private.
use Rattle.std.proofs.Common.{◌≡◌, List, length, ◌∙◌}
use Rattle.std.proofs.lemmas.List.{length-map}
use Rattle.dp_count.proofs.ReplySets.{set-ratio}
use Rattle.dp_law.specs.declared.pieces.Piece.{Piece}
use Rattle.dp_law.specs.AnswerEquality.{same_answer}
use Rattle.dp_law.specs.Mechanism.{Mechanism, IsPrivate, ways}
use Rattle.dp_law.proofs.Equality.{same_answer-decides}
use Rattle.dp_post.specs.declared.post.Post.{Post}
use Rattle.dp_post.specs.Posted.{changed_by}
use Rattle.dp_post.specs.Posts.{posted, posted_piece}

pub changed_law : (change : List Piece → List Piece) (m : Mechanism) →
    ((answer : List Piece) → length (change answer) ≡ length answer) →
    IsPrivate m → IsPrivate (changed_by change m)
unfolding ways
changed_law change m kept law = record {
  input_fits = law.input_fits;
  input_suits = law.input_suits;
  below_one = law.below_one;
  few_draws = law.few_draws;
  bounds = law.bounds;
  few_pieces = law.few_pieces;
  whole = λ v draws has fits. kept (m.function v draws) ∙ law.whole v draws has fits;
  limited = law.limited;
  private = λ d k v w answer map_is has_v has_w near.
      set-ratio same_answer same_answer-decides m.ratio.p m.ratio.q k m.shape m.shape (m.function v) (m.function w)
      (λ reply. law.private d k v w reply map_is has_v has_w near)
      (λ before. same_answer (change before) answer);
}

-- changes of pieces keep their number
pub posted_law : (posts : List Post) (m : Mechanism) → IsPrivate m → IsPrivate (changed_by (posted posts) m)
posted_law posts m law = changed_law (posted posts) m (λ answer. length-map answer (posted_piece posts)) law
