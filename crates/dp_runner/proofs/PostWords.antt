-- The changes that words name, one word after another.
use Rattle.std.proofs.Common.{◌≡◌, ℕ, suc, ◌+◌, ◌<◌, ◌≤◌, ◌&&◌, true, nat_le, List, [], ◌∷◌, ◌++◌, map, length, drop, get_or, Option, Some, None, refl, sym, ◌∙◌, ap, add-one, drop-cons, append_assoc, arith}
use Rattle.std.specs.Prelude.{option_map, option_and_then}
use Rattle.std.proofs.lemmas.Bool.Decides.{nat_tests}
use Rattle.std.proofs.lemmas.List.{append-nil, drop_all, length-map}
use Rattle.dp_post.specs.declared.post.Post.{Post}
use Rattle.dp_runner.specs.Post.{post_of, posts_named, posts_of}

-- changes before others
abbrev pub behind : List Post → Option (List Post) → Option (List Post)
behind front more = option_map (λ posts. front ++ posts) more

behind-none : (more : Option (List Post)) → more ≡ behind [] more
behind-none None = refl
behind-none (Some posts) = refl

behind-one : (front : List Post) (post : Post) (more : Option (List Post))
    → behind front (option_map (λ posts. post ∷ posts) more) ≡ behind (front ++ post ∷ []) more
behind-one front post None = refl
behind-one front post (Some posts) = ap Some (sym (append_assoc front (post ∷ []) posts))

module _ {W : Type 0} (bytes : W → List ℕ) (words : List W) where
  -- those of the words from a place on
  abbrev pub named_from : ℕ → Option (List Post)
  named_from i = posts_named (map bytes (drop i words))

  -- what the word at a place and the words after it name
  from-next : (i : ℕ) (word : W) → i < length words → word ≡ get_or words i word
      → named_from i
      ≡ option_and_then (λ post. option_map (λ posts. post ∷ posts) (named_from (i + 1))) (post_of (bytes word))
  unfolding posts_named
  from-next i word below is =
      ap (λ (ws : List W). posts_named (map bytes ws)) (drop-cons words i word below)
      ∙ ap (λ (w : W). posts_named (bytes w ∷ map bytes (drop (suc i) words))) (sym is)
      ∙ ap (λ (k : ℕ). posts_named (bytes word ∷ map bytes (drop k words))) (sym (add-one i))

  pub posts-start : posts_named (map bytes words) ≡ behind [] (named_from 0)
  posts-start = behind-none (posts_named (map bytes words))

  pub posts-next : (i : ℕ) (word : W) (front : List Post) (post : Post) → i < length words → word ≡ get_or words i word
      → Some post ≡ post_of (bytes word) → posts_named (map bytes words) ≡ behind front (named_from i)
      → posts_named (map bytes words) ≡ behind (front ++ post ∷ []) (named_from (i + 1))
  posts-next i word front post below is named so_far =
      so_far ∙ ap (behind front) (from-next i word below is
      ∙ ap (option_and_then (λ p. option_map (λ posts. p ∷ posts) (named_from (i + 1)))) (sym named))
      ∙ behind-one front post (named_from (i + 1))

  pub posts-none : (i : ℕ) (word : W) (front : List Post) → i < length words → word ≡ get_or words i word
      → None ≡ post_of (bytes word) → posts_named (map bytes words) ≡ behind front (named_from i)
      → posts_named (map bytes words) ≡ None
  posts-none i word front below is named so_far =
      so_far ∙ ap (behind front) (from-next i word below is
      ∙ ap (option_and_then (λ p. option_map (λ posts. p ∷ posts) (named_from (i + 1)))) (sym named))

  pub posts-last : (front : List Post) → posts_named (map bytes words) ≡ behind front (named_from (length words))
      → posts_named (map bytes words) ≡ Some front
  unfolding posts_named
  posts-last front so_far =
      so_far ∙ ap (λ (ws : List W). behind front (posts_named (map bytes ws))) (drop_all (length words) words (omega arith))
      ∙ ap Some (append-nil front)

  -- words of which there are as many as may be
  pub posts-within : 1 ≤ length words → length words ≤ 16
      → posts_of (map bytes words) ≡ posts_named (map bytes words)
  posts-within some few =
      let size = length-map words bytes in
      let within : (nat_le 1 (length (map bytes words)) && nat_le (length (map bytes words)) 16) ≡ true =
      grind (arith, nat_tests) in
      rw within refl
