-- The form of four words after `count`, `replay` and `rehearse`, of three after `run`, of two after `account`, of one
-- after `check` and `sample`, and of any other number of words; of three words and others after `post`, and of four and
-- others after `group`; and the form of a first word and others.
use Rattle.std.proofs.Common.{◌≡◌, ◌≢◌, ◌≤◌, ◌<◌, ℕ, List, [], ◌∷◌, ◌-◌, length, take, drop, map, get_or, None, refl, arith, length-drop}
use Rattle.std.specs.Prelude.{option_and_then}
use Rattle.std.proofs.lemmas.List.{take_all}
use Rattle.dp_runner.specs.Account.{account_form, account_form_of}
use Rattle.dp_runner.specs.Check.{check_form, check_form_of}
use Rattle.dp_runner.specs.Count.{count_form, count_form_of}
use Rattle.dp_runner.specs.Group.{group_form, group_form_of}
use Rattle.dp_runner.specs.Post.{post_form, post_form_of}
use Rattle.dp_runner.specs.Sample.{record_count_of, sample_form}
use Rattle.dp_runner.specs.Sessions.{session_form_of, run_form, replay_form, replay_form_of, rehearse_form, rehearse_form_of}
use Rattle.dp_runner.specs.Forms.{form_of, form_after}

pub four-words : {W : Type 0} (bytes : W → List ℕ) (words : List W) (a b c d : W) → length words ≡ 4
    → a ≡ get_or words 0 a → b ≡ get_or words 1 b → c ≡ get_or words 2 c → d ≡ get_or words 3 d
    → count_form (map bytes words) ≡ count_form_of (bytes a) (bytes b) (bytes c) (bytes d)
unfolding count_form
four-words bytes (v ∷ w ∷ x ∷ y ∷ []) a b c d n ia ib ic id = rw (ia, ib, ic, id) refl
four-words bytes _ a b c d n ia ib ic id = absurd (omega arith)

pub other-words : {W : Type 0} (bytes : W → List ℕ) (words : List W) → length words ≢ 4 → count_form (map bytes words) ≡ None
unfolding count_form
other-words bytes (v ∷ w ∷ x ∷ y ∷ []) n = absurd (n refl)
other-words bytes [] n = refl
other-words bytes (v ∷ []) n = refl
other-words bytes (v ∷ w ∷ []) n = refl
other-words bytes (v ∷ w ∷ x ∷ []) n = refl
other-words bytes (v ∷ w ∷ x ∷ y ∷ more ∷ rest) n = refl

pub three-words : {W : Type 0} (bytes : W → List ℕ) (words : List W) (a b c : W) → length words ≡ 3
    → a ≡ get_or words 0 a → b ≡ get_or words 1 b → c ≡ get_or words 2 c
    → run_form (map bytes words) ≡ session_form_of (bytes a) (bytes b) (bytes c)
unfolding run_form
three-words bytes (v ∷ w ∷ x ∷ []) a b c n ia ib ic = rw (ia, ib, ic) refl
three-words bytes _ a b c n ia ib ic = absurd (omega arith)

pub not_three-words : {W : Type 0} (bytes : W → List ℕ) (words : List W) → length words ≢ 3 → run_form (map bytes words) ≡ None
unfolding run_form
not_three-words bytes (v ∷ w ∷ x ∷ []) n = absurd (n refl)
not_three-words bytes [] n = refl
not_three-words bytes (v ∷ []) n = refl
not_three-words bytes (v ∷ w ∷ []) n = refl
not_three-words bytes (v ∷ w ∷ x ∷ more ∷ rest) n = refl

pub replay-words : {W : Type 0} (bytes : W → List ℕ) (words : List W) (a b c d : W) → length words ≡ 4
    → a ≡ get_or words 0 a → b ≡ get_or words 1 b → c ≡ get_or words 2 c → d ≡ get_or words 3 d
    → replay_form (map bytes words)
    ≡ option_and_then (λ session. replay_form_of session (bytes d)) (session_form_of (bytes a) (bytes b) (bytes c))
unfolding replay_form
replay-words bytes (v ∷ w ∷ x ∷ y ∷ []) a b c d n ia ib ic id = rw (ia, ib, ic, id) refl
replay-words bytes _ a b c d n ia ib ic id = absurd (omega arith)

pub not_replay-words : {W : Type 0} (bytes : W → List ℕ) (words : List W) → length words ≢ 4 → replay_form (map bytes words) ≡ None
unfolding replay_form
not_replay-words bytes (v ∷ w ∷ x ∷ y ∷ []) n = absurd (n refl)
not_replay-words bytes [] n = refl
not_replay-words bytes (v ∷ []) n = refl
not_replay-words bytes (v ∷ w ∷ []) n = refl
not_replay-words bytes (v ∷ w ∷ x ∷ []) n = refl
not_replay-words bytes (v ∷ w ∷ x ∷ y ∷ more ∷ rest) n = refl

pub rehearse-words : {W : Type 0} (bytes : W → List ℕ) (words : List W) (a b c d : W) → length words ≡ 4
    → a ≡ get_or words 0 a → b ≡ get_or words 1 b → c ≡ get_or words 2 c → d ≡ get_or words 3 d
    → rehearse_form (map bytes words)
    ≡ option_and_then (λ session. rehearse_form_of session (bytes d)) (session_form_of (bytes a) (bytes b) (bytes c))
unfolding rehearse_form
rehearse-words bytes (v ∷ w ∷ x ∷ y ∷ []) a b c d n ia ib ic id = rw (ia, ib, ic, id) refl
rehearse-words bytes _ a b c d n ia ib ic id = absurd (omega arith)

pub not_rehearse-words : {W : Type 0} (bytes : W → List ℕ) (words : List W) → length words ≢ 4 → rehearse_form (map bytes words) ≡ None
unfolding rehearse_form
not_rehearse-words bytes (v ∷ w ∷ x ∷ y ∷ []) n = absurd (n refl)
not_rehearse-words bytes [] n = refl
not_rehearse-words bytes (v ∷ []) n = refl
not_rehearse-words bytes (v ∷ w ∷ []) n = refl
not_rehearse-words bytes (v ∷ w ∷ x ∷ []) n = refl
not_rehearse-words bytes (v ∷ w ∷ x ∷ y ∷ more ∷ rest) n = refl

pub one-word : {W : Type 0} (bytes : W → List ℕ) (words : List W) (a : W) → length words ≡ 1 → a ≡ get_or words 0 a
    → check_form (map bytes words) ≡ check_form_of (bytes a)
unfolding check_form
one-word bytes (w ∷ []) a n ia = rw ia refl
one-word bytes _ a n ia = absurd (omega arith)

pub not_one-word : {W : Type 0} (bytes : W → List ℕ) (words : List W) → length words ≢ 1 → check_form (map bytes words) ≡ None
unfolding check_form
not_one-word bytes (w ∷ []) n = absurd (n refl)
not_one-word bytes [] n = refl
not_one-word bytes (w ∷ more ∷ rest) n = refl

pub number-word : {W : Type 0} (bytes : W → List ℕ) (words : List W) (a : W) → length words ≡ 1 → a ≡ get_or words 0 a
    → sample_form (map bytes words) ≡ record_count_of (bytes a)
unfolding sample_form
number-word bytes (w ∷ []) a n ia = rw ia refl
number-word bytes _ a n ia = absurd (omega arith)

pub not_number-word : {W : Type 0} (bytes : W → List ℕ) (words : List W) → length words ≢ 1 → sample_form (map bytes words) ≡ None
unfolding sample_form
not_number-word bytes (w ∷ []) n = absurd (n refl)
not_number-word bytes [] n = refl
not_number-word bytes (w ∷ more ∷ rest) n = refl

pub two-words : {W : Type 0} (bytes : W → List ℕ) (words : List W) (a b : W) → length words ≡ 2 → a ≡ get_or words 0 a
    → b ≡ get_or words 1 b
    → account_form (map bytes words) ≡ account_form_of (bytes a) (bytes b)
unfolding account_form
two-words bytes (v ∷ w ∷ []) a b n ia ib = rw (ia, ib) refl
two-words bytes _ a b n ia ib = absurd (omega arith)

pub not_two-words : {W : Type 0} (bytes : W → List ℕ) (words : List W) → length words ≢ 2 → account_form (map bytes words) ≡ None
unfolding account_form
not_two-words bytes (v ∷ w ∷ []) n = absurd (n refl)
not_two-words bytes [] n = refl
not_two-words bytes (v ∷ []) n = refl
not_two-words bytes (v ∷ w ∷ more ∷ rest) n = refl

pub first-word : {W : Type 0} (bytes : W → List ℕ) (words : List W) (a : W) → 1 ≤ length words → a ≡ get_or words 0 a
    → form_of (map bytes words) ≡ form_after (bytes a) (map bytes (drop 1 words))
unfolding form_of
first-word bytes (w ∷ words) a n ia = rw ia refl
first-word bytes [] a n ia = absurd (omega arith)

pub no-word : {W : Type 0} (bytes : W → List ℕ) (words : List W) → length words ≡ 0 → form_of (map bytes words) ≡ None
unfolding form_of
no-word bytes [] n = refl
no-word bytes (w ∷ words) n = absurd (omega arith)

pub take-rest : {W : Type 0} (n : ℕ) (words : List W) → take (length words - n) (drop n words) ≡ drop n words
take-rest n words = take_all (length words - n) (drop n words) (simp length-drop (omega arith))

pub post-words : {W : Type 0} (bytes : W → List ℕ) (words : List W) (a b c : W) → 3 ≤ length words
    → a ≡ get_or words 0 a → b ≡ get_or words 1 b → c ≡ get_or words 2 c
    → post_form (map bytes words) ≡ post_form_of (bytes a) (bytes b) (bytes c) (map bytes (drop 3 words))
unfolding post_form
post-words bytes (v ∷ w ∷ x ∷ more) a b c n ia ib ic = rw (ia, ib, ic) refl
post-words bytes [] a b c n ia ib ic = absurd (omega arith)
post-words bytes (v ∷ []) a b c n ia ib ic = absurd (omega arith)
post-words bytes (v ∷ w ∷ []) a b c n ia ib ic = absurd (omega arith)

pub not_post-words : {W : Type 0} (bytes : W → List ℕ) (words : List W) → length words < 3
    → post_form (map bytes words) ≡ None
unfolding post_form
not_post-words bytes [] n = refl
not_post-words bytes (v ∷ []) n = refl
not_post-words bytes (v ∷ w ∷ []) n = refl
not_post-words bytes (v ∷ w ∷ x ∷ more) n = absurd (omega arith)

pub group-words : {W : Type 0} (bytes : W → List ℕ) (words : List W) (a b c d : W) → 4 ≤ length words
    → a ≡ get_or words 0 a → b ≡ get_or words 1 b → c ≡ get_or words 2 c → d ≡ get_or words 3 d
    → group_form (map bytes words) ≡ group_form_of (bytes a) (bytes b) (bytes c) (bytes d) (map bytes (drop 4 words))
unfolding group_form
group-words bytes (v ∷ w ∷ x ∷ y ∷ more) a b c d n ia ib ic id = rw (ia, ib, ic, id) refl
group-words bytes [] a b c d n ia ib ic id = absurd (omega arith)
group-words bytes (v ∷ []) a b c d n ia ib ic id = absurd (omega arith)
group-words bytes (v ∷ w ∷ []) a b c d n ia ib ic id = absurd (omega arith)
group-words bytes (v ∷ w ∷ x ∷ []) a b c d n ia ib ic id = absurd (omega arith)

pub not_group-words : {W : Type 0} (bytes : W → List ℕ) (words : List W) → length words < 4
    → group_form (map bytes words) ≡ None
unfolding group_form
not_group-words bytes [] n = refl
not_group-words bytes (v ∷ []) n = refl
not_group-words bytes (v ∷ w ∷ []) n = refl
not_group-words bytes (v ∷ w ∷ x ∷ []) n = refl
not_group-words bytes (v ∷ w ∷ x ∷ y ∷ more) n = absurd (omega arith)
