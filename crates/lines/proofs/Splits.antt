-- Laws of words (specs/Words.antt): a line without its carriage return, the length of a word, and the place of a word by the first blank.
use Rattle.std.proofs.Common.{◌≡◌, ℕ, zero, suc, ◌+◌, ◌-◌, ◌≤◌, ◌<◌, List, [], ◌∷◌, length, get_or, drop, eqb, bytes_eq, Bool, refl, arith, Option, Some, None, option_map, drop-cons}
use Rattle.std.proofs.lemmas.List.{drop_all}
use Rattle.std.proofs.Math.Bool.{and-true}
use Rattle.std.specs.List.{onto_first, position_or_len}
use Rattle.laws.proofs.Tests.{by_test}
use Rattle.lines.specs.Words.{words, word, word_place}

-- what stands behind all letters but the last is the carriage return, where the last letter is one
pub ends_in : (l : List ℕ) → bytes_eq (drop (length l - 1) l) (13 ∷ []) ≡ eqb (get_or l (length l - 1) 0) 13
ends_in [] = refl
ends_in (b ∷ rest) =
    let last : length (b ∷ rest) - 1 ≡ length rest = omega arith in
    let within : length rest < length (b ∷ rest) = omega arith in
    rw (last, drop-cons (b ∷ rest) (length rest) 0 within, drop_all (length rest) rest (omega arith)) (and-true _)

-- a letter in front of the first word makes no other word longer
front_length : (b : ℕ) (ws : List (List ℕ)) (k : ℕ) → length (get_or (onto_first b ws) k []) ≤ length (get_or ws k []) + 1
front_length b [] zero = omega arith
front_length b [] (suc k) = omega arith
front_length b (w ∷ ws) zero = omega arith
front_length b (w ∷ ws) (suc k) = omega arith

-- a word is no longer than its text
pub word_length : (l : List ℕ) (k : ℕ) → length (word k l) ≤ length l
word_length [] zero = omega arith
word_length [] (suc k) = omega arith
word_length (b ∷ rest) zero =
    by_test (eqb b 32) (λ e. rw e (omega arith)) (λ e. rw e (let h = word_length rest 0 in let g = front_length b (words rest) 0 in omega arith))
word_length (b ∷ rest) (suc k) =
    by_test (eqb b 32) (λ e. rw e (let h = word_length rest k in omega arith))
    (λ e. rw e (let h = word_length rest (suc k) in let g = front_length b (words rest) (suc k) in omega arith))

-- the test of a blank
abbrev pub blank : ℕ → Bool
blank b = eqb b 32

-- where there is no blank, no word but the first has a place
pub place_none : (k : ℕ) (l : List ℕ) → length l ≤ position_or_len blank l → word_place (suc k) l ≡ None
unfolding word_place
place_none k [] h = refl
place_none k (b ∷ rest) h =
    by_test (eqb b 32) (λ e. absurd (let z = rw e at h in omega arith)) (λ e. rw (e, place_none k rest (let z = rw e at h in omega arith)))

-- one place after another, in two ways to count them
pub counted : (f g : ℕ → ℕ) → ((n : ℕ) → f n ≡ g n) → (o : Option ℕ) → option_map f o ≡ option_map g o
counted f g h None = refl
counted f g h (Some n) = rw (h n)

pub counted_twice : (f g : ℕ → ℕ) (o : Option ℕ) → option_map f (option_map g o) ≡ option_map (λ n. f (g n)) o
counted_twice f g None = refl
counted_twice f g (Some n) = refl

-- a word after the first is a word behind the first blank
pub place_some : (k : ℕ) (l : List ℕ) (i : ℕ) → position_or_len blank l ≡ i → i < length l → word_place (suc k) l ≡ option_map (λ n. i + 1 + n) (word_place k (drop (i + 1) l))
unfolding word_place
place_some k [] i e h = absurd (omega arith)
place_some k (b ∷ rest) zero e h =
    by_test (eqb b 32) (λ t. rw t (counted _ _ (λ n. omega arith) _)) (λ t. absurd (let z = rw t at e in omega arith))
place_some k (b ∷ rest) (suc i) e h =
    by_test (eqb b 32) (λ t. absurd (let z = rw t at e in omega arith))
    (λ t.
    let z = rw t at e in
    let next : suc i + 1 ≡ suc (i + 1) = omega arith in
    rw (t, place_some k rest i (omega arith) (omega arith), counted_twice, next) (counted _ _ (λ n. omega arith) _))
