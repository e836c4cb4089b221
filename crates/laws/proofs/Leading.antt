-- Laws of how far a test holds (specs/Leading.antt): turns of a loop that looks for the end, what stands before it and at it, and that of two lists one after the other.
use mathlib.Core.Path.{◌≡◌, refl, ap}
use mathlib.Core.Bool.{Bool, true, false}
use mathlib.Core.List.{List, [], ◌∷◌, ◌++◌}
use Prim.Native.Nat.{ℕ, suc, ◌+◌, ◌≤◌, ◌<◌, suc-le-suc, zero-le}
use native.Mathlib.Nat.{le_of_suc-le-suc, not-suc-le-zero}
use native.Mathlib.Numerals.{add-one}
use native.Mathlib.Omega.{arith}
use lib.ListN.{length, get_or, take, drop, drop_of_length-le}
use lib.Seq.{drop-cons}
use Rattle.laws.specs.Each.{Each}
use Rattle.laws.specs.Leading.{leading}
use Rattle.laws.proofs.Tests.{by_test}

module _ (p : ℕ → Bool) where
  -- an element that passes, one that does not, and the end
  module _ (l : List ℕ) (i : ℕ) where
    pub leading_on : i < length l → p (get_or l i 0) ≡ true → i + leading p (drop i l) ≡ i + 1 + leading p (drop (i + 1) l)
    unfolding leading
    leading_on h e = rw (add-one, drop-cons l i 0) (simp e (omega arith))

    pub leading_stop : i < length l → p (get_or l i 0) ≡ false → i + leading p (drop i l) ≡ i
    unfolding leading
    leading_stop h e = rw (drop-cons l i 0) (simp e (omega arith))

    pub leading_end : length l ≤ i → i + leading p (drop i l) ≡ i
    unfolding leading
    leading_end h = rw (drop_of_length-le l h) (omega arith)

  -- no more pass than there are
  pub leading_most : (l : List ℕ) → leading p l ≤ length l
  unfolding leading
  leading_most [] = zero-le
  leading_most (b ∷ rest) = by_test (p b) (λ e. rw e (suc-le-suc (leading_most rest))) (λ e. rw e zero-le)

  -- where one is left, it does not pass
  pub leading_fails : (l : List ℕ) → leading p l < length l → p (get_or l (leading p l) 0) ≡ false
  unfolding leading
  leading_fails [] h = absurd (not-suc-le-zero h)
  leading_fails (b ∷ rest) h = by_test (p b) (λ e. rw e (leading_fails rest (le_of_suc-le-suc (rw e at h)))) (λ e. rw e e)

  -- those before it pass
  pub leading_each : (l : List ℕ) → Each (λ b. p b ≡ true) (take (leading p l) l)
  unfolding leading
  leading_each [] = tt
  leading_each (b ∷ rest) = by_test (p b) (λ e. rw e (e, leading_each rest)) (λ e. rw e tt)

  -- all that pass are passed over
  pub leading_over : (xs ys : List ℕ) → Each (λ b. p b ≡ true) xs → leading p (xs ++ ys) ≡ length xs + leading p ys
  unfolding leading
  leading_over [] ys h = omega arith
  leading_over (b ∷ rest) ys h = rw h.0 (let e = leading_over rest ys h.1 in omega arith)

  -- and where the next does not pass, it is the end
  pub leading_exactly : (xs : List ℕ) (y : ℕ) (ys : List ℕ) → Each (λ b. p b ≡ true) xs → p y ≡ false → leading p (xs ++ (y ∷ ys)) ≡ length xs
  unfolding leading
  leading_exactly xs y ys h e = rw (leading_over xs (y ∷ ys) h, e) (omega arith)

  -- where all pass
  pub leading_all : (xs : List ℕ) → Each (λ b. p b ≡ true) xs → leading p xs ≡ length xs
  unfolding leading
  leading_all [] h = refl
  leading_all (b ∷ rest) h = rw h.0 (ap suc (leading_all rest h.1))
