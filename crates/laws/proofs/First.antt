-- Laws of specs/First.antt.
use mathlib.Core.Path.{◌≡◌, refl, ap}
use mathlib.Core.Bool.{Bool, true, false, not}
use Prim.Native.Nat.{ℕ, zero, suc, ◌<◌, zero-le, suc-le-suc}
use native.Mathlib.Nat.{le_of_suc-le-suc, not-suc-le-zero}
use borrow.Author.Tests.{not-false}
use Rattle.laws.proofs.Tests.{by_test}
use Rattle.laws.specs.First.{first}

-- it is k, if p holds at k and nowhere before
pub first_is : (n : ℕ) (p : ℕ → Bool) (k : ℕ) → k < n → p k ≡ true → ((j : ℕ) → j < k → p j ≡ false) → first n p ≡ k
unfolding first
first_is zero p k h t none = absurd (not-suc-le-zero h)
first_is (suc n) p zero h t none = simp t
first_is (suc n) p (suc k) h t none =
    rw (none 0 (suc-le-suc zero-le))
    (ap suc (first_is n (λ j. p (suc j)) k (le_of_suc-le-suc h) t (λ j l. none (suc j) (suc-le-suc l))))

-- it is n, if p holds nowhere below n
pub first_none : (n : ℕ) (p : ℕ → Bool) → ((j : ℕ) → j < n → p j ≡ false) → first n p ≡ n
unfolding first
first_none zero p none = refl
first_none (suc n) p none =
    rw (none 0 (suc-le-suc zero-le)) (ap suc (first_none n (λ j. p (suc j)) (λ j l. none (suc j) (suc-le-suc l))))

-- if it is below n, p holds there
pub first_at : (n : ℕ) (p : ℕ → Bool) → first n p < n → p (first n p) ≡ true
unfolding first
first_at zero p h = absurd (not-suc-le-zero h)
first_at (suc n) p h =
    by_test (p 0) (λ e. rw e e) (λ e. rw e (first_at n (λ k. p (suc k)) (le_of_suc-le-suc (rw e at h))))

-- p holds nowhere before it
pub first_before : (n : ℕ) (p : ℕ → Bool) (j : ℕ) → j < first n p → p j ≡ false
unfolding first
first_before zero p j h = absurd (not-suc-le-zero h)
first_before (suc n) p zero h = by_test (p 0) (λ e. absurd (not-suc-le-zero (rw e at h))) (λ e. e)
first_before (suc n) p (suc j) h =
    by_test (p 0) (λ e. absurd (not-suc-le-zero (rw e at h)))
    (λ e. first_before n (λ k. p (suc k)) j (le_of_suc-le-suc (rw e at h)))

-- a test that antt computes at every place below n holds at each of them
pub computed : (n : ℕ) (p : ℕ → Bool) → first n (λ k. not (p k)) ≡ n → (j : ℕ) → j < n → p j ≡ true
computed n p e j l = not-false (p j) (first_before n (λ k. not (p k)) j (rw e l))
