-- Laws of specs/Spans.antt.
use mathlib.Core.Path.{◌≡◌}
use Prim.Native.Nat.{ℕ, zero, suc, ◌<◌, ◌≤◌, zero-le}
use native.Mathlib.Nat.{le_refl, lt_of_lt_of_le, not-le_of_lt}
use native.Mathlib.Omega.{arith}
use lib.Dec.{ltb}
use borrow.Author.Tests.{lt-ltb, le-ltb, ltb-true, ltb-false}
use Rattle.laws.proofs.Tests.{by_test}
use Rattle.laws.proofs.First.{first_is, first_none, first_at, first_before}
use Rattle.laws.specs.Total.{total}
use Rattle.laws.proofs.Total.{total_grows}
use Rattle.laws.specs.Spans.{span}

-- it is k, if x lies in span k
pub span_is : (n : ℕ) (f : ℕ → ℕ) (x k : ℕ) → k < n → total k f ≤ x → x < total (suc k) f → span n f x ≡ k
unfolding span
span_is n f x k h low high =
    first_is n (λ j. ltb x (total (suc j) f)) k h (lt-ltb _ _ high)
    (λ j l. le-ltb x (total (suc j) f) (let g : total (suc j) f ≤ total k f = total_grows f (suc j) k l in omega arith))

-- it is n, if x lies past all spans
pub span_none : (n : ℕ) (f : ℕ → ℕ) (x : ℕ) → total n f ≤ x → span n f x ≡ n
unfolding span
span_none n f x h =
    first_none n (λ j. ltb x (total (suc j) f))
    (λ j l. le-ltb x (total (suc j) f) (let g : total (suc j) f ≤ total n f = total_grows f (suc j) n l in omega arith))

-- a sum is at most x, if x lies past each span of it
past_all : (n : ℕ) (f : ℕ → ℕ) (x : ℕ) → ((j : ℕ) → j < n → total (suc j) f ≤ x) → total n f ≤ x
unfolding total
past_all zero f x past = zero-le
past_all (suc n) f x past = past n (le_refl (suc n))

-- x does not lie before the start of its span
pub span_low : (n : ℕ) (f : ℕ → ℕ) (x : ℕ) → total (span n f x) f ≤ x
unfolding span
span_low n f x = past_all (span n f x) f x (λ j l. ltb-false _ _ (first_before n (λ k. ltb x (total (suc k) f)) j l))

-- nor past its end
pub span_high : (n : ℕ) (f : ℕ → ℕ) (x : ℕ) → span n f x < n → x < total (suc (span n f x)) f
unfolding span
span_high n f x h = ltb-true _ _ (first_at n (λ k. ltb x (total (suc k) f)) h)

-- what lies before the end of all spans lies in one of them
pub span_below : (n : ℕ) (f : ℕ → ℕ) (x : ℕ) → x < total n f → span n f x < n
unfolding span
span_below n f x h =
    by_test (ltb (span n f x) n) (λ e. ltb-true _ _ e)
    (λ e.
    absurd
    (not-le_of_lt h
    (past_all n f x
    (λ j l. ltb-false _ _ (first_before n (λ k. ltb x (total (suc k) f)) j (lt_of_lt_of_le l (ltb-false _ _ e)))))))
