-- The first place at which a test holds. Any search from the front is stated by it.
use Rattle.std.specs.Prelude.{Bool, ℕ, zero, suc, if◌then◌else◌}

-- the first place below n at which the test p holds; n where there is none
unfoldable pub first : ℕ → (ℕ → Bool) → ℕ
first zero p = 0
first (suc n) p = let later = suc (first n (λ i. p (suc i))) in if p 0 then 0 else later
